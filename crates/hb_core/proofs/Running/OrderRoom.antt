-- A line that joins the order has room there: the order has no line twice, and the script has them all.
use Rattle.hb_core.proofs.Running.Names.{◌≡◌, ◌≢◌, inl, inr, ℕ, zero, suc, ◌<◌, ◌≤◌, ◌∷◌, length, Option, Some, None, IsSome, refl, sym, subst, arith, Entry, Reply, Line, Activity, line_in_hand, Deed, next_line, StoreState, at_value, LineFate, fate_row, wanted_by, MachineKeeps, awaited_number, Machine, with_disk, Row, false≢true}
use Rattle.std.specs.List.{All, AllPairs, Contains}
use Rattle.hb_activity.specs.declared.activities.Activity.TheVariants as at
use Rattle.hb_steps.proofs.Facts.NextLines.{next_is}
use Rattle.hb_steps.proofs.Orders.ShortOrder.{next_not_placed, no_more_than}

-- whoever has a line in hand waits for no place
none_awaited : (activity : Activity) (line : Line) → line_in_hand activity ≡ Some line → awaited_number activity ≡ None
none_awaited (at.SessionAwait number reply place) line is = cc
none_awaited activity line is = refl

module _ (m : Machine) (actor : ℕ) (keeps : MachineKeeps m) where
  pub room_for : (line : Line) (reply : Reply) → line_in_hand (m.activity actor) ≡ Some line → length m.order < length m.lines
  room_for line reply is = omega (arith, all)
    where
      next : next_line actor m.answered m.lines ≡ Some line
      next = at_value (line_in_hand (m.activity actor)) (λ (line : Line). next_line actor m.answered m.lines ≡ Some line) line is (keeps.lines_in_sequence.in_hand actor)

      others : All (λ (e : Entry). e.line.number ≢ line.number) m.order
      others = next_not_placed m actor line keeps.lines_in_sequence next (none_awaited (m.activity actor) line is)

      once : AllPairs (λ (e : Entry) (f : Entry). e.line.number ≢ f.line.number) (record { line = line; reply = reply } ∷ m.order)
      once zero zero d low high = absurd (omega (arith, low))
      once (suc i) zero d low high = absurd (omega (arith, low))
      once zero (suc k) d low high = λ same. others k d (omega (arith, high)) (sym same)
      once (suc i) (suc k) d low high = keeps.order_short.once i k d (omega (arith, low)) (omega (arith, high))

      among : All (λ (e : Entry). Contains m.lines e.line) (record { line = line; reply = reply } ∷ m.order)
      among zero d lt = (next_is actor m.answered m.lines line next).among
      among (suc k) d lt = (keeps.lines_in_sequence.placed k d (omega (arith, lt))).among

      all : suc (length m.order) ≤ length m.lines
      all = no_more_than (record { line = line; reply = reply } ∷ m.order) m.lines once among

  pub joining_has_room : (fetched : StoreState) (deed : Deed) → Row (m.activity actor) (wanted_by m actor) (with_disk fetched m.files m.clock m) deed → IsSome deed.joins → length m.order < length m.lines
  joining_has_room fetched deed row joins = by (fate_row m fetched (m.activity actor) (wanted_by m actor) deed row)
    where
      none_joins : deed.joins ≡ None → ⊥
      none_joins none = false≢true (subst (λ (o : Option Entry). IsSome o) none joins)

      by : LineFate m (m.activity actor) deed → length m.order < length m.lines
      by (inl goes) = absurd (none_joins goes.joins)
      by (inr (inl effect)) = room_for effect.line effect.reply effect.hand
      by (inr (inr given)) = absurd (none_joins given.joins)
