-- A step changes no page in use but those that its actor has for itself.
use Rattle.hb_steps.proofs.Memory.Names.{◌≡◌, ◌≢◌, ◌⊎◌, inl, inr, ℕ, false, true, Option, Some, None, IsTrue, refl, sym, ap, ◌∙◌, subst, false≢true, LivePage, Live, Op, Mode, Shared, Exclusive, Wanted, Outcome, Deed, does, gives_up_nothing, each_kind, FlushesMore, ready_kind, IsNumber, numbers_are_targets, set_elsewhere, HasWayFree, wanted_by, Row, HasHeld, Brings, MustStay, BeginsTurn, FailsToWrite, ForcesAll, StaysSo, WritesOldest, HoldsPagesOfFile, LatchesFit, HasAlone, IsInUse, Machine, modes, with_disk, MayDo, Performs, GetsReady, Works, IsActor, change_here, read_here, set_pages, StoreState, in_memory}
use Rattle.hb_steps.proofs.Memory.CommitPages.{HasLeft, commit_pages}
use Rattle.std.proofs.Common.{IfSome}
use Rattle.hb_latch.specs.declared.modes.Mode.TheVariants.{Update}
use Rattle.hb_steps.specs.declared.outcomes.Outcome.TheVariants as outcomes
use Rattle.hb_steps.proofs.Memory.BroughtPages.{stays_or_left}
use Rattle.hb_steps.proofs.Memory.OwnedOps.{IsFreeFor, OwnsTargets, allowed_by, owned_row}
use Rattle.hb_steps.proofs.Facts.StepKinds.{IsOutright}
use Rattle.hb_steps.specs.GivingUp.{gives_up}
use Rattle.hb_steps.specs.Laws.{HeldPagesStay, OwnPagesChange, TakesAlone, MayHaveLeft}
use Rattle.hb_steps.specs.Using.{is_changed}
use Rattle.hb_latch.specs.Modes.{goes_beside}
use Rattle.hb_latch.specs.Tables.{IsGrantable}
use Rattle.std.proofs.lemmas.Option.{none-some}

module _ (m : Machine) (actor : ℕ) (latches : IsActor actor) (fit : LatchesFit m) (inside : HoldsPagesOfFile m) (new : Machine) (id : ℕ) (page : LivePage) (used : IsInUse m id page) where
  abbrev pub Goal : Type 0
  Goal = IsInUse new id page ⊎ MayHaveLeft m id new ⊎ HasAlone m actor id

  -- what was fetched leaves it, or it has left
  abbrev Remains : StoreState → Type 0
  Remains fetched = (in_memory fetched id ≡ Some (Live page)) ⊎ ((¬ (MustStay m id)) × ((in_memory fetched id ≡ None) ⊎ (m.files ≡ None)))

  -- and so does what is done on other pages
  carried : (st : StoreState) → in_memory new.store id ≡ in_memory st id → Remains st → Goal
  carried st same (inl there) = inl (same ∙ there)
  carried st same (inr (may, inl gone)) = inr (inl (may, inl (same ∙ gone)))
  carried st same (inr (may, inr untold)) = inr (inl (may, inr untold))

  -- a page that must stay, and isn't changed, stays
  abbrev Stays : Option Op → StoreState → Type 0
  Stays op fetched = (q : ℕ) → MustStay m q → is_changed op fetched q ≡ false → in_memory new.store q ≡ in_memory fetched q

  -- so what left memory in a commit need not stay
  left : (op : Op) (fetched : StoreState) → Stays (Some op) fetched → Remains fetched → HasLeft op fetched new.store id → Goal
  left op fetched stay there (off, gone) = inr (inl (λ must. by must there, inl gone))
    where
      by : MustStay m id → Remains fetched → ⊥
      by must (inl is) = none-some (Live page) (sym gone ∙ stay id must off ∙ is)
      by must (inr (may, why)) = may must

  done : (op : Option Op) (mark : ℕ) (fetched : StoreState) → Remains fetched → OwnsTargets m actor op → Stays op fetched → MayDo op mark fetched new.store → Goal
  done None mark fetched there owned stay does = carried fetched (ap (λ (st : StoreState). in_memory st id) does) there
  done (Some op) mark fetched there owned stay does = by (set_elsewhere (change_here fetched op).pages (in_memory fetched) id)
    where
      by : (set_pages (change_here fetched op).pages (in_memory fetched) id ≡ in_memory fetched id) ⊎ IsNumber id (change_here fetched op).pages → Goal
      by (inl same) = elim (commit_pages _ _ _ _ does.commits id) [
        | inl set ↦ carried fetched (set ∙ same) there
        | inr gone ↦ left op fetched stay there gone
      ]
      by (inr number) = free (owned id (numbers_are_targets op fetched.meta (read_here fetched op 0) (read_here fetched op 1) (read_here fetched op 2) id number))
        where
          free : IsFreeFor m actor id → Goal
          free (inl alone) = inr (inr alone)
          free (inr anew) = let one = anew page used in inr (inl (one.0, inr one.1))

  performed : (may : ℕ → Type 0) (fetched : StoreState) (deed : Deed) (outcome : Outcome) → Brings m may fetched → OwnsTargets m actor deed.op → Performs m fetched actor deed outcome new → Goal
  performed may fetched deed outcome brings owned performs = done deed.op _ fetched (stays_or_left m may fetched brings id (Live page) used) owned performs.stays performs.store

  -- with no operation
  owns_nothing : (op : Option Op) → op ≡ None → OwnsTargets m actor op
  owns_nothing op is = subst (OwnsTargets m actor) (sym is) tt

  only_moved : (deed : Deed) (outcome : Outcome) → deed.op ≡ None → Performs m m.store actor deed outcome new → Goal
  only_moved deed outcome none performs = done deed.op _ m.store (inl used) (owns_nothing deed.op none) performs.stays performs.store

  failed : {most : ℕ} {outcome : Outcome} → FailsToWrite m most outcome new → Goal
  failed fails = inl (ap (λ (n : Machine). in_memory n.store id) fails.stops ∙ used)

  flushes : {page : ℕ} {due outcome : Outcome} → WritesOldest m page due outcome new → Goal
  flushes well = inl (ap (λ (n : Machine). in_memory n.store id) well.leaves ∙ used)

  turned : {due outcome : Outcome} → BeginsTurn m due outcome new → Goal
  turned turns = inl (ap (λ (n : Machine). in_memory n.store id) turns.leaves ∙ used)

  flushed_more : (outcome : Outcome) → FlushesMore m outcome new → Goal
  flushed_more outcome (none, inl (page, oldest, due, quiet, well)) = flushes well
  flushed_more outcome (none, inr (inl (old, due, quiet, turns))) = turned turns
  flushed_more outcome (none, inr (inr (calls, left, fails))) = failed fails

  forced : (said outcome : Outcome) → ForcesAll m said outcome new → Goal
  forced said outcome (inl (says, is)) = inl (ap (λ (n : Machine). in_memory n.store id) is ∙ used)
  forced said outcome (inr badly) = failed badly.1

  stays : (said outcome : Outcome) → StaysSo m said outcome new → Goal
  stays said outcome (says, is) = inl (ap (λ (n : Machine). in_memory n.store id) is ∙ used)

  made_ready : (outcome : Outcome) → GetsReady m outcome new → Goal
  made_ready outcome (inl (waits, force)) = forced outcomes.Helped outcome force
  made_ready outcome (inr (none, rest)) =
      ready_kind m outcome new Goal none (flushed_more outcome) rest

  worked : (outcome : Outcome) → Works m actor outcome new → Goal
  worked outcome (inl (by, way, so)) = stays (outcomes.Blocked by) outcome so
  worked outcome (inr (inl (free, unready, ready))) = made_ready outcome ready
  worked outcome (inr (inr (free, ready, inl acts))) =
      performed _ acts.fetched acts.deed outcome acts.brings
      (owned_row m actor _ acts.fetched latches fit inside free acts.brings (wanted_by m actor) acts.deed refl (allowed_by acts.deed.op _ acts.fetched new.store acts.performs.store) acts.row)
      acts.performs
  worked outcome (inr (inr (free, ready, inr (inl gives)))) =
      performed _ gives.fetched (gives_up gives.why (m.activity actor)) outcome gives.brings (owns_nothing _ (gives_up_nothing gives.why (m.activity actor))) gives.performs
  worked outcome (inr (inr (free, ready, inr (inr meets)))) = carried meets.fetched (ap (λ (n : Machine). in_memory n.store id) meets.stops) (stays_or_left m _ meets.fetched meets.brings id (Live page) used)

  moved : (outcome : Outcome) (deed : Deed) → IsOutright deed → Performs m m.store actor deed outcome new → Goal
  moved outcome deed rests performs = only_moved deed outcome rests.op performs

pub own_pages_change : OwnPagesChange
own_pages_change m actor outcome new latches fit inside step id page used =
    each_kind m actor outcome new (IsInUse new id page ⊎ MayHaveLeft m id new ⊎ HasAlone m actor id)
    (λ said quiet so. stays m actor latches fit inside new id page used said outcome so)
    (λ said quiet force. forced m actor latches fit inside new id page used said outcome force)
    (flushed_more m actor latches fit inside new id page used outcome)
    (moved m actor latches fit inside new id page used outcome)
    (worked m actor latches fit inside new id page used outcome)
    step

-- ---- what another actor holds

beside_none : (mode : Mode) → goes_beside Exclusive mode ≡ true → ⊥
beside_none Shared is = false≢true is
beside_none Update is = false≢true is
beside_none Exclusive is = false≢true is

module _ (m : Machine) (actor other id : ℕ) (fit : LatchesFit m) (another : other ≢ actor) (mode : Mode) (holds : modes m other id ≡ Some mode) where
  not_held : modes m actor id ≡ Some Exclusive → ⊥
  not_held own =
      let both : IfSome (modes m actor id) (λ mode. IfSome (modes m other id) (λ held. IsTrue (goes_beside mode held))) = fit.compatible actor other id (λ same. another (sym same)) in
      let mine = subst (λ (o : Option Mode). IfSome o (λ mode. IfSome (modes m other id) (λ held. IsTrue (goes_beside mode held)))) own both in
      beside_none mode (subst (λ (o : Option Mode). IfSome o (λ held. IsTrue (goes_beside Exclusive held))) holds mine)

  not_taken : TakesAlone m actor id → ⊥
  not_taken takes =
      let grants : IsGrantable (modes m) actor takes.wanted.page takes.wanted.mode = subst (λ (o : Option Wanted). IfSome o (λ wanted. IsGrantable (modes m) actor wanted.page wanted.mode)) takes.wants takes.free in
      let here : IfSome (modes m other id) (λ held. IsTrue (goes_beside takes.wanted.mode held)) = subst (λ (n : ℕ). IfSome (modes m other n) (λ held. IsTrue (goes_beside takes.wanted.mode held))) takes.page (grants other another) in
      let mine = subst (λ (o : Option Mode). IfSome o (λ held. IsTrue (goes_beside takes.wanted.mode held))) holds here in
      beside_none mode (subst (λ (own : Mode). IsTrue (goes_beside own mode)) takes.mode mine)

  not_alone : HasAlone m actor id → ⊥
  not_alone (inl own) = not_held own
  not_alone (inr takes) = not_taken takes

stays_held : (m : Machine) (actor other id : ℕ) (mode : Mode) (new : Machine) (page : LivePage) → LatchesFit m → other ≢ actor → modes m other id ≡ Some mode → IsInUse new id page ⊎ MayHaveLeft m id new ⊎ HasAlone m actor id → IsInUse new id page
stays_held m actor other id mode new page fit another holds (inl stays) = stays
stays_held m actor other id mode new page fit another holds (inr (inl left)) = absurd (left.0 (inl (other, mode, holds)))
stays_held m actor other id mode new page fit another holds (inr (inr alone)) = absurd (not_alone m actor other id fit another mode holds alone)

pub held_pages_stay : HeldPagesStay
held_pages_stay m actor outcome new latches fit inside step other id mode page another holds used = stays_held m actor other id mode new page fit another holds (own_pages_change m actor outcome new latches fit inside step id page used)

-- and where a row is done
pub row_held : (m : Machine) (actor : ℕ) (may : ℕ → Type 0) (fetched : StoreState) → IsActor actor → LatchesFit m → HoldsPagesOfFile m → HasWayFree m actor → Brings m may fetched
    → (deed : Deed) → Row (m.activity actor) (wanted_by m actor) (with_disk fetched m.files m.clock m) deed → (outcome : Outcome) (new : Machine) → Performs m fetched actor deed outcome new → (other : ℕ) → other ≢ actor → HasHeld m other new.store
row_held m actor may fetched is_actor fit inside free brings deed row outcome new performs other another id mode page holds used = stays_held m actor other id mode new page fit another holds
    (performed m actor is_actor fit inside new id page used may fetched deed outcome brings (owned_row m actor may fetched is_actor fit inside free brings (wanted_by m actor) deed refl (allowed_by deed.op _ fetched new.store performs.store) row) performs)
