-- What a core performs by its decider's answer is the row of the machine that it shows.
use Rattle.hb_core.proofs.Running.Names.{◌≡◌, ℕ, ◌<◌, ◌++◌, List, length, arith, Option, IsSome, IfSome, IfOk, Result, Ok, Err, sym, ap, ◌∙◌, subst, mode_at, Activity, Wanted, Next, hand_of, idle_of, deed_of, DiskModel, IsActor, FileState, Line, StoreKeeps, StoreState, Halt, GivesUp, Outcome, Decodes, DoesRow, latches_held, CanMovePins, page_wanted, pages_of, use_done, IsTied, wanted_by, class_for, RowsMayBeDone, Machine, DoesDeed, KeepsFilesBy, MayCommit, MayStand, joins_order, number_of, placed_at, with_standing, MayDo, Row, RunningCore, ShowsMachine, HaltsPinned, HasPages, with_memory}
use Rattle.std.proofs.Common.{◌^◌}
use Rattle.hb_activity.specs.declared.dropping.DropWhy.TheVariants as drops
use Rattle.hb_core.specs.Moving.{placed}
use Rattle.hb_store.specs.Making.{TakesMemory}
use Rattle.std.specs.Option.{IsSomeAnd}
use Rattle.hb_core.proofs.Running.MayPerform.{has_room, hold_after, may_commit_then, stands_after}
use Rattle.hb_core.proofs.Running.RowsDone.{op_refused, row_done, row_refused}
use Rattle.hb_core.proofs.Running.StandsElsewhere.{shown_length}

-- two facts of what a call gave
pub ok_both : {A E : Type 0} (r : Result A E) (P Q R : A → Type 0) → ((x : A) → P x → Q x → R x) → IfOk r P → IfOk r Q → IfOk r R
ok_both (Ok x) P Q R then p q = then x p q
ok_both (Err e) P Q R then p q = tt

-- the pages that are pinned for an actor: the wanted one, and those that it holds
pub pins_joined : (m : Machine) (actor : ℕ) (wanted : Option Wanted) (pins items slice : List ℕ) → slice ≡ items → items ≡ page_wanted wanted ++ pins → wanted ≡ wanted_by m actor → pins ≡ pages_of (latches_held m.store (m.activity actor))
    → slice ≡ page_wanted (wanted_by m actor) ++ pages_of (latches_held m.store (m.activity actor))
pins_joined m actor wanted pins items slice value joined wants held =
    value ∙ joined ∙ ap (λ (o : Option Wanted). page_wanted o ++ pins) wants ∙ ap (λ (l : List ℕ). page_wanted (wanted_by m actor) ++ l) held

abbrev OneDurable : DiskModel → StoreState → Type 0
OneDurable d st = (durable other : FileState) (later others : List FileState) → StoreKeeps d st durable later → StoreKeeps d st other others → durable ≡ other

abbrev OneLater : DiskModel → StoreState → Type 0
OneLater d st = (durable other : FileState) (later others : List FileState) → StoreKeeps d st durable later → StoreKeeps d st other others → later ≡ others

module _ {D : Type 0} (model : D → DiskModel) (x y : D) (c between : RunningCore) (m : Machine) (actor : ℕ) (free : Option (ℕ × ℕ)) (may : IsActor actor)
    (rest : between ≡ with_standing actor (idle_of (class_for actor)) c) (same : y ≡ x) (pages : HasPages m actor free (model x) c) where
  pub refused_halts : (halt : Halt) → halt ≡ GivesUp drops.NoMemory → Decodes (wanted_by m actor) (with_memory c m) (m.activity actor) → HaltsPinned m actor halt (model y) between
  refused_halts halt is decodes = subst (λ (h : Halt). HaltsPinned m actor h (model y) between) (sym is) (subst (λ (k : D). HaltsPinned m actor (GivesUp drops.NoMemory) (model k) between) (sym same)
      (subst (λ (s : RunningCore). HaltsPinned m actor (GivesUp drops.NoMemory) (model x) s) (sym rest) (row_refused (model x) c m actor free may pages decodes)))

  pub order_few : length between.lines < 2 ^ 32 → length between.order < 2 ^ 32
  order_few few =
      let here : length c.lines < 2 ^ 32 = subst (λ (s : RunningCore). length s.lines < 2 ^ 32) rest few in
      let long : length c.order ≡ length m.order = sym (shown_length (model x) c (with_memory c m) pages.shows) in
      let all : length m.lines ≡ length c.lines = ap (λ (l : List Line). length l) pages.shows.lines in
      subst (λ (s : RunningCore). length s.order < 2 ^ 32) (sym rest) (omega (arith, here, long, all, pages.may.goes_on.kept.order_short.few))

  module _ (next : Next) (row : Row (m.activity actor) (wanted_by m actor) (with_memory c m) (placed (length m.order) (deed_of (m.activity actor) next))) where
    pub row_may_commit : RowsMayBeDone → OneDurable (model y) between.store → OneLater (model y) between.store → IfSome next.op (MayCommit (model y) between)
    row_may_commit done one_durable one_later = subst (λ (k : D). IfSome next.op (MayCommit (model k) between)) (sym same)
        (subst (λ (s : RunningCore). IfSome next.op (MayCommit (model x) s)) (sym rest)
        (may_commit_then (model x) c m actor free may pages next row (idle_of (class_for actor)) done
        (subst (λ (k : D). OneDurable (model k) c.store) same (subst (λ (s : RunningCore). OneDurable (model y) s.store) rest one_durable))
        (subst (λ (k : D). OneLater (model k) c.store) same (subst (λ (s : RunningCore). OneLater (model y) s.store) rest one_later))))

    pub row_may_stand : (st : StoreState) → MayDo next.op (length between.order) between.store st → MayStand actor (mode_at between.latches) st (placed_at (length between.order) next.then)
    row_may_stand = subst (λ (s : RunningCore). (st : StoreState) → MayDo next.op (length s.order) s.store st → MayStand actor (mode_at s.latches) st (placed_at (length s.order) next.then)) (sym rest)
        (stands_after (model x) c m actor free may pages next row)

    -- its pins can go over
    pub row_may_hold : (pins : List ℕ) → pins ≡ page_wanted (wanted_by m actor) ++ pages_of (latches_held m.store (m.activity actor)) → (st : StoreState) → MayDo next.op (length between.order) between.store st → IsTied st (use_done next.op between.store between.uses)
        → CanMovePins pins (pages_of (latches_held st (placed_at (length between.order) next.then))) (use_done next.op between.store between.uses)
    row_may_hold pins is = subst (λ (l : List ℕ). (st : StoreState) → MayDo next.op (length between.order) between.store st → IsTied st (use_done next.op between.store between.uses)
        → CanMovePins l (pages_of (latches_held st (placed_at (length between.order) next.then))) (use_done next.op between.store between.uses)) (sym is)
        (subst (λ (s : RunningCore). (st : StoreState) → MayDo next.op (length s.order) s.store st → IsTied st (use_done next.op s.store s.uses)
        → CanMovePins (page_wanted (wanted_by m actor) ++ pages_of (latches_held m.store (m.activity actor))) (pages_of (latches_held st (placed_at (length s.order) next.then))) (use_done next.op s.store s.uses)) (sym rest)
        (hold_after (model x) c m actor free may pages next row))

    pub row_may_join : (line : Option ℕ) → line ≡ number_of (hand_of (m.activity actor)) → IsSome (joins_order line next.then next.fate) → length between.order < length between.lines
    row_may_join line is joins = subst (λ (s : RunningCore). length s.order < length s.lines) (sym rest) (has_room (model x) c m actor free may pages next row line is joins)

    module _ (z : D) (after : RunningCore) (then : z ≡ y) where
      pub performed_halts : (halt : Halt) → (halt ≡ GivesUp drops.NoMemory) × IsSomeAnd next.op TakesMemory × (after ≡ between) → HaltsPinned m actor halt (model z) after
      performed_halts halt why = subst (λ (k : D). HaltsPinned m actor halt (model k) after) (sym then) (subst (λ (s : RunningCore). HaltsPinned m actor halt (model y) s) (sym why.2)
          (subst (λ (h : Halt). HaltsPinned m actor h (model y) between) (sym why.0) (subst (λ (k : D). HaltsPinned m actor (GivesUp drops.NoMemory) (model k) between) (sym same)
          (subst (λ (s : RunningCore). HaltsPinned m actor (GivesUp drops.NoMemory) (model x) s) (sym rest) (op_refused (model x) c m actor free may pages next row why.1)))))

      pub performed_row : (pins : List ℕ) → pins ≡ page_wanted (wanted_by m actor) ++ pages_of (latches_held m.store (m.activity actor)) → (line : Option ℕ) (outcome : Outcome) → line ≡ number_of (hand_of (m.activity actor))
          → ((state : Activity) → line ≡ number_of (hand_of state) → DoesDeed actor pins (placed (length between.order) (deed_of state next)) outcome between after)
          → KeepsFilesBy next.op (model y) between.store (model z) after.store → (new : Machine) × DoesRow m actor outcome new × ShowsMachine (model z) after new
      performed_row pins pinned line outcome is does keeps =
          let core : RunningCore = with_standing actor (idle_of (class_for actor)) c in
          let of_idled : DoesDeed actor pins (placed (length c.order) (deed_of (m.activity actor) next)) outcome core after =
          subst (λ (s : RunningCore). DoesDeed actor pins (placed (length s.order) (deed_of (m.activity actor) next)) outcome s after) rest (does (m.activity actor) is) in
          let long : length c.order ≡ length m.order = sym (shown_length (model x) c (with_memory c m) pages.shows) in
          let kept : KeepsFilesBy next.op (model x) c.store (model x) after.store =
          subst (λ (k : D). KeepsFilesBy next.op (model x) c.store (model k) after.store) (then ∙ same)
          (subst (λ (k : D). KeepsFilesBy next.op (model k) c.store (model z) after.store) same
          (subst (λ (s : RunningCore). KeepsFilesBy next.op (model y) s.store (model z) after.store) rest keeps)) in
          let done = row_done (model x) c m actor free may pages next row pins outcome after pinned (subst (λ (n : ℕ). DoesDeed actor pins (placed n (deed_of (m.activity actor) next)) outcome core after) long of_idled) kept in
          (done.0, done.1, subst (λ (k : D). ShowsMachine (model k) after done.0) (sym (then ∙ same)) done.2)
