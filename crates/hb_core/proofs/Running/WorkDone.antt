-- A core that works takes a step of the machine that it shows.
use Rattle.hb_core.proofs.Running.Names.{◌≡◌, ◌⊎◌, inl, inr, ℕ, ◌-◌, ◌↔◌, arith, Bool, true, false, List, slice_set, Option, None, IfSome, IsTrue, refl, sym, ap, ◌∙◌, subst, Activity, DropWhy, Wanted, asked_box, Hand, Empty, HasJob, HasLine, class_of, hand_of, idle_of, Deed, DiskModel, mode_at, HeldModes, IsActor, StopWhy, Use, places, HasPlaces, IsReady, StaysHere, StoreState, in_memory, MustStay, latches_held, CameFor, pages_of, came_stays, GivesUp, Stops, Outcome, wanted_by, gives_up, class_for, MayLook, Machine, stopped_for, DoesDeed, StandsAs, number_of, with_stop, RunningCore, ShowsMachine, number_in_hand, IsUnready, Works, IsWorking, MayWork, Halts, MayStep, with_memory}
use Rattle.std.proofs.Common.{slice_get}
use Rattle.std.specs.Option.{IsSomeAnd}
use Rattle.hb_latch.specs.Tables.{IsGrantable, IsLeastInTheWay}
use Rattle.hb_store.specs.declared.stops.StopWhy.TheVariants.{Damaged, WriteFault}
use Rattle.hb_core.proofs.Running.Frames.{must_here}
use Rattle.hb_steps.specs.declared.outcomes.Outcome.TheVariants as outcomes
use Rattle.hb_steps.specs.Asking.{HasWayFree}
use Rattle.hb_steps.specs.GivingUp.{gives_up_hand}
use Rattle.hb_core.specs.declared.aiming.Aim.{Aim}
use Rattle.hb_core.specs.Aiming.{Aims, AimsAt}
use Rattle.hb_core.proofs.Running.DeedShows.{deed_shows, nothing_moves}
use Rattle.hb_core.proofs.Running.ForcedShows.{shown_stopped}
use Rattle.hb_core.proofs.Running.LineTaken.{keeps_none}
use Rattle.hb_core.proofs.Running.Looks.{may_look_now}
use Rattle.hb_core.proofs.Running.NumbersInHand.{given_up_number, number_of_hand, working_waits_not}
use Rattle.hb_core.proofs.Running.StandsElsewhere.{set_as_it_was, stands_as}

-- ---- what the core looks at is what the machine has

module _ (d : DiskModel) (c : RunningCore) (m : Machine) (actor : ℕ) (may : IsActor actor) (step : MayStep d c m) where
  stands : StandsAs c actor (m.activity actor)
  stands = step.shows.activities actor may

  pub looks_now : (activity : Activity) → StandsAs c actor activity → MayLook c.store activity
  looks_now activity so = subst (MayLook c.store) (stands_as d c m actor activity may step.shows so)
      (subst (λ (st : StoreState). MayLook st (m.activity actor)) step.shows.store (may_look_now m actor may step.goes_on.kept))

  pub works_now : IsWorking (m.activity actor) → (activity : Activity) → StandsAs c actor activity → IsWorking activity
  works_now works activity so = subst IsWorking (stands_as d c m actor activity may step.shows so) works

  module _ (aim : Aim) (aims : Aims c actor aim) where
    -- what it aims at by the machine's store
    aims_so : AimsAt m.store (m.activity actor) aim
    aims_so = subst (λ (st : StoreState). AimsAt st (m.activity actor) aim) (sym step.shows.store) (aims (m.activity actor) stands)

    pub wants : aim.wanted ≡ wanted_by m actor
    wants = aims_so.wanted

    pub asks : aim.asked ≡ asked_box (m.activity actor) m.store
    asks = aims_so.asked

  pub holds_line : (line : Option ℕ) → IsWorking (m.activity actor) → ((activity : Activity) → StandsAs c actor activity → line ≡ number_in_hand activity) → line ≡ number_of (hand_of (m.activity actor))
  holds_line line works is = is (m.activity actor) stands ∙ number_of_hand (m.activity actor) (working_waits_not (m.activity actor) works)

  -- the pages that it holds, and the one that its walk holds is there
  pub holds_pages : (pins : List ℕ) → ((activity : Activity) → StandsAs c actor activity → pins ≡ pages_of (latches_held c.store activity)) → pins ≡ pages_of (latches_held m.store (m.activity actor))
  holds_pages pins is = is (m.activity actor) stands ∙ ap (λ (st : StoreState). pages_of (latches_held st (m.activity actor))) (sym step.shows.store)

  -- another actor is in the way, and the core stays so
  pub blocked : (wanted : Option Wanted) (by : ℕ) → wanted ≡ wanted_by m actor → IsSomeAnd wanted (λ w. IsLeastInTheWay (mode_at c.latches) actor w.page w.mode by) → (new : Machine) × Works m actor (outcomes.Blocked by) new × ShowsMachine d c new
  blocked wanted by is least =
      let its = subst (λ (o : Option Wanted). IsSomeAnd o (λ w. IsLeastInTheWay (mode_at c.latches) actor w.page w.mode by)) is least in
      (m, inl (by, subst (λ (t : HeldModes). IsSomeAnd (wanted_by m actor) (λ w. IsLeastInTheWay t actor w.page w.mode by)) (sym step.shows.latches) its, (refl, refl)), step.shows)

  pub way_free : (wanted : Option Wanted) → wanted ≡ wanted_by m actor → IfSome wanted (λ w. IsGrantable (mode_at c.latches) actor w.page w.mode) → HasWayFree m actor
  way_free wanted is free =
      subst (λ (t : HeldModes). IfSome (wanted_by m actor) (λ w. IsGrantable t actor w.page w.mode)) (sym step.shows.latches)
      (subst (λ (o : Option Wanted). IfSome o (λ w. IsGrantable (mode_at c.latches) actor w.page w.mode)) is free)

  -- what says whether log and memory are ready
  abbrev pub SaysUnready : Aim → Bool → Type 0
  SaysUnready aim b = IsTrue b ↔ ((IsTrue aim.may_commit × (¬ (IsReady c.store × HasPlaces c.uses))) ⊎ ((places c.uses ≡ 0) × IsSomeAnd aim.wanted (λ w. in_memory c.store w.page ≡ None)))

  module _ (aim : Aim) (aims : Aims c actor aim) (b : Bool) (says : SaysUnready aim b) where
    abbrev Unready : Option Wanted → Bool → StoreState → List Use → Type 0
    Unready wanted commits st uses = IsTrue b ↔ ((IsTrue commits × (¬ (IsReady st × HasPlaces uses))) ⊎ ((places uses ≡ 0) × IsSomeAnd wanted (λ w. in_memory st w.page ≡ None)))

    says_so : IsTrue b ↔ IsUnready m actor
    says_so =
        let so = aims_so aim aims in
        subst (λ (commits : Bool). Unready (wanted_by m actor) commits m.store m.uses) so.may_commit
        (subst (λ (wanted : Option Wanted). Unready wanted aim.may_commit m.store m.uses) so.wanted
        (subst (λ (st : StoreState). Unready aim.wanted aim.may_commit st m.uses) (sym step.shows.store)
        (subst (λ (l : List Use). Unready aim.wanted aim.may_commit c.store l) (sym step.shows.uses) says)))

    pub unready : b ≡ true → IsUnready m actor
    unready so = says_so.0 so

    pub ready : b ≡ false → ¬ (IsUnready m actor)
    ready off change = let so : b ≡ true = says_so.1 change in let never : false ≡ true = sym off ∙ so in cc

    -- so it may work, by what the calls said
    pub may_work : m.stop ≡ None → IsWorking (m.activity actor) → IfSome aim.wanted (λ w. IsGrantable (mode_at c.latches) actor w.page w.mode) → b ≡ false → MayWork m actor
    may_work runs works free is = record { goes_on = step.goes_on; runs = runs; working = works; free = way_free aim.wanted (wants aim aims) free; ready = ready is }

-- each machine that is shown works where one does
pub works_too : (d : DiskModel) (c : RunningCore) (m n : Machine) (actor : ℕ) → IsActor actor → MayStep d c m → MayStep d c n → IsWorking (n.activity actor) → IsWorking (m.activity actor)
works_too d c m n actor may step its works = subst IsWorking (sym (stands_as d c m actor (n.activity actor) may step.shows (its.shows.activities actor may))) works

-- ---- the ways in which it works

no_operation : (why : DropWhy) (idle : Activity) (hand : Hand) → (gives_up_hand why idle hand).op ≡ None
no_operation why idle Empty = refl
no_operation why idle (HasLine line) = refl
no_operation why idle (HasJob job) = refl

module _ {D : Type 0} (model : D → DiskModel) (x y : D) (c after : RunningCore) (m : Machine) (actor : ℕ) (may : IsActor actor) (work : MayWork m actor) (same : y ≡ x) where
  pub given_up : (why : DropWhy) (line : Option ℕ) (pins : List ℕ) (outcome : Outcome) → Halts m actor (GivesUp why) (model x) c → line ≡ number_of (hand_of (m.activity actor)) → pins ≡ pages_of (latches_held m.store (m.activity actor))
      → ((state : Activity) → IsWorking state → class_of state ≡ class_for actor → line ≡ number_of (hand_of state) → DoesDeed actor pins (gives_up why state) outcome c after)
      → (new : Machine) × Works m actor outcome new × ShowsMachine (model y) after new
  given_up why line pins outcome halts is pinned does =
      let deed : Deed = gives_up why (m.activity actor) in
      let done : DoesDeed actor pins deed outcome c after = does (m.activity actor) work.working (work.goes_on.kept.classes actor) is in
      let same_pins = came_stays (wanted_by m actor) m.store.meta m.uses c.uses work.goes_on.kept.frames_fit.tied.pool.distinct halts.used_is in
      let stay : (id : ℕ) → MustStay m id → StaysHere c.uses id = must_here m c.store c.uses work.goes_on.kept (ap (λ (s : StoreState). s.dirty) halts.brings.rest) halts.tied (λ q. let pins = same_pins.pins q in omega (arith, pins)) in
      let none : deed.op ≡ None = no_operation why (idle_of (class_of (m.activity actor))) (hand_of (m.activity actor)) in
      let shown = deed_shows (model x) c after m actor deed outcome may halts.shows pins done stay _ work.goes_on.kept.latches_fit halts.brings (nothing_moves m _ c.store deed actor outcome _ halts.brings none) work.goes_on.kept.lines_in_sequence (given_up_number m why (m.activity actor) work.working)
      (keeps_none (model x) c.store after.store _ deed.op none done.store) in (
        shown.0,
        inr (inr (work.free, work.ready, inr (inl (record { why = why; fetched = c.store; brings = halts.brings; cause = halts.cause; performs = shown.1.0; came = subst (CameFor (wanted_by m actor) m.store.meta m.uses) (sym shown.1.1) halts.used_is; pins = shown.1.2 ∙ pinned })))),
        subst (λ (k : D). ShowsMachine (model k) after shown.0) (sym same) shown.2,
      )

  -- a page was damaged
  pub stopped : (why : StopWhy) (before : RunningCore) (outcome : Outcome) → Halts m actor (Stops why) (model x) c → StandsAs before actor (m.activity actor) → c.activities ≡ before.activities
      → outcome ≡ outcomes.Stopped why → after ≡ with_stop why c → (new : Machine) × Works m actor outcome new × ShowsMachine (model y) after new
  stopped WriteFault before outcome halts stood intact says stops = absurd halts.cause
  stopped (Damaged page why) before outcome halts stood intact says stops =
      let so : slice_set c.activities (actor - 1) (m.activity actor) ≡ c.activities = set_as_it_was c.activities (actor - 1) (m.activity actor) (ap (λ (l : List Activity). slice_get l (actor - 1)) intact ∙ stood) in
      let shows : ShowsMachine (model x) c (with_memory c m) = subst (λ (l : List Activity). ShowsMachine (model x) (record c { activities = l }) (with_memory c m)) so halts.shows in
      let new : Machine = stopped_for (Damaged page why) (with_memory c m) in (
        new,
        inr (inr (work.free, work.ready, inr (inr (record { fetched = c.store; brings = halts.brings; page = page; why = why; bad = halts.cause; says = says; came = c.uses; came_is = halts.used_is; tied = halts.tied; stops = refl })))),
        subst (λ (k : D). ShowsMachine (model k) after new) (sym same) (subst (λ (s : RunningCore). ShowsMachine (model x) s new) (sym stops) (shown_stopped (Damaged page why) (model x) c (with_memory c m) shows)),
      )
