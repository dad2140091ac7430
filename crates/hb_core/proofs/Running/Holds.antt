-- The pins of an actor can go over from the wanted page and those of its latches to those of its latches once a row is done.
use Rattle.hb_core.proofs.Running.Names.{◌≡◌, inl, inr, ℕ, ◌+◌, ◌<◌, ◌≤◌, ◌==◌, Bool, true, false, cond, List, [], ◌∷◌, ◌++◌, length, Option, Some, None, IsSome, refl, sym, ap, ◌∙◌, subst, arith, is_some, cases_Bool, length-map, DiskModel, Live, has_value, Activity, Latch, Deed, Mode, Use, frame_of, IsActor, IsTied, StoreState, in_memory, every_row_backed, holders_moved, latches_differ, one_if, came_stays, times, AnyPage, wanted_by, Brings, MachineKeeps, Machine, with_disk, modes, MayDo, latches_held, mode_among, CanMovePins, CanUnpin, Row, RunningCore, CameFor, page_wanted, pages_of, pins_of, use_done, HasCome, HasPages, with_memory}
use Rattle.hb_steps.proofs.Memory.BroughtPages.{latches_come}
use Rattle.hb_activity.proofs.Facts.HeldLatches.{two_at_most}
use Rattle.hb_steps.proofs.Machines.LatchesApart.{known_apart}
use Rattle.hb_steps.proofs.Machines.PinsFollow.{stay_done, times_joined}
use Rattle.hb_core.proofs.Running.Brought.{brings_wider}
use Rattle.hb_core.proofs.Running.Frames.{few_hold}
use Rattle.hb_core.proofs.Running.Pins.{can_hold, can_unpin}
use Rattle.hb_core.proofs.Running.ReadsStay.{pinned_so}
use Rattle.hb_core.proofs.Running.StandsElsewhere.{stands_as}

-- ---- how often a page is among those of latches

pub times_few : (q : ℕ) (ids : List ℕ) → times q ids ≤ length ids
times_few q [] = omega arith
times_few q (id ∷ rest) =
    let more = times_few q rest in
    let one : one_if (id == q) ≤ 1 = elim (id == q) as (λ b. one_if b ≤ 1) [ true ↦ omega arith | false ↦ omega arith ] in
    omega (arith, more, one)

-- a page that is among them is latched
latched_page : (q : ℕ) (latches : List Latch) → 0 < times q (pages_of latches) → (mode : Mode) × (mode_among q latches ≡ Some mode)
latched_page q [] some = absurd (omega (arith, some))
latched_page q (latch ∷ rest) some = elim (cases_Bool (latch.page == q)) [
  | inl here ↦ (latch.mode, ap (λ (b : Bool). cond b (Some latch.mode) (mode_among q rest)) here)
  | inr off ↦
      let none : one_if (latch.page == q) ≡ 0 = ap one_if off in
      let later = latched_page q rest (omega (arith, some, none)) in
      (later.0, ap (λ (b : Bool). cond b (Some latch.mode) (mode_among q rest)) off ∙ later.1)
]

-- ---- what an actor has latched is pinned for it

pub held_pinned : (m : Machine) (actor : ℕ) → IsActor actor → MachineKeeps m → (q : ℕ) → times q (pages_of (latches_held m.store (m.activity actor))) ≤ pins_of m.uses q
held_pinned m actor may keeps q =
    let once : times q (pages_of (latches_held m.store (m.activity actor))) ≡ one_if (is_some (modes m actor q)) =
    (latches_differ m.store (m.activity actor) (keeps.walk_in_space.merging actor) (known_apart m keeps.room_known actor)).once q in
    let least = (holders_moved actor (modes m) (modes m) may (λ other page apart. refl) q).1 in
    let pins = keeps.frames_fit.pins q in
    omega (arith, once, least, pins)

-- so it may be let go, whatever came for a step that comes to no row
pub may_give_up : (m : Machine) (actor : ℕ) (st : StoreState) (uses : List Use) → IsActor actor → MachineKeeps m → IsTied st uses → CameFor (wanted_by m actor) m.store.meta m.uses uses → CanUnpin (pages_of (latches_held m.store (m.activity actor))) uses
may_give_up m actor st uses may keeps tied came =
    let same = came_stays (wanted_by m actor) m.store.meta m.uses uses keeps.frames_fit.tied.pool.distinct came in
    can_unpin (pages_of (latches_held m.store (m.activity actor))) uses tied.pool (λ q. let held = held_pinned m actor may keeps q in let pins = same.pins q in omega (arith, held, pins))

-- ---- and what it has latched once a row is done can be pinned

module _ (m : Machine) (d : DiskModel) (c : RunningCore) (actor : ℕ) (free : Option (ℕ × ℕ)) (may : IsActor actor) (has : HasPages m actor free d c) (deed : Deed)
    (row : Row (m.activity actor) (wanted_by m actor) (with_disk c.store m.files m.clock m) deed) where
  keeps : MachineKeeps m
  keeps = has.may.goes_on.kept

  brings : Brings m AnyPage c.store
  brings = brings_wider m _ AnyPage c.store (λ id is. tt) has.brings

  module _ (st : StoreState) (done : MayDo deed.op (length m.order) c.store st) (uses : List Use) (used : uses ≡ use_done deed.op c.store c.uses) (tied : IsTied st uses) where
    pins_now : (q : ℕ) → pins_of uses q ≡ pins_of m.uses q + times q (page_wanted (wanted_by m actor))
    pins_now q = ap (λ (l : List Use). pins_of l q) used ∙ (stay_done deed.op c.store c.uses has.tied.pool.distinct).pins q ∙ (pinned_so m d c actor free may has).pins q

    there : (q : ℕ) → 0 < times q (pages_of (latches_held st deed.next)) → IsSome (frame_of uses q)
    there q some =
        let latched = latched_page q (latches_held st deed.next) some in
        let backed = every_row_backed m actor AnyPage c.store st may keeps.latches_fit keeps.pages_of_file has.may.free brings (wanted_by m actor) deed refl done row in
        let page = backed.latches q latched.0 latched.1 in
        sym (tied.there q) ∙ has_value (in_memory st q) (Live page.live) page.there

    enough : (q : ℕ) → times q (page_wanted (wanted_by m actor) ++ pages_of (latches_held m.store (m.activity actor))) ≤ pins_of uses q
    enough q =
        let both = times_joined q (page_wanted (wanted_by m actor)) (pages_of (latches_held m.store (m.activity actor))) in
        let held = held_pinned m actor may keeps q in
        let now = pins_now q in
        omega (arith, both, held, now)

    few : (q : ℕ) → pins_of uses q + times q (pages_of (latches_held st deed.next)) ≤ 255
    few q =
        let now = pins_now q in
        let pins = keeps.frames_fit.pins q in
        let hold = few_hold (modes m) q in
        let one = times_few q (page_wanted (wanted_by m actor)) in
        let first : length (page_wanted (wanted_by m actor)) ≤ 1 = by (wanted_by m actor) in
        let two = times_few q (pages_of (latches_held st deed.next)) in
        let long : length (pages_of (latches_held st deed.next)) ≡ length (latches_held st deed.next) = length-map (latches_held st deed.next) (λ (latch : Latch). latch.page) in
        let most : length (latches_held st deed.next) ≤ 2 = two_at_most deed.next _ in
        omega (arith, now, pins, hold, one, first, two, long, most)
      where
        by : (wants : Option _) → length (page_wanted wants) ≤ 1
        by None = omega arith
        by (Some wanted) = omega arith

    pub can_go_over : CanMovePins (page_wanted (wanted_by m actor) ++ pages_of (latches_held m.store (m.activity actor))) (pages_of (latches_held st deed.next)) uses
    can_go_over = can_hold _ _ uses tied.pool enough there few

-- ---- the pages of the latches are those that the core sees

pub held_there : (d : DiskModel) (c : RunningCore) (m : Machine) (actor : ℕ) → IsActor actor → HasCome m actor d c → latches_held c.store (m.activity actor) ≡ latches_held m.store (m.activity actor)
held_there d c m actor may come = latches_come m _ c.store come.brings come.may.goes_on.kept.latches_fit actor

pub holds_alike : (d : DiskModel) (c : RunningCore) (m n : Machine) (actor : ℕ) → IsActor actor → HasCome m actor d c → HasCome n actor d c
    → pages_of (latches_held m.store (m.activity actor)) ≡ pages_of (latches_held n.store (n.activity actor))
holds_alike d c m n actor may own come =
    let same : m.activity actor ≡ n.activity actor = stands_as d c (with_memory c m) actor (n.activity actor) may own.shows (come.shows.activities actor may) in
    ap pages_of (sym (held_there d c m actor may own)) ∙ ap (λ (a : Activity). pages_of (latches_held c.store a)) same ∙ ap pages_of (held_there d c n actor may come)

pub few_held : (m : Machine) (actor : ℕ) (pins : List ℕ) → pins ≡ pages_of (latches_held m.store (m.activity actor)) → length pins ≤ 2
few_held m actor pins is =
    let long : length (pages_of (latches_held m.store (m.activity actor))) ≡ length (latches_held m.store (m.activity actor)) = length-map (latches_held m.store (m.activity actor)) (λ (latch : Latch). latch.page) in
    let most : length (latches_held m.store (m.activity actor)) ≤ 2 = two_at_most (m.activity actor) _ in
    subst (λ (l : List ℕ). length l ≤ 2) (sym is) (omega (arith, long, most))
