-- Where no page is dirty, a frame that must stay is latched, and 19 actors latch two pages each at most: the other frames are places.
-- An empty log has room. So where nothing is left to flush, a step is ready.
use Rattle.hb_steps.proofs.Machines.Names.{◌≡◌, inl, inr, ℕ, ◌+◌, ◌*◌, ◌≤◌, ◌==◌, Bool, true, false, not, ◌||◌, cond, List, [], ◌∷◌, length, Some, None, refl, sym, ap, arith, find, count_by, sum_by, option_map, sum_by-cons, if_same, Latch, Use, has_id, oldest_dirty, LogState, StaysSo, MachineKeeps, Machine, modes, latches_held, mode_among, actors, holders, Outcome}
use Rattle.std.specs.Option.{is_some}
use Rattle.hb_activity.proofs.Facts.HeldLatches.{two_at_most}
use Rattle.hb_pool.specs.Frames.{must_stay}
use Rattle.hb_store.specs.Calls.{IsReady}
use Rattle.hb_wal.specs.Log.{framed_bytes, pending_bytes}
use Rattle.hb_steps.specs.Forcing.{FlushesOnce}
use Rattle.hb_steps.specs.KeptFrames.{FlushingMakesReady, PlacesAreLeft}
use Rattle.hb_steps.specs.Steps.{GetsReady, IsUnready}
use Rattle.hb_steps.specs.declared.outcomes.Outcome.TheVariants as outcomes
use Rattle.hb_steps.proofs.Machines.PinCounts.{IsSingle, one_if, pins_if, single_sum}

-- none is dirty
none_dirty : (uses : List Use) → oldest_dirty uses ≡ None → find (λ (u : Use). u.dirty) uses ≡ None
none_dirty uses clean = elim (find (λ (u : Use). u.dirty) uses) as (λ o. option_map (λ (u : Use). u.id) o ≡ None → o ≡ None) [
  | None ↦ λ _. refl
  | Some u ↦ λ never. cc
] clean

-- so a frame that must stay is pinned
stays_pinned : (u : Use) → u.dirty ≡ false → one_if (must_stay u) ≤ u.pins
stays_pinned u off =
    let same : one_if (must_stay u) ≡ one_if (not (u.pins == 0)) = ap (λ d. one_if (d || not (u.pins == 0))) off in
    let few : one_if (not (u.pins == 0)) ≤ u.pins = if_same u.pins 0 (λ b. one_if (not b) ≤ u.pins) (λ is. omega arith) (λ some. omega arith) in
    omega (arith, same, few)

-- Of a number for each page, which is at least as large as its pins: the sum over all frames is as large as the frames that must stay.
stays_counted : (h : ℕ → ℕ) (uses : List Use) → find (λ (u : Use). u.dirty) uses ≡ None → ((q : ℕ) → sum_by (pins_if q) uses ≤ h q) → count_by must_stay uses ≤ sum_by (λ u. h u.id) uses
stays_counted h [] none most = omega arith
stays_counted h (u ∷ us) none most =
    let counted : count_by must_stay (u ∷ us) ≡ one_if (must_stay u) + count_by must_stay us = sum_by-cons (λ (v : Use). one_if (must_stay v)) u us in
    let summed : sum_by (λ v. h v.id) (u ∷ us) ≡ h u.id + sum_by (λ v. h v.id) us = sum_by-cons (λ (v : Use). h v.id) u us in
    elim (u.dirty) as (λ b. u.dirty ≡ b → cond b (Some u) (find (λ (v : Use). v.dirty) us) ≡ None → count_by must_stay (u ∷ us) ≤ sum_by (λ v. h v.id) (u ∷ us)) [
      | true ↦ λ _ some. cc
      | false ↦ λ off rest.
          let own : sum_by (pins_if u.id) (u ∷ us) ≡ cond {A = ℕ} (u.id == u.id) u.pins 0 + sum_by (pins_if u.id) us = sum_by-cons (pins_if u.id) u us in
          let its : cond {A = ℕ} (u.id == u.id) u.pins 0 ≡ u.pins = if_same u.id u.id (λ b. cond {A = ℕ} b u.pins 0 ≡ u.pins) (λ _. refl) (λ never. absurd (never refl)) in
          let here = most u.id in
          let first = stays_pinned u off in
          let later = stays_counted h us rest (λ q. let more : sum_by (pins_if q) (u ∷ us) ≡ pins_if q u + sum_by (pins_if q) us = sum_by-cons (pins_if q) u us in let all = most q in omega (arith, more, all)) in
          omega (arith, counted, summed, own, its, here, first, later)
    ] refl none

-- ---- counting by actors in place of frames

nothing_added : (uses : List Use) → sum_by (λ (u : Use). 0) uses ≡ 0
nothing_added [] = refl
nothing_added (u ∷ us) = let one : sum_by (λ (v : Use). 0) (u ∷ us) ≡ 0 + sum_by (λ (v : Use). 0) us = sum_by-cons (λ (v : Use). 0) u us in let rest = nothing_added us in omega (arith, one, rest)

-- how many of these have it, by a page's number
abbrev having : (ℕ → ℕ → Bool) → List ℕ → Use → ℕ
having p all u = count_by (λ a. p a u.id) all

one_more : (p : ℕ → ℕ → Bool) (a : ℕ) (all : List ℕ) (uses : List Use) → sum_by (having p (a ∷ all)) uses ≡ count_by (λ (u : Use). p a u.id) uses + sum_by (having p all) uses
one_more p a all [] = refl
one_more p a all (u ∷ us) =
    let whole : sum_by (having p (a ∷ all)) (u ∷ us) ≡ having p (a ∷ all) u + sum_by (having p (a ∷ all)) us = sum_by-cons (having p (a ∷ all)) u us in
    let both : having p (a ∷ all) u ≡ one_if (p a u.id) + having p all u = sum_by-cons (λ b. one_if (p b u.id)) a all in
    let first : count_by (λ (v : Use). p a v.id) (u ∷ us) ≡ one_if (p a u.id) + count_by (λ (v : Use). p a v.id) us = sum_by-cons (λ (v : Use). one_if (p a v.id)) u us in
    let others : sum_by (having p all) (u ∷ us) ≡ having p all u + sum_by (having p all) us = sum_by-cons (having p all) u us in
    let rest = one_more p a all us in
    omega (arith, whole, both, first, others, rest)

by_actors : (p : ℕ → ℕ → Bool) (uses : List Use) → ((a : ℕ) → count_by (λ (u : Use). p a u.id) uses ≤ 2) → (all : List ℕ) → sum_by (having p all) uses ≤ 2 * length all
by_actors p uses few [] = let none : sum_by (having p []) uses ≡ 0 = nothing_added uses in omega (arith, none)
by_actors p uses few (a ∷ all) = let more = one_more p a all uses in let first = few a in let rest = by_actors p uses few all in omega (arith, more, first, rest)

-- ---- an actor has latched as many frames as it has latches at most

alike : {X : Type 0} (p q : X → Bool) (xs : List X) → ((x : X) → p x ≡ q x) → count_by p xs ≡ count_by q xs
alike p q [] same = refl
alike p q (x ∷ xs) same =
    let first : count_by p (x ∷ xs) ≡ one_if (p x) + count_by p xs = sum_by-cons (λ y. one_if (p y)) x xs in
    let second : count_by q (x ∷ xs) ≡ one_if (q x) + count_by q xs = sum_by-cons (λ y. one_if (q y)) x xs in
    let here : one_if (p x) ≡ one_if (q x) = ap one_if (same x) in
    let rest = alike p q xs same in
    omega (arith, first, second, here, rest)

-- the frames of one page, and those that pass besides
either_counted : (page : ℕ) (p q : Use → Bool) (uses : List Use) → ((u : Use) → one_if (p u) ≤ one_if (has_id page u) + one_if (q u)) → count_by p uses ≤ count_by (has_id page) uses + count_by q uses
either_counted page p q [] each = omega arith
either_counted page p q (u ∷ us) each =
    let whole : count_by p (u ∷ us) ≡ one_if (p u) + count_by p us = sum_by-cons (λ (v : Use). one_if (p v)) u us in
    let first : count_by (has_id page) (u ∷ us) ≡ one_if (has_id page u) + count_by (has_id page) us = sum_by-cons (λ (v : Use). one_if (has_id page v)) u us in
    let second : count_by q (u ∷ us) ≡ one_if (q u) + count_by q us = sum_by-cons (λ (v : Use). one_if (q v)) u us in
    let here = each u in
    let rest = either_counted page p q us each in
    omega (arith, whole, first, second, here, rest)

none_among : (uses : List Use) → count_by (λ (u : Use). false) uses ≡ 0
none_among uses = nothing_added uses

abbrev among : List Latch → Use → Bool
among latches u = is_some (mode_among u.id latches)

latched_frames : (uses : List Use) → IsSingle uses → (latches : List Latch) → count_by (among latches) uses ≤ length latches
latched_frames uses single [] = let none : count_by (among []) uses ≡ 0 = none_among uses in omega (arith, none)
latched_frames uses single (latch ∷ rest) =
    let all = either_counted latch.page (among (latch ∷ rest)) (among rest) uses (λ u. one u) in
    let first = single latch.page in
    let later = latched_frames uses single rest in
    omega (arith, all, first, later)
  where
    one : (u : Use) → one_if (among (latch ∷ rest) u) ≤ one_if (has_id latch.page u) + one_if (among rest u)
    one u = if_same latch.page u.id (λ b. one_if (is_some (cond b (Some latch.mode) (mode_among u.id rest))) ≤ one_if (has_id latch.page u) + one_if (among rest u))
        (λ same. let its : one_if (u.id == latch.page) ≡ 1 = if_same u.id latch.page (λ b. one_if b ≡ 1) (λ _. refl) (λ never. absurd (never (sym same))) in omega (arith, its))
        (λ apart. omega arith)

module _ (m : Machine) (keeps : MachineKeeps m) where
  single : IsSingle m.uses
  single = keeps.frames_fit.tied.pool.distinct

  actor_holds : (actor : ℕ) → count_by (λ (u : Use). is_some (modes m actor u.id)) m.uses ≤ 2
  actor_holds actor =
      let latches = latches_held m.store (m.activity actor) in
      let most : count_by (λ (u : Use). is_some (modes m actor u.id)) m.uses ≤ length latches = latched_frames m.uses single latches in
      let two : length latches ≤ 2 = two_at_most (m.activity actor) _ in
      omega (arith, most, two)

  few_stay : oldest_dirty m.uses ≡ None → count_by must_stay m.uses ≤ 38
  few_stay clean =
      let stay = stays_counted (holders (modes m)) m.uses (none_dirty m.uses clean) (λ q. let pins = keeps.frames_fit.pins q in let all = single_sum q m.uses (single q) in omega (arith, pins, all)) in
      let most : sum_by (λ u. holders (modes m) u.id) m.uses ≤ 2 * length actors = by_actors (λ actor q. is_some (modes m actor q)) m.uses actor_holds actors in
      omega (arith, stay, most)

pub places_are_left : PlacesAreLeft
places_are_left m keeps clean = let few = few_stay m keeps clean in omega (arith, few)

-- ---- an empty log has room

none_waits : (log : LogState) → log.groups ≡ [] → (framed_bytes log.groups ≡ 0) × (pending_bytes log.groups ≡ 0)
none_waits log none = (ap framed_bytes none, ap pending_bytes none)

is_ready : (m : Machine) → MachineKeeps m → m.store.log.groups ≡ [] → m.store.log.written ≡ 0 → IsReady m.store
is_ready m keeps none empty =
    let nothing = none_waits m.store.log none in
    let framed = nothing.0 in
    let pending = nothing.1 in
    let len = keeps.log_in_place.len in
    let least : 65536 ≤ m.store.meta.log = keeps.meta_within_limits.layout.log_room in
    (omega (arith, framed, empty, len, least), omega (arith, pending))

pub flushing_makes_ready : FlushingMakesReady
flushing_makes_ready m actor keeps none (clean, empty) (inl (may, unready)) = let places = places_are_left m keeps clean in unready (is_ready m keeps none empty, omega (arith, places))
flushing_makes_ready m actor keeps none (clean, empty) (inr (full, there)) = let places = places_are_left m keeps clean in absurd (omega (arith, places, full))

-- So a step that isn't ready has flushed something.
pub always_flushes : (m : Machine) (actor : ℕ) (outcome : Outcome) (new : Machine) → MachineKeeps m → IsUnready m actor → FlushesOnce m outcomes.Helped (StaysSo m outcomes.Idle outcome new) outcome new → GetsReady m outcome new
always_flushes m actor outcome new keeps unready (inl forced) = inl forced
always_flushes m actor outcome new keeps unready (inr (none, inl written)) = inr (none, inl written)
always_flushes m actor outcome new keeps unready (inr (none, inr (inl turned))) = inr (none, inr (inl turned))
always_flushes m actor outcome new keeps unready (inr (none, inr (inr (flushed, idle)))) = absurd (flushing_makes_ready m actor keeps none flushed unready)
