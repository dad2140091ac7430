-- A step that may change the file has places for its pages: what came for it takes one at most.
use Rattle.hb_core.proofs.Running.Names.{◌≡◌, inl, inr, ℕ, ◌+◌, ◌-◌, ◌<◌, ◌≤◌, ◌==◌, ◌||◌, Bool, true, false, List, cond, Option, Some, None, IsTrue, refl, arith, is_some, cases_lt, value_and, Wanted, Meta, Use, pinned, IsPool, frame_of, places, put_last, GROUP, PENDING, use_fetched, pending_bytes, room_of, one_if, MachineKeeps, Machine, IsUnready, may_change_file, use_number, use_wanted}
use Rattle.hb_lemmas.proofs.Booleans.{one_at_most}
use Rattle.hb_pool.proofs.Facts.Pooled.{brought_counts, brought_pool, last_counts}
use Rattle.hb_pool.specs.Frames.{must_stay}
use Rattle.hb_pool.specs.Pools.{brought}
use Rattle.hb_core.proofs.Running.Frames.{may_pin}
use Rattle.hb_core.proofs.Running.Pins.{pinned_pool}
use Rattle.hb_steps.specs.Steps.{MayChange}

-- a pool with so many places at least
pub record HasAtLeast (least : ℕ) (uses : List Use) : Type 0 where
  pub pool : IsPool uses
  pub many : least ≤ places uses

pub after_fetch : (least id : ℕ) (uses : List Use) → 1 ≤ least → HasAtLeast least uses → HasAtLeast least (use_fetched id uses)
after_fetch least id uses some has = by (frame_of uses id) refl
  where
    by : (o : Option Use) → frame_of uses id ≡ o → HasAtLeast least (cond (is_some o) uses (brought id (tt {0}) false uses))
    by (Some u) is = has
    by None is =
        let many = has.many in
        let room : 0 < places uses = omega (arith, many, some) in
        let counts : places (brought id (tt {0}) false uses) + 0 ≡ places uses = brought_counts uses id (tt {0}) false has.pool room in
        record { pool = brought_pool uses id (tt {0}) false has.pool is room; many = omega (arith, many, counts) }

pub after_wanted : (m : Machine) (keeps : MachineKeeps m) (wanted : Option Wanted) → 3 ≤ places m.uses → HasAtLeast 2 (use_wanted wanted m.uses)
after_wanted m keeps None some = record { pool = keeps.frames_fit.tied.pool; many = omega (arith, some) }
after_wanted m keeps (Some wanted) some =
    let fetched : List Use = use_fetched wanted.page m.uses in
    let has : HasAtLeast 3 fetched = after_fetch 3 wanted.page m.uses (omega arith) (record { pool = keeps.frames_fit.tied.pool; many = some }) in
    let u = value_and (frame_of fetched wanted.page) _ (may_pin m keeps wanted.page fetched refl) in
    let counts : places (put_last wanted.page pinned fetched) + one_if (must_stay (pinned u.0)) ≡ places fetched + one_if (must_stay u.0) = last_counts fetched wanted.page pinned u.0 has.pool u.1 in
    let more = one_at_most (must_stay (pinned u.0)) in
    let many = has.many in
    record { pool = pinned_pool fetched wanted.page u.0 has.pool u.1 u.2; many = omega (arith, counts, more, many) }

pub after_number : (m : Machine) (keeps : MachineKeeps m) (takes : Bool) (meta : Meta) (wanted : Option Wanted) → 3 ≤ places m.uses → HasAtLeast 2 (use_number takes meta (use_wanted wanted m.uses))
after_number m keeps false meta wanted some = after_wanted m keeps wanted some
after_number m keeps true meta wanted some = elim ((meta.live == meta.pages) || (meta.free == 0)) as (λ b. HasAtLeast 2 (cond b (use_wanted wanted m.uses) (use_fetched meta.free (use_wanted wanted m.uses)))) [
  | true ↦ after_wanted m keeps wanted some
  | false ↦ after_fetch 2 meta.free (use_wanted wanted m.uses) (omega arith) (after_wanted m keeps wanted some)
]

-- what can't be denied of three pairs of numbers holds
not_denied : (a b c d e f : ℕ) → (¬ (¬ (((a ≤ b) × (c ≤ d)) × (e ≤ f)))) → ((a ≤ b) × (c ≤ d)) × (e ≤ f)
not_denied a b c d e f never = elim (cases_lt b a) [
  | inl low ↦ absurd (never (λ all. let le = all.0.0 in absurd (omega (arith, le, low))))
  | inr first ↦ elim (cases_lt d c) [
    | inl low ↦ absurd (never (λ all. let le = all.0.1 in absurd (omega (arith, le, low))))
    | inr second ↦ elim (cases_lt f e) [
      | inl low ↦ absurd (never (λ all. let le = all.1 in absurd (omega (arith, le, low))))
      | inr third ↦ ((first, second), third)
    ]
  ]
]

-- so a step that may change the file and isn't unready is ready
pub is_ready : (m : Machine) (actor : ℕ) → IsTrue (may_change_file m actor) → ¬ (IsUnready m actor) → MayChange m
is_ready m actor changes ready = not_denied GROUP (room_of m.store.log) (pending_bytes m.store.log.groups) (PENDING - GROUP) 3 (places m.uses) (λ never. ready (inl (changes, never)))
