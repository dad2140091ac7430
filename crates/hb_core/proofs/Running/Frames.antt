-- What the frames of a machine tell of the pages that a step needs: which stay, how few pins they have, and what a page that comes makes
-- of that.
use Rattle.hb_core.proofs.Running.Names.{◌≡◌, inl, inr, ℕ, ◌+◌, ◌<◌, ◌≤◌, true, false, List, [], cond, Option, Some, None, IsSome, IsTrue, refl, sym, ap, subst, ◌∙◌, arith, nat_cmp, is_some, option_map_or, false≢true, has_value, Wanted, Mode, HeldModes, Use, frame_of, StaysHere, use_fetched, IsTied, StoreState, holders_moved, one_if, PinsMore, times, MustStay, MachineKeeps, Machine, modes, page_wanted, pins_of, RunningCore, MayStep, DiskModel}
use Rattle.std.specs.FinSet as set
use Rattle.std.specs.Option.{IsSomeAnd}
use Rattle.std.proofs.lemmas.List.Sums.{count_by-le-length}
use Rattle.hb_pool.proofs.Facts.Others.{came_in}
use Rattle.hb_pool.proofs.Facts.Pooled.{dirty_stays, pinned_stays}
use Rattle.hb_pool.specs.Frames.{IsStaying, fresh}
use Rattle.hb_pool.specs.Pools.{brought}
use Rattle.hb_store.specs.States.{is_dirty}
use Rattle.hb_steps.proofs.Machines.PinCounts.{IsSingle, brought_pins}
use Rattle.hb_steps.proofs.Facts.StillThere.{holder_may}
use Rattle.hb_core.proofs.Running.Pins.{few_pins, times_first}
use Rattle.hb_steps.specs.Using.{actors, holders}

-- ---- which pages stay

pub dirty_here : (st : StoreState) (uses : List Use) (id : ℕ) → IsTied st uses → IsTrue (is_dirty st id) → StaysHere uses id
dirty_here st uses id tied dirty = by (frame_of uses id) (sym (tied.marks id) ∙ dirty)
  where
    by : (o : Option Use) → option_map_or (λ (u : Use). u.dirty) o false ≡ true → IsSomeAnd o IsStaying
    by None is = absurd (false≢true is)
    by (Some u) is = dirty_stays u is

pub pinned_here : (uses : List Use) (id : ℕ) → 0 < pins_of uses id → StaysHere uses id
pinned_here uses id some = by (frame_of uses id) some
  where
    by : (o : Option Use) → 0 < option_map_or (λ (u : Use). u.pins) o 0 → IsSomeAnd o IsStaying
    by None some = absurd (omega (arith, some))
    by (Some u) some = pinned_stays u some

-- the page that a step wants is pinned for it
pub wanted_here : (wants : Option Wanted) (old uses : List Use) → PinsMore (page_wanted wants) old uses → (wanted : Wanted) → wants ≡ Some wanted → StaysHere uses wanted.page
wanted_here wants old uses pinned wanted is =
    let more : pins_of uses wanted.page ≡ pins_of old wanted.page + times wanted.page (page_wanted wants) = pinned.pins wanted.page in
    let here : times wanted.page (page_wanted wants) ≡ 1 + 0 = ap (λ (o : Option Wanted). times wanted.page (page_wanted o)) is ∙ times_first wanted.page [] in
    pinned_here uses wanted.page (omega (arith, more, here))

-- who has latched a page counts
pub latched_counts : (m : Machine) (keeps : MachineKeeps m) (actor id : ℕ) (mode : Mode) → modes m actor id ≡ Some mode → 0 < holders (modes m) id
latched_counts m keeps actor id mode holds =
    let own : one_if (is_some (modes m actor id)) ≡ 1 = ap (λ (o : Option Mode). one_if (is_some o)) holds in
    let least = (holders_moved actor (modes m) (modes m) (holder_may m keeps.nobody_else actor id mode holds) (λ other page apart. refl) id).1 in
    omega (arith, own, least)

pub must_here : (m : Machine) (st : StoreState) (uses : List Use) → MachineKeeps m → st.dirty ≡ m.store.dirty → IsTied st uses → ((q : ℕ) → pins_of m.uses q ≤ pins_of uses q) → (id : ℕ) → MustStay m id → StaysHere uses id
must_here m st uses keeps same tied more id (inl (actor, mode, holds)) =
    let counts = latched_counts m keeps actor id mode holds in
    let pins = keeps.frames_fit.pins id in
    let least = more id in
    pinned_here uses id (omega (arith, counts, pins, least))
must_here m st uses keeps same tied more id (inr dirty) = dirty_here st uses id tied (ap (λ (s : set.FinSet nat_cmp). set.contains s id) same ∙ dirty)

-- the same of a core that shows the machine
module _ (d : DiskModel) (c : RunningCore) (m : Machine) (step : MayStep d c m) where
  pub shown_tied : IsTied c.store c.uses
  shown_tied = subst (λ (l : List Use). IsTied c.store l) step.shows.uses (subst (λ (s : StoreState). IsTied s m.uses) step.shows.store step.goes_on.kept.frames_fit.tied)

  pub shown_stays : (id : ℕ) → MustStay m id → StaysHere c.uses id
  shown_stays id must = subst (λ (l : List Use). StaysHere l id) step.shows.uses (must_here m m.store m.uses step.goes_on.kept refl step.goes_on.kept.frames_fit.tied (λ q. omega arith) id must)

-- ---- few pins

pub few_hold : (modes : HeldModes) (id : ℕ) → holders modes id ≤ 19
few_hold modes id = count_by-le-length (λ (actor : ℕ). is_some (modes actor id)) actors

-- ---- a page that comes

pub fetched_there : (id : ℕ) (uses : List Use) → IsSome (frame_of (use_fetched id uses) id)
fetched_there id uses = by (frame_of uses id) refl
  where
    by : (o : Option Use) → frame_of uses id ≡ o → IsSome (frame_of (cond (is_some o) uses (brought id (tt {0}) false uses)) id)
    by None is = has_value (frame_of (brought id (tt {0}) false uses) id) (fresh id (tt {0}) false) (came_in uses id (tt {0}) false is)
    by (Some u) is = has_value (frame_of uses id) u is

pub fetched_pins : (id : ℕ) (uses : List Use) → IsSingle uses → (q : ℕ) → pins_of (use_fetched id uses) q ≡ pins_of uses q
fetched_pins id uses single q = by (frame_of uses id) refl
  where
    by : (o : Option Use) → frame_of uses id ≡ o → pins_of (cond (is_some o) uses (brought id (tt {0}) false uses)) q ≡ pins_of uses q
    by None is = brought_pins id q false uses single is
    by (Some u) is = refl

-- so it may be pinned
pub may_pin : (m : Machine) (keeps : MachineKeeps m) (id : ℕ) (uses : List Use) → uses ≡ use_fetched id m.uses → IsSomeAnd (frame_of uses id) (λ (u : Use). u.pins < 255)
may_pin m keeps id uses is = subst (λ (l : List Use). IsSomeAnd (frame_of l id) (λ (u : Use). u.pins < 255)) (sym is)
    (let same = fetched_pins id m.uses keeps.frames_fit.tied.pool.distinct id in
    let pins = keeps.frames_fit.pins id in
    let few = few_hold (modes m) id in
    few_pins (use_fetched id m.uses) id (fetched_there id m.uses) (omega (arith, same, pins, few)))
