-- Who has a box locked is at work; and where somebody is under way, not everybody who is waits.
use Rattle.hb_steps.proofs.Walks.Names.{◌≡◌, inl, inr, ℕ, Option, Some, None, IsSomeAnd, sym, subst, Activity, BoxLock, lock_of, lock_of_command, wanted_of, IsLeastInTheWay, next_line, Line, may_or_not, looked_live, HasNobodyElse, Excludes, LocksOut, Machine, modes, IsAtRest, HasWorkLeft, IsKeptWaiting}
use Rattle.hb_activity.specs.declared.activities.Activity.TheVariants as at
use Rattle.hb_steps.proofs.Walks.SomebodyFree.{somebody_goes_on}
use Rattle.hb_steps.specs.Asking.{IsInTheWay}
use Rattle.hb_steps.specs.WaitingLaws.{IsKeptBack, IsUnderWay, LockHoldersWork, SomebodyUnderWayGoesOn}

locked_works : (activity : Activity) (lock : BoxLock) → IsSomeAnd (lock_of activity) (Excludes lock) → ¬ (IsAtRest activity)
locked_works (at.SessionWalk line held rest found) lock out rests = rests
locked_works (at.SessionSplit line held) lock out rests = rests
locked_works (at.SessionPut line source fresh) lock out rests = rests
locked_works activity lock out rests = absurd out

pub holder_works : (m : Machine) (actor other : ℕ) (lock : BoxLock) → HasNobodyElse m → LocksOut m actor lock other → HasWorkLeft m other
holder_works m actor other lock nobody out = elim (may_or_not other) [
  | inl may ↦ (may, locked_works (m.activity other) lock out.excluded)
  | inr none ↦ absurd (subst (λ (a : Activity). IsSomeAnd (lock_of a) (Excludes lock)) (nobody other none) out.excluded)
]

awaits_holder : (m : Machine) (actor other : ℕ) (next : Option Line) → HasNobodyElse m → IsSomeAnd next (λ line. LocksOut m actor (lock_of_command line.command) other) → HasWorkLeft m other
awaits_holder m actor other None nobody none = absurd none
awaits_holder m actor other (Some line) nobody out = holder_works m actor other (lock_of_command line.command) nobody out

pub lock_holders_work : LockHoldersWork
lock_holders_work m actor other nobody awaits = awaits_holder m actor other (next_line actor m.answered m.lines) nobody awaits.locked

-- an idle session wants no latch
idle_wants_none : (m : Machine) (actor by : ℕ) → m.activity actor ≡ at.SessionIdle → IsInTheWay m actor by → ⊥
idle_wants_none m actor by idle way = subst (λ (a : Activity). IsSomeAnd (wanted_of a m.store.meta (looked_live m.store a)) (λ wanted. IsLeastInTheWay (modes m) actor wanted.page wanted.mode by)) idle way

-- one at work isn't kept back by a box
works_by_latch : (m : Machine) (actor : ℕ) → HasWorkLeft m actor → IsKeptBack m actor → IsKeptWaiting m actor
works_by_latch m actor works (inl kept) = kept
works_by_latch m actor works (inr (by, awaits)) = absurd (works.1 (subst IsAtRest (sym awaits.idle) tt))

pub somebody_under_way_goes_on : SomebodyUnderWayGoesOn
somebody_under_way_goes_on m files actor fit has nobody walks under kept = by_kind under
  where
    stuck : (other : ℕ) → HasWorkLeft m other → ⊥
    stuck other works = somebody_goes_on m files other fit has nobody walks works (λ one busy. works_by_latch m one busy (kept one (inl busy)))

    by_kept : m.activity actor ≡ at.SessionIdle → IsKeptBack m actor → ⊥
    by_kept idle (inl (by, way)) = idle_wants_none m actor by idle way
    by_kept idle (inr (by, awaits)) = stuck by (lock_holders_work m actor by nobody awaits)

    by_kind : IsUnderWay m actor → ⊥
    by_kind (inl works) = stuck actor works
    by_kind (inr (idle, some)) = by_kept idle (kept actor (inr (idle, some)))
