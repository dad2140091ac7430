-- Whose lock is against one, by the places of the activities; and what that says of the machine that a core shows.
use Rattle.hb_core.proofs.Running.Names.{◌≡◌, ◌≢◌, inl, inr, ℕ, ◌+◌, ◌-◌, ◌<◌, ◌≤◌, List, length, get_or, Option, Some, None, IfSome, refl, sym, ap, ◌∙◌, subst, arith, cases_lt, get_or_from_slice_get, slice_get_within, Activity, BoxLock, DiskModel, IsActor, Line, StoreState, LineFits, MachineKeeps, Machine, RunningCore, ShowsMachine, HaveBoxes, NoneAgainst}
use Rattle.std.proofs.Common.{slice_get, All, IsSomeAnd}
use Rattle.hb_activity.specs.BoxLocks.{lock_of}
use Rattle.hb_steps.proofs.Machines.LocksKept.{lock_box}
use Rattle.hb_steps.proofs.Walks.LockHolders.{holder_works}
use Rattle.hb_boxlock.specs.Locking.{Excludes}
use Rattle.hb_steps.specs.Locking.{HasBoxFree, IsBoxInTheWay, LocksOut}
use Rattle.hb_core.specs.Taking.{IsAgainst, IsFirstAgainst}

-- ---- place by place

-- at none of the places before this one
abbrev pub NoneBefore : List Activity → ℕ → BoxLock → ℕ → Type 0
NoneBefore activities actor lock n = (place : ℕ) → place < n → ¬ (IsAgainst activities actor lock place)

pub none_at_first : (activities : List Activity) (actor : ℕ) (lock : BoxLock) → NoneBefore activities actor lock 0
none_at_first activities actor lock place lt = absurd (omega (arith, lt))

pub boxes_there : (k : ℕ) (activities : List Activity) (place : ℕ) (activity : Activity) → HaveBoxes k activities → activity ≡ get_or activities place activity → place < length activities → IfSome (lock_of activity) (λ held. length held.area.lo ≡ k)
boxes_there k activities place activity boxes is lt = subst (λ (a : Activity). IfSome (lock_of a) (λ held. length held.area.lo ≡ k)) (sym is) (boxes place activity lt)

pub against_there : (activities : List Activity) (actor other : ℕ) (lock : BoxLock) (place : ℕ) (activity : Activity) → slice_get activities place ≡ Some activity → other ≡ place + 1 → other ≢ actor → IsSomeAnd (lock_of activity) (Excludes lock) → IsAgainst activities actor lock place
against_there activities actor other lock place activity there is another excluded = record {
  another = λ same. another (is ∙ same);
  excluded = subst (λ (o : Option Activity). IsSomeAnd o (λ a. IsSomeAnd (lock_of a) (Excludes lock))) (sym there) excluded;
}

pub excludes_there : (activities : List Activity) (actor : ℕ) (lock : BoxLock) (place : ℕ) (activity : Activity) → slice_get activities place ≡ Some activity → IsAgainst activities actor lock place → IsSomeAnd (lock_of activity) (Excludes lock)
excludes_there activities actor lock place activity there against = subst (λ (o : Option Activity). IsSomeAnd o (λ a. IsSomeAnd (lock_of a) (Excludes lock))) there against.excluded

pub none_and_this : (activities : List Activity) (actor : ℕ) (lock : BoxLock) (n : ℕ) → NoneBefore activities actor lock n → ¬ (IsAgainst activities actor lock n) → NoneBefore activities actor lock (n + 1)
none_and_this activities actor lock n none this place lt = elim (cases_lt place n) [
  | inl less ↦ none place less
  | inr not_less ↦ let same : n ≡ place = omega (arith, lt, not_less) in subst (λ (k : ℕ). ¬ (IsAgainst activities actor lock k)) same this
]

-- where a place has an activity, it is one of the list
some_there : (activities : List Activity) (place : ℕ) (lock : BoxLock) (o : Option Activity) → slice_get activities place ≡ o → IsSomeAnd o (λ a. IsSomeAnd (lock_of a) (Excludes lock)) → place < length activities
some_there activities place lock None is none = absurd none
some_there activities place lock (Some activity) is some = slice_get_within activities place activity is

pub place_within : (activities : List Activity) (actor : ℕ) (lock : BoxLock) (place : ℕ) → IsAgainst activities actor lock place → place < length activities
place_within activities actor lock place against = some_there activities place lock (slice_get activities place) refl against.excluded

pub none_at_all : (activities : List Activity) (actor : ℕ) (lock : BoxLock) (n : ℕ) → length activities ≤ n → NoneBefore activities actor lock n → NoneAgainst activities actor lock
none_at_all activities actor lock n over none place against = let within = place_within activities actor lock place against in none place (omega (arith, over, within)) against

-- the same of lists and locks that are equal
pub none_here : (shown activities : List Activity) (actor : ℕ) (lock its : BoxLock) → shown ≡ activities → lock ≡ its → NoneAgainst shown actor lock → NoneAgainst activities actor its
none_here shown activities actor lock its same is none = subst (λ (l : List Activity). NoneAgainst l actor its) same (subst (λ (k : BoxLock). NoneAgainst shown actor k) is none)

pub first_here : (shown activities : List Activity) (actor by : ℕ) (lock its : BoxLock) → shown ≡ activities → lock ≡ its → IsFirstAgainst shown actor lock by → IsFirstAgainst activities actor its by
first_here shown activities actor by lock its same is first = subst (λ (l : List Activity). IsFirstAgainst l actor its by) same (subst (λ (k : BoxLock). IsFirstAgainst shown actor k by) is first)

-- ---- the machine that is shown

module _ (d : DiskModel) (c : RunningCore) (m : Machine) (shows : ShowsMachine d c m) (actor : ℕ) (lock : BoxLock) where
  stands_at : (other : ℕ) → IsActor other → slice_get c.activities (other - 1) ≡ Some (m.activity other)
  stands_at other may = shows.activities other may

  locks_out : (place : ℕ) → IsAgainst c.activities actor lock place → LocksOut m actor lock (place + 1)
  locks_out place against =
      let within = place_within c.activities actor lock place against in
      let all = shows.all_actors in
      let may : IsActor (place + 1) = record { from_1 = omega arith; to_19 = omega (arith, within, all) } in
      let number : place + 1 - 1 ≡ place = omega arith in
      record {
        another = against.another;
        excluded = excludes_there c.activities actor lock place (m.activity (place + 1)) (sym (ap (slice_get c.activities) number) ∙ stands_at (place + 1) may) against;
      }

  is_against : (other : ℕ) → LocksOut m actor lock other → IsAgainst c.activities actor lock (other - 1)
  is_against other out =
      let may = (holder_works m actor other lock shows.nobody_else out).0 in
      let low = may.from_1 in
      let number : other ≡ other - 1 + 1 = omega (arith, low) in
      against_there c.activities actor other lock (other - 1) (m.activity other) (stands_at other may) number out.another out.excluded

  pub has_box_free : NoneAgainst c.activities actor lock → HasBoxFree m actor lock
  has_box_free none other out = none (other - 1) (is_against other out)

  pub box_in_the_way : (by : ℕ) → IsFirstAgainst c.activities actor lock by → IsBoxInTheWay m actor lock by
  box_in_the_way by first = record {
    keeps = subst (LocksOut m actor lock) (sym first.by_is) (locks_out first.place first.against);
    least = λ earlier lt out.
        let may = (holder_works m actor earlier lock shows.nobody_else out).0 in
        let low = may.from_1 in
        let is = first.by_is in
        first.least (earlier - 1) (omega (arith, lt, low, is)) (is_against earlier out);
  }

-- ---- the boxes of locks and lines have the file's attributes

lock_fits : (k : ℕ) (o : Option BoxLock) → ((lock : BoxLock) → o ≡ Some lock → length lock.area.lo ≡ k) → IfSome o (λ held. length held.area.lo ≡ k)
lock_fits k None fits = tt
lock_fits k (Some lock) fits = fits lock refl

pub locks_have_boxes : (d : DiskModel) (c : RunningCore) (m : Machine) → ShowsMachine d c m → MachineKeeps m → HaveBoxes c.store.meta.k c.activities
locks_have_boxes d c m shows kept place x lt =
    let all = shows.all_actors in
    let may : IsActor (place + 1) = record { from_1 = omega arith; to_19 = omega (arith, lt, all) } in
    let number : place + 1 - 1 ≡ place = omega arith in
    let there : slice_get c.activities place ≡ Some (m.activity (place + 1)) = sym (ap (slice_get c.activities) number) ∙ shows.activities (place + 1) may in
    let fits : IfSome (lock_of (m.activity (place + 1))) (λ held. length held.area.lo ≡ m.store.meta.k) = lock_fits m.store.meta.k (lock_of (m.activity (place + 1))) (lock_box m kept (place + 1)) in
    subst (λ (a : Activity). IfSome (lock_of a) (λ held. length held.area.lo ≡ c.store.meta.k)) (sym (get_or_from_slice_get c.activities place (m.activity (place + 1)) x there))
    (subst (λ (s : StoreState). IfSome (lock_of (m.activity (place + 1))) (λ held. length held.area.lo ≡ s.meta.k)) shows.store fits)

pub lines_have_boxes : (d : DiskModel) (c : RunningCore) (m : Machine) → ShowsMachine d c m → MachineKeeps m → All (LineFits c.store.meta.k) c.lines
lines_have_boxes d c m shows kept = subst (λ (s : StoreState). All (LineFits s.meta.k) c.lines) shows.store (subst (λ (l : List Line). All (LineFits m.store.meta.k) l) shows.lines kept.attributes_fit.script)
