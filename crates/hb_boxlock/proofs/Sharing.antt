-- Locks of two actors that meet are shared, before and after each call.
use Rattle.std.proofs.Common.{◌≡◌, ◌≢◌, inl, inr, ℕ, ◌&&◌, Bool, true, false, not, cond, length, Option, Some, None, IsTrue, IfSome, refl, sym, ap, subst, ◌∙◌, ne_eqb, eq-eqb}
use Rattle.std.proofs.lemmas.Bool.{cases_eq, false≢true}
use Rattle.std.specs.FinMap as map
use Rattle.std.specs.Ordering.{nat_cmp}
use Rattle.std.specs.Option.{IsSomeAnd}
use Rattle.hb_space.specs.Boxes.{Meets}
use Rattle.hb_space.proofs.Facts.Boxes.{Meets-back, Meets-from_point}
use Rattle.hb_boxlock.specs.declared.locks.BoxLock.{BoxLock}
use Rattle.hb_boxlock.specs.Laws.{AloneHasItsPoints, ReleasedMayBeHad, ReleasingKeepsThemShared, SharedKeepsNone, TakingKeepsThemShared}
use Rattle.hb_boxlock.specs.Locking.{AreSharedWhereTheyMeet, Excludes, HaveAttributes, LockTable, MayHaveLock, lock_at}
use Rattle.hb_boxlock.proofs.Places.{after_insert, after_remove}
use Rattle.hb_boxlock.proofs.Facts.LockedBoxes.{both_shared}

-- what an actor has after an insert, and after a removal
own_lock : (table : LockTable) (actor one : ℕ) (lock x : BoxLock) → one ≡ actor → lock_at (map.insert table actor lock) one ≡ Some x → lock ≡ x
own_lock table actor one lock x same is = cc (sym (after_insert table actor one lock ∙ ap (λ b. cond b (Some lock) (lock_at table one)) (eq-eqb one actor same)) ∙ is)

other_lock : (table : LockTable) (actor one : ℕ) (lock x : BoxLock) → one ≢ actor → lock_at (map.insert table actor lock) one ≡ Some x → lock_at table one ≡ Some x
other_lock table actor one lock x apart is = sym (after_insert table actor one lock ∙ ap (λ b. cond b (Some lock) (lock_at table one)) (ne_eqb one actor apart)) ∙ is

left_lock : (table : LockTable) (actor one : ℕ) (x : BoxLock) → lock_at (map.remove table actor) one ≡ Some x → lock_at table one ≡ Some x
left_lock table actor one x is = elim (cases_eq one actor) [
  | inl same ↦ let no : None ≡ Some x = sym (after_remove table actor one ∙ ap (λ b. cond b None (lock_at table one)) (eq-eqb one actor same)) ∙ is in cc
  | inr apart ↦ sym (after_remove table actor one ∙ ap (λ b. cond b None (lock_at table one)) (ne_eqb one actor apart)) ∙ is
]

pub none_shared : AreSharedWhereTheyMeet map.empty
none_shared actor other lock held apart is there meets = let no : None ≡ Some lock = sym (map.get-empty nat_cmp actor) ∙ is in cc

-- another's lock that nobody is kept by doesn't exclude the new one
not_excluded : (table : LockTable) (actor other : ℕ) (lock held : BoxLock) → MayHaveLock table actor lock → other ≢ actor → lock_at table other ≡ Some held → ¬ (Excludes lock held)
not_excluded table actor other lock held may apart there excludes = may other (record { another = apart; excluded = subst (λ (o : Option BoxLock). IsSomeAnd o (λ h. Excludes lock h)) (sym there) excludes })

attributes_of : (table : LockTable) (other k : ℕ) (held : BoxLock) → HaveAttributes table k → lock_at table other ≡ Some held → length held.area.lo ≡ k
attributes_of table other k held all there = subst (λ (o : Option BoxLock). IfSome o (λ h. length h.area.lo ≡ k)) there (all other)

pub taken_shared : TakingKeepsThemShared
taken_shared table actor lock old attributes may one two x y apart is there meets = elim (cases_eq one actor) [
  | inl first ↦
      let second : two ≢ actor = λ e. apart (first ∙ sym e) in
      let held = other_lock table actor two lock y second there in
      let own = own_lock table actor one lock x first is in
      subst (λ (l : BoxLock). IsTrue l.shared × IsTrue y.shared) own
      (both_shared lock y (not_excluded table actor two lock y may second held) (subst (λ (l : BoxLock). Meets l.area y.area) (sym own) meets))
  | inr first ↦
      let held = other_lock table actor one lock x first is in
      elim (cases_eq two actor) [
        | inl second ↦
            let own = own_lock table actor two lock y second there in
            let back = Meets-back x.area lock.area (attributes_of table one (length lock.area.lo) x attributes held) (subst (λ (l : BoxLock). Meets x.area l.area) (sym own) meets) in
            let shared = both_shared lock x (not_excluded table actor one lock x may first held) back in
            subst (λ (l : BoxLock). IsTrue x.shared × IsTrue l.shared) own (shared.1, shared.0)
        | inr second ↦ old one two x y apart held (other_lock table actor two lock y second there) meets
      ]
]

pub released_shared : ReleasingKeepsThemShared
released_shared table actor old one two x y apart is there meets = old one two x y apart (left_lock table actor one x is) (left_lock table actor two y there) meets

not_both : (s t : Bool) → IsTrue s → IsTrue t → IsTrue (not (s && t)) → ⊥
not_both s t one two alone = false≢true (sym (ap not (ap (λ (b : Bool). b && t) one ∙ two)) ∙ alone)

pub released_again : ReleasedMayBeHad
released_again table actor lock old is other keeps = elim (lock_at (map.remove table actor) other) as (λ o. lock_at (map.remove table actor) other ≡ o → IsSomeAnd o (λ held. Excludes lock held) → ⊥) [
  | None ↦ λ there no. no
  | Some held ↦ λ there excludes.
      let shared = old actor other lock held (λ e. keeps.another (sym e)) is (left_lock table actor other held there) excludes.meets in
      not_both lock.shared held.shared shared.0 shared.1 excludes.alone
] refl keeps.excluded

other_alone : (t : Bool) → IsTrue (not (true && t)) → t ≡ false
other_alone true alone = absurd (false≢true alone)
other_alone false alone = refl

pub shared_together : SharedKeepsNone
shared_together table actor other lock held shared there keeps =
    let excludes = subst (λ (o : Option BoxLock). IsSomeAnd o (λ h. Excludes lock h)) there keeps.excluded in
    other_alone held.shared (subst (λ (s : Bool). IsTrue (not (s && held.shared))) shared excludes.alone)

pub alone_there : AloneHasItsPoints
alone_there table actor other lock held old apart is there alone p inside too =
    let shared = old actor other lock held apart is there (Meets-from_point lock.area held.area p inside too) in
    false≢true (sym alone ∙ shared.0)
