-- Who keeps an actor from a lock, as the places tell it.
use Rattle.std.proofs.Common.{◌≡◌, ◌≢◌, inl, inr, ℕ, zero, suc, ◌+◌, ◌≤◌, ◌<◌, List, length, get_or, Option, None, IfSome, refl, sym, subst, ◌∙◌, arith}
use Rattle.std.proofs.Math.ListN.{get_or-eq_default}
use Rattle.std.proofs.lemmas.Bool.{cases_lt}
use Rattle.std.proofs.lemmas.List.{get_or_default}
use Rattle.std.specs.Option.{IsSomeAnd}
use Rattle.hb_boxlock.specs.declared.locks.BoxLock.{BoxLock}
use Rattle.hb_boxlock.specs.Locking.{Excludes, HaveAttributes, IsLeastToKeep, KeepsFromLock, MayHaveLock}
use Rattle.hb_boxlock.proofs.Places.{in_front, of_actor, table_of}

-- the lock, where one is there, excludes this one
abbrev pub ThereExcludes : BoxLock → Option BoxLock → Type 0
ThereExcludes lock there = IsSomeAnd there (λ held. Excludes lock held)

-- none of the actors up to this one keeps the actor from the lock
abbrev pub NobodyUpTo : List (Option BoxLock) → ℕ → BoxLock → ℕ → Type 0
NobodyUpTo places actor lock n = (other : ℕ) → other ≤ n → ¬ (KeepsFromLock (table_of places) actor lock other)

pub nobody_at_first : (places : List (Option BoxLock)) (actor : ℕ) (lock : BoxLock) → NobodyUpTo places actor lock 0
nobody_at_first places actor lock other le keeps = subst (ThereExcludes lock) (in_front 1 places other (omega (arith, le))) keeps.excluded

-- who stands at a place keeps the actor from the lock where it is another one, and its lock excludes this one
pub keeps_there : (places : List (Option BoxLock)) (place other actor : ℕ) (lock : BoxLock) → place + 1 ≡ other → other ≢ actor → ThereExcludes lock (get_or places place None) → KeepsFromLock (table_of places) actor lock other
keeps_there places place other actor lock is apart against = record {
  another = apart;
  excluded = subst (ThereExcludes lock) (sym (of_actor places place other is)) against;
}

pub against_there : (places : List (Option BoxLock)) (place other actor : ℕ) (lock : BoxLock) → place + 1 ≡ other → KeepsFromLock (table_of places) actor lock other → ThereExcludes lock (get_or places place None)
against_there places place other actor lock is keeps = subst (ThereExcludes lock) (of_actor places place other is) keeps.excluded

pub nobody_and_this : (places : List (Option BoxLock)) (actor : ℕ) (lock : BoxLock) (n : ℕ) → NobodyUpTo places actor lock n → ¬ (KeepsFromLock (table_of places) actor lock (n + 1)) → NobodyUpTo places actor lock (n + 1)
nobody_and_this places actor lock n nobody this other le = elim (cases_lt other (n + 1)) [
  | inl less ↦ nobody other (omega (arith, less))
  | inr not_less ↦ let same : other ≡ n + 1 = omega (arith, le, not_less) in subst (λ (x : ℕ). ¬ (KeepsFromLock (table_of places) actor lock x)) (sym same) this
]

pub least_there : (places : List (Option BoxLock)) (actor : ℕ) (lock : BoxLock) (n other : ℕ) → NobodyUpTo places actor lock n → n + 1 ≡ other → KeepsFromLock (table_of places) actor lock other → IsLeastToKeep (table_of places) actor lock other
least_there places actor lock n other nobody is keeps = record { keeps = keeps; least = λ earlier lt. nobody earlier (omega (arith, is, lt)) }

-- behind the last place there is nobody
pub nobody_at_all : (places : List (Option BoxLock)) (actor : ℕ) (lock : BoxLock) (n : ℕ) → length places ≤ n → NobodyUpTo places actor lock n → MayHaveLock (table_of places) actor lock
nobody_at_all places actor lock n over nobody zero keeps = nobody 0 (omega arith) keeps
nobody_at_all places actor lock n over nobody (suc k) keeps = elim (cases_lt k n) [
  | inl less ↦ nobody (suc k) (omega (arith, less)) keeps
  | inr not_less ↦ subst (ThereExcludes lock) (of_actor places k (suc k) (omega arith) ∙ get_or-eq_default places None (omega (arith, over, not_less))) keeps.excluded
]

-- the box at a place has the attributes
pub attributes_there : (places : List (Option BoxLock)) (place k : ℕ) → HaveAttributes (table_of places) k → IfSome (get_or places place None) (λ held. length held.area.lo ≡ k)
attributes_there places place k all = subst (λ (o : Option BoxLock). IfSome o (λ held. length held.area.lo ≡ k)) (of_actor places place (place + 1) refl) (all (place + 1))

-- what a look at a place found
pub read_there : (places : List (Option BoxLock)) (place : ℕ) (held : Option BoxLock) → held ≡ get_or places place held → place < length places → get_or places place None ≡ held
read_there places place held is in_range = get_or_default places place None held in_range ∙ sym is
