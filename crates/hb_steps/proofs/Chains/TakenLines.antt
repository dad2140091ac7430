-- A line is taken: nobody's lock keeps the session from its box.
use Rattle.hb_steps.proofs.Chains.Names.{◌≡◌, ◌≢◌, ◌⊎◌, inl, inr, ℕ, ◌==◌, nat_le, true, cond, false, List, [], ◌∷◌, refl, ◌∙◌, eqb-true, Job, Activity, SessionIdle, PosterIdle, ConsolidatorIdle, Flusher, ChangesQueue, Scene, at_rest, machine_of, standing, BeginsLine, lock_of_command, taking, Line}
use Rattle.std.proofs.Common.{IsSomeAnd}
use Rattle.hb_steps.specs.declared.outcomes.Outcome.TheVariants as outcomes
use Rattle.hb_boxlock.specs.Locking.{Excludes}
use Rattle.hb_steps.specs.Locking.{HasBoxFree}
use Rattle.hb_activity.specs.BoxLocks.{lock_of}
use Rattle.hb_boxlock.specs.declared.locks.BoxLock.{BoxLock}
use Rattle.hb_steps.proofs.Chains.BuiltSteps.{IsUsedAsItIs, after_as_it_is, performed}

-- nobody at work has a lock that keeps an actor from this one
abbrev pub NoneLocksOut : ℕ → BoxLock → List (ℕ × Activity) → Type 0
NoneLocksOut actor lock [] = Unit {0}
NoneLocksOut actor lock (one ∷ rest) = ((one.0 ≡ actor) ⊎ ¬ (IsSomeAnd (lock_of one.1) (Excludes lock))) × NoneLocksOut actor lock rest

-- who rests has none
rests_open : (actor : ℕ) (lock : BoxLock) → IsSomeAnd (lock_of (at_rest actor)) (Excludes lock) → ⊥
rests_open actor lock out = elim (nat_le actor 16) as (λ b. IsSomeAnd (lock_of (cond b SessionIdle (cond (actor == 17) PosterIdle (cond (actor == 18) ConsolidatorIdle Flusher)))) (Excludes lock) → ⊥) [
  | true ↦ λ none. none
  | false ↦ elim (actor == 17) as (λ b. IsSomeAnd (lock_of (cond b PosterIdle (cond (actor == 18) ConsolidatorIdle Flusher))) (Excludes lock) → ⊥) [
    | true ↦ λ none. none
    | false ↦ elim (actor == 18) as (λ b. IsSomeAnd (lock_of (cond b ConsolidatorIdle Flusher)) (Excludes lock) → ⊥) [ true ↦ λ none. none | false ↦ λ none. none ]
  ]
] out

none_out : (actor : ℕ) (lock : BoxLock) (all : List (ℕ × Activity)) → NoneLocksOut actor lock all → (other : ℕ) → other ≢ actor → IsSomeAnd (lock_of (standing all other)) (Excludes lock) → ⊥
none_out actor lock [] none other another out = rests_open other lock out
none_out actor lock (one ∷ rest) none other another out = elim (other == one.0) as (λ b. (other == one.0) ≡ b → IsSomeAnd (lock_of (cond b one.1 (standing rest other))) (Excludes lock) → ⊥) [
  | true ↦ λ here its. elim none.0 [ inl same ↦ another (eqb-true other one.0 here ∙ same) | inr open_to ↦ open_to its ]
  | false ↦ λ off its. none_out actor lock rest none.1 other another its
] refl out

pub box_free : (s : Scene) (actor : ℕ) (lock : BoxLock) → NoneLocksOut actor lock s.at_work → HasBoxFree (machine_of s) actor lock
box_free s actor lock none other out = none_out actor lock s.at_work none other out.another out.excluded

pub takes_line : (s : Scene) (actor : ℕ) (line : Line) (jobs : List Job) → ChangesQueue (taking line) s.jobs jobs → NoneLocksOut actor (lock_of_command line.command) s.at_work
    → IsUsedAsItIs actor (taking line) jobs s → BeginsLine (machine_of s) actor line outcomes.Moved (machine_of (after_as_it_is actor (taking line) jobs s))
takes_line s actor line jobs queue none used = inr (box_free s actor (lock_of_command line.command) none, inl (performed s actor (taking line) jobs queue tt used))
