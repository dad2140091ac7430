-- How counts of faults go on over one call after another.
use Rattle.std.proofs.Common.{◌≡◌, ℕ, ◌≤◌, inl, inr, subst, arith, ◌-◌, ◌^◌}
use Rattle.std.proofs.Math.Nat.{lt_of_le_of_lt}
use Rattle.hb_outside.specs.Calls.{Counts}
use Rattle.hb_outside.specs.Streams.{Rose}
use Rattle.std.proofs.lemmas.Bool.{cases_lt}
use Rattle.hb_outside.specs.Memory.{next_count}

-- a count that rose in the later of two calls rose in both
pub Rose-later : (a b c : ℕ) → a ≤ b → Rose b c → Rose a c
Rose-later a b c le (inl lt) = inl (lt_of_le_of_lt le lt)
Rose-later a b c le (inr e) = inr e

-- no call failed
pub Counts-same : {failed : Type 0} {before after : ℕ} → (failed → ⊥) → after ≡ before → Counts failed before after
Counts-same {before = before} {after = after} never same = record { cause = λ f. absurd (never f); no_fault = λ _. same; later = omega (arith, same) }

-- the same of what failed in other words
pub Counts-as : {F G : Type 0} (before after : ℕ) → (F → G) → (G → F) → Counts F before after → Counts G before after
Counts-as before after to from counts = record { cause = λ failed. counts.cause (from failed); no_fault = λ good. counts.no_fault (λ failed. good (to failed)); later = counts.later }

-- a call failed
pub Counts-rose : {failed : Type 0} {before after : ℕ} → failed → before ≤ after → Rose before after → Counts failed before after
Counts-rose failed le rose = record { cause = λ _. rose; no_fault = λ never. absurd (never failed); later = le }

-- a call behind one that didn't fail
pub Counts-then : {first second : Type 0} {a b c : ℕ} → (first → ⊥) → Counts first a b → Counts second b c → Counts second a c
Counts-then {second = second} {c = c} never one two = subst (λ (n : ℕ). Counts second n c) (one.no_fault never) two

-- a count that went on rose
pub Rose-next_count : (before after : ℕ) → after ≡ next_count before → Rose before after
Rose-next_count before after e = elim (cases_lt before (2 ^ 64 - 1)) [
  | inl less ↦ inl (omega (arith, less))
  | inr last ↦ inr (omega (arith, last))
]
