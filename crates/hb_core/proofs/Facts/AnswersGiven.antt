-- The answers that a caller kept are those that came, one step more.
use Rattle.hb_core.proofs.Facts.Names.{◌≡◌, ℕ, List, ◌++◌, Option, IsSome, All, refl, sym, ap, ◌∙◌, All-nil, All-alone, given_by, AreAnswers, without_clock, Outcome, Answered}
use Rattle.std.proofs.Common.{map}
use Rattle.std.proofs.lemmas.List.{map-append}
use Rattle.hb_steps.specs.declared.outcomes.Outcome.TheVariants as outcomes

-- but for its clock the answer of a step is the same at each value of the clock
same_but_clock : (outcome : Outcome) (a b : ℕ) → map without_clock (given_by outcome a) ≡ map without_clock (given_by outcome b)
same_but_clock (outcomes.Answered number reply) a b = refl
same_but_clock (outcomes.Stopped why) a b = refl
same_but_clock outcomes.Idle a b = refl
same_but_clock (outcomes.Blocked by) a b = refl
same_but_clock outcomes.Helped a b = refl
same_but_clock (outcomes.Dropped why) a b = refl
same_but_clock outcomes.Moved a b = refl

-- what a caller keeps of a step, by a clock that is the disk's where it tells
pub given_at : (now : Option (List ℕ)) (outcome : Outcome) (kept clock : ℕ) → (IsSome now → kept ≡ clock) → AreAnswers now (given_by outcome kept) (given_by outcome clock)
given_at now outcome kept clock same = record { alike = same_but_clock outcome kept clock; same = λ tells. ap (given_by outcome) (same tells) }

-- `given` is what a caller kept of a step, by the disk's clock; `clock` is the machine's
pub answers_more : (told now : Option (List ℕ)) (answers came given : List Answered) (outcome : Outcome) (disk_clock clock : ℕ) → AreAnswers told answers came → AreAnswers now given (given_by outcome disk_clock)
    → (IsSome told → IsSome now) → (IsSome told → clock ≡ disk_clock) → AreAnswers told (answers ++ given) (came ++ given_by outcome clock)
answers_more told now answers came given outcome disk_clock clock old more tells same_clock = record {
  alike =
      map-append without_clock answers given
      ∙ ap (λ (l : List Answered). l ++ map without_clock given) old.alike
      ∙ ap (λ (l : List Answered). map without_clock came ++ l) (more.alike ∙ same_but_clock outcome disk_clock clock)
      ∙ sym (map-append without_clock came (given_by outcome clock));
  same = λ is. ap (λ (l : List Answered). l ++ given) (old.same is) ∙ ap (λ (l : List Answered). came ++ l) (more.same (tells is) ∙ ap (given_by outcome) (sym (same_clock is)));
}

-- the answer of a step has its clock
pub given_now : (outcome : Outcome) (clock : ℕ) → All (λ (a : Answered). a.at ≡ clock) (given_by outcome clock)
given_now (outcomes.Answered number reply) clock = All-alone (λ (a : Answered). a.at ≡ clock) (record { line = number; reply = reply; at = clock }) refl
given_now (outcomes.Stopped why) clock = All-nil (λ (a : Answered). a.at ≡ clock)
given_now outcomes.Idle clock = All-nil (λ (a : Answered). a.at ≡ clock)
given_now (outcomes.Blocked by) clock = All-nil (λ (a : Answered). a.at ≡ clock)
given_now outcomes.Helped clock = All-nil (λ (a : Answered). a.at ≡ clock)
given_now (outcomes.Dropped why) clock = All-nil (λ (a : Answered). a.at ≡ clock)
given_now outcomes.Moved clock = All-nil (λ (a : Answered). a.at ≡ clock)
