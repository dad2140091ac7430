-- Where a run in threads is done, each line of its script has an answer.
use Rattle.std.proofs.Common.{◌≡◌, ℕ, ◌+◌, Bool, true, false, not, cond, ◌||◌, inl, inr, List, [], ◌∷◌, All, None, map, refl, sym, ap, subst, ◌∙◌, arith}
use Rattle.std.specs.Prelude.{◌==◌, IsTrue, count_by}
use Rattle.std.specs.List.{AllByRecursion}
use Rattle.std.proofs.lemmas.List.Elements.{All-from_recursion, All-weaker}
use Rattle.std.proofs.lemmas.List.Sums.{sum_by-cons}
use Rattle.hb_steps.specs.Machines.{Machine}
use Rattle.hb_core.specs.Runs.{without_clock}
use Rattle.hb_steps.specs.SteppingLaws.{StepsGoOn}
use Rattle.hb_point.specs.SessionRows.{is_answered}
use Rattle.hb_set.specs.declared.scripts.Answered.{Answered}
use Rattle.hb_set.specs.declared.scripts.Line.{Line}
use Rattle.hbpi.proofs.EndLaws.{no_done}
use Rattle.hbpi.proofs.Promises.{not_done}
use Rattle.hbpi.specs.Driven.{HasNothingLeft, Manner, by_counting, by_threads}
use Rattle.hbpi.specs.StepEnds.{Drove, StepsEnd}
use Rattle.hbpi.specs.Promises.{AnswersAll}
use Rattle.hbpi.specs.SeenRuns.{Run}
use Rattle.hbpi.specs.declared.statuses.Status.TheVariants.{Done}

-- the numbers of the answers don't depend on their clocks
clocks_apart : (number : ℕ) (answered : List Answered) → is_answered number (map without_clock answered) ≡ is_answered number answered
clocks_apart number [] = refl
clocks_apart number (a ∷ rest) = ap (λ (b : Bool). (a.line == number) || b) (clocks_apart number rest)

-- what isn't counted has an answer
one_answered : (has : Bool) (n : ℕ) → cond (not has) 1 0 + n ≡ 0 → (IsTrue has) × (n ≡ 0)
one_answered true n is = (refl, omega (arith, is))
one_answered false n is = absurd (omega (arith, is))

pub each_answered : (answered : List Answered) (lines : List Line) → count_by (λ (l : Line). not (is_answered l.number answered)) lines ≡ 0 → AllByRecursion (λ (l : Line). IsTrue (is_answered l.number answered)) lines
each_answered answered [] none = tt
each_answered answered (l ∷ rest) none =
    let here = one_answered (is_answered l.number answered) _ (sym (sum_by-cons (λ (l : Line). cond (not (is_answered l.number answered)) 1 0) l rest) ∙ none) in
    (here.0, each_answered answered rest here.1)

all_answered : (by : Manner) (run : Run) (after : Machine) → StepsGoOn → Drove by run after → HasNothingLeft after → AnswersAll by.origin run
all_answered by run after further drove left =
    let takes = drove.takes in
    let lines : after.lines ≡ drove.lines = (further drove.actors takes.before after takes.reached).lines ∙ takes.lines_are in
    let same : (number : ℕ) → is_answered number after.answered ≡ is_answered number run.seen.answered =
    λ number. sym (clocks_apart number after.answered) ∙ ap (is_answered number) (sym takes.came.alike) ∙ clocks_apart number run.seen.answered in
    let each = All-from_recursion (λ (l : Line). IsTrue (is_answered l.number after.answered)) after.lines (each_answered after.answered after.lines left.answered) in
    record {
      k = drove.k;
      lines = drove.lines;
      steps = drove.steps;
      came = drove.came;
      each = All-weaker (λ (l : Line). IsTrue (is_answered l.number after.answered)) (λ (l : Line). IsTrue (is_answered l.number run.seen.answered)) (λ l is. sym (same l.number) ∙ is) drove.lines
          (subst (λ (ls : List Line). All (λ (l : Line). IsTrue (is_answered l.number after.answered)) ls) lines each);
    }

-- so in each manner that goes on until nothing is left
answers_all : (by : Manner) (run : Run) → StepsGoOn → ((after : Machine) → Drove by run after → after.stop ≡ None → HasNothingLeft after) → StepsEnd by run Done → AnswersAll by.origin run
answers_all by run further whole ends = elim ends [
  | inl shut ↦ absurd (not_done shut.0 (sym shut.1))
  | inr opened ↦ elim opened [
    | inl away ↦ absurd (no_done by.origin away.k run.seen.source_before run.seen.source_after away.why)
    | inr ran ↦ all_answered by run ran.0 further ran.1 (whole ran.0 ran.1 ran.2.4)
  ]
]

pub run_answers_all : (run : Run) → StepsGoOn → StepsEnd by_threads run Done → AnswersAll by_threads.origin run
run_answers_all run further ends = answers_all by_threads run further (λ after drove. drove.goes) ends

pub work_answers_all : (state count : ℕ) (run : Run) → StepsGoOn → StepsEnd (by_counting state count) run Done → AnswersAll (by_counting state count).origin run
work_answers_all state count run further ends = answers_all (by_counting state count) run further (λ after drove. drove.goes) ends
