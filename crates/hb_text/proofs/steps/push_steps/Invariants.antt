use Rattle.std.proofs.Common.{◌≡◌, ◌+◌, ◌≤◌, ℕ, List, ◌++◌, length, Some}
use Rattle.hb_text.specs.StepWords.{steps_of}
use Rattle.hb_text.proofs.steps.push_steps.Given as goal

-- the steps so far and those of the words that are left are the steps before and those of all words
abbrev pub invariant-loop-word : goal.invariant-loop-word
invariant-loop-word l = record {
  said : List ℕ;
  left : steps_of l.words ≡ Some said;
  few : length l.steps.items + length said ≤ 10000000;
  whole : (all : List ℕ) → steps_of l.fn.words ≡ Some all → l.steps.items ++ said ≡ l.fn.steps.items ++ all;
}

abbrev pub decreases-loop-word : goal.decreases-loop-word
decreases-loop-word l = length l.words
