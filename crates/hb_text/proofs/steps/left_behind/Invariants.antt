use Rattle.std.proofs.Common.{◌≡◌, length}
use Rattle.hb_text.specs.Steps.{steps_left}
use Rattle.hb_text.proofs.steps.left_behind.Given as goal

-- what is left behind the words that are left is what is left behind all
abbrev pub invariant-loop-word : goal.invariant-loop-word
invariant-loop-word l = record { told : steps_left l.left l.words ≡ steps_left l.fn.left l.fn.words }

abbrev pub decreases-loop-word : goal.decreases-loop-word
decreases-loop-word l = length l.words
