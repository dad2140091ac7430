use Rattle.std.proofs.Common.{◌≡◌, length}
use Rattle.std.specs.List.{list_any}
use Rattle.hb_text.specs.Words.{words_of, is_empty}
use Rattle.hb_text.proofs.lines.has_empty_word.Given as goal

-- no word so far was empty
abbrev pub invariant-loop-word : goal.invariant-loop-word
invariant-loop-word l = list_any is_empty l.words ≡ list_any is_empty (words_of l.line)

abbrev pub decreases-loop-word : goal.decreases-loop-word
decreases-loop-word l = length l.words
