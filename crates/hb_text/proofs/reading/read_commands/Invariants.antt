use Rattle.std.proofs.Common.{◌≡◌, ◌≤◌, length}
use Rattle.hb_text.specs.Grammar.{lines_read, text_read}
use Rattle.hb_text.specs.Words.{lines_of}
use Rattle.hb_text.proofs.TextLines.{after_lines}
use Rattle.hb_text.proofs.TextMemory.{Behind}
use Rattle.hb_text.proofs.reading.read_commands.Given as goal

-- the commands and steps so far, and what the rest says, are what the text says
abbrev pub invariant-loop-rest : goal.invariant-loop-rest
invariant-loop-rest l = record {
  told : after_lines l.lines.items l.steps.items (lines_read l.step_lines l.attributes.number (length l.steps.items) l.number (lines_of l.rest)) ≡ text_read l.step_lines l.attributes.number l.text;
  number : l.number ≤ 1000001;
  taken : length l.steps.items ≤ 10000000;
  before : Behind l.text l.number l.rest;
}

abbrev pub decreases-loop-rest : goal.decreases-loop-rest
decreases-loop-rest l = length l.rest
