use Rattle.std.proofs.Common.{◌≡◌, ◌+◌, ◌-◌, ◌++◌}
use Rattle.hb_gen.specs.Lines.{lines_from}
use Rattle.hb_gen.specs.Spelling.{lines_text, generated_text}
use Rattle.hb_gen.proofs.generating.generate.Given as goal

-- the text so far, and the lines that are still wanted
abbrev pub invariant-loop-index : goal.invariant-loop-index
invariant-loop-index l =
    l.text.items ++ lines_text (lines_from l.attributes.number (l.index + 1) (l.lines - l.index) l.draws.state) ≡ generated_text l.state l.lines l.attributes.number
