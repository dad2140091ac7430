use Rattle.std.proofs.Common.{◌≡◌, ◌++◌, drop}
use Rattle.hb_set.specs.declared.commands.Command.TheVariants.{Search}
use Rattle.hb_text.specs.Output.{numbers_text}
use Rattle.hb_gen.specs.Spelling.{side_by_side, command_text}
use Rattle.hb_gen.proofs.spelling.add_search.Given as goal

-- the text so far, and the pairs from the index on
abbrev pub invariant-loop-axis : goal.invariant-loop-axis
invariant-loop-axis l =
    l.text.items ++ numbers_text (side_by_side (drop l.axis l.area.lo) (drop l.axis l.area.hi)) ≡ l.fn.text.items ++ command_text (Search l.area)
