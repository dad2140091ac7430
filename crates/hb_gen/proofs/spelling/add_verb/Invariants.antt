use Rattle.std.proofs.Common.{◌≡◌, ◌++◌, take}
use Rattle.hb_text.specs.Output.{numbers_text}
use Rattle.hb_gen.proofs.spelling.add_verb.Given as goal

-- the verb and the numbers before the index are added
abbrev pub invariant-loop-number : goal.invariant-loop-number
invariant-loop-number l = l.text.items ≡ l.fn.text.items ++ (l.verb ++ numbers_text (take l.number-index l.numbers))
