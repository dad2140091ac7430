use Rattle.hb_lemmas.proofs.Numbers.{slice_range-given, slice_range-given_before, slice_range-given_behind}
use Rattle.hb_outside.proofs.numbers.give_law.Goals as goal

pub returns-clause-given : goal.returns-clause-given
returns-clause-given c = slice_range-given

pub returns-clause-before : goal.returns-clause-before
returns-clause-before c = slice_range-given_before

pub returns-clause-behind : goal.returns-clause-behind
returns-clause-behind c = slice_range-given_behind
