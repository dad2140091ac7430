use Rattle.hb_lemmas.proofs.Numbers.{given}
use Rattle.hb_outside.proofs.numbers.give_u32.Goals as goal

pub returns : goal.returns
returns c = given c.args.at 4 c.args.n c.args.into.now _ c.requires c.write_u32.ensures
