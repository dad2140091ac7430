use Rattle.hb_super.proofs.Supers.{same_turn}
use Rattle.hb_super.proofs.Newest.{one_said}
use Rattle.hb_super.proofs.laws.a_place_has_one_superblock.Goals as goal

pub returns-clause-turn : goal.returns-clause-turn
returns-clause-turn c = same_turn

pub returns-clause-said : goal.returns-clause-said
returns-clause-said c = one_said
