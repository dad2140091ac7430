use Rattle.hb_sound.proofs.Partition.{records_are_at_home}
use Rattle.hb_sound.proofs.laws.records_are_at_home.Goals as goal

pub returns : goal.returns
returns c = records_are_at_home c.trees_and_space.ensures.trees c.trees_and_space.ensures.space
