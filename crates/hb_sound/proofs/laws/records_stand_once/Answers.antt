use Rattle.hb_sound.proofs.RecordsOnce.{records_stand_once}
use Rattle.hb_sound.proofs.laws.records_stand_once.Goals as goal

pub returns : goal.returns
returns c = records_stand_once c.trees_and_space.ensures.trees c.trees_and_space.ensures.space c.held_is_a_point.ensures
