use Rattle.hb_sound.proofs.Partition.{each_point_is_held, no_point_is_held_twice}
use Rattle.hb_sound.proofs.laws.a_level_parts_the_space.Goals as goal

pub returns-clause-some : goal.returns-clause-some
returns-clause-some c = each_point_is_held c.trees_and_space.ensures.trees c.trees_and_space.ensures.space

pub returns-clause-alone : goal.returns-clause-alone
returns-clause-alone c = no_point_is_held_twice c.trees_and_space.ensures.trees c.trees_and_space.ensures.space
