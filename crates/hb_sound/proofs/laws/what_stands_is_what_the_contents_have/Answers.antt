use Rattle.hb_sound.proofs.Partition.{lack_is_contents, standing_is_contents}
use Rattle.hb_sound.proofs.laws.what_stands_is_what_the_contents_have.Goals as goal

pub returns-clause-there : goal.returns-clause-there
returns-clause-there c =
    standing_is_contents c.trees_and_space.ensures.trees c.trees_and_space.ensures.space
    c.what_stands_is_in_the_contents.ensures.there

pub returns-clause-absent : goal.returns-clause-absent
returns-clause-absent c =
    lack_is_contents c.trees_and_space.ensures.trees c.trees_and_space.ensures.space
    c.what_stands_is_in_the_contents.ensures.absent
