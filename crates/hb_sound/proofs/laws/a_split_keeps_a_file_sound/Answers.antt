use Rattle.hb_sound.proofs.SplitContents.{splits_keep_contents}
use Rattle.hb_sound.proofs.SplitDirect.{splits_part_direct}
use Rattle.hb_sound.proofs.SplitSound.{splits_change_two, splits_keep_sound}
use Rattle.hb_ops.proofs.Facts.StemLaws.{PartLaws}
use Rattle.hb_sound.proofs.laws.a_split_keeps_a_file_sound.Goals as goal
use Rattle.hb_sound.proofs.laws.a_split_keeps_a_file_sound.Goals.{After-what_stands_is_in_the_contents}

parts : After-what_stands_is_in_the_contents → PartLaws
parts c = record { leaves = c.parts_are_stretches.ensures.leaves; weight = c.parts_are_stretches.ensures.weight }

pub returns-clause-sound : goal.returns-clause-sound
returns-clause-sound c =
    let at = (goal.at.returns-clause-sound c).After-what_stands_is_in_the_contents in
    splits_keep_sound c.trees_and_space.ensures.trees (parts at)

pub returns-clause-contents : goal.returns-clause-contents
returns-clause-contents c =
    let at = (goal.at.returns-clause-contents c).After-what_stands_is_in_the_contents in
    splits_keep_contents c.trees_and_space.ensures.trees c.trees_and_space.ensures.space
    c.held_is_a_point.ensures
    c.what_stands_is_in_the_contents.ensures.there
    (parts at)

pub returns-clause-direct : goal.returns-clause-direct
returns-clause-direct c =
    let at = (goal.at.returns-clause-direct c).After-what_stands_is_in_the_contents in
    splits_part_direct c.trees_and_space.ensures.trees c.trees_and_space.ensures.space (parts at)

pub returns-clause-pages : goal.returns-clause-pages
returns-clause-pages c = splits_change_two
