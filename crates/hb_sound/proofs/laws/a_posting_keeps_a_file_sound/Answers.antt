use Rattle.hb_sound.proofs.PostSound.{postings_change_parent, postings_keep_contents, postings_keep_direct, postings_keep_sound, postings_name}
use Rattle.hb_sound.proofs.PostedPage.{PostLaws}
use Rattle.hb_sound.proofs.laws.a_posting_keeps_a_file_sound.Goals as goal
use Rattle.hb_sound.proofs.laws.a_posting_keeps_a_file_sound.Goals.{After-common_box_is_a_box}

posts : After-common_box_is_a_box → PostLaws
posts c = record { parts = c.parts_are_stretches.ensures.leaves; carves = c.carving_parts_a_leaf.ensures.parts; no_siblings = c.carving_parts_a_leaf.ensures.siblings; all_joined = c.normal_says_the_same.ensures.normal; same = c.normal_says_the_same.ensures.same; common = c.common_box_is_a_box.ensures.points }

pub returns-clause-sound : goal.returns-clause-sound
returns-clause-sound c =
    let at = (goal.at.returns-clause-sound c).After-common_box_is_a_box in
    postings_keep_sound c.trees_and_space.ensures.trees c.trees_and_space.ensures.space (posts at)

pub returns-clause-contents : goal.returns-clause-contents
returns-clause-contents c =
    let at = (goal.at.returns-clause-contents c).After-common_box_is_a_box in
    postings_keep_contents c.trees_and_space.ensures.trees c.trees_and_space.ensures.space (posts at)

pub returns-clause-direct : goal.returns-clause-direct
returns-clause-direct c =
    let at = (goal.at.returns-clause-direct c).After-common_box_is_a_box in
    postings_keep_direct c.trees_and_space.ensures.trees c.trees_and_space.ensures.space (posts at)

pub returns-clause-pages : goal.returns-clause-pages
returns-clause-pages c =
    let at = (goal.at.returns-clause-pages c).After-common_box_is_a_box in
    postings_change_parent c.trees_and_space.ensures.trees c.trees_and_space.ensures.space (posts at)

pub returns-clause-names : goal.returns-clause-names
returns-clause-names c =
    let at = (goal.at.returns-clause-names c).After-common_box_is_a_box in
    postings_name c.trees_and_space.ensures.trees c.trees_and_space.ensures.space (posts at)
