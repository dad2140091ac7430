use Rattle.hb_sound.specs.LawsOfMerges.{MergesKeepSound}
use Rattle.hb_sound.proofs.MergeContents.{merges_keep_contents}
use Rattle.hb_sound.proofs.MergeDirect.{merges_join_direct}
use Rattle.hb_sound.proofs.MergeNames.{merges_rename}
use Rattle.hb_sound.proofs.MergeSound.{merges_keep_sound}
use Rattle.hb_sound.proofs.MergedLeaves.{MergeLaws}
use Rattle.hb_sound.proofs.Facts.MergedPages.{merges_change_three}
use Rattle.hb_sound.proofs.laws.a_merge_keeps_a_file_sound.Goals as goal
use Rattle.hb_sound.proofs.laws.a_merge_keeps_a_file_sound.Goals.{After-changed_pages_are_well_made}

merges : After-changed_pages_are_well_made → MergeLaws
merges c = record {
  parts = c.parts_are_stretches.ensures.leaves;
  leads = c.ways_lead_to_siblings.ensures.leads;
  none = c.ways_lead_to_siblings.ensures.none;
  renames = c.renaming_changes_names_alone.ensures;
  same = c.normal_says_the_same.ensures.same;
  well = c.changed_pages_are_well_made.ensures;
}

keeps : After-changed_pages_are_well_made → MergesKeepSound
keeps c = merges_keep_sound c.trees_and_space.ensures.trees c.trees_and_space.ensures.space (merges c)

pub returns-clause-sound : goal.returns-clause-sound
returns-clause-sound c = keeps (goal.at.returns-clause-sound c).After-changed_pages_are_well_made

pub returns-clause-contents : goal.returns-clause-contents
returns-clause-contents c =
    let at = (goal.at.returns-clause-contents c).After-changed_pages_are_well_made in
    merges_keep_contents c.trees_and_space.ensures.trees c.trees_and_space.ensures.space
    c.held_is_a_point.ensures
    c.what_stands_is_in_the_contents.ensures.there
    (merges at) (keeps at) merges_change_three

pub returns-clause-direct : goal.returns-clause-direct
returns-clause-direct c =
    let at = (goal.at.returns-clause-direct c).After-changed_pages_are_well_made in
    merges_join_direct c.trees_and_space.ensures.trees c.trees_and_space.ensures.space (merges at) (keeps at) merges_change_three

pub returns-clause-pages : goal.returns-clause-pages
returns-clause-pages c = merges_change_three

pub returns-clause-names : goal.returns-clause-names
returns-clause-names c =
    let at = (goal.at.returns-clause-names c).After-changed_pages_are_well_made in
    merges_rename c.trees_and_space.ensures.trees c.trees_and_space.ensures.space (merges at) (keeps at) merges_change_three
