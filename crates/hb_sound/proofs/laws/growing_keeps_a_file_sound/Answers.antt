use Rattle.hb_sound.proofs.FileGrown.{growth_changes_one}
use Rattle.hb_sound.proofs.GrowthKept.{growth_keeps_contents, growth_keeps_direct}
use Rattle.hb_sound.proofs.GrowthSound.{growth_keeps_sound}
use Rattle.hb_sound.proofs.laws.growing_keeps_a_file_sound.Goals as goal

pub returns-clause-sound : goal.returns-clause-sound
returns-clause-sound c = growth_keeps_sound

pub returns-clause-contents : goal.returns-clause-contents
returns-clause-contents c = growth_keeps_contents

pub returns-clause-direct : goal.returns-clause-direct
returns-clause-direct c = growth_keeps_direct c.trees_and_space.ensures.space

pub returns-clause-pages : goal.returns-clause-pages
returns-clause-pages c = growth_changes_one
