use Rattle.hb_sound.proofs.OneParent.{no_other_parent}
use Rattle.hb_sound.proofs.laws.no_page_has_another_parent.Goals as goal

pub returns : goal.returns
returns c = no_other_parent c.trees_and_space.ensures.trees c.trees_and_space.ensures.space
