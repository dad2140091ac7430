use Rattle.hb_sound.proofs.FullyPostedWalks.{fully_posted_walks_are_short}
use Rattle.hb_sound.proofs.laws.fully_posted_walks_are_short.Goals as goal

pub returns : goal.returns
returns c = fully_posted_walks_are_short c.trees_and_space.ensures.trees c.trees_and_space.ensures.space
