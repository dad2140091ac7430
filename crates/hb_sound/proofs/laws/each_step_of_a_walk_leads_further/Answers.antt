use Rattle.hb_sound.proofs.Partition.{steps_lead_further}
use Rattle.hb_sound.proofs.laws.each_step_of_a_walk_leads_further.Goals as goal

pub returns : goal.returns
returns c = steps_lead_further c.trees_and_space.ensures.trees c.trees_and_space.ensures.space
