use Rattle.hb_steps.proofs.machine_laws.no_page_is_latched_twice.Goals as goal
use Rattle.hb_steps.proofs.Walks.AtHand.{no_page_is_latched_twice}

pub returns : goal.returns
returns c = no_page_is_latched_twice
