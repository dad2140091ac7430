use Rattle.hb_steps.proofs.laws.a_step_changes_its_own_pages.Goals as goal
use Rattle.hb_steps.proofs.Memory.OwnPages.{held_pages_stay, own_pages_change}

pub returns-clause-own : goal.returns-clause-own
returns-clause-own c = own_pages_change

pub returns-clause-held : goal.returns-clause-held
returns-clause-held c = held_pages_stay
