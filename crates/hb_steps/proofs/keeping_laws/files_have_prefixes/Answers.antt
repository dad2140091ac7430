use Rattle.hb_steps.proofs.keeping_laws.files_have_prefixes.Goals as goal
use Rattle.hb_steps.proofs.Orders.Prefixes.{files_have_prefixes}

pub returns : goal.returns
returns c = files_have_prefixes
