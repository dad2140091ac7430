use Rattle.hb_terms.proofs.Facts.Owing.{one_plan}
use Rattle.hb_terms.proofs.laws.plans_exclude_each_other.Goals as goal

pub returns : goal.returns
returns c = one_plan
