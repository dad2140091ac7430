use Rattle.hb_super.proofs.Facts.Gates.{never_both}
use Rattle.hb_super.proofs.Newest.{next_or_before}
use Rattle.hb_super.proofs.laws.one_turn_is_newer.Goals as goal

pub returns-clause-one : goal.returns-clause-one
returns-clause-one c = next_or_before

pub returns-clause-not_both : goal.returns-clause-not_both
returns-clause-not_both c = never_both
