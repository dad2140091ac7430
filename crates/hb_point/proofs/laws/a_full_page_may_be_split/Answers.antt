use Rattle.hb_point.proofs.AllowedCommands.{full_pages_are_heavy, splits_are_allowed}
use Rattle.hb_point.proofs.laws.a_full_page_may_be_split.Goals as goal

pub returns-clause-heavy : goal.returns-clause-heavy
returns-clause-heavy c = full_pages_are_heavy

pub returns-clause-allowed : goal.returns-clause-allowed
returns-clause-allowed c = splits_are_allowed
