use Rattle.hb_pool.proofs.Facts.Others.{came_in, no_other_came}
use Rattle.hb_pool.proofs.laws.what_comes_in_changes_no_other.Goals as goal

pub returns-clause-there : goal.returns-clause-there
returns-clause-there c = came_in

pub returns-clause-there_uses : goal.returns-clause-there_uses
returns-clause-there_uses c = came_in

pub returns-clause-others : goal.returns-clause-others
returns-clause-others c = no_other_came

pub returns-clause-others_uses : goal.returns-clause-others_uses
returns-clause-others_uses c = no_other_came
