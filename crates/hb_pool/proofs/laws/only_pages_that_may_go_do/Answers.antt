use Rattle.hb_pool.proofs.Facts.Others.{marked_pages_stay, none_goes}
use Rattle.hb_pool.proofs.laws.only_pages_that_may_go_do.Goals as goal

pub returns-clause-marked : goal.returns-clause-marked
returns-clause-marked c = marked_pages_stay

pub returns-clause-marked_uses : goal.returns-clause-marked_uses
returns-clause-marked_uses c = marked_pages_stay

pub returns-clause-empty : goal.returns-clause-empty
returns-clause-empty c = none_goes

pub returns-clause-empty_uses : goal.returns-clause-empty_uses
returns-clause-empty_uses c = none_goes
