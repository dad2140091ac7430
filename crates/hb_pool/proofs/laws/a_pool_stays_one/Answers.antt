use Rattle.hb_pool.proofs.Facts.Pooled.{empty_pool, put_last_pool, in_place_pool, brought_pool}
use Rattle.hb_pool.proofs.laws.a_pool_stays_one.Goals as goal

pub returns-clause-none : goal.returns-clause-none
returns-clause-none c = empty_pool

pub returns-clause-none_used : goal.returns-clause-none_used
returns-clause-none_used c = empty_pool

pub returns-clause-last : goal.returns-clause-last
returns-clause-last c = put_last_pool

pub returns-clause-last_uses : goal.returns-clause-last_uses
returns-clause-last_uses c = put_last_pool

pub returns-clause-place : goal.returns-clause-place
returns-clause-place c = in_place_pool

pub returns-clause-place_uses : goal.returns-clause-place_uses
returns-clause-place_uses c = in_place_pool

pub returns-clause-another : goal.returns-clause-another
returns-clause-another c = brought_pool

pub returns-clause-another_use : goal.returns-clause-another_use
returns-clause-another_use c = brought_pool
