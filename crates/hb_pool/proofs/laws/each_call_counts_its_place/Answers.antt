use Rattle.hb_pool.proofs.Facts.Pooled.{last_counts, place_counts, brought_counts}
use Rattle.hb_pool.proofs.laws.each_call_counts_its_place.Goals as goal

pub returns-clause-last : goal.returns-clause-last
returns-clause-last c = last_counts

pub returns-clause-last_uses : goal.returns-clause-last_uses
returns-clause-last_uses c = last_counts

pub returns-clause-place : goal.returns-clause-place
returns-clause-place c = place_counts

pub returns-clause-place_uses : goal.returns-clause-place_uses
returns-clause-place_uses c = place_counts

pub returns-clause-another : goal.returns-clause-another
returns-clause-another c = brought_counts

pub returns-clause-another_use : goal.returns-clause-another_use
returns-clause-another_use c = brought_counts
