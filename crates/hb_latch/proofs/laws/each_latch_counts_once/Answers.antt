use Rattle.hb_latch.proofs.Counts.{count_promoted}
use Rattle.hb_latch.proofs.laws.each_latch_counts_once.Goals as goal

pub returns-clause-promoted : goal.returns-clause-promoted
returns-clause-promoted c = count_promoted
