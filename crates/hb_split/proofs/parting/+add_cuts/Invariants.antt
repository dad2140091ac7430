use Rattle.std.proofs.Common.{length}
use Rattle.hb_split.proofs.parting.+add_cuts.Given as goal

abbrev pub decreases-add_cuts : goal.decreases-add_cuts
decreases-add_cuts a = length a.records.now
