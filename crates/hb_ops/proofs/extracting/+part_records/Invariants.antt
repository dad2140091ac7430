use Rattle.std.proofs.Common.{length, ◌-◌}
use Rattle.hb_ops.proofs.extracting.+part_records.Given as goal

abbrev pub decreases-part_records : goal.decreases-part_records
decreases-part_records a = length a.cuts.now - a.place
