use Rattle.hb_log_codec.proofs.Lengths.{group_short}
use Rattle.hb_log_codec.proofs.laws.groups_are_short.Goals as goal

pub returns-clause-short : goal.returns-clause-short
returns-clause-short c = group_short
