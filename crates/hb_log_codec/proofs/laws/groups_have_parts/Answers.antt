use Rattle.hb_log_codec.proofs.PartLaws.{have_parts}
use Rattle.hb_log_codec.proofs.laws.groups_have_parts.Goals as goal

pub returns : goal.returns
returns c = have_parts
