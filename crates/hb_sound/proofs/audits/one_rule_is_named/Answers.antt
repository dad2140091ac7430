use Rattle.hb_sound.proofs.NamesOnce.{same_names}
use Rattle.hb_sound.proofs.audits.one_rule_is_named.Goals as goal

pub returns : goal.returns
returns c = same_names
