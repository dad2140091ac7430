use Rattle.hb_consol.proofs.AllowedMerges.{merges_are_allowed}
use Rattle.hb_consol.proofs.laws.a_merge_is_allowed.Goals as goal

pub returns : goal.returns
returns c = merges_are_allowed
