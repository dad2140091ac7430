use Rattle.hb_consol.proofs.NamedPairs.{pairs_are_named}
use Rattle.hb_consol.proofs.laws.the_parent_names_what_is_tried.Goals as goal

pub returns : goal.returns
returns c = pairs_are_named
