use Rattle.hb_frag.proofs.Facts.Parts.{stays_where_some}
use Rattle.hb_frag.proofs.laws.paths_inside_lead_to_parts.Goals as goal

pub returns : goal.returns
returns c = stays_where_some
