use Rattle.hb_frag.proofs.Facts.Points.{way_ends}
use Rattle.hb_frag.proofs.laws.ways_lead_to_leaves.Goals as goal

pub returns : goal.returns
returns c = way_ends
