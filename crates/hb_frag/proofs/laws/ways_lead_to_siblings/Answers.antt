use Rattle.hb_frag.proofs.Facts.SiblingWays.{no_way, way_leads}
use Rattle.hb_frag.proofs.laws.ways_lead_to_siblings.Goals as goal

pub returns-clause-leads : goal.returns-clause-leads
returns-clause-leads c = way_leads

pub returns-clause-none : goal.returns-clause-none
returns-clause-none c = no_way
