use Rattle.hb_frag.proofs.Facts.Tiles.{leaves_changed, cuts_kept}
use Rattle.hb_frag.proofs.laws.a_change_stays_at_its_leaf.Goals as goal

pub returns-clause-leaves : goal.returns-clause-leaves
returns-clause-leaves c = leaves_changed

pub returns-clause-cuts : goal.returns-clause-cuts
returns-clause-cuts c = cuts_kept
