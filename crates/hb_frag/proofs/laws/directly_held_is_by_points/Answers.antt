use Rattle.hb_frag.proofs.Facts.Direct.{direct_by_points}
use Rattle.hb_frag.proofs.laws.directly_held_is_by_points.Goals as goal

pub returns : goal.returns
returns c = direct_by_points
