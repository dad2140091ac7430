use Rattle.hb_frag.proofs.Facts.Tiles.{leaves_placed}
use Rattle.hb_frag.proofs.laws.placed_leaves_are_the_leaves.Goals as goal

pub returns : goal.returns
returns c = leaves_placed
