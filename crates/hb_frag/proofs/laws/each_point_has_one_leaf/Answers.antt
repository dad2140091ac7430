use Rattle.hb_frag.proofs.Facts.Tiles.{found_where_held, first_tells}
use Rattle.hb_frag.proofs.laws.each_point_has_one_leaf.Goals as goal

pub returns-clause-some : goal.returns-clause-some
returns-clause-some c = found_where_held

pub returns-clause-only : goal.returns-clause-only
returns-clause-only c = first_tells
