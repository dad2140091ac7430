use Rattle.hb_frag.proofs.Facts.Tiles.{tiles_areas, tiles_attributes, tiles_within, tiles_disjoint, tiles_cover}
use Rattle.hb_frag.proofs.laws.leaves_part_the_box.Goals as goal

pub returns-clause-areas : goal.returns-clause-areas
returns-clause-areas c = tiles_areas

pub returns-clause-attributes : goal.returns-clause-attributes
returns-clause-attributes c = tiles_attributes

pub returns-clause-within : goal.returns-clause-within
returns-clause-within c = tiles_within

pub returns-clause-disjoint : goal.returns-clause-disjoint
returns-clause-disjoint c = tiles_disjoint

pub returns-clause-cover : goal.returns-clause-cover
returns-clause-cover c = tiles_cover
