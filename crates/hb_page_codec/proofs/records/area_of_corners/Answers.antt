use Rattle.hb_page_codec.proofs.Facts.Ordered.{is_between}
use Rattle.hb_page_codec.proofs.records.area_of_corners.Goals as goal

pub returns : goal.returns
returns c = is_between c.args.lo c.args.hi c.between.result c.requires c.between.ensures.made c.between.ensures.corners
