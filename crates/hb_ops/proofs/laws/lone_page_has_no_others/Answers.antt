use Rattle.hb_ops.proofs.Facts.Contents.{lone_page}
use Rattle.hb_ops.proofs.laws.lone_page_has_no_others.Goals as goal

pub returns : goal.returns
returns c = lone_page
