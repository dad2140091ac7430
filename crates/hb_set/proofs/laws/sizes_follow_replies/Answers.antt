use Rattle.hb_set.proofs.Facts.SizeLaws.{sizes_follow}
use Rattle.hb_set.proofs.laws.sizes_follow_replies.Goals as goal

pub returns : goal.returns
returns c = sizes_follow
