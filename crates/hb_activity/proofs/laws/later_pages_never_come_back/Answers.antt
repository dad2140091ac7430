use Rattle.hb_activity.proofs.Facts.LaterPages.{never_back}
use Rattle.hb_activity.proofs.laws.later_pages_never_come_back.Goals as goal

pub returns : goal.returns
returns c = never_back
