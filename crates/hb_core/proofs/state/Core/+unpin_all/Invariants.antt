use Rattle.std.proofs.Common.{length}
use Rattle.hb_core.proofs.state.Core.+unpin_all.Given as goal

abbrev pub decreases-unpin_all : goal.decreases-unpin_all
decreases-unpin_all g l = length l.pages.now
