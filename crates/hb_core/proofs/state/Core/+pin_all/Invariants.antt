use Rattle.std.proofs.Common.{length}
use Rattle.hb_core.proofs.state.Core.+pin_all.Given as goal

abbrev pub decreases-pin_all : goal.decreases-pin_all
decreases-pin_all g l = length l.latches.now
