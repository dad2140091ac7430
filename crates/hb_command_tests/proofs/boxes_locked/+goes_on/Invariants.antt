use Rattle.std.proofs.Common.{length}
use Rattle.hb_command_tests.proofs.boxes_locked.+goes_on.Given as goal

abbrev pub decreases-goes_on : goal.decreases-goes_on
decreases-goes_on a = length a.steps.now
