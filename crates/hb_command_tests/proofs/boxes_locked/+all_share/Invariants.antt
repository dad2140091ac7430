use Rattle.std.proofs.Common.{◌-◌}
use Rattle.hb_command_tests.proofs.boxes_locked.+all_share.Given as goal

abbrev pub decreases-all_share : goal.decreases-all_share
decreases-all_share a = 20 - a.actor
