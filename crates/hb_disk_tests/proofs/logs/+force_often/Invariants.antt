-- How many forces are left.
use Rattle.hb_disk_tests.proofs.logs.+force_often.Given as goal

abbrev pub decreases-force_often : goal.decreases-force_often
decreases-force_often g l = l.forces
