use Rattle.hb_command_tests.proofs.searches.+found_by.Given as goal

abbrev pub decreases-found_by : goal.decreases-found_by
decreases-found_by a = a.steps
