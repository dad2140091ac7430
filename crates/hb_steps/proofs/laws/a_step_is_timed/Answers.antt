use Rattle.hb_steps.proofs.laws.a_step_is_timed.Goals as goal
use Rattle.hb_steps.proofs.Memory.Moments.{answers_are_timed, clock_moves}

pub returns-clause-clock : goal.returns-clause-clock
returns-clause-clock c = clock_moves

pub returns-clause-answered : goal.returns-clause-answered
returns-clause-answered c = answers_are_timed
