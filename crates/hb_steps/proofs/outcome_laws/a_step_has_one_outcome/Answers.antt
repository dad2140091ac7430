use Rattle.hb_steps.proofs.outcome_laws.a_step_has_one_outcome.Goals as goal
use Rattle.hb_steps.proofs.TwoSteps.OneOutcome.{outcome_is_one, state_is_one}

pub returns-clause-outcome : goal.returns-clause-outcome
returns-clause-outcome c = outcome_is_one

pub returns-clause-state : goal.returns-clause-state
returns-clause-state c = state_is_one c.what_is_made_can_be_written.ensures.operations.commits
