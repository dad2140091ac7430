use Rattle.hb_steps.proofs.outcome_laws.a_kept_step_is_one.Goals as goal
use Rattle.hb_steps.proofs.Facts.NoDamage.{kept_step_is_one}

pub returns : goal.returns
returns c = kept_step_is_one c.what_is_made_can_be_written.ensures.operations.commits
