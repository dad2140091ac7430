use Rattle.hb_steps.proofs.outcome_laws.a_step_aside_changes_no_file.Goals as goal
use Rattle.hb_steps.proofs.TwoSteps.Aside.{aside_changes_no_file}

pub returns : goal.returns
returns c = aside_changes_no_file
