use Rattle.hb_steps.proofs.machine_laws.rows_may_be_done.Goals as goal
use Rattle.hb_steps.proofs.Files.RowsDoable.{rows_may_be_done}

pub returns : goal.returns
returns c = rows_may_be_done c.what_is_made_can_be_written.ensures.operations.fits c.held_is_a_point.ensures c.rows_are_allowed.ensures
