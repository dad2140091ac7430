use Rattle.hb_steps.proofs.keeping_laws.rows_can_be_done.Goals as goal
use Rattle.hb_steps.proofs.Room.PutHalves.{puts_find_room, rows_can_be_done}

pub returns-clause-room : goal.returns-clause-room
returns-clause-room c = puts_find_room

pub returns-clause-allowed : goal.returns-clause-allowed
returns-clause-allowed c = rows_can_be_done c.rows_are_allowed.ensures
