use Rattle.hb_steps.proofs.file_laws.rows_are_licensed.Goals as goal
use Rattle.hb_steps.proofs.Files.SoundFiles.{rows_are_licensed}

pub returns : goal.returns
returns c =
    rows_are_licensed
    c.what_is_made_can_be_written.ensures.operations
    c.held_is_a_point.ensures
