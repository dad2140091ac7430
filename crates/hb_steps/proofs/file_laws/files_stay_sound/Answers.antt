use Rattle.hb_steps.proofs.file_laws.files_stay_sound.Goals as goal
use Rattle.hb_steps.proofs.Files.SoundFiles.{files_stay_sound}

pub returns : goal.returns
returns c =
    files_stay_sound
    c.what_is_made_can_be_written.ensures.operations
    c.held_is_a_point.ensures c.operations_keep_a_file_sound.ensures.sound
