use Rattle.hb_restart.proofs.NewFile.{new_is_sound}
use Rattle.hb_restart.proofs.layout.a_new_file_is_sound.Goals as goal

pub returns-clause-sound : goal.returns-clause-sound
returns-clause-sound c = new_is_sound
