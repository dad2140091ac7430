use Rattle.hb_sound.proofs.LostFile.{last_is_responsible, lost_is_found, lost_is_sound}
use Rattle.hb_sound.proofs.examples.a_file_of_lost_postings.Goals as goal

pub returns-clause-sound : goal.returns-clause-sound
returns-clause-sound c = lost_is_sound

pub returns-clause-walk : goal.returns-clause-walk
returns-clause-walk c = lost_is_found

pub returns-clause-responsible : goal.returns-clause-responsible
returns-clause-responsible c = last_is_responsible
