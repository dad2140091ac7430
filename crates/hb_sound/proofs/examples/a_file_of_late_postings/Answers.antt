use Rattle.hb_sound.proofs.LateFile.{late_is_sound}
use Rattle.hb_sound.proofs.LateWalks.{late_walks_end, late_walks_lead}
use Rattle.hb_sound.proofs.examples.a_file_of_late_postings.Goals as goal

pub returns-clause-sound : goal.returns-clause-sound
returns-clause-sound c = late_is_sound

pub returns-clause-walks : goal.returns-clause-walks
returns-clause-walks c = late_walks_lead

pub returns-clause-responsible : goal.returns-clause-responsible
returns-clause-responsible c = late_walks_end
