use Rattle.hb_sound.proofs.TowerFile.{ground_is_responsible, tower_is_sound, tower_walk}
use Rattle.hb_sound.proofs.examples.a_file_of_twelve_levels.Goals as goal

pub returns-clause-sound : goal.returns-clause-sound
returns-clause-sound c = tower_is_sound

pub returns-clause-walk : goal.returns-clause-walk
returns-clause-walk c = tower_walk

pub returns-clause-responsible : goal.returns-clause-responsible
returns-clause-responsible c = ground_is_responsible
