use Rattle.hb_sound.proofs.SmallFile.{hundred_right, seven_left, small_is_sound, walks_across, walks_down}
use Rattle.hb_sound.proofs.examples.a_file_of_two_levels.Goals as goal

pub returns-clause-sound : goal.returns-clause-sound
returns-clause-sound c = small_is_sound

pub returns-clause-left : goal.returns-clause-left
returns-clause-left c = seven_left

pub returns-clause-right : goal.returns-clause-right
returns-clause-right c = hundred_right

pub returns-clause-down : goal.returns-clause-down
returns-clause-down c = walks_down

pub returns-clause-across : goal.returns-clause-across
returns-clause-across c = walks_across
