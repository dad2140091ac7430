use Rattle.hb_ops.proofs.Sound.{put_stays_sound, del_stays_sound}
use Rattle.hb_ops.proofs.laws.puts_and_deletes_keep_a_file_sound.Goals as goal

pub returns-clause-put : goal.returns-clause-put
returns-clause-put c = put_stays_sound

pub returns-clause-del : goal.returns-clause-del
returns-clause-del c = del_stays_sound
