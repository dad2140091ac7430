use Rattle.hb_sound.proofs.Facts.NoneBroken.{sound_breaks_none}
use Rattle.hb_sound.proofs.audits.a_sound_file_breaks_no_rule.Goals as goal

pub returns : goal.returns
returns c = sound_breaks_none
