use Rattle.hb_tidy.proofs.LeftAlone.{tidy_files_are_left_alone}
use Rattle.hb_tidy.proofs.laws.tidy_files_are_left_alone.Goals as goal

pub returns : goal.returns
returns c = tidy_files_are_left_alone
