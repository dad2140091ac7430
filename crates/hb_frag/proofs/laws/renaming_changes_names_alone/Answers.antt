use Rattle.hb_frag.proofs.Facts.Renamed.{renames}
use Rattle.hb_frag.proofs.laws.renaming_changes_names_alone.Goals as goal

pub returns : goal.returns
returns c = renames
