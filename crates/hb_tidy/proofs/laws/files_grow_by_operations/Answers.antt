use Rattle.hb_tidy.proofs.Facts.Grown.{files_grow_by_operations}
use Rattle.hb_tidy.proofs.laws.files_grow_by_operations.Goals as goal

pub returns : goal.returns
returns c = files_grow_by_operations
