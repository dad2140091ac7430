use Rattle.hb_wal.proofs.FrameSplits.{somehow}
use Rattle.hb_wal.proofs.laws.every_area_is_read.Goals as goal

pub returns : goal.returns
returns c = somehow
