use Rattle.hb_wal.proofs.FrameSplits.{one_way}
use Rattle.hb_wal.proofs.laws.an_area_is_read_in_one_way.Goals as goal

pub returns : goal.returns
returns c = one_way
