use Rattle.hb_ops.proofs.Facts.Contents.{del_takes_one}
use Rattle.hb_ops.proofs.laws.delete_takes_one_record.Goals as goal

pub returns : goal.returns
returns c = del_takes_one
