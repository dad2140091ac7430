use Rattle.hb_ops.proofs.Facts.Contents.{put_adds_one}
use Rattle.hb_ops.proofs.laws.put_adds_one_record.Goals as goal

pub returns : goal.returns
returns c = put_adds_one
