use Rattle.hb_ops.proofs.Looks.{absence_is_contents, records_are_contents}
use Rattle.hb_ops.proofs.laws.what_stands_is_in_the_contents.Goals as goal

pub returns : goal.returns
returns c = record { there = records_are_contents; absent = absence_is_contents }
