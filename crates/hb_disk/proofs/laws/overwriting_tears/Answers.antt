use Rattle.hb_disk.proofs.Facts.OverwrittenLaws.{Torn-overwritten, overwritten-reads}
use Rattle.hb_disk.proofs.laws.overwriting_tears.Goals as goal

pub returns-clause-torn : goal.returns-clause-torn
returns-clause-torn c = Torn-overwritten

pub returns-clause-read : goal.returns-clause-read
returns-clause-read c = overwritten-reads
