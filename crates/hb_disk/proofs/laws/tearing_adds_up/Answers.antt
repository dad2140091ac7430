use Rattle.hb_disk.proofs.Facts.TornLaws.{Torn-twice, Torn-wider, Torn-none, Torn-elsewhere}
use Rattle.hb_disk.proofs.laws.tearing_adds_up.Goals as goal

pub returns-clause-twice : goal.returns-clause-twice
returns-clause-twice c = Torn-twice

pub returns-clause-wider : goal.returns-clause-wider
returns-clause-wider c = Torn-wider

pub returns-clause-nowhere : goal.returns-clause-nowhere
returns-clause-nowhere c = Torn-none

pub returns-clause-elsewhere : goal.returns-clause-elsewhere
returns-clause-elsewhere c = Torn-elsewhere
