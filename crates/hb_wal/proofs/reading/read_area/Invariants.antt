use Rattle.hb_wal.specs.Reading.{HasRead}
use Rattle.hb_wal.proofs.reading.read_area.Given as goal

abbrev pub invariant-loop-payloads : goal.invariant-loop-payloads
invariant-loop-payloads g l = HasRead (g.D.Device.model l.fn.disk) (g.D.Device.model l.disk) l.area l.len l.left l.payloads

abbrev pub decreases-loop-payloads : goal.decreases-loop-payloads
decreases-loop-payloads g l = l.left
