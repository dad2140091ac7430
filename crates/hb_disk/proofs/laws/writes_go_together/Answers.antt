use Rattle.hb_disk.proofs.Facts.TwoPieceLaws.{overwritten-apart, overwritten-joined}
use Rattle.hb_disk.proofs.laws.writes_go_together.Goals as goal

pub returns-clause-apart : goal.returns-clause-apart
returns-clause-apart c = overwritten-apart

pub returns-clause-joined : goal.returns-clause-joined
returns-clause-joined c = overwritten-joined
