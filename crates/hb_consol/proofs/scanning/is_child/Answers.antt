use Rattle.hb_consol.proofs.ScannedPairs.{named_as_child}
use Rattle.hb_consol.proofs.scanning.is_child.Goals as goal

pub returns : goal.returns
returns c = named_as_child c.names.result c.args.above.now c.args.page c.names.ensures
