use Rattle.std.proofs.Common.{ap, arith}
use Rattle.std.specs.FinMap as map
use Rattle.hb_set.proofs.Views.{len_is}
use Rattle.hb_set.proofs.set.Set.len.Goals as goal

pub returns : goal.returns
returns c = omega (arith, c.len.ensures, c.self.inside.records.ok.0, len_is c.self.inside.records.items c.self.invariant, ap map.len c.self.view_is)
