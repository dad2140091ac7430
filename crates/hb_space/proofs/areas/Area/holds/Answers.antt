use Rattle.std.proofs.Common.{◌↔◌, IsTrue, rules, subst}
use Rattle.hb_space.specs.Boxes.{Holds, IsArea}
use Rattle.hb_space.proofs.Facts.Boxes.{test_is_holds}
use Rattle.hb_space.proofs.areas.Area.holds.Goals as goal

pub returns-then-is_at_most-clause-value : goal.returns-then-is_at_most-clause-value
returns-then-is_at_most-clause-value c =
    let points : IsTrue c.is_at_most-then-is_at_most.result ↔ Holds c.args.self.now c.args.p.now = search rules in
    test_is_holds _ _ _ (subst IsArea c.self.view_is c.self.invariant) c.requires points

pub returns-else-is_at_most-clause-value : goal.returns-else-is_at_most-clause-value
returns-else-is_at_most-clause-value c =
    let points : IsTrue c.is_at_most.result ↔ Holds c.args.self.now c.args.p.now = search rules in
    test_is_holds _ _ _ (subst IsArea c.self.view_is c.self.invariant) c.requires points
