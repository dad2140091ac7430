use Rattle.std.proofs.Common.{◌↔◌, IsTrue, rules}
use Rattle.hb_space.specs.Boxes.{Within}
use Rattle.hb_space.proofs.Facts.Boxes.{within_by_points}
use Rattle.hb_space.proofs.areas.Area.within.Goals as goal

pub returns-then-is_at_most-clause-points : goal.returns-then-is_at_most-clause-points
returns-then-is_at_most-clause-points c =
    let corners : IsTrue c.is_at_most-then-is_at_most.result ↔ Within c.args.self.now c.args.o.now = search rules in
    let points = within_by_points _ _ c.lo-2.ensures.area c.requires in
    (λ t. points.0 (corners.0 t), λ held. corners.1 (points.1 held))

pub returns-else-is_at_most-clause-points : goal.returns-else-is_at_most-clause-points
returns-else-is_at_most-clause-points c =
    let corners : IsTrue c.is_at_most.result ↔ Within c.args.self.now c.args.o.now = search rules in
    let points = within_by_points _ _ c.lo-2.ensures.area c.requires in
    (λ t. points.0 (corners.0 t), λ held. corners.1 (points.1 held))
