use Rattle.std.proofs.Common.{◌↔◌, IsTrue, rules}
use Rattle.hb_space.specs.Boxes.{Meets}
use Rattle.hb_space.proofs.Facts.Boxes.{point_from_meeting, Meets-from_point}
use Rattle.hb_space.proofs.areas.Area.meets.Goals as goal

pub returns-then-is_at_most-clause-points : goal.returns-then-is_at_most-clause-points
returns-then-is_at_most-clause-points c =
    let overlap : IsTrue c.is_at_most-then-is_at_most.result ↔ Meets c.args.self.now c.args.o.now = search rules in
    (λ t. point_from_meeting _ _ c.lo.ensures.area c.hi.ensures.area c.requires (overlap.0 t), λ w. overlap.1 (Meets-from_point _ _ w.0 w.1 w.2))
