use Rattle.std.proofs.Common.{◌≡◌, subst, rules}
use Rattle.hb_space.specs.Boxes.{IsArea, Meets, common_area}
use Rattle.hb_space.proofs.Facts.Boxes.{IsArea-common_area, Holds-common_area, Within-common_area}
use Rattle.hb_space.proofs.areas.Area.common.Goals as goal

pub of_corners-requires : goal.of_corners-requires
of_corners-requires c =
    let m : Meets c.args.self.now c.args.o.now = search rules in
    let e : common_area c.args.self.now c.args.o.now ≡ record { lo = c.greater-lo.result; hi = c.lesser-hi.result } = search rules in
    subst IsArea e (IsArea-common_area _ _ c.lo.ensures.area c.hi-then-meets.ensures.area c.requires m)

pub returns-then-meets-clause-points : goal.returns-then-meets-clause-points
returns-then-meets-clause-points c = λ p.
    let e : c.of_corners.result ≡ common_area c.args.self.now c.args.o.now = search rules in
    rw e (Holds-common_area _ _ p c.lo.ensures.area c.hi-then-meets.ensures.area c.requires)

pub returns-then-meets-clause-inside : goal.returns-then-meets-clause-inside
returns-then-meets-clause-inside c =
    let m : Meets c.args.self.now c.args.o.now = search rules in
    let e : c.of_corners.result ≡ common_area c.args.self.now c.args.o.now = search rules in
    rw e (Within-common_area _ _ c.lo.ensures.area c.hi-then-meets.ensures.area c.requires m)
