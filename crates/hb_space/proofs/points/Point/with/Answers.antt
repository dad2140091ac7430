use Rattle.std.proofs.Common.{ℕ, List, set, ap, sym, subst, ◌∙◌}
use Rattle.hb_space.specs.Points.{IsPoint}
use Rattle.hb_space.proofs.Facts.Lists.{IsPoint-set, set_written}
use Rattle.hb_space.proofs.points.Point.with.Goals as goal

pub returns : goal.returns
returns c =
    set_written _ _ _ c.args.axis c.args.value c.as_mut_slice.ensures.value
    ∙ ap (λ (xs : List ℕ). set xs c.args.axis c.args.value) (c.point.view_is ∙ c.copy-point.ensures)

pub invariant_of-point : goal.invariant_of-point
invariant_of-point c =
    subst IsPoint (sym (returns c)) (IsPoint-set _ c.args.axis c.args.value (subst IsPoint (c.point.view_is ∙ c.copy-point.ensures) c.point.invariant) c.ranges.value.fits)
