use Rattle.std.proofs.Common.{◌≡◌, length, max, arith, ap, sym, ◌∙◌}
use Rattle.hb_space.specs.Boxes.{zip_by}
use Rattle.hb_space.proofs.Facts.Lists.{zip_by_more, zip_by_all, IsPoint-zip_by, max_chooses}
use Rattle.hb_space.proofs.points.Point.greater.Goals as goal

pub loop-axis-preserved : goal.loop-axis-preserved
loop-axis-preserved c =
    let same : length c.args.self.now ≡ length c.values-others.result.now = c.requires ∙ ap length (sym c.values-others.ensures.value) in
    let more = zip_by_more max c.args.self.now c.values-others.result.now c.loop-axis.axis same (omega (arith, ap length c.values-value-items.ensures.value)) in
    cc

pub invariant_of-result : goal.invariant_of-result
invariant_of-result c =
    let same : length c.args.self.now ≡ length c.values-others.result.now = c.requires ∙ ap length (sym c.values-others.ensures.value) in
    let all = zip_by_all max c.args.self.now c.values-others.result.now c.loop-axis.values.items c.loop-axis.axis same (omega (arith, ap length c.values-value-items.ensures.value)) c.loop-axis.invariant in
    rw all (IsPoint-zip_by max max_chooses _ _ same c.values-value-items.ensures.point (rw c.values-others.ensures.value c.values-others.ensures.point))

pub returns : goal.returns
returns c =
    let same : length c.args.self.now ≡ length c.values-others.result.now = c.requires ∙ ap length (sym c.values-others.ensures.value) in
    zip_by_all max c.args.self.now c.values-others.result.now c.loop-axis.values.items c.loop-axis.axis same (omega (arith, ap length c.values-value-items.ensures.value)) c.loop-axis.invariant ∙ ap (zip_by max c.args.self.now) c.values-others.ensures.value
