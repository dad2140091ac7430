use Rattle.std.proofs.Common.{◌∷◌, [], ◌++◌, List, ℕ, ap, ◌∙◌, arith}
use Rattle.hb_view.proofs.Cornered.{one_more, all_taken}
use Rattle.hb_view.proofs.corners.corner_at.Goals as goal

pub loop-axis-preserved : goal.loop-axis-preserved
loop-axis-preserved c =
    c.push.ensures.items ∙ ap (λ (l : List ℕ). l ++ c.value_at.result ∷ []) c.loop-axis.invariant
    ∙ one_more c.args.k.number c.loop-axis.axis c.value_at.result c.args.bytes.now (omega (arith, c.loop-axis-test.true, c.from-axis-end.ensures)) c.requires c.value_at.ensures

pub returns : goal.returns
returns c = c.loop-axis.invariant ∙ all_taken c.args.k.number c.loop-axis.axis c.args.bytes.now (omega (arith, c.loop-axis-test.false, c.from-axis-end.ensures)) c.requires
