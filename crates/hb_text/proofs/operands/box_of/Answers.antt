use Rattle.std.proofs.Common.{◌∙◌}
use Rattle.hb_text.proofs.ValueWords.{boxed}
use Rattle.hb_text.proofs.operands.box_of.Goals as goal

pub returns : goal.returns
returns c =
    c.ok_or.ensures.value
    ∙ boxed c.args.values.now c.new-lo.result c.new-hi.result c.between.result
    (c.new-lo.ensures ∙ c.as_slice.ensures.value ∙ c.corners-lower.ensures.lower)
    (c.new-hi.ensures ∙ c.as_slice-2.ensures.value ∙ c.corners-lower.ensures.upper)
    c.between.ensures.made c.between.ensures.corners
