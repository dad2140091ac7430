use Rattle.std.proofs.Common.{subst}
use Rattle.hb_layout.specs.declared.meta.Meta.{Meta}
use Rattle.hb_super.specs.Superblocks.{IsNewest}
use Rattle.hb_super.proofs.laws.a_known_body_is_uncovered.Goals as goal

pub returns : goal.returns
returns c' = λ before c turn meta none is.
    subst (λ (m : Meta). IsNewest c turn m) (none is.closed is.said is.newest.there.legal is.body) is.newest
