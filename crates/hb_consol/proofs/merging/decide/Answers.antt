use Rattle.std.proofs.Common.{inl}
use Rattle.std.proofs.lemmas.Result.{IfOk-weaker}
use Rattle.hb_terms.specs.declared.merging.MergePlan.TheVariants.{Merge}
use Rattle.hb_consol.proofs.merging.decide.Goals as goal

pub returns-else-pair-eq0-clause-row : goal.returns-else-pair-eq0-clause-row
returns-else-pair-eq0-clause-row c =
    IfOk-weaker c.merge.result _ _ (λ next is. (Merge, c.in-Merge.ensures, λ state pages free. inl (is state pages free))) c.merge.ensures
