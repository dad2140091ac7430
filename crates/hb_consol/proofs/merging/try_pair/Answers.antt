use Rattle.std.proofs.Common.{◌≡◌, ℕ, ◌+◌, ap, ◌∙◌}
use Rattle.hb_activity.specs.Deciding.{deed_of}
use Rattle.hb_consol.specs.ConsolidatorRows.{pair_from, tries}
use Rattle.hb_consol.proofs.MadeRows.{few_leaves, other_plan}
use Rattle.hb_consol.proofs.merging.try_pair.Goals as goal

pub tries-requires : goal.tries-requires
tries-requires c =
    let pair = c.args.pair.now in
    few_leaves pair.meta.now pair.kept.now pair.layout pair.kept_fits

pub returns-in-NotContained : goal.returns-in-NotContained
returns-in-NotContained c =
    let pair = c.args.pair.now in
    let from : c.from.result + 1 ≡ c.args.leaf + 1 = ap (λ (n : ℕ). n + 1) c.from.ensures in (
      c.plan_for.result,
      c.plan_for.ensures,
      λ state. other_plan c.args.job pair.parent pair.keep pair.gone c.args.leaf pair.above.now pair.kept.now c.plan_for.result (deed_of state c.tries.result) c.in-NotContained.is
          (c.tries.ensures state ∙ ap (λ (n : ℕ). tries c.args.job pair.parent pair.above.now pair.keep (pair_from pair.above.now pair.kept.now n)) from),
    )
