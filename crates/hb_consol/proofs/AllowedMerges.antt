-- A merge that the consolidator decides is allowed on the pages that its row is given.
use Rattle.std.proofs.Common.{◌≡◌, ℕ, ◌<◌, inl, inr, Some, refl, subst, arith}
use Rattle.hb_activity.proofs.Facts.AllowedDeeds.{Shows, none_shown, one_shown}
use Rattle.hb_activity.specs.declared.jobs.Job.{Job}
use Rattle.hb_activity.specs.Deeds.{Deed}
use Rattle.hb_activity.specs.Sights.{Sight}
use Rattle.hb_consol.specs.Laws.{MergesAreAllowed}
use Rattle.hb_consol.specs.MergeRows.{DoesMerge}
use Rattle.hb_frag.specs.Rules.{capacity_of}
use Rattle.hb_frag.specs.declared.pages.LivePage.{LivePage}
use Rattle.hb_ops.specs.Merging.{ArePagesToMerge, FitsMerge, MayMerge}
use Rattle.hb_ops.specs.Operations.{IsAllowedOn}
use Rattle.hb_ops.specs.declared.operations.Op.{Op}
use Rattle.hb_ops.specs.declared.operations.Op.TheVariants as ops
use Rattle.hb_terms.specs.Merging.{IsMergePlan}
use Rattle.hb_terms.specs.declared.merging.MergePlan.{MergePlan}
use Rattle.hb_terms.specs.declared.merging.MergePlan.TheVariants as plans

module _ (s : Sight) (job : Job) (parent keep gone : ℕ) (above kept page : LivePage) (hand : ArePagesToMerge s.meta parent keep gone above kept page) where
  abbrev Allowed : Op → Type 0
  Allowed op = IsAllowedOn op s.meta (Some above) (Some kept) (Some page)

  -- both children are of one level
  fits : MayMerge above kept gone page (capacity_of page.level s.meta.dcap s.meta.icap) → 0 < s.meta.live → FitsMerge s.meta parent keep gone above kept page
  fits may live =
      let level : page.level ≡ kept.level = let a = hand.kept_level in let b = hand.gone_level in omega (arith, a, b) in
      record {
        pages = hand;
        some_live = omega (arith, live);
        may = subst (λ (n : ℕ). MayMerge above kept gone page (capacity_of n s.meta.dcap s.meta.icap)) level may;
      }

  pub plan_allowed : (plan : MergePlan) (deed : Deed) → IsMergePlan above kept gone page (capacity_of page.level s.meta.dcap s.meta.icap) plan → DoesMerge s job parent keep gone above plan deed → Shows Allowed deed
  plan_allowed plans.NotContained deed planned is = none_shown Allowed deed _ is refl
  plan_allowed plans.ManyParents deed planned is = none_shown Allowed deed _ is refl
  plan_allowed plans.TooHeavy deed planned is = none_shown Allowed deed _ is refl
  plan_allowed plans.Merge deed planned (inl row) = one_shown Allowed deed _ (ops.Merge parent keep gone) row.deed_is refl (fits planned row.live)
  plan_allowed plans.Merge deed planned (inr row) = none_shown Allowed deed _ row.deed_is refl

pub merges_are_allowed : MergesAreAllowed
merges_are_allowed s job parent keep gone page deed op row hand is = plan_allowed s job parent keep gone row.has.above row.has.kept page hand row.has.plan deed row.has.planned row.does_it op is
