-- A row of the consolidator that holds of what its decider was given holds of what the machine shows.
use Rattle.hb_core.proofs.Running.Names.{◌≡◌, inl, inr, ℕ, ◌+◌, ◌<◌, ◌∷◌, Option, Some, None, refl, ap, ◌∙◌, subst, LivePage, first_named, siblings_of, Meta, Area, Job, Activity, Deed, Sight, ConsolidatorRow}
use Rattle.hb_frag.specs.Rules.{capacity_of}
use Rattle.hb_ops.specs.declared.operations.Op.TheVariants as ops
use Rattle.hb_ops.specs.Merging.{parent_page}
use Rattle.hb_terms.specs.declared.merging.MergePlan.{MergePlan}
use Rattle.hb_terms.specs.declared.merging.MergePlan.TheVariants as plans
use Rattle.hb_terms.specs.Merging.{IsMergePlan}
use Rattle.hb_activity.specs.declared.activities.Activity.TheVariants as at
use Rattle.hb_activity.specs.Deeds.{does}
use Rattle.hb_consol.specs.ConsolidatorRows.{HasMergePlan, after_try, children_of, first_one, one_behind, pair_from, scans, tries}
use Rattle.hb_consol.specs.MergeRows.{DoesMerge, after_keep, merges_above}
use Rattle.hb_core.proofs.Running.LiftedRows.{IsSeenIn}
use Rattle.hb_core.specs.Moving.{placed}

module _ (s t : Sight) (seen : IsSeenIn t s) where
  abbrev at_end : Deed → Deed
  at_end deed = placed t.place deed

  -- ---- where it stands next awaits no place

  scanned : (job : Job) (parent : ℕ) (child : Option ℕ) → at_end (scans job parent child) ≡ scans job parent child
  scanned job parent None = refl
  scanned job parent (Some child) = refl

  tried : (job : Job) (parent keep : ℕ) (above : LivePage) (pair : Option (ℕ × ℕ)) → at_end (tries job parent above keep pair) ≡ tries job parent above keep pair
  tried job parent keep above None = scanned job parent (one_behind keep (children_of above))
  tried job parent keep above (Some (gone, leaf)) = refl

  tried_so : (job : Job) (parent keep gone leaf : ℕ) (above kept : LivePage) (plan : MergePlan) → at_end (after_try job parent keep gone leaf above kept plan) ≡ after_try job parent keep gone leaf above kept plan
  tried_so job parent keep gone leaf above kept plans.Merge = refl
  tried_so job parent keep gone leaf above kept plans.NotContained = tried job parent keep above (pair_from above kept (leaf + 1))
  tried_so job parent keep gone leaf above kept plans.ManyParents = tried job parent keep above (pair_from above kept (leaf + 1))
  tried_so job parent keep gone leaf above kept plans.TooHeavy = tried job parent keep above (pair_from above kept (leaf + 1))

  kept_so : (job : Job) (parent keep gone : ℕ) (area : Option Area) → at_end (after_keep job parent keep gone area) ≡ after_keep job parent keep gone area
  kept_so job parent keep gone None = refl
  kept_so job parent keep gone (Some area) = refl

  -- ---- what is planned

  abbrev has_plan : (parent keep gone : ℕ) (page : LivePage) → HasMergePlan s parent keep gone page → HasMergePlan t parent keep gone page
  has_plan parent keep gone page has = record {
    above = has.above;
    above_live = seen.pages parent has.above has.above_live;
    kept = has.kept;
    kept_live = seen.pages keep has.kept has.kept_live;
    plan = has.plan;
    planned = subst (λ (m : Meta). IsMergePlan has.above has.kept gone page (capacity_of page.level m.dcap m.icap) has.plan) seen.meta has.planned;
  }

  decides : (job : Job) (parent keep gone : ℕ) (above : LivePage) (plan : MergePlan) (deed : Deed) → DoesMerge s job parent keep gone above plan deed → DoesMerge t job parent keep gone above plan (at_end deed)
  decides job parent keep gone above plans.Merge deed (inl row) = inl (record {
    live = subst (λ (m : Meta). 0 < m.live) seen.meta row.live;
    deed_is = ap at_end row.deed_is ∙ ap (λ (m : Meta). does at.ConsolidatorIdle (ops.Merge parent keep gone) (job ∷ merges_above job (parent_page keep gone above) m.icap)) seen.meta;
  })
  decides job parent keep gone above plans.Merge deed (inr row) = inr (record { none_live = subst (λ (m : Meta). m.live ≡ 0) seen.meta row.none_live; deed_is = ap at_end row.deed_is })
  decides job parent keep gone above plans.NotContained deed is = ap at_end is
  decides job parent keep gone above plans.ManyParents deed is = ap at_end is
  decides job parent keep gone above plans.TooHeavy deed is = ap at_end is

  -- ---- every row

  pub lifted_merger : (activity : Activity) (id : ℕ) (page : LivePage) (deed : Deed) → ConsolidatorRow activity s id page deed → ConsolidatorRow activity t id page (at_end deed)
  lifted_merger (at.ConsolidatorWalk job held) id page deed (inl row) = inl (record { level = row.level; leads = row.leads; deed_is = ap at_end row.deed_is ∙ scanned job id (first_one (children_of page)) })
  lifted_merger (at.ConsolidatorWalk job held) id page deed (inr row) = inr (record {
    farther = row.farther;
    passes = record { leaf = row.passes.leaf; area = row.passes.area; at_point = row.passes.at_point; names = row.passes.names; deed_is = ap at_end row.passes.deed_is };
  })
  lifted_merger (at.ConsolidatorScan job parent child) id page deed row =
      record { above = row.above; live = seen.pages parent row.above row.live; deed_is = ap at_end row.deed_is ∙ tried job parent child row.above (pair_from row.above page 0) }
  lifted_merger (at.ConsolidatorTry job parent keep gone leaf) id page deed row =
      record { has = has_plan parent keep gone page row.has; deed_is = ap at_end row.deed_is ∙ tried_so job parent keep gone leaf row.has.above row.has.kept row.has.plan }
  lifted_merger (at.ConsolidatorPromote job parent keep gone) id page deed row = ap at_end row
  lifted_merger (at.ConsolidatorKeep job parent keep gone) id page deed row = ap at_end row ∙ kept_so job parent keep gone (first_named gone (siblings_of page))
  lifted_merger (at.ConsolidatorDecide job parent keep gone) id page deed row =
      record { has = has_plan parent keep gone page row.has; does_it = decides job parent keep gone row.has.above row.has.plan deed row.does_it }
  lifted_merger activity id page deed row = absurd row
