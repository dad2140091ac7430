-- Two rows of a consolidator at a parent, over memories that have the same pages, are one deed.
use Rattle.hb_steps.proofs.TwoSteps.Names.{◌≡◌, inl, inr, ℕ, ◌+◌, ◌∷◌, Option, Some, None, refl, sym, ap, ◌∙◌, subst, arith, Meta, LivePage, Job, Deed, does, children_of, Machine, live_here, with_disk, sight, Area, StoreState}
use Rattle.hb_ops.specs.declared.operations.Op.TheVariants as ops
use Rattle.hb_terms.specs.declared.merging.MergePlan.{MergePlan}
use Rattle.hb_terms.specs.declared.merging.MergePlan.TheVariants as plans
use Rattle.hb_activity.specs.declared.activities.Activity.TheVariants as at
use Rattle.hb_consol.specs.ConsolidatorRows.{HasMergePlan, Scans, TriesPair, after_try, one_behind, pair_from, scans, tries}
use Rattle.hb_consol.specs.MergeRows.{Decides, DoesMerge, after_keep, merges_above, takes_keep}
use Rattle.hb_frag.specs.Leaves.{first_named, siblings_of}
use Rattle.hb_frag.specs.Rules.{capacity_of}
use Rattle.hb_ops.specs.Merging.{parent_page}
use Rattle.hb_terms.proofs.Facts.OneMerge.{one_merge}
use Rattle.hb_terms.specs.Merging.{IsMergePlan}

module _ (m : Machine) (f g : StoreState) where
  abbrev pub m1 : Machine
  m1 = with_disk f m.files m.clock m

  abbrev pub m2 : Machine
  m2 = with_disk g m.files m.clock m

  pub same_scan : (job : Job) (parent : ℕ) (child : Option ℕ) → scans job parent child ≡ scans job parent child
  same_scan job parent None = refl
  same_scan job parent (Some child) = refl

  same_try : (job : Job) (parent keep : ℕ) (above : LivePage) (pair : Option (ℕ × ℕ)) → tries job parent above keep pair ≡ tries job parent above keep pair
  same_try job parent keep above None = same_scan job parent (one_behind keep (children_of above))
  same_try job parent keep above (Some (gone, leaf)) = refl

  same_after : (job : Job) (parent keep gone leaf : ℕ) (above kept : LivePage) (plan : MergePlan) → after_try job parent keep gone leaf above kept plan ≡ after_try job parent keep gone leaf above kept plan
  same_after job parent keep gone leaf above kept plans.Merge = refl
  same_after job parent keep gone leaf above kept plans.NotContained = same_try job parent keep above (pair_from above kept (leaf + 1))
  same_after job parent keep gone leaf above kept plans.ManyParents = same_try job parent keep above (pair_from above kept (leaf + 1))
  same_after job parent keep gone leaf above kept plans.TooHeavy = same_try job parent keep above (pair_from above kept (leaf + 1))

  same_keep : (job : Job) (parent keep gone : ℕ) (area : Option Area) → after_keep job parent keep gone area ≡ after_keep job parent keep gone area
  same_keep job parent keep gone None = refl
  same_keep job parent keep gone (Some area) = refl

  module _ (meta : f.meta ≡ g.meta) (alike : (id : ℕ) (a b : LivePage) → live_here f id ≡ Some a → live_here g id ≡ Some b → a ≡ b) where
    pub one_scan : (job : Job) (parent child : ℕ) (page : LivePage) (d e : Deed) → Scans (sight m1) job parent child page d → Scans (sight m2) job parent child page e → d ≡ e
    one_scan job parent child page d e a b =
        a.deed_is ∙ ap (λ (q : LivePage). tries job parent q child (pair_from q page 0)) (alike parent a.above b.above a.live b.live)
        ∙ same_try job parent child b.above (pair_from b.above page 0) ∙ sym b.deed_is

    -- the plan of a pair
    one_plan : (parent keep gone : ℕ) (page : LivePage) (a : HasMergePlan (sight m1) parent keep gone page) (b : HasMergePlan (sight m2) parent keep gone page) → a.plan ≡ b.plan
    one_plan parent keep gone page a b =
        let above = alike parent a.above b.above a.above_live b.above_live in
        let kept = alike keep a.kept b.kept a.kept_live b.kept_live in
        let first = subst (λ (q : LivePage). IsMergePlan q a.kept gone page (capacity_of page.level f.meta.dcap f.meta.icap) a.plan) above a.planned in
        let second = subst (λ (q : LivePage). IsMergePlan b.above q gone page (capacity_of page.level f.meta.dcap f.meta.icap) a.plan) kept first in
        let planned = subst (λ (x : Meta). IsMergePlan b.above b.kept gone page (capacity_of page.level x.dcap x.icap) a.plan) meta second in
        one_merge b.above b.kept gone page (capacity_of page.level g.meta.dcap g.meta.icap) a.plan b.plan planned b.planned

    pub one_try : (job : Job) (parent keep gone leaf : ℕ) (page : LivePage) (d e : Deed) → TriesPair (sight m1) job parent keep gone leaf page d → TriesPair (sight m2) job parent keep gone leaf page e → d ≡ e
    one_try job parent keep gone leaf page d e a b =
        let above = alike parent a.has.above b.has.above a.has.above_live b.has.above_live in
        let kept = alike keep a.has.kept b.has.kept a.has.kept_live b.has.kept_live in
        let plan = one_plan parent keep gone page a.has b.has in
        a.deed_is ∙ ap (λ (q : LivePage). after_try job parent keep gone leaf q a.has.kept a.has.plan) above
        ∙ ap (λ (q : LivePage). after_try job parent keep gone leaf b.has.above q a.has.plan) kept
        ∙ ap (after_try job parent keep gone leaf b.has.above b.has.kept) plan
        ∙ same_after job parent keep gone leaf b.has.above b.has.kept b.has.plan ∙ sym b.deed_is

    pub one_keep : (job : Job) (parent keep gone : ℕ) (page : LivePage) (d e : Deed) → d ≡ takes_keep job parent keep gone page → e ≡ takes_keep job parent keep gone page → d ≡ e
    one_keep job parent keep gone page d e a b = a ∙ same_keep job parent keep gone (first_named gone (siblings_of page)) ∙ sym b

    -- both merge the pair, or both drop the job
    merges_once : (job : Job) (parent keep gone : ℕ) (above : LivePage) (plan : MergePlan) (d e : Deed) → DoesMerge (sight m1) job parent keep gone above plan d → DoesMerge (sight m2) job parent keep gone above plan e → d ≡ e
    merges_once job parent keep gone above plans.Merge d e (inl a) (inl b) =
        a.deed_is ∙ ap (λ (x : Meta). does at.ConsolidatorIdle (ops.Merge parent keep gone) (job ∷ merges_above job (parent_page keep gone above) x.icap)) meta ∙ sym b.deed_is
    merges_once job parent keep gone above plans.Merge d e (inl a) (inr b) = absurd (omega (arith, a.live, b.none_live, ap (λ (x : Meta). x.live) meta))
    merges_once job parent keep gone above plans.Merge d e (inr a) (inl b) = absurd (omega (arith, a.none_live, b.live, ap (λ (x : Meta). x.live) meta))
    merges_once job parent keep gone above plans.Merge d e (inr a) (inr b) = a.deed_is ∙ sym b.deed_is
    merges_once job parent keep gone above plans.NotContained d e a b = a ∙ sym b
    merges_once job parent keep gone above plans.ManyParents d e a b = a ∙ sym b
    merges_once job parent keep gone above plans.TooHeavy d e a b = a ∙ sym b

    pub one_decision : (job : Job) (parent keep gone : ℕ) (page : LivePage) (d e : Deed) → Decides (sight m1) job parent keep gone page d → Decides (sight m2) job parent keep gone page e → d ≡ e
    one_decision job parent keep gone page d e a b =
        let above = alike parent a.has.above b.has.above a.has.above_live b.has.above_live in
        let plan = one_plan parent keep gone page a.has b.has in
        let first = subst (λ (q : LivePage). DoesMerge (sight m1) job parent keep gone q a.has.plan d) above a.does_it in
        merges_once job parent keep gone b.has.above b.has.plan d e (subst (λ (x : MergePlan). DoesMerge (sight m1) job parent keep gone b.has.above x d) plan first) b.does_it
