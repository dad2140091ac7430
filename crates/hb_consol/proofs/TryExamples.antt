-- The consolidator's rows of pairs that were worked out by hand.
use Rattle.std.proofs.Common.{◌≡◌, inl, inr, ℕ, ◌+◌, List, [], ◌∷◌, Some, refl, sym, ap, ◌∙◌, subst, arith}
use Rattle.std.proofs.lemmas.Option.{same_Some}
use Rattle.hb_frag.specs.declared.pages.LivePage.{LivePage}
use Rattle.hb_terms.specs.declared.merging.MergePlan.{MergePlan}
use Rattle.hb_terms.specs.declared.merging.MergePlan.TheVariants as plans
use Rattle.hb_activity.specs.declared.jobs.Job.{Job}
use Rattle.hb_activity.specs.declared.jobs.JobKind.TheVariants.{Merge}
use Rattle.hb_activity.specs.declared.activities.Activity.TheVariants.{ConsolidatorIdle}
use Rattle.hb_activity.specs.Deeds.{Deed, moves_to}
use Rattle.hb_activity.specs.OneDeed.{IsOnly}
use Rattle.hb_activity.specs.Sights.{Sight}
use Rattle.hb_consol.specs.ConsolidatorRows.{HasMergePlan, TriesPair, after_try}
use Rattle.hb_consol.specs.MergeRows.{Decides, DoesMerge, merges_above}
use Rattle.hb_consol.specs.Examples.{DecidesByHand, KeepsByHand, TriesByHand, merge_of, names_three, page_four, gave_three, page_two}
use Rattle.hb_frag.specs.Leaves.{DirectlyCovers, siblings_of}
use Rattle.hb_frag.specs.Rules.{capacity_of}
use Rattle.hb_space.proofs.Facts.Intervals.{top, within}
use Rattle.hb_space.specs.Boxes.{Area, Meets}
use Rattle.hb_terms.proofs.Facts.OneMerge.{one_merge}
use Rattle.hb_terms.specs.Merging.{IsMergePlan}
use Rattle.hb_ops.specs.Merging.{merged_weight, parent_page}
use Rattle.std.proofs.lemmas.List.Elements.{All-from_recursion}
use Rattle.hb_activity.proofs.Facts.OneLeaf.{exactly}

-- ---- the plans

two_covered : DirectlyCovers names_three page_two.area
two_covered = record { inside = within 40 69 0 top (omega arith) (omega arith); not_given = All-from_recursion (λ (x : ℕ × Area). ¬ (Meets x.1 page_two.area)) (siblings_of names_three) tt }

four_covered : DirectlyCovers names_three page_four.area
four_covered = record { inside = within 80 top 0 top (omega arith) (omega arith); not_given = All-from_recursion (λ (x : ℕ × Area). ¬ (Meets x.1 page_four.area)) (siblings_of names_three) tt }

light_plan : (dcap icap : ℕ) → dcap ≡ 32 → IsMergePlan names_three gave_three 2 page_two (capacity_of 0 dcap icap) plans.Merge
light_plan dcap icap is = record { given = refl; whole = two_covered; light = let w : merged_weight gave_three page_two ≡ 5 = refl in omega (arith, w, is) }

heavy_two : (dcap icap : ℕ) → dcap ≡ 6 → IsMergePlan names_three gave_three 2 page_two (capacity_of 0 dcap icap) plans.TooHeavy
heavy_two dcap icap is = record { given = refl; whole = two_covered; heavy = let w : merged_weight gave_three page_two ≡ 5 = refl in omega (arith, w, is) }

heavy_four : (dcap icap : ℕ) → dcap ≡ 6 → IsMergePlan names_three gave_three 4 page_four (capacity_of 0 dcap icap) plans.TooHeavy
heavy_four dcap icap is = record { given = refl; whole = four_covered; heavy = let w : merged_weight gave_three page_four ≡ 5 = refl in omega (arith, w, is) }

-- ---- one deed for a plan

module _ (s : Sight) (job : Job) (gone : ℕ) (page : LivePage) (above : s.page_at 3 ≡ Some names_three) (kept : s.page_at 1 ≡ Some gave_three) (plan : MergePlan)
    (planned : IsMergePlan names_three gave_three gone page (capacity_of page.level s.meta.dcap s.meta.icap) plan) where
  abbrev has_plan : HasMergePlan s 3 1 gone page
  has_plan = record { above = names_three; above_live = above; kept = gave_three; kept_live = kept; plan = plan; planned = planned }

  record IsThat (has : HasMergePlan s 3 1 gone page) : Type 0 where
    above_is : has.above ≡ names_three
    kept_is : has.kept ≡ gave_three
    plan_is : has.plan ≡ plan

  is_that : (has : HasMergePlan s 3 1 gone page) → IsThat has
  is_that has =
      let over = same_Some has.above names_three (sym has.above_live ∙ above) in
      let keep = same_Some has.kept gave_three (sym has.kept_live ∙ kept) in
      let cap = capacity_of page.level s.meta.dcap s.meta.icap in
      let same = subst (λ (q : LivePage). IsMergePlan names_three q gone page cap has.plan) keep (subst (λ (q : LivePage). IsMergePlan q has.kept gone page cap has.plan) over has.planned) in
      record { above_is = over; kept_is = keep; plan_is = one_merge names_three gave_three gone page cap has.plan plan same planned }

  only_try : (leaf : ℕ) (deed : Deed) → after_try job 3 1 gone leaf names_three gave_three plan ≡ deed → IsOnly (TriesPair s job 3 1 gone leaf page) deed
  only_try leaf deed is = record { done = record { has = has_plan; deed_is = sym is }; only = only }
    where
      only : (other : Deed) → TriesPair s job 3 1 gone leaf page other → other ≡ deed
      only other row =
          let that = is_that row.has in
          row.deed_is ∙ ap (λ (q : LivePage). after_try job 3 1 gone leaf q row.has.kept row.has.plan) that.above_is ∙ ap (λ (q : LivePage). after_try job 3 1 gone leaf names_three q row.has.plan) that.kept_is
          ∙ ap (after_try job 3 1 gone leaf names_three gave_three) that.plan_is ∙ is

  only_decision : (deed : Deed) → IsOnly (DoesMerge s job 3 1 gone names_three plan) deed → IsOnly (Decides s job 3 1 gone page) deed
  only_decision deed one = record { done = record { has = has_plan; does_it = one.done }; only = only }
    where
      only : (other : Deed) → Decides s job 3 1 gone page other → other ≡ deed
      only other row =
          let that = is_that row.has in
          one.only other (subst (λ (p : MergePlan). DoesMerge s job 3 1 gone names_three p other) that.plan_is (subst (λ (q : LivePage). DoesMerge s job 3 1 gone q row.has.plan other) that.above_is row.does_it))

pub tries_by_hand : (s : Sight) (job : Job) → TriesByHand s job
tries_by_hand s job = record {
  light = λ above kept wide. only_try s job 2 page_two above kept plans.Merge (light_plan s.meta.dcap s.meta.icap wide) 2 _ refl;
  heavy = λ above kept six. only_try s job 2 page_two above kept plans.TooHeavy (heavy_two s.meta.dcap s.meta.icap six) 2 _ refl;
  last = λ above kept six. only_try s job 4 page_four above kept plans.TooHeavy (heavy_four s.meta.dcap s.meta.icap six) 4 _ refl;
}

pub keeps_by_hand : (job : Job) → KeepsByHand job
keeps_by_hand job = record { gave = refl; gave_none = refl }

no_live : (s : Sight) (job : Job) → s.meta.live ≡ 0 → IsOnly (DoesMerge s job 3 1 2 names_three plans.Merge) (moves_to ConsolidatorIdle [])
no_live s job none = record { done = inr (record { none_live = none; deed_is = refl }); only = only }
  where
    only : (other : Deed) → DoesMerge s job 3 1 2 names_three plans.Merge other → other ≡ moves_to ConsolidatorIdle []
    only other (inl row) = absurd (omega (arith, row.live, none))
    only other (inr row) = row.deed_is

-- the parent afterwards, and the jobs
abbrev after_two : LivePage
after_two = parent_page 1 2 names_three

merging : (s : Sight) (job : Job) (jobs : List Job) → s.meta.live ≡ 3 → merges_above job after_two s.meta.icap ≡ jobs → IsOnly (DoesMerge s job 3 1 2 names_three plans.Merge) (merge_of job jobs)
merging s job jobs live is = record { done = inl (record { live = omega (arith, live); deed_is = ap (merge_of job) (sym is) }); only = only }
  where
    only : (other : Deed) → DoesMerge s job 3 1 2 names_three plans.Merge other → other ≡ merge_of job jobs
    only other (inl row) = row.deed_is ∙ ap (merge_of job) is
    only other (inr row) = absurd (omega (arith, row.none_live, live))

thin_parent : (s : Sight) (job : Job) → s.meta.live ≡ 3 → s.meta.icap ≡ 16 → job.level ≡ 1 → IsOnly (DoesMerge s job 3 1 2 names_three plans.Merge) (merge_of job (record { kind = Merge; level = 2; point = job.point } ∷ []))
thin_parent s job live small level =
    let thin : merges_above job after_two 16 ≡ record { kind = Merge; level = job.level + 1; point = job.point } ∷ [] = refl in
    merging s job _ live (ap (merges_above job after_two) small ∙ thin ∙ ap (λ n. record { kind = Merge; level = n + 1; point = job.point } ∷ []) level)

full_parent : (s : Sight) (job : Job) → s.meta.live ≡ 3 → s.meta.icap ≡ 15 → IsOnly (DoesMerge s job 3 1 2 names_three plans.Merge) (merge_of job [])
full_parent s job live small = merging s job [] live (ap (merges_above job after_two) small)

pub decides_by_hand : (s : Sight) (job : Job) → DecidesByHand s job
decides_by_hand s job = record {
  heavy = λ above kept six. only_decision s job 2 page_two above kept plans.TooHeavy (heavy_two s.meta.dcap s.meta.icap six) _ (exactly _);
  none_live = λ above kept wide none. only_decision s job 2 page_two above kept plans.Merge (light_plan s.meta.dcap s.meta.icap wide) _ (no_live s job none);
  thin = λ above kept wide live small level. only_decision s job 2 page_two above kept plans.Merge (light_plan s.meta.dcap s.meta.icap wide) _ (thin_parent s job live small level);
  not_thin = λ above kept wide live small. only_decision s job 2 page_two above kept plans.Merge (light_plan s.meta.dcap s.meta.icap wide) _ (full_parent s job live small);
}
