-- The parts of the decider together are the row that was asked for.
use Rattle.std.proofs.Common.{◌≡◌, ◌≢◌, ◌⊎◌, inl, inr, ℕ, ◌+◌, ◌<◌, ◌≤◌, ◌==◌, true, false, cond, List, [], ◌∷◌, length, map, sum, Option, ◌∙◌, arith}
use Rattle.std.proofs.lemmas.List.Sums.{sum_by-cons}
use Rattle.hb_activity.proofs.Facts.GivenPages.{first_given, next_given}
use Rattle.hb_activity.specs.Deciding.{given_sight}
use Rattle.hb_activity.specs.Deeds.{Deed}
use Rattle.hb_activity.specs.declared.jobs.Job.{Job}
use Rattle.hb_consol.specs.ConsolidatorRows.{HasMergePlan, Scans, TriesPair, after_try, pair_from, tries}
use Rattle.hb_consol.specs.Doing.{PlansMerge}
use Rattle.hb_consol.specs.MergeRows.{Decides, DoesMerge}
use Rattle.hb_frag.specs.Leaves.{leaf_weight, leaves, weight_of}
use Rattle.hb_frag.specs.declared.leaves.Leaf.{Leaf}
use Rattle.hb_frag.specs.declared.leaves.Leaf.TheVariants.{Records, Child, Sibling}
use Rattle.hb_frag.specs.declared.pages.LivePage.{LivePage}
use Rattle.hb_layout.specs.Limits.{IsLayout}
use Rattle.hb_layout.specs.declared.meta.Meta.{Meta}
use Rattle.hb_ops.specs.Sound.{FitsFile}
use Rattle.hb_terms.specs.declared.merging.MergePlan.{MergePlan}
use Rattle.hb_terms.specs.declared.merging.MergePlan.TheVariants as plans

-- ---- how many leaves a page has

some : (leaf : Leaf) → 1 ≤ leaf_weight leaf
some (Records records) = omega arith
some (Child page) = omega arith
some (Sibling page) = omega arith

few : (ls : List Leaf) → length ls ≤ sum (map leaf_weight ls)
few [] = omega arith
few (l ∷ ls) =
    let rest = few ls in
    let one = some l in
    let both : sum (map leaf_weight (l ∷ ls)) ≡ leaf_weight l + sum (map leaf_weight ls) = sum_by-cons (λ (n : ℕ). n) (leaf_weight l) (map leaf_weight ls) in
    omega (arith, rest, one, both)

light : (meta : Meta) (page : LivePage) → IsLayout meta → FitsFile meta page → weight_of page.frag < 4294967296
light meta page layout made =
    elim (page.level == 0) as (λ b. weight_of page.frag ≤ cond b meta.dcap meta.icap → weight_of page.frag < 4294967296) [
      | true ↦ λ le. let most = layout.dcap_most in omega (arith, le, most)
      | false ↦ λ le. let most = layout.icap_most in omega (arith, le, most)
    ] made.filled.light

pub few_leaves : (meta : Meta) (page : LivePage) → IsLayout meta → FitsFile meta page → length (leaves page.frag) < 4294967296
few_leaves meta page layout made =
    let bound = light meta page layout made in
    let less = few (leaves page.frag) in
    omega (arith, bound, less)

-- ---- what isn't merged

pub other_plan : (job : Job) (parent keep gone leaf : ℕ) (above kept : LivePage) (plan : MergePlan) (deed : Deed) → (plan ≡ plans.NotContained) ⊎ (plan ≡ plans.ManyParents) ⊎ (plan ≡ plans.TooHeavy)
    → deed ≡ tries job parent above keep (pair_from above kept (leaf + 1)) → deed ≡ after_try job parent keep gone leaf above kept plan
other_plan job parent keep gone leaf above kept plans.NotContained deed either is = is
other_plan job parent keep gone leaf above kept plans.ManyParents deed either is = is
other_plan job parent keep gone leaf above kept plans.TooHeavy deed either is = is
other_plan job parent keep gone leaf above kept plans.Merge deed (inl wrong) is = absurd (let none : ⊥ = cc in none)
other_plan job parent keep gone leaf above kept plans.Merge deed (inr (inl wrong)) is = absurd (let none : ⊥ = cc in none)
other_plan job parent keep gone leaf above kept plans.Merge deed (inr (inr wrong)) is = absurd (let none : ⊥ = cc in none)

-- ---- the pages that are given

module _ (meta : Meta) (job : Job) (parent id : ℕ) (above page : LivePage) (free : Option (ℕ × ℕ)) where
  pub scans_there : (child : ℕ) (deed : Deed) → deed ≡ tries job parent above child (pair_from above page 0) → Scans (given_sight meta ((parent, above) ∷ (id, page) ∷ []) free) job parent child page deed
  scans_there child deed is = record { above = above; live = first_given parent above ((id, page) ∷ []); deed_is = is }

  module _ (keep gone : ℕ) (kept : LivePage) (two : parent ≢ keep) (plan : MergePlan) (planned : PlansMerge meta gone above kept page plan) where
    abbrev has_plan : HasMergePlan (given_sight meta ((parent, above) ∷ (keep, kept) ∷ (id, page) ∷ []) free) parent keep gone page
    has_plan = record {
      above = above;
      above_live = first_given parent above ((keep, kept) ∷ (id, page) ∷ []);
      kept = kept;
      kept_live = next_given parent keep above ((keep, kept) ∷ (id, page) ∷ []) two ∙ first_given keep kept ((id, page) ∷ []);
      plan = plan;
      planned = planned;
    }

    pub tries_there : (leaf : ℕ) (deed : Deed) → deed ≡ after_try job parent keep gone leaf above kept plan → TriesPair (given_sight meta ((parent, above) ∷ (keep, kept) ∷ (id, page) ∷ []) free) job parent keep gone leaf page deed
    tries_there leaf deed is = record { has = has_plan; deed_is = is }

    pub decides_there : (deed : Deed) → DoesMerge (given_sight meta ((parent, above) ∷ (keep, kept) ∷ (id, page) ∷ []) free) job parent keep gone above plan deed
        → Decides (given_sight meta ((parent, above) ∷ (keep, kept) ∷ (id, page) ∷ []) free) job parent keep gone page deed
    decides_there deed does = record { has = has_plan; does_it = does }
