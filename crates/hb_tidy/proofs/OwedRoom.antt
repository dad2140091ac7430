-- Room for a posting, by the plan for it; and three pages that fit, by the plan for two of them.
use Rattle.std.proofs.Common.{◌≡◌, ◌↔◌, ℕ, ◌+◌, ◌<◌, ◌≤◌, Bool, IsTrue, List, Contains, refl, sym, ap, ◌∙◌, arith}
use Rattle.std.proofs.lemmas.Option.{same_Some}
use Rattle.hb_space.specs.Boxes.{Area}
use Rattle.hb_frag.specs.declared.leaves.Leaf.TheVariants.{Child, Sibling}
use Rattle.hb_frag.specs.declared.pages.LivePage.{LivePage}
use Rattle.hb_frag.specs.declared.paths.Side.{Side}
use Rattle.hb_frag.specs.Leaves.{Placed, leaves, weight_of}
use Rattle.hb_frag.specs.Rules.{capacity_of}
use Rattle.hb_layout.specs.declared.meta.Meta.{Meta}
use Rattle.hb_ops.specs.Merging.{FitsMerge, MayMerge}
use Rattle.hb_ops.specs.Owing.{LacksRoom, OwesNothing, Posts, posted_parent}
use Rattle.hb_ops.specs.Sound.{FitsFile}
use Rattle.hb_terms.specs.Plans.{IsPlan}
use Rattle.hb_terms.specs.declared.plans.PostPlan.{PostPlan}
use Rattle.hb_terms.specs.declared.plans.PostPlan.TheVariants.{Nothing, Post, SplitFirst}
use Rattle.hb_tidy.proofs.PlacedLeaves.{names_child}
use Rattle.hb_tidy.specs.Placing.{StandsBelow}

-- nothing is owed there, so no room is wanted
pub nothing_lacks : (parent child : LivePage) (p : List ℕ) (icap : ℕ) → OwesNothing parent child p → LacksRoom parent child p icap → ⊥
nothing_lacks parent child p icap none lacks = none lacks.outer lacks.inner lacks.leaf lacks.area lacks.owed

too_heavy : (w v icap : ℕ) → w ≡ v → w ≤ icap → icap < v → ⊥
too_heavy w v icap same light heavy = omega (arith, same, light, heavy)

pub posts_lacks : (parent child : LivePage) (p : List ℕ) (icap : ℕ) (at : List Side) (inner : ℕ) (area : Area) → Posts parent child p icap at inner area → LacksRoom parent child p icap → ⊥
posts_lacks parent child p icap at inner area posts lacks =
    let above : record { leaf = Child posts.outer; area = posts.leaf } ≡ record { leaf = Child lacks.outer; area = lacks.leaf } = same_Some _ _ (sym posts.owed.above ∙ lacks.owed.above) in
    let below : record { leaf = Sibling inner; area = area } ≡ record { leaf = Sibling lacks.inner; area = lacks.area } = same_Some _ _ (sym posts.owed.below ∙ lacks.owed.below) in
    let outer : posts.outer ≡ lacks.outer = let child = ap (λ (x : Placed). x.leaf) above in cc (child) in
    let leaf : posts.leaf ≡ lacks.leaf = ap (λ (x : Placed). x.area) above in
    let inner_same : inner ≡ lacks.inner = let sibling = ap (λ (x : Placed). x.leaf) below in cc (sibling) in
    let area_same : area ≡ lacks.area = ap (λ (x : Placed). x.area) below in
    let same : posted_parent parent p posts.outer inner posts.leaf area ≡ posted_parent parent p lacks.outer lacks.inner lacks.leaf lacks.area =
    ap (λ (n : ℕ). posted_parent parent p n inner posts.leaf area) outer
    ∙ ap (λ (n : ℕ). posted_parent parent p lacks.outer n posts.leaf area) inner_same
    ∙ ap (λ (a : Area). posted_parent parent p lacks.outer lacks.inner a area) leaf
    ∙ ap (λ (a : Area). posted_parent parent p lacks.outer lacks.inner lacks.leaf a) area_same in
    too_heavy (weight_of (posted_parent parent p posts.outer inner posts.leaf area)) (weight_of (posted_parent parent p lacks.outer lacks.inner lacks.leaf lacks.area)) icap (ap weight_of same) posts.room lacks.heavy

pub split_lacks : (parent child : LivePage) (p : List ℕ) (icap : ℕ) (plan : PostPlan) (r : Bool) → IsPlan parent child p icap plan → IsTrue r ↔ (plan ≡ SplitFirst) → IsTrue r ↔ LacksRoom parent child p icap
split_lacks parent child p icap Nothing r is tells = (λ yes. let never = tells.0 yes in cc, λ lacks. absurd (nothing_lacks parent child p icap is lacks))
split_lacks parent child p icap (Post at inner area) r is tells = (λ yes. let never = tells.0 yes in cc, λ lacks. absurd (posts_lacks parent child p icap at inner area is lacks))
split_lacks parent child p icap SplitFirst r is tells = (λ yes. is, λ lacks. tells.1 refl)

-- ---- three pages

module _ (meta : Meta) (parent keep gone : ℕ) (above kept going : LivePage) where
  pub three_fit : (area : Area) → StandsBelow meta above keep area kept → FitsFile meta going → Contains (leaves above.frag) (Child gone)
      → (0 < meta.live) × ((parent ≡ keep) → ⊥) × ((parent ≡ gone) → ⊥) × ((keep ≡ gone) → ⊥) × (going.level ≡ kept.level)
      → MayMerge above kept gone going (capacity_of kept.level meta.dcap meta.icap) → FitsMerge meta parent keep gone above kept going
  three_fit area stands made named (live, not_keep, not_gone, two, level) may = record {
    pages = record {
      others = (not_keep, not_gone);
      two = two;
      above_made = stands.above.made;
      kept_made = stands.below_made;
      gone_made = made;
      kept_level = stands.level;
      gone_level = ap (λ (n : ℕ). n + 1) level ∙ stands.level;
      names_kept = names_child above keep area stands.above.leaf;
      names_gone = named;
    };
    some_live = omega (arith, live);
    may = may;
  }

  pub fit_three : FitsMerge meta parent keep gone above kept going → (0 < meta.live) × ((parent ≡ keep) → ⊥) × ((parent ≡ gone) → ⊥) × ((keep ≡ gone) → ⊥) × (going.level ≡ kept.level)
  fit_three fits =
      let live = fits.some_live in
      let low = fits.pages.kept_level in
      let last = fits.pages.gone_level in
      (omega (arith, live), fits.pages.others.0, fits.pages.others.1, fits.pages.two, omega (arith, low, last))
