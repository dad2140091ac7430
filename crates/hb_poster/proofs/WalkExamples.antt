-- The poster's rows up to its parent that were worked out by hand.
use Rattle.std.proofs.Common.{◌≡◌, ◌⊎◌, inl, inr, ℕ, ◌<◌, List, [], ◌∷◌, Some, None, refl, sym, ap, ◌∙◌, arith}
use Rattle.std.proofs.lemmas.Option.{same_Some}
use Rattle.hb_frag.specs.declared.leaves.Leaf.TheVariants.{Child, Sibling}
use Rattle.hb_frag.specs.declared.pages.LivePage.{LivePage}
use Rattle.hb_ops.specs.declared.operations.Op.TheVariants as ops
use Rattle.hb_activity.specs.declared.jobs.Job.{Job}
use Rattle.hb_activity.specs.declared.jobs.JobKind.TheVariants.{Post}
use Rattle.hb_activity.specs.declared.activities.Activity.{Activity}
use Rattle.hb_activity.specs.declared.activities.Activity.TheVariants.{PosterIdle, PosterGrow, PosterWalk, PosterChild}
use Rattle.hb_activity.proofs.Facts.OneLeaf.{one_pass}
use Rattle.hb_activity.specs.Deeds.{Deed, does, moves_to}
use Rattle.hb_activity.specs.OneDeed.{IsOnly}
use Rattle.hb_activity.specs.Passing.{LeadsBelow, PassesOn}
use Rattle.hb_activity.specs.Sights.{Sight}
use Rattle.hb_frag.specs.Leaves.{Placed, leaf_at}
use Rattle.hb_frag.proofs.Facts.Kinds.{child_or_sibling}
use Rattle.hb_poster.specs.Examples.{AtRoot, GrowsByHand, OnItsWay, TakesByHand, WalksByHand, gave_none, gave_some}
use Rattle.hb_poster.specs.PosterRows.{IsPostingOf, MayGrow}
use Rattle.hb_space.specs.Boxes.{Area}
use Rattle.hb_poster.proofs.Facts.OnePosting.{one_posting}

-- ---- the job that is taken

only_taken : (job : Job) (height : ℕ) (next : Activity) → IsPostingOf job height next → IsOnly (IsPostingOf job height) next
only_taken job height next done = record { done = done; only = λ other row. one_posting job height other next row done }

pub takes_by_hand : (job : Job) → TakesByHand job
takes_by_hand job = record {
  above = λ level. only_taken job 2 PosterIdle (inl (omega (arith, level), refl));
  height = λ level. only_taken job 3 (PosterGrow job) (inr (inl (sym level, refl)));
  below = λ level. only_taken job 4 (PosterWalk job None) (inr (inr (omega (arith, level), refl)));
}

-- ---- growing

module _ (s : Sight) (job : Job) where
  grows : job.level ≡ 2 → s.meta.height ≡ 2 → s.meta.live ≡ 3 → s.meta.pages ≡ 9 → s.next ≡ Some (9, 4) → IsOnly (AtRoot s job gave_some) (does PosterIdle (ops.Grow 9 4) (job ∷ []))
  grows level height used pages next = record {
    done = inl (record { may = may; fresh = 9; free_after = 4; free = omega (arith, used, pages); next = next; deed_is = refl });
    only = only;
  }
    where
      may : MayGrow s job gave_some
      may = record { height = height ∙ sym level; below = omega (arith, height); gave = λ none. absurd (let no : ⊥ = cc in no) }

      only : (other : Deed) → AtRoot s job gave_some other → other ≡ does PosterIdle (ops.Grow 9 4) (job ∷ [])
      only other (inl row) =
          let numbers : ◌≡◌ {A = ℕ × ℕ} (row.fresh, row.free_after) (9, 4) = same_Some (row.fresh, row.free_after) (9, 4) (sym row.next ∙ next) in
          row.deed_is ∙ ap (λ (n : ℕ × ℕ). does PosterIdle (ops.Grow n.0 n.1) (job ∷ [])) numbers
      only other (inr row) = absurd (by row.why)
        where
          by : (¬ (MayGrow s job gave_some)) ⊎ (s.meta.live ≡ s.meta.pages) → ⊥
          by (inl not) = not may
          by (inr full) = omega (arith, full, used, pages)

  grows_not : (root : LivePage) → (¬ (MayGrow s job root)) ⊎ (s.meta.live ≡ s.meta.pages) → IsOnly (AtRoot s job root) (moves_to PosterIdle [])
  grows_not root why = record { done = inr (record { why = why; deed_is = refl }); only = only }
    where
      by : MayGrow s job root → s.meta.live < s.meta.pages → (¬ (MayGrow s job root)) ⊎ (s.meta.live ≡ s.meta.pages) → ⊥
      by may free (inl not) = not may
      by may free (inr full) = omega (arith, full, free)

      only : (other : Deed) → AtRoot s job root other → other ≡ moves_to PosterIdle []
      only other (inl row) = absurd (by row.may row.free why)
      only other (inr row) = row.deed_is

pub grows_by_hand : (s : Sight) (job : Job) → GrowsByHand s job
grows_by_hand s job = record {
  grows = grows s job;
  nothing = grows_not s job gave_none (inl (λ may. may.gave refl));
  grown = λ level height. grows_not s job gave_some (inl (λ may. omega (arith, may.height, level, height)));
  full = λ used pages. grows_not s job gave_some (inr (used ∙ sym pages));
  highest = λ level. grows_not s job gave_some (inl (λ may. omega (arith, may.height, may.below, level)));
}

-- ---- walking

module _ (job : Job) where
  arrives : (page : LivePage) (child : ℕ) (area : Area) → page.level ≡ job.level → leaf_at page job.point ≡ Some (record { leaf = Child child; area = area }) → IsOnly (OnItsWay job page) (moves_to (PosterChild job 3) [])
  arrives page child area level leaf = record {
    done = inl (record { level = level; child = child; area = area; leaf = leaf; deed_is = refl });
    only = only;
  }
    where
      only : (other : Deed) → OnItsWay job page other → other ≡ moves_to (PosterChild job 3) []
      only other (inl row) = row.deed_is
      only other (inr row) = absurd (row.farther level (child, area, leaf))

  passes : (page : LivePage) (deed : Deed) → (page.level ≡ job.level → ¬ (LeadsBelow page job)) → PassesOn page job.point (PosterWalk job (Some 3)) deed → IsOnly (OnItsWay job page) deed
  passes page deed farther on = record { done = inr (record { farther = farther; passes = on }); only = only }
    where
      only : (other : Deed) → OnItsWay job page other → other ≡ deed
      only other (inl row) = absurd (farther row.level (row.child, row.area, row.leaf))
      only other (inr row) = one_pass page job.point (PosterWalk job (Some 3)) other deed row.passes on

abbrev at_sibling : Placed
at_sibling = record { leaf = Sibling 7; area = record { lo = 40 ∷ []; hi = 18446744073709551615 ∷ [] } }

pub walks_by_hand : (job : Job) → WalksByHand job
walks_by_hand job = record {
  over = λ level point. arrives job gave_some 1 (record { lo = 0 ∷ []; hi = 39 ∷ [] }) (sym level) (ap (leaf_at gave_some) point);
  beside = λ level point. passes job gave_some _ (λ same below. child_or_sibling 7 below.0 (ap (λ (x : Placed). x.leaf) (same_Some at_sibling (record { leaf = Child below.0; area = below.1 }) (sym (ap (leaf_at gave_some) point) ∙ below.2))))
      (record { leaf = Sibling 7; area = at_sibling.area; at_point = ap (leaf_at gave_some) point; names = tt; deed_is = ap (λ (p : List ℕ). moves_to (PosterWalk job (Some 3)) (record { kind = Post; level = 2; point = p } ∷ [])) (sym point) });
  down = λ level point. passes job gave_none _ (λ same below. omega (arith, same, level)) (record { leaf = Child 5; area = gave_none.area; at_point = ap (leaf_at gave_none) point; names = tt; deed_is = refl });
}
