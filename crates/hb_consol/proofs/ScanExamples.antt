-- The consolidator's rows up to its pairs that were worked out by hand.
use Rattle.std.proofs.Common.{◌≡◌, inl, inr, ℕ, List, [], ◌∷◌, Some, None, refl, sym, ap, ◌∙◌, arith}
use Rattle.std.proofs.lemmas.Option.{same_Some}
use Rattle.hb_frag.specs.declared.leaves.Leaf.TheVariants.{Child, Sibling}
use Rattle.hb_frag.specs.declared.pages.LivePage.{LivePage}
use Rattle.hb_activity.specs.declared.jobs.Job.{Job}
use Rattle.hb_activity.specs.declared.jobs.JobKind.TheVariants.{Post}
use Rattle.hb_activity.specs.declared.activities.Activity.{Activity}
use Rattle.hb_activity.specs.declared.activities.Activity.TheVariants.{ConsolidatorIdle, ConsolidatorWalk, ConsolidatorScan}
use Rattle.hb_activity.proofs.Facts.OneLeaf.{one_pass}
use Rattle.hb_activity.specs.Deeds.{Deed, moves_to}
use Rattle.hb_activity.specs.OneDeed.{IsOnly}
use Rattle.hb_activity.specs.Passing.{LeadsBelow, PassesOn}
use Rattle.hb_activity.specs.Sights.{Sight}
use Rattle.hb_consol.specs.ConsolidatorRows.{IsMergingOf, Scans, pair_from, tries}
use Rattle.hb_consol.specs.Examples.{OnItsWayToMerge, ScansByHand, TakesMergesByHand, WalksToMergeByHand, gave_the_end, names_three, page_four, gave_three, page_two}
use Rattle.hb_frag.specs.Leaves.{Placed, leaf_at}
use Rattle.hb_frag.proofs.Facts.Kinds.{child_or_sibling}
use Rattle.hb_consol.proofs.Facts.OneMerging.{one_merging}

-- ---- the job that is taken

only_taken : (job : Job) (height : ℕ) (next : Activity) → IsMergingOf job height next → IsOnly (IsMergingOf job height) next
only_taken job height next done = record { done = done; only = λ other row. one_merging job height other next row done }

pub takes_by_hand : (job : Job) → TakesMergesByHand job
takes_by_hand job = record {
  above = λ level. only_taken job 1 ConsolidatorIdle (inl (omega (arith, level), refl));
  height = λ level. only_taken job 2 ConsolidatorIdle (inl (omega (arith, level), refl));
  below = λ level. only_taken job 3 (ConsolidatorWalk job None) (inr (omega (arith, level), refl));
}

-- ---- walking

abbrev at_one : Placed
at_one = record { leaf = Child 1; area = record { lo = 70 ∷ []; hi = 79 ∷ [] } }

abbrev at_seven : Placed
at_seven = record { leaf = Sibling 7; area = record { lo = 90 ∷ []; hi = 18446744073709551615 ∷ [] } }

module _ (job : Job) where
  over : job.level ≡ 1 → job.point ≡ 75 ∷ [] → IsOnly (OnItsWayToMerge job names_three) (moves_to (ConsolidatorScan job 3 1) [])
  over level point = record { done = inl (record { level = sym level; leads = (1, at_one.area, there); deed_is = refl }); only = only }
    where
      there : leaf_at names_three job.point ≡ Some at_one
      there = ap (leaf_at names_three) point

      only : (other : Deed) → OnItsWayToMerge job names_three other → other ≡ moves_to (ConsolidatorScan job 3 1) []
      only other (inl row) = row.deed_is
      only other (inr row) = absurd (row.farther (sym level) (1, at_one.area, there))

  abbrev Farther : LivePage → Type 0
  Farther page = ¬ (LeadsBelow page job)

  not_below : job.point ≡ 90 ∷ [] → Farther gave_the_end
  not_below point below = child_or_sibling 7 below.0 (ap (λ (x : Placed). x.leaf) (same_Some at_seven (record { leaf = Child below.0; area = below.1 }) (sym (ap (leaf_at gave_the_end) point) ∙ below.2)))

  abbrev beside_deed : Deed
  beside_deed = moves_to (ConsolidatorWalk job (Some 3)) (record { kind = Post; level = 2; point = 90 ∷ [] } ∷ [])

  passes : job.point ≡ 90 ∷ [] → PassesOn gave_the_end job.point (ConsolidatorWalk job (Some 3)) beside_deed
  passes point = record { leaf = Sibling 7; area = at_seven.area; at_point = ap (leaf_at gave_the_end) point; names = tt; deed_is = ap (λ (p : List ℕ). moves_to (ConsolidatorWalk job (Some 3)) (record { kind = Post; level = 2; point = p } ∷ [])) (sym point) }

  beside : job.level ≡ 1 → job.point ≡ 90 ∷ [] → IsOnly (OnItsWayToMerge job gave_the_end) beside_deed
  beside level point = record { done = inr (record { farther = λ same. not_below point; passes = passes point }); only = only }
    where
      only : (other : Deed) → OnItsWayToMerge job gave_the_end other → other ≡ beside_deed
      only other (inl row) = absurd (not_below point row.leads)
      only other (inr row) = one_pass gave_the_end job.point (ConsolidatorWalk job (Some 3)) other beside_deed row.passes (passes point)

pub walks_by_hand : (job : Job) → WalksToMergeByHand job
walks_by_hand job = record { over = over job; beside = beside job }

-- ---- scanning

scan : (s : Sight) (job : Job) (child : ℕ) (page : LivePage) (deed : Deed) → s.page_at 3 ≡ Some names_three → tries job 3 names_three child (pair_from names_three page 0) ≡ deed → IsOnly (Scans s job 3 child page) deed
scan s job child page deed live is = record { done = record { above = names_three; live = live; deed_is = sym is }; only = only }
  where
    only : (other : Deed) → Scans s job 3 child page other → other ≡ deed
    only other row = row.deed_is ∙ ap (λ (q : LivePage). tries job 3 q child (pair_from q page 0)) (same_Some row.above names_three (sym row.live ∙ live)) ∙ is

pub scans_by_hand : (s : Sight) (job : Job) → ScansByHand s job
scans_by_hand s job = record {
  pair = λ live. scan s job 1 gave_three _ live refl;
  next = λ live. scan s job 2 page_two _ live refl;
  last = λ live. scan s job 4 page_four _ live refl;
}
