-- Rows worked out by hand. A `job` is any job of the level and point that are given, and of what is read only what matters is
-- given.
use Rattle.std.specs.Prelude.{◌≡◌, ◌⊎◌, List, [], ◌∷◌, Some, None}
use Rattle.hb_frag.specs.declared.leaves.Leaf.{Leaf}
use Rattle.hb_frag.specs.declared.leaves.Leaf.TheVariants.{Records, Child, Sibling}
use Rattle.hb_frag.specs.declared.pages.LivePage.{LivePage}
use Rattle.hb_activity.specs.declared.jobs.Job.{Job}
use Rattle.hb_activity.specs.declared.jobs.JobKind.TheVariants.{Post, Merge}
use Rattle.hb_activity.specs.declared.activities.Activity.TheVariants.{ConsolidatorIdle, ConsolidatorWalk, ConsolidatorScan, ConsolidatorTry, ConsolidatorPromote, ConsolidatorDecide}
use Rattle.hb_activity.specs.Deeds.{Deed, does, moves_to}
use Rattle.hb_activity.specs.OneDeed.{IsOnly}
use Rattle.hb_activity.specs.Sights.{Sight}
use Rattle.hb_consol.specs.ConsolidatorRows.{ArrivesToMerge, ConsolidatorPasses, IsMergingOf, Scans, TriesPair, children_of, one_behind, pair_among}
use Rattle.hb_consol.specs.MergeRows.{Decides, takes_keep}
use Rattle.hb_ops.specs.declared.operations.Op.TheVariants as ops
use Rattle.hb_frag.specs.Trees.{Cut, Tip}
use Rattle.hb_space.specs.Boxes.{side_from, whole_area}

-- A job of level 2, in files of 1, 2 and 3 levels.
pub record TakesMergesByHand (job : Job) : Type 0 where
  pub above : job.level ≡ 2 → IsOnly (IsMergingOf job 1) ConsolidatorIdle
  pub height : job.level ≡ 2 → IsOnly (IsMergingOf job 2) ConsolidatorIdle
  pub below : job.level ≡ 2 → IsOnly (IsMergingOf job 3) (ConsolidatorWalk job None)

-- A parent that names 1, 2, 1 again and 4, and a page of level 0 with these leaves from the left: one of records, two to pages
-- that the parent doesn't name or does, one more of records, and one more to a page that it names.
abbrev pub names_three : LivePage
names_three = record { level = 1; area = whole_area 1; frag = Cut 0 40 (Tip (Child 1)) (Cut 0 70 (Tip (Child 2)) (Cut 0 80 (Tip (Child 1)) (Tip (Child 4)))) }

abbrev pub five_leaves : List Leaf
five_leaves = Records [] ∷ Sibling 9 ∷ Sibling 2 ∷ Records [] ∷ Sibling 4 ∷ []

-- The pairs are tried from the left, those alone whose second page the parent names, and a leaf's place counts all leaves. The
-- children are scanned each once.
pub record TriesPairsInOrder : Type 0 where
  pub first : pair_among names_three 0 five_leaves ≡ Some (2, 2)
  pub next : pair_among names_three 3 five_leaves ≡ Some (4, 4)
  pub none : pair_among names_three 5 five_leaves ≡ None
  pub children : children_of names_three ≡ 1 ∷ 2 ∷ 4 ∷ []
  pub behind : one_behind 2 (children_of names_three) ≡ Some 4
  pub last : one_behind 4 (children_of names_three) ≡ None

-- what a consolidator does that has latched page 3 on its way
abbrev pub OnItsWayToMerge : Job → LivePage → Deed → Type 0
OnItsWayToMerge job page deed = ArrivesToMerge job 3 page deed ⊎ ConsolidatorPasses job 3 page deed

-- Page 3 of level 1, of which another page has what is from 90 on.
abbrev pub gave_the_end : LivePage
gave_the_end = record { level = 1; area = whole_area 1; frag = Cut 0 90 (Tip (Child 5)) (Tip (Sibling 7)) }

-- A job of level 1: where its point is in a child the first child is scanned, and where a sibling has it the walk goes on, with a
-- posting that is owed.
pub record WalksToMergeByHand (job : Job) : Type 0 where
  pub over : job.level ≡ 1 → job.point ≡ 75 ∷ [] → IsOnly (OnItsWayToMerge job names_three) (moves_to (ConsolidatorScan job 3 1) [])
  pub beside : job.level ≡ 1 → job.point ≡ 90 ∷ [] → IsOnly (OnItsWayToMerge job gave_the_end) (moves_to (ConsolidatorWalk job (Some 3)) (record { kind = Post; level = 2; point = 90 ∷ [] } ∷ []))

-- Page 1 with the five leaves; pages 2 and 4, to which it gave boxes, and which have no sibling leaf.
abbrev pub gave_three : LivePage
gave_three = record { level = 0; area = whole_area 1; frag = Cut 0 20 (Tip (Records [])) (Cut 0 40 (Tip (Sibling 9)) (Cut 0 70 (Tip (Sibling 2)) (Cut 0 80 (Tip (Records [])) (Tip (Sibling 4))))) }

abbrev pub page_two : LivePage
page_two = record { level = 0; area = record { lo = 40 ∷ []; hi = 69 ∷ [] }; frag = Tip (Records []) }

abbrev pub page_four : LivePage
page_four = record { level = 0; area = side_from (whole_area 1) 0 80; frag = Tip (Records []) }

-- Of page 1 the pair with page 2 is tried. Behind page 2, which has no pair, page 4 is scanned, and behind that the job ends.
pub record ScansByHand (s : Sight) (job : Job) : Type 0 where
  pub pair : s.page_at 3 ≡ Some names_three → IsOnly (Scans s job 3 1 gave_three) (moves_to (ConsolidatorTry job 3 1 2 2) [])
  pub next : s.page_at 3 ≡ Some names_three → IsOnly (Scans s job 3 2 page_two) (moves_to (ConsolidatorScan job 3 4) [])
  pub last : s.page_at 3 ≡ Some names_three → IsOnly (Scans s job 3 4 page_four) (moves_to ConsolidatorIdle [])

-- Pages 1 and 2 weigh 5 together. That is at most three quarters of 32, and the parent is promoted; of 6 it is more, and then the
-- pair with page 4 is tried. Behind that, page 2 is scanned.
pub record TriesByHand (s : Sight) (job : Job) : Type 0 where
  pub light : s.page_at 3 ≡ Some names_three → s.page_at 1 ≡ Some gave_three → s.meta.dcap ≡ 32 → IsOnly (TriesPair s job 3 1 2 2 page_two) (moves_to (ConsolidatorPromote job 3 1 2) [])
  pub heavy : s.page_at 3 ≡ Some names_three → s.page_at 1 ≡ Some gave_three → s.meta.dcap ≡ 6 → IsOnly (TriesPair s job 3 1 2 2 page_two) (moves_to (ConsolidatorTry job 3 1 4 4) [])
  pub last : s.page_at 3 ≡ Some names_three → s.page_at 1 ≡ Some gave_three → s.meta.dcap ≡ 6 → IsOnly (TriesPair s job 3 1 4 4 page_four) (moves_to (ConsolidatorScan job 3 2) [])

-- Page 1 gave a box to page 2, and none to page 5. So with that the job is dropped.
pub record KeepsByHand (job : Job) : Type 0 where
  pub gave : takes_keep job 3 1 2 gave_three ≡ moves_to (ConsolidatorDecide job 3 1 2) []
  pub gave_none : takes_keep job 3 1 5 gave_three ≡ moves_to ConsolidatorIdle []

-- Where the two are light still and three pages are in use, page 2 goes into page 1, and the job waits again. The parent weighs 4
-- then as before, since no cut of it parts two leaves of one name alone: that is a quarter of 16, and more than a quarter of 15.
-- Where the two are too heavy by now, or no page is in use, the job is dropped.
abbrev pub merge_of : Job → List Job → Deed
merge_of job more = does ConsolidatorIdle (ops.Merge 3 1 2) (job ∷ more)

pub record DecidesByHand (s : Sight) (job : Job) : Type 0 where
  pub heavy : s.page_at 3 ≡ Some names_three → s.page_at 1 ≡ Some gave_three → s.meta.dcap ≡ 6 → IsOnly (Decides s job 3 1 2 page_two) (moves_to ConsolidatorIdle [])
  pub none_live : s.page_at 3 ≡ Some names_three → s.page_at 1 ≡ Some gave_three → s.meta.dcap ≡ 32 → s.meta.live ≡ 0 → IsOnly (Decides s job 3 1 2 page_two) (moves_to ConsolidatorIdle [])
  pub thin : s.page_at 3 ≡ Some names_three → s.page_at 1 ≡ Some gave_three → s.meta.dcap ≡ 32 → s.meta.live ≡ 3 → s.meta.icap ≡ 16 → job.level ≡ 1 →
      IsOnly (Decides s job 3 1 2 page_two) (merge_of job (record { kind = Merge; level = 2; point = job.point } ∷ []))
  pub not_thin : s.page_at 3 ≡ Some names_three → s.page_at 1 ≡ Some gave_three → s.meta.dcap ≡ 32 → s.meta.live ≡ 3 → s.meta.icap ≡ 15 → IsOnly (Decides s job 3 1 2 page_two) (merge_of job [])
