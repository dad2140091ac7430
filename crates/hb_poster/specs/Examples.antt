-- Rows worked out by hand. A `job` is any job of the level and point that are given, and of what is read only what matters is
-- given.
use Rattle.std.specs.Prelude.{◌≡◌, ◌⊎◌, ℕ, [], ◌∷◌, Some, None}
use Rattle.hb_space.specs.declared.records.Record.{Record}
use Rattle.hb_frag.specs.declared.leaves.Leaf.TheVariants.{Records, Child, Sibling}
use Rattle.hb_frag.specs.declared.pages.LivePage.{LivePage}
use Rattle.hb_frag.specs.declared.paths.Side.TheVariants.{Right}
use Rattle.hb_ops.specs.declared.operations.Op.TheVariants as ops
use Rattle.hb_activity.specs.declared.jobs.Job.{Job}
use Rattle.hb_activity.specs.declared.jobs.JobKind.TheVariants.{Post}
use Rattle.hb_activity.specs.declared.activities.Activity.TheVariants.{PosterIdle, PosterGrow, PosterWalk, PosterChild, PosterPromote}
use Rattle.hb_activity.specs.Deeds.{Deed, does, moves_to}
use Rattle.hb_activity.specs.OneDeed.{IsOnly}
use Rattle.hb_activity.specs.Sights.{Sight}
use Rattle.hb_frag.specs.Trees.{Tip, Cut}
use Rattle.hb_poster.specs.PosterRows.{Arrives, GrowsFile, GrowsNot, IsPostingOf, LooksAgain, LooksAtChild, PosterPasses}
use Rattle.hb_space.specs.Boxes.{whole_area}

-- A job of level 3, in files of 2, 3 and 4 levels.
pub record TakesByHand (job : Job) : Type 0 where
  pub above : job.level ≡ 3 → IsOnly (IsPostingOf job 2) PosterIdle
  pub height : job.level ≡ 3 → IsOnly (IsPostingOf job 3) (PosterGrow job)
  pub below : job.level ≡ 3 → IsOnly (IsPostingOf job 4) (PosterWalk job None)

-- A page of level 1, a root: below 40 its points are in page 1, and from 40 on its sibling 7 has them. And one of level 2 that
-- gave nothing.
abbrev pub gave_some : LivePage
gave_some = record { level = 1; area = whole_area 1; frag = Cut 0 40 (Tip (Child 1)) (Tip (Sibling 7)) }

abbrev pub gave_none : LivePage
gave_none = record { level = 2; area = whole_area 1; frag = Tip (Child 5) }

-- what a poster does that has latched the root, to give the file a level
abbrev pub AtRoot : Sight → Job → LivePage → Deed → Type 0
AtRoot s job root deed = GrowsFile s job root deed ⊎ GrowsNot s job root deed

-- A job of level 2, in a file of two levels whose root gave a part away, and where page 9 is free: the file grows, and the job
-- waits again. The job is dropped where the root gave nothing, where the file has three levels by now, and where no page is free.
-- One of level 12 is dropped: no file has more levels.
pub record GrowsByHand (s : Sight) (job : Job) : Type 0 where
  pub grows : job.level ≡ 2 → s.meta.height ≡ 2 → s.meta.live ≡ 3 → s.meta.pages ≡ 9 → s.next ≡ Some (9, 4) →
      IsOnly (AtRoot s job gave_some) (does PosterIdle (ops.Grow 9 4) (job ∷ []))
  pub nothing : IsOnly (AtRoot s job gave_none) (moves_to PosterIdle [])
  pub grown : job.level ≡ 2 → s.meta.height ≡ 3 → IsOnly (AtRoot s job gave_some) (moves_to PosterIdle [])
  pub full : s.meta.live ≡ 9 → s.meta.pages ≡ 9 → IsOnly (AtRoot s job gave_some) (moves_to PosterIdle [])
  pub highest : job.level ≡ 12 → IsOnly (AtRoot s job gave_some) (moves_to PosterIdle [])

-- what a poster does that has latched page 3 on its way
abbrev pub OnItsWay : Job → LivePage → Deed → Type 0
OnItsWay job page deed = Arrives job 3 page deed ⊎ PosterPasses job 3 page deed

-- A job of level 1: its walk is over at a page of level 1 where its point is in a child, and goes on where a sibling has it, to
-- which a posting is owed, and at a page of level 2.
pub record WalksByHand (job : Job) : Type 0 where
  pub over : job.level ≡ 1 → job.point ≡ 39 ∷ [] → IsOnly (OnItsWay job gave_some) (moves_to (PosterChild job 3) [])
  pub beside : job.level ≡ 1 → job.point ≡ 40 ∷ [] → IsOnly (OnItsWay job gave_some) (moves_to (PosterWalk job (Some 3)) (record { kind = Post; level = 2; point = 40 ∷ [] } ∷ []))
  pub down : job.level ≡ 1 → job.point ≡ 40 ∷ [] → IsOnly (OnItsWay job gave_none) (moves_to (PosterWalk job (Some 3)) [])

-- Page 1: below 40 its sibling 2 has the points, and from there on it has records of 40, 50, 60 and 70. Page 3 above it has one
-- child leaf, to page 1.
abbrev pub rec_of : ℕ → Record
rec_of value = record { key = value ∷ []; body = 7 ∷ [] }

abbrev pub page_one : LivePage
page_one = record { level = 0; area = whole_area 1; frag = Cut 0 40 (Tip (Sibling 2)) (Tip (Records (rec_of 40 ∷ rec_of 50 ∷ rec_of 60 ∷ rec_of 70 ∷ []))) }

abbrev pub page_three : LivePage
page_three = record { level = 1; area = whole_area 1; frag = Tip (Child 1) }

-- At 10 page 2 is owed a leaf over 0 to 39. At 50 none is.
pub record LooksByHand (s : Sight) (job : Job) : Type 0 where
  pub owes : s.page_at 3 ≡ Some page_three → s.meta.icap ≡ 32 → job.point ≡ 10 ∷ [] → IsOnly (LooksAtChild s job 3 page_one) (moves_to (PosterPromote job 3) [])
  pub owes_none : s.page_at 3 ≡ Some page_three → job.point ≡ 50 ∷ [] → IsOnly (LooksAtChild s job 3 page_one) (moves_to PosterIdle [])

pub record PostsByHand (s : Sight) (job : Job) : Type 0 where
  pub posts : s.page_at 3 ≡ Some page_three → s.meta.icap ≡ 32 → job.point ≡ 10 ∷ [] →
      IsOnly (LooksAgain s job 3 page_one) (does PosterIdle (ops.Post 3 [] 2 (record { lo = 0 ∷ []; hi = 39 ∷ [] })) (job ∷ []))
  pub owes_none : s.page_at 3 ≡ Some page_three → job.point ≡ 50 ∷ [] → IsOnly (LooksAgain s job 3 page_one) (moves_to PosterIdle [])

-- A page above page 1 that has six child leaves, four of them from 100 on. Where it may weigh 6 it has no room for a leaf more.
abbrev pub six_children : LivePage
six_children = record { level = 1; area = whole_area 1; frag = Cut 0 100 (Cut 0 80 (Tip (Child 1)) (Tip (Child 4))) (Cut 0 200 (Cut 0 150 (Tip (Child 5)) (Tip (Child 6))) (Cut 0 300 (Tip (Child 7)) (Tip (Child 8)))) }

-- Then the four leave it: that is owed a posting one level up, and the job waits again. Where no page is free the job is dropped.
pub record SplitsParentsByHand (s : Sight) (job : Job) : Type 0 where
  pub free : s.page_at 3 ≡ Some six_children → s.meta.icap ≡ 6 → job.level ≡ 1 → job.point ≡ 10 ∷ [] → s.meta.live ≡ 8 → s.meta.pages ≡ 9 → s.next ≡ Some (9, 0) →
      IsOnly (LooksAgain s job 3 page_one) (does PosterIdle (ops.Extract 3 9 (Right ∷ []) [] 0) (record { kind = Post; level = 2; point = 100 ∷ [] } ∷ job ∷ []))
  pub none_free : s.page_at 3 ≡ Some six_children → s.meta.icap ≡ 6 → job.point ≡ 10 ∷ [] → s.meta.live ≡ 9 → s.meta.pages ≡ 9 → IsOnly (LooksAgain s job 3 page_one) (moves_to PosterIdle [])
