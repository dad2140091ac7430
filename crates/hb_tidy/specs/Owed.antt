-- What a file owes, and the jobs for it: why a job may wait.
use Rattle.std.specs.Prelude.{◌≡◌, ◌≢◌, ◌⊎◌, ℕ, List, [], ◌++◌, All, Contains, Some, Result, IfErr, OnOk}
use Rattle.hb_activity.specs.declared.jobs.Job.{Job}
use Rattle.hb_activity.specs.declared.jobs.JobKind.{JobKind}
use Rattle.hb_activity.specs.declared.jobs.JobKind.TheVariants.{Merge, Post}
use Rattle.hb_space.specs.Boxes.{Area, Holds}
use Rattle.hb_frag.specs.declared.pages.LivePage.{LivePage}
use Rattle.hb_frag.specs.Leaves.{siblings_of}
use Rattle.hb_layout.specs.declared.meta.Meta.{Meta}
use Rattle.hb_ops.specs.Files.{FileState, live_page}
use Rattle.hb_ops.specs.Owing.{LacksRoom}
use Rattle.hb_ops.specs.Settled.{HasChild, IsMergeable}
use Rattle.hb_steps.specs.KeptFits.{JobFits}
use Rattle.hb_tidy.specs.declared.stops.TidyStop.{TidyStop}
use Rattle.hb_tidy.specs.Finding.{BothLive, OwesGrowth}
use Rattle.hb_tidy.specs.Placing.{IsNotOwed}

-- ---- jobs that are made of pages

-- For a posting that a page owes to its parent at a point of a child leaf: there the page gave its part to another one. The parent has
-- room for the posting, or a page is free.
pub record IsPosting (meta : Meta) (parent child : LivePage) (area : Area) (job : Job) : Type 0 where
  pub kind : job.kind ≡ Post
  pub level : job.level ≡ parent.level
  pub held : Holds area job.point
  pub inner : ℕ × Area
  pub given : Contains (siblings_of child) inner
  pub inside : Holds inner.1 job.point
  pub room : (meta.live ≢ meta.pages) ⊎ (¬ (LacksRoom parent child job.point meta.icap))

-- of this kind, at the lower corner of a child leaf of this box
pub record IsAtCorner (kind : JobKind) (parent : LivePage) (area : Area) (job : Job) : Type 0 where
  pub kind_is : job.kind ≡ kind
  pub level : job.level ≡ parent.level
  pub corner : job.point ≡ area.lo

-- Jobs were added to a list. Each fits a file of so many attributes, and is so.
pub record HasAdded (k : ℕ) (P : Job → Type 0) (before after : List Job) : Type 0 where
  pub added : List Job
  pub is : after ≡ before ++ added
  pub fit : All (JobFits k) added
  pub each : All P added

-- Jobs were added for postings that a child owes to its parent at a leaf of this box. Where there are none now there were none before,
-- and this is so. An error says that one wasn't added.
pub record AddsPostings {T : Type 0} (result : Result T TidyStop) (meta : Meta) (parent child : LivePage) (area : Area) (P : Type 0) (before after : List Job) : Type 0 where
  pub added : OnOk result (HasAdded meta.k (IsPosting meta parent child area) before after)
  pub none : OnOk result (after ≡ [] → (before ≡ []) × P)
  pub full : IfErr result (IsNotOwed meta parent child)

-- ---- jobs that a file owes

-- the growth: the root has a sibling leaf, the file may grow, and a page is free
pub record IsGrowthOwed (s : FileState) (job : Job) : Type 0 where
  pub kind : job.kind ≡ Post
  pub level : job.level ≡ s.meta.height
  pub owed : OwesGrowth s
  pub free : s.meta.live ≢ s.meta.pages

-- a posting
pub record IsPostingOwed (s : FileState) (job : Job) : Type 0 where
  pub parent : ℕ
  pub child : ℕ
  pub above : LivePage
  pub below : LivePage
  pub area : Area
  pub live : BothLive parent above child below s
  pub leaf : HasChild above child area
  pub owed : IsPosting s.meta above below area job

-- a merge: the page to keep has a child leaf of the parent at whose corner the job is
pub record IsMergeOwed (s : FileState) (job : Job) : Type 0 where
  pub parent : ℕ
  pub keep : ℕ
  pub gone : ℕ
  pub above : LivePage
  pub area : Area
  pub live : live_page s parent ≡ Some above
  pub leaf : HasChild above keep area
  pub at : IsAtCorner Merge above area job
  pub may : IsMergeable s parent keep gone

abbrev pub IsJobOwed : FileState → Job → Type 0
IsJobOwed s job = IsGrowthOwed s job ⊎ IsPostingOwed s job ⊎ IsMergeOwed s job

-- A part of the file was looked at, and jobs were made of what was found. Where there are none now there were none before, and the part is
-- so. If those before were owed, each is.
pub record FindsJobs (s : FileState) (P : Type 0) (before after : List Job) : Type 0 where
  pub none : after ≡ [] → (before ≡ []) × P
  pub owed : All (IsJobOwed s) before → All (IsJobOwed s) after
