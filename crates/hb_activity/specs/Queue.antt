-- The jobs that wait, in the order in which they came.
use Rattle.std.specs.Prelude.{◌≡◌, ◌≢◌, ◌⊎◌, ◌+◌, ◌<◌, ◌≤◌, ℕ, drop, List, [], ◌∷◌, Contains, Option, Some, None, ◌++◌, Bool, true, false, length, All, AllPairs}
use Rattle.hb_activity.specs.declared.waiting_jobs.TheConstants.{JOBS, ROOM}
use Rattle.hb_activity.specs.declared.jobs.JobKind.{JobKind}
use Rattle.hb_activity.specs.declared.jobs.JobKind.TheVariants.{Post, Merge}
use Rattle.hb_activity.specs.declared.jobs.Job.{Job}

-- whether the job is of the kind
abbrev pub is_of : JobKind → Job → Bool
is_of kind job = same_kind kind job.kind
  where
    same_kind : JobKind → JobKind → Bool
    same_kind Post Post = true
    same_kind Merge Merge = true
    same_kind one other = false

-- no job stands twice, and there are at most 256
pub record AreQueued (jobs : List Job) : Type 0 where
  pub once : AllPairs (λ job later. job ≢ later) jobs
  pub few : length jobs ≤ JOBS

-- the first job of its kind has left, and the others are as they were
pub record LeavesFirst (kind : JobKind) (old : List Job) (job : Job) (new : List Job) : Type 0 where
  pub front : List Job
  pub behind : List Job
  pub whole : old ≡ front ++ job ∷ behind
  pub of_kind : job.kind ≡ kind
  pub first : All (λ other. other.kind ≢ kind) front
  pub rest : new ≡ front ++ behind

-- the job that is taken leaves, where one is
abbrev pub LeavesBy : Option Job → List Job → List Job → Type 0
LeavesBy None old new = new ≡ old
LeavesBy (Some job) old new = LeavesFirst job.kind old job new

-- A job joins the queue behind the others, where it doesn't wait already and fewer than 256 do.
abbrev pub AddsJob : Job → List Job → List Job → Type 0
AddsJob job old new =
    (Contains old job × (new ≡ old))
    ⊎ ((¬ (Contains old job)) × (length old < JOBS) × (new ≡ old ++ job ∷ []))
    ⊎ ((¬ (Contains old job)) × (JOBS ≤ length old) × (new ≡ old))

abbrev pub AddsJobs : List Job → List Job → List Job → Type 0
AddsJobs [] old new = new ≡ old
AddsJobs (job ∷ rest) old new = (more : List Job) × AddsJob job old more × AddsJobs rest more new

-- the jobs of a set, how many in front were taken, and for how many more there is room
pub record JobsKeep (jobs : List Job) (taken spare : ℕ) : Type 0 where
  pub within : taken ≤ length jobs
  pub waiting : AreQueued (drop taken jobs)
  -- no room got lost
  pub room : ROOM ≤ length jobs + spare
