-- What those who wait look at, and who comes.
use Rattle.std.specs.Prelude.{◌≡◌, ◌≢◌, ◌<◌, ℕ, ◌==◌, nat_lt, Bool, true, false, not, List, ◌&&◌, Option, Some, None, is_some}
use Rattle.std.specs.List.{slice_get, list_any}
use Rattle.hb_space.specs.declared.actors.TheConstants.{SESSIONS}
use Rattle.hb_activity.specs.declared.jobs.JobKind.{JobKind}
use Rattle.hb_activity.specs.declared.jobs.JobKind.TheVariants.{Post, Merge}
use Rattle.hb_run.specs.Courses.{Course}
use Rattle.hb_run.specs.Turning.{is_done, is_due, jobs_left, round_of, settled_of}
use Rattle.hb_run.specs.declared.turns.Pause.{Pause}
use Rattle.hb_run.specs.declared.turns.Pause.TheVariants as pauses
use Rattle.hb_run.specs.declared.turns.Next.{Next}
use Rattle.hb_run.specs.declared.turns.Next.TheVariants as nexts

-- What those who wait look at: whether the core is stopped; how many jobs to post and to merge are left, how many lines have no
-- answer, and whether all is done; whether it is time to flush; how many places of the order are settled, and how many turns were
-- taken; how often each actor changed something, actor 1 first; and whether some session comes.
pub record Signs : Type 0 where
  pub stopped : Bool
  pub posts : ℕ
  pub merges : ℕ
  pub left : ℕ
  pub done : Bool
  pub due : Bool
  pub settled : ℕ
  pub taken : ℕ
  pub moves : List ℕ
  pub coming : Bool

abbrev pub signs_of : List ℕ → Bool → Course → Signs
signs_of moves coming c = record {
  stopped = is_some c.core.stop;
  posts = jobs_left Post c.core;
  merges = jobs_left Merge c.core;
  left = c.left;
  done = is_done c;
  due = is_due c.core;
  settled = settled_of c.core;
  taken = c.core.taken;
  moves = moves;
  coming = coming;
}

abbrev pub of_kind : JobKind → ℕ → ℕ → ℕ
of_kind Post posts merges = posts
of_kind Merge posts merges = merges

-- What an actor waits for hasn't come: the actor of a place has changed nothing; no job of its kind is left and yet not all is done; or
-- it isn't time to flush and some line has no answer; or a place of the order isn't settled, in the same round, and some session comes
-- first. In a core that is stopped nobody waits.
abbrev pub is_so : ℕ → Option ℕ → Bool
is_so count None = false
is_so count (Some now) = now == count

abbrev pub still_waits : Pause → Signs → Bool
still_waits (pauses.Behind place count) s = not s.stopped && is_so count (slice_get s.moves place)
still_waits (pauses.NoJob kind) s = not s.stopped && ((of_kind kind s.posts s.merges == 0) && not s.done)
still_waits pauses.NotDue s = not s.stopped && (not (s.left == 0) && not s.due)
still_waits (pauses.Unsettled place round) s = not s.stopped && ((not (nat_lt place s.settled) && (round_of s.taken == round)) && s.coming)

-- ---- of one that does so next

-- it takes no turn any more
abbrev pub has_ended : Next → Bool
has_ended nexts.Goes = false
has_ended (nexts.Waits pause) = false
has_ended nexts.Ends = true

-- it takes no turn for now
abbrev pub takes_none : Signs → Next → Bool
takes_none s nexts.Goes = false
takes_none s (nexts.Waits pause) = still_waits pause s
takes_none s nexts.Ends = true

-- ---- who comes

-- A session takes a further turn before something comes: it goes, or what it waited for has come.
abbrev pub comes : List ℕ → Course → Next → Bool
comes moves c nexts.Goes = true
comes moves c (nexts.Waits pause) = not (still_waits pause (signs_of moves true c))
comes moves c nexts.Ends = false

abbrev pub anyone_comes : List Next → List ℕ → Course → Bool
anyone_comes all moves c = list_any (comes moves c) all

-- What the session of a place does next is noted there, and nothing else.
pub record NotesNext (place : ℕ) (next : Next) (old new : List Next) : Type 0 where
  pub here : place < SESSIONS → slice_get new place ≡ Some next
  pub others : (other : ℕ) → other ≢ place → slice_get new other ≡ slice_get old other
