-- What a turn says, and what is left to do after it.
use Rattle.std.specs.Prelude.{◌≡◌, ◌≢◌, ℕ, ◌+◌, ◌-◌, ◌*◌, ◌/◌, ◌==◌, nat_lt, Bool, true, false, List, length, ◌&&◌, Option, Some, None, count_by}
use Rattle.std.specs.List.{slice_get}
use Rattle.hb_activity.specs.Queue.{is_of}
use Rattle.hb_activity.specs.declared.activities.Activity.{Activity}
use Rattle.hb_activity.specs.declared.jobs.JobKind.{JobKind}
use Rattle.hb_activity.specs.declared.jobs.JobKind.TheVariants.{Post, Merge}
use Rattle.hb_wal.specs.Log.{mark_of, room_of}
use Rattle.hb_steps.specs.declared.outcomes.Outcome.{Outcome}
use Rattle.hb_steps.specs.declared.outcomes.Outcome.TheVariants as outcomes
use Rattle.hb_core.specs.Showing.{RunningCore}
use Rattle.hb_steps.specs.ProgressLaws.{jobs_in_work, worker_for}
use Rattle.hb_run.specs.Courses.{Course}
use Rattle.hb_run.specs.declared.turns.Turn.{Turn}
use Rattle.hb_run.specs.declared.turns.Turn.TheVariants as turns

abbrev pub turn_of : Outcome → Turn
turn_of (outcomes.Stopped why) = turns.Stopped
turn_of outcomes.Idle = turns.Idle
turn_of (outcomes.Blocked by) = turns.Blocked by
turn_of outcomes.Helped = turns.More
turn_of (outcomes.Answered number reply) = turns.More
turn_of (outcomes.Dropped why) = turns.More
turn_of outcomes.Moved = turns.More

-- something may have changed by it
abbrev pub is_more : Turn → Bool
is_more turns.Stopped = false
is_more turns.Idle = false
is_more (turns.Blocked by) = false
is_more turns.More = true

-- how many jobs of the kind wait or are in work
abbrev pub in_work : Option Activity → ℕ
in_work None = 0
in_work (Some activity) = jobs_in_work activity

abbrev pub jobs_left : JobKind → RunningCore → ℕ
jobs_left kind c = count_by (is_of kind) c.jobs + in_work (slice_get c.activities (worker_for kind - 1))

-- no line is without an answer, and no job of either kind is left
abbrev pub is_done : Course → Bool
is_done c = (c.left == 0) && (jobs_left Post c.core == 0) && (jobs_left Merge c.core == 0)

-- it is time to flush
abbrev pub is_due : RunningCore → Bool
is_due c = nat_lt (2 * room_of c.store.log) c.store.meta.log

-- how many places of the order are settled, and how many rounds so many turns are
abbrev pub settled_of : RunningCore → ℕ
settled_of c = mark_of c.store.log.groups (length c.order)

abbrev pub round_of : ℕ → ℕ
round_of taken = taken / 256

-- The actor of a place counts that it changed something, where it did, and no other one does.
pub record CountsMove (place : ℕ) (moved : Bool) (old new : List ℕ) : Type 0 where
  pub still : moved ≡ false → new ≡ old
  pub others : (other : ℕ) → other ≢ place → slice_get new other ≡ slice_get old other
