-- Of which kind an actor is, what it has in hand, and how it stands with nothing in hand.
use Rattle.std.specs.Prelude.{Option, Some, None}
use Rattle.hb_set.specs.declared.scripts.Line.{Line}
use Rattle.hb_activity.specs.declared.jobs.Job.{Job}
use Rattle.hb_activity.specs.declared.activities.Activity.{Activity}
use Rattle.hb_activity.specs.declared.activities.Activity.TheVariants as at

-- a session, the worker that posts, the one that merges, and the one that flushes
pub data Class : Type 0 where
  Sessions : Class
  Posters : Class
  Consolidators : Class
  Flushers : Class

abbrev pub class_of : Activity → Class
class_of at.SessionIdle = Sessions
class_of (at.SessionWalk line held rest found) = Sessions
class_of (at.SessionSplit line held) = Sessions
class_of (at.SessionPut line source fresh) = Sessions
class_of (at.SessionAwait line reply place) = Sessions
class_of at.PosterIdle = Posters
class_of (at.PosterGrow job) = Posters
class_of (at.PosterWalk job held) = Posters
class_of (at.PosterChild job parent) = Posters
class_of (at.PosterPromote job parent) = Posters
class_of (at.PosterAgain job parent) = Posters
class_of at.ConsolidatorIdle = Consolidators
class_of (at.ConsolidatorWalk job held) = Consolidators
class_of (at.ConsolidatorScan job parent child) = Consolidators
class_of (at.ConsolidatorTry job parent keep gone leaf) = Consolidators
class_of (at.ConsolidatorPromote job parent keep gone) = Consolidators
class_of (at.ConsolidatorKeep job parent keep gone) = Consolidators
class_of (at.ConsolidatorDecide job parent keep gone) = Consolidators
class_of at.Flusher = Flushers

-- What an actor has in hand: nothing; a line that was taken and hasn't taken effect; or the job in work.
pub data Hand : Type 0 where
  Empty : Hand
  HasLine : Line → Hand
  HasJob : Job → Hand

abbrev pub hand_of : Activity → Hand
hand_of (at.SessionWalk line held rest found) = HasLine line
hand_of (at.SessionSplit line held) = HasLine line
hand_of (at.SessionPut line source fresh) = HasLine line
hand_of (at.PosterGrow job) = HasJob job
hand_of (at.PosterWalk job held) = HasJob job
hand_of (at.PosterChild job parent) = HasJob job
hand_of (at.PosterPromote job parent) = HasJob job
hand_of (at.PosterAgain job parent) = HasJob job
hand_of (at.ConsolidatorWalk job held) = HasJob job
hand_of (at.ConsolidatorScan job parent child) = HasJob job
hand_of (at.ConsolidatorTry job parent keep gone leaf) = HasJob job
hand_of (at.ConsolidatorPromote job parent keep gone) = HasJob job
hand_of (at.ConsolidatorKeep job parent keep gone) = HasJob job
hand_of (at.ConsolidatorDecide job parent keep gone) = HasJob job
hand_of other = Empty

-- how one of the kind stands with nothing in hand
abbrev pub idle_of : Class → Activity
idle_of Sessions = at.SessionIdle
idle_of Posters = at.PosterIdle
idle_of Consolidators = at.ConsolidatorIdle
idle_of Flushers = at.Flusher

-- the line that an actor has in hand, and the job that it has in work
abbrev pub line_of : Hand → Option Line
line_of (HasLine line) = Some line
line_of other = None

abbrev pub job_of : Hand → Option Job
job_of (HasJob job) = Some job
job_of other = None

abbrev pub line_in_hand : Activity → Option Line
line_in_hand activity = line_of (hand_of activity)

abbrev pub job_in_work : Activity → Option Job
job_in_work activity = job_of (hand_of activity)
