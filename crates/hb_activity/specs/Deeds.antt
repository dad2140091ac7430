-- What a row of the step table makes of its actor, its file and its queue. All else is as it was.
use Rattle.std.specs.Prelude.{ℕ, List, [], Option, Some, None}
use Rattle.hb_ops.specs.declared.operations.Op.{Op}
use Rattle.hb_set.specs.Order.{Entry}
use Rattle.hb_set.specs.declared.commands.Reply.{Reply}
use Rattle.hb_set.specs.declared.scripts.Line.{Line}
use Rattle.hb_activity.specs.declared.dropping.DropWhy.{DropWhy}
use Rattle.hb_activity.specs.declared.jobs.Job.{Job}
use Rattle.hb_activity.specs.declared.activities.Activity.{Activity}
use Rattle.hb_activity.specs.declared.activities.Activity.TheVariants.{SessionIdle, SessionAwait}

-- What a deed comes to: its actor goes on; a line is answered with this reply; or a worker's job is dropped.
pub data Says : Type 0 where
  GoesOn : Says
  Answers : ℕ → Reply → Says
  Drops : DropWhy → Says

pub record Deed : Type 0 where
  -- where the actor stands afterwards; it holds what it holds there
  pub next : Activity
  -- the operation that it does, where it does one
  pub op : Option Op
  -- the job that it takes from those that wait, and the jobs that join them, one after the other
  pub takes : Option Job
  pub adds : List Job
  -- the line that takes effect, with its reply
  pub joins : Option Entry
  -- what it comes to
  pub says : Says

-- it stands elsewhere, and jobs join the queue
abbrev pub moves_to : Activity → List Job → Deed
moves_to next adds = record { next = next; op = None; takes = None; adds = adds; joins = None; says = GoesOn }

-- it takes a job
abbrev pub takes_job : Activity → Job → Deed
takes_job next job = record { next = next; op = None; takes = Some job; adds = []; joins = None; says = GoesOn }

-- it does an operation, too
abbrev pub does : Activity → Op → List Job → Deed
does next op adds = record { next = next; op = Some op; takes = None; adds = adds; joins = None; says = GoesOn }

-- Its line takes effect: the line joins the order at this place, and its reply waits until the place is settled.
abbrev pub takes_effect : ℕ → Line → Reply → Option Op → List Job → Deed
takes_effect place line reply op adds = record {
  next = SessionAwait line.number reply place;
  op = op;
  takes = None;
  adds = adds;
  joins = Some (record { line = line; reply = reply });
  says = GoesOn;
}

-- its line is answered now
abbrev pub answers_now : ℕ → Reply → Deed
answers_now number reply = record { next = SessionIdle; op = None; takes = None; adds = []; joins = None; says = Answers number reply }
