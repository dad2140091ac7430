-- A core with another value in one place, all else as it was.
use Rattle.std.specs.Prelude.{◌≡◌, ℕ, ◌-◌, List, Some}
use Rattle.std.specs.List.{slice_get, slice_set}
use Rattle.hb_activity.specs.declared.activities.Activity.{Activity}
use Rattle.hb_activity.specs.declared.jobs.Job.{Job}
use Rattle.hb_latch.specs.Tables.{LatchTable}
use Rattle.hb_store.specs.declared.stops.StopWhy.{StopWhy}
use Rattle.hb_pool.specs.Frames.{Use}
use Rattle.hb_store.specs.States.{StoreState}
use Rattle.hb_core.specs.declared.counts.TidyCounts.{TidyCounts}
use Rattle.hb_core.specs.Showing.{RunningCore}

-- the actor stands so
abbrev pub StandsAs : RunningCore → ℕ → Activity → Type 0
StandsAs c actor activity = slice_get c.activities (actor - 1) ≡ Some activity

-- it stands elsewhere
abbrev pub with_standing : ℕ → Activity → RunningCore → RunningCore
with_standing actor next c = record c { activities = slice_set c.activities (actor - 1) next }

-- other jobs, a stop, another order, other latches, another store, other counts
abbrev pub with_jobs : List Job → RunningCore → RunningCore
with_jobs jobs c = record c { jobs = jobs }

abbrev pub with_stop : StopWhy → RunningCore → RunningCore
with_stop why c = record c { stop = Some why }

abbrev pub with_order : List ℕ → RunningCore → RunningCore
with_order order c = record c { order = order }

abbrev pub with_latches : LatchTable → RunningCore → RunningCore
with_latches latches c = record c { latches = latches }

abbrev pub with_store : StoreState → RunningCore → RunningCore
with_store store c = record c { store = store }

abbrev pub with_order_of_use : List Use → RunningCore → RunningCore
with_order_of_use uses c = record c { uses = uses }

abbrev pub with_counts : TidyCounts → RunningCore → RunningCore
with_counts done c = record c { done = done }
