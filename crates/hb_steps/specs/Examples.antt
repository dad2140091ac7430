-- Rows worked out by hand, where the table computes.
use Rattle.std.specs.Prelude.{◌≡◌, [], ◌∷◌, Some, None}
use Rattle.hb_latch.specs.declared.modes.Mode.TheVariants.{Update, Exclusive}
use Rattle.hb_activity.specs.declared.jobs.Job.{Job}
use Rattle.hb_activity.specs.declared.activities.Activity.TheVariants.{PosterChild, SessionIdle, SessionPut}
use Rattle.hb_steps.specs.Performing.{latches_held, mode_among}
use Rattle.hb_point.specs.Examples.{asks}
use Rattle.hb_store.specs.States.{StoreState}
use Rattle.hb_wal.specs.Forces.{calls_of_force}
use Rattle.hb_wal.specs.Log.{Waiting}

-- Both halves of a split are held exclusively, a parent that is looked into for update, and an idle session holds none.
pub record HoldsLatches (st : StoreState) : Type 0 where
  pub source : mode_among 3 (latches_held st (SessionPut (asks 1 1 5) 3 4)) ≡ Some Exclusive
  pub fresh : mode_among 4 (latches_held st (SessionPut (asks 1 1 5) 3 4)) ≡ Some Exclusive
  pub third : mode_among 5 (latches_held st (SessionPut (asks 1 1 5) 3 4)) ≡ None
  pub parent : (job : Job) → mode_among 9 (latches_held st (PosterChild job 9)) ≡ Some Update
  pub idle : mode_among 3 (latches_held st SessionIdle) ≡ None

-- A force takes four calls where a group waits, and none where none does.
pub record CountsCalls : Type 0 where
  pub none : calls_of_force [] ≡ 0
  pub one : (group : Waiting) → calls_of_force (group ∷ []) ≡ 4
  pub two : (group other : Waiting) → calls_of_force (group ∷ other ∷ []) ≡ 4
