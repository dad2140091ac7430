-- What a step of a worker or a flush comes to, by what the core tells behind it.
use Rattle.std.specs.Prelude.{◌≡◌, ◌≢◌, ◌⊎◌, ℕ, ◌+◌, ◌<◌, ◌-◌, ◌^◌, Result, Ok, Err, OnOk, Some, None}
use Rattle.hb_disk.specs.Model.{DiskModel}
use Rattle.hb_activity.specs.declared.dropping.DropWhy.TheVariants as drops
use Rattle.hb_activity.specs.declared.jobs.JobKind.{JobKind}
use Rattle.hb_store.specs.Fetching.{IsCrowdedOut}
use Rattle.hb_store.specs.declared.stops.StopWhy.{StopWhy}
use Rattle.hb_store.specs.declared.stops.StopWhy.TheVariants as whys
use Rattle.hb_steps.specs.Machines.{Machine}
use Rattle.hb_steps.specs.ProgressLaws.{jobs_of}
use Rattle.hb_core.specs.Showing.{RunningCore, ShowsMachine}
use Rattle.hb_steps.specs.ProgressLaws.{worker_for}
use Rattle.hb_steps.specs.declared.outcomes.Outcome.{Outcome}
use Rattle.hb_steps.specs.declared.outcomes.Outcome.TheVariants as outcomes
use Rattle.hb_tidy.specs.declared.stops.TidyStop.{TidyStop}
use Rattle.hb_tidy.specs.declared.stops.TidyStop.TheVariants as stops
use Rattle.hb_tidy.specs.Going.{AllRest, Goes, MayTidy, RestsBut}

-- why a tidying ends where the core is stopped for this
abbrev pub stop_by : StopWhy → TidyStop
stop_by whys.WriteFault = stops.WriteFault
stop_by (whys.Damaged page why) = stops.Damaged page why

-- No step is left; or the core is stopped; or neither.
pub record EndsStopped (c : RunningCore) (stop : TidyStop) : Type 0 where
  pub left : c.taken ≢ 2 ^ 64 - 1
  pub why : StopWhy
  pub stopped : c.stop ≡ Some why
  pub says : stop ≡ stop_by why

abbrev pub EndsCall : RunningCore → Result (Unit {0}) TidyStop → Type 0
EndsCall c (Ok v) = (c.taken ≢ 2 ^ 64 - 1) × (c.stop ≡ None)
EndsCall c (Err stop) = ((stop ≡ stops.Spent) × (c.taken ≡ 2 ^ 64 - 1)) ⊎ EndsStopped c stop

-- A job was dropped; all else goes on.
abbrev pub EndsStep : Outcome → Result (Unit {0}) TidyStop → Type 0
EndsStep (outcomes.Dropped drops.NoMemory) result = result ≡ Err stops.NoMemory
EndsStep (outcomes.Dropped drops.ReadFault) result = result ≡ Err stops.ReadFault
EndsStep other result = result ≡ Ok (tt {0})

-- ---- what a call wants of the core, and what a step makes of it

-- The core may go on, and each actor is at rest.
pub record MayWorkOff (d : DiskModel) (c : RunningCore) : Type 0 where
  pub may : MayTidy d c
  pub rests : AllRest c

-- The core may go on, and each actor is at rest but the worker for this kind of jobs. There are some for it.
pub record MayTakeStep (kind : JobKind) (d : DiskModel) (c : RunningCore) : Type 0 where
  pub may : MayTidy d c
  pub rests : RestsBut (worker_for kind) c
  pub some : (m : Machine) → ShowsMachine d c m → 0 < jobs_of kind m

-- The core may go on, and a page has no place in memory.
pub record MayMakeRoom (d : DiskModel) (c : RunningCore) : Type 0 where
  pub may : MayTidy d c
  pub crowded : (id : ℕ) × IsCrowdedOut id c.store c.uses

-- One step of that worker. All others rest as before.
pub record TakesStep (kind : JobKind) {T : Type 0} (result : Result T TidyStop) (d : DiskModel) (old : RunningCore) (e : DiskModel) (new : RunningCore) : Type 0 where
  pub goes : Goes result d old e new
  pub rests : OnOk result (RestsBut (worker_for kind) new)
  pub one : OnOk result (new.taken ≡ old.taken + 1)
