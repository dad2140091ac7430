use Rattle.std.proofs.Common.{◌⊎◌, ◌≡◌, ◌<◌, ◌-◌, ◌^◌, Ok}
use Rattle.hb_core.specs.CoreSeen.{core_seen, core_disk}
use Rattle.hb_steps.specs.ProgressLaws.{worker_for}
use Rattle.hb_tidy.specs.Going.{Goes, MayTidy, RestsBut}
use Rattle.hb_tidy.proofs.stepping.work_off.Given as goal

-- the steps so far, where any was taken
abbrev pub invariant-loop-kind : goal.invariant-loop-kind
invariant-loop-kind g l = record {
  goes : Goes {T = Unit {0}} (Ok (tt {0})) (g.D.Device.model (core_disk l.fn.core)) (core_seen l.fn.core) (g.D.Device.model (core_disk l.core)) (core_seen l.core);
  may : MayTidy (g.D.Device.model (core_disk l.core)) (core_seen l.core);
  rests : RestsBut (worker_for l.kind) (core_seen l.core);
  more : (l.fn.core.taken < l.core.taken) ⊎ (l.core ≡ l.fn.core);
}

abbrev pub decreases-loop-kind : goal.decreases-loop-kind
decreases-loop-kind g l = 2 ^ 64 - 1 - l.core.taken
