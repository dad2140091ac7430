use Rattle.std.proofs.Common.{◌≡◌, ◌-◌, ◌^◌, Ok}
use Rattle.hb_core.specs.CoreSeen.{core_seen, core_disk}
use Rattle.hb_tidy.specs.Going.{AllRest, Goes, MayTidy}
use Rattle.hb_tidy.proofs.tidy.Given as goal

-- the passes and the work behind them so far
abbrev pub invariant-loop-core : goal.invariant-loop-core
invariant-loop-core g l = record {
  goes : Goes {T = Unit {0}} (Ok (tt {0})) (g.D.Device.model (core_disk l.fn.core)) (core_seen l.fn.core) (g.D.Device.model (core_disk l.core)) (core_seen l.core);
  may : MayTidy (g.D.Device.model (core_disk l.core)) (core_seen l.core);
  rests : AllRest (core_seen l.core);
  before : l.before ≡ (core_seen l.fn.core).done;
}

abbrev pub decreases-loop-core : goal.decreases-loop-core
decreases-loop-core g l = 2 ^ 64 - 1 - l.core.taken
