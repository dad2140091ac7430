use Rattle.std.proofs.Common.{◌≡◌, ◌-◌, ◌^◌, Ok}
use Rattle.hb_core.specs.CoreSeen.{core_seen, core_disk}
use Rattle.hb_tidy.specs.Going.{MayTidy}
use Rattle.hb_tidy.specs.Looking.{LooksOver, NothingOf}
use Rattle.hb_tidy.proofs.looking.look.Given as goal

-- flushes alone were done so far, each of which counts as a step
abbrev pub invariant-loop-page : goal.invariant-loop-page
invariant-loop-page g l = record {
  looks : LooksOver {T = Unit {0}} NothingOf (Ok (tt {0})) (λ v. NothingOf) (g.D.Device.model (core_disk l.fn.core)) (core_seen l.fn.core) (g.D.Device.model (core_disk l.core)) (core_seen l.core);
  may : MayTidy (g.D.Device.model (core_disk l.core)) (core_seen l.core);
  meta : (core_seen l.core).store.meta ≡ (core_seen l.fn.core).store.meta;
}

abbrev pub decreases-loop-page : goal.decreases-loop-page
decreases-loop-page g l = 2 ^ 64 - 1 - l.core.taken
