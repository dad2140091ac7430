use Rattle.std.proofs.Common.{◌≡◌, [], All, Ok}
use Rattle.hb_core.specs.CoreSeen.{core_seen, core_disk}
use Rattle.hb_tidy.specs.Going.{MayTidy}
use Rattle.hb_tidy.specs.Looking.{LooksOver, NothingOf}
use Rattle.hb_tidy.specs.Owed.{IsJobOwed}
use Rattle.hb_tidy.proofs.passes.wait_for_all.Given as goal

abbrev pub invariant-loop-job : goal.invariant-loop-job
invariant-loop-job g l = record {
  looks : LooksOver {T = Unit {0}} (λ s. All (IsJobOwed s) l.jobs) (Ok (tt {0})) (λ v. NothingOf) (g.D.Device.model (core_disk l.fn.core)) (core_seen l.fn.core) (g.D.Device.model (core_disk l.core)) (core_seen l.core);
  may : MayTidy (g.D.Device.model (core_disk l.core)) (core_seen l.core);
  meta : (core_seen l.core).store.meta ≡ (core_seen l.fn.core).store.meta;
  some : (core_seen l.core).jobs ≡ [] → l.job-index ≡ 0;
}
