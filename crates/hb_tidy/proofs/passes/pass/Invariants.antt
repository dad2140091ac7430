use Rattle.std.proofs.Common.{◌≡◌, [], Ok}
use Rattle.hb_core.specs.CoreSeen.{core_seen, core_disk}
use Rattle.hb_tidy.specs.Finding.{AreTidyUpTo, HasGrown}
use Rattle.hb_tidy.specs.Going.{MayTidy}
use Rattle.hb_tidy.specs.Looking.{LooksOver, NothingOf}
use Rattle.hb_tidy.proofs.passes.pass.Given as goal

-- where no job waits, no growth is owed, and the pages so far are tidy
abbrev pub invariant-loop-place : goal.invariant-loop-place
invariant-loop-place g l = record {
  looks : LooksOver {T = Unit {0}} NothingOf (Ok (tt {0})) (λ v s. (core_seen l.core).jobs ≡ [] → HasGrown s × AreTidyUpTo s l.place)
      (g.D.Device.model (core_disk l.fn.core)) (core_seen l.fn.core) (g.D.Device.model (core_disk l.core)) (core_seen l.core);
  may : MayTidy (g.D.Device.model (core_disk l.core)) (core_seen l.core);
  high : l.high ≡ (core_seen l.core).store.meta.high;
}
