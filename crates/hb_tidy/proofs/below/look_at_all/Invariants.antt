use Rattle.std.proofs.Common.{◌≡◌, All, Ok, take}
use Rattle.hb_core.specs.CoreSeen.{core_seen, core_disk}
use Rattle.hb_steps.specs.KeptFits.{JobFits}
use Rattle.hb_tidy.specs.Finding.{HasPage, IsTidyBelow}
use Rattle.hb_tidy.specs.Going.{MayTidy}
use Rattle.hb_tidy.specs.Looking.{LooksOver}
use Rattle.hb_tidy.specs.Owed.{FindsJobs}
use Rattle.hb_tidy.proofs.below.look_at_all.Given as goal

-- where no job was made, nothing was found at the leaves so far
abbrev pub invariant-loop-leaf : goal.invariant-loop-leaf
invariant-loop-leaf g l = record {
  looks : LooksOver {T = Unit {0}} (HasPage l.parent.id l.parent.page) (Ok (tt {0}))
      (λ v s. FindsJobs s (All (IsTidyBelow s l.parent.id) (take l.leaf-index l.children)) l.fn.jobs.items l.jobs.items)
      (g.D.Device.model (core_disk l.fn.core)) (core_seen l.fn.core) (g.D.Device.model (core_disk l.core)) (core_seen l.core);
  may : MayTidy (g.D.Device.model (core_disk l.core)) (core_seen l.core);
  meta : (core_seen l.core).store.meta ≡ (core_seen l.fn.core).store.meta;
  fit : All (JobFits (core_seen l.fn.core).store.meta.k) l.fn.jobs.items → All (JobFits (core_seen l.fn.core).store.meta.k) l.jobs.items;
}
