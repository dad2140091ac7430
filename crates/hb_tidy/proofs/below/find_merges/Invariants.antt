use Rattle.std.proofs.Common.{◌≡◌, ℕ, All, Ok, take}
use Rattle.hb_space.specs.Boxes.{Area}
use Rattle.hb_ops.specs.Settled.{IsMergeable}
use Rattle.hb_core.specs.CoreSeen.{core_seen, core_disk}
use Rattle.hb_steps.specs.KeptFits.{JobFits}
use Rattle.hb_tidy.specs.Finding.{BothLive}
use Rattle.hb_tidy.specs.Going.{MayTidy}
use Rattle.hb_tidy.specs.Looking.{LooksOver}
use Rattle.hb_tidy.specs.Owed.{FindsJobs}
use Rattle.hb_tidy.proofs.below.find_merges.Given as goal

-- where no job was made, none of the pages so far may go
abbrev pub invariant-loop-leaf : goal.invariant-loop-leaf
invariant-loop-leaf g l = record {
  looks : LooksOver {T = Unit {0}} (BothLive l.parent.id l.parent.page l.keep.id l.keep.page) (Ok (tt {0}))
      (λ v s. FindsJobs s (All (λ (leaf : ℕ × Area). ¬ (IsMergeable s l.parent.id l.keep.id leaf.0)) (take l.leaf-index l.given)) l.fn.jobs.items l.jobs.items)
      (g.D.Device.model (core_disk l.fn.core)) (core_seen l.fn.core) (g.D.Device.model (core_disk l.core)) (core_seen l.core);
  may : MayTidy (g.D.Device.model (core_disk l.core)) (core_seen l.core);
  meta : (core_seen l.core).store.meta ≡ (core_seen l.fn.core).store.meta;
  fit : All (JobFits (core_seen l.fn.core).store.meta.k) l.fn.jobs.items → All (JobFits (core_seen l.fn.core).store.meta.k) l.jobs.items;
}
