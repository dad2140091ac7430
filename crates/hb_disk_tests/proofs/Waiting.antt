-- A log to which a group was appended.
use Rattle.std.proofs.Common.{◌≡◌, ◌+◌, ◌-◌, ◌≤◌, ℕ, List, sym, subst}
use Rattle.hb_disk.specs.Model.{DiskModel}
use Rattle.hb_wal.specs.Forces.{HasLog, MayForce}
use Rattle.hb_wal.specs.Log.{LogState, Waiting}

-- what may be forced doesn't depend on the groups that wait
pub still_may_force : (d : DiskModel) (old new : LogState) → new.area ≡ old.area → new.len ≡ old.len → new.written ≡ old.written → MayForce d old → MayForce d new
still_may_force d old new area len written may =
    let M : ℕ → ℕ → ℕ → Type 0 = λ a l w. MayForce d (record { area = a; len = l; written = w; groups = new.groups }) in
    let same : M old.area old.len old.written = record {
      inside = may.inside;
      has = λ tells. let h = may.has tells in (h.0, record { synced = h.1.synced; payloads_fit = h.1.payloads_fit; count = h.1.count; reads = h.1.reads });
    } in
    subst (λ (a : ℕ). M a new.len new.written) (sym area) (subst (λ (l : ℕ). M old.area l new.written) (sym len) (subst (λ (w : ℕ). M old.area old.len w) (sym written) same))
