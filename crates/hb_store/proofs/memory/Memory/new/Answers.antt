use Rattle.std.proofs.Common.{◌≡◌, ℕ, [], sym, subst, ap, ◌∙◌}
use Rattle.hb_pool.specs.Pools.{IsPool}
use Rattle.hb_pool.proofs.Facts.Pooled.{empty_pool}
use Rattle.hb_wal.specs.Log.{LogState}
use Rattle.hb_store.specs.Held.{StoreHeld}
use Rattle.hb_store.specs.Inside.{AreSpelled}
use Rattle.hb_store.specs.States.{IsMemory, new_state}
use Rattle.hb_store.proofs.Held.{nothing_seen}
use Rattle.hb_store.proofs.Openings.{new_memory}
use Rattle.hb_store.proofs.memory.Memory.new.Goals as goal

pub invariant_of-result : goal.invariant_of-result
invariant_of-result c =
    let log : c.in_ok-log.log ≡ (new_state c.args.turn c.args.meta).log = c.in_ok-log.ensures ∙ ap (λ (n : ℕ). let l : LogState = record { area = n; len = c.args.meta.log; written = 0; groups = [] } in l) c.log_start.ensures in
    let same = nothing_seen c.args.turn c.args.meta c.in_ok-log.log c.in_ok-pool.pool c.in_ok-in_log.in_log log c.in_ok-pool.ensures c.in_ok-in_log.ensures in
    record {
      memory = subst (λ (h : StoreHeld). IsMemory h.state) (sym same) (new_memory c.args.turn c.args.meta c.requires.stands);
      pool = subst IsPool (sym c.in_ok-pool.ensures) empty_pool;
      spelled = subst AreSpelled (sym c.in_ok-pool.ensures) (λ id. tt);
    }

pub returns : goal.returns
returns c =
    let log : c.in_ok-log.log ≡ (new_state c.args.turn c.args.meta).log = c.in_ok-log.ensures ∙ ap (λ (n : ℕ). let l : LogState = record { area = n; len = c.args.meta.log; written = 0; groups = [] } in l) c.log_start.ensures in
    nothing_seen c.args.turn c.args.meta c.in_ok-log.log c.in_ok-pool.pool c.in_ok-in_log.in_log log c.in_ok-pool.ensures c.in_ok-in_log.ensures
