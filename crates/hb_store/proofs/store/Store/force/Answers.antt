use Rattle.std.proofs.Common.{◌≡◌, Ok, Err, false, ap, sym, subst, ◌∙◌}
use Rattle.std.proofs.lemmas.Bool.{false≢true}
use Rattle.hb_wal.specs.Forces.{MayForce}
use Rattle.hb_wal.specs.Log.{LogState}
use Rattle.hb_store.specs.States.{IsMemory}
use Rattle.hb_store.specs.Held.{StoreHeld}
use Rattle.hb_store.specs.Seen.{seen_as}
use Rattle.hb_store.specs.Inside.{memory_seen}
use Rattle.hb_store.specs.Forced.{WritesGroups, stopped_state, with_log}
use Rattle.hb_store.proofs.AfterForce.{memory_logged, memory_stopped}
use Rattle.hb_store.proofs.Written.{log_fits, written_not, written_so}
use Rattle.hb_store.proofs.store.Store.force.Goals as goal

pub invariant_of-memory : goal.invariant_of-memory
invariant_of-memory g c = record {
  memory = memory_logged (memory_seen c.memory.inside).state c.force.new.self c.memory.invariant.memory (ap (λ (l : LogState). l.area) c.in-Ok.ensures.forced) (ap (λ (l : LogState). l.len) c.in-Ok.ensures.forced);
  pool = c.memory.invariant.pool;
  spelled = c.memory.invariant.spelled;
}

pub invariant_of-memory-in-Err : goal.invariant_of-memory-in-Err
invariant_of-memory-in-Err g c =
    let seen = (memory_seen c.memory.inside).state in
    record {
      memory = memory_stopped (with_log c.force.new.self seen)
          (memory_logged seen c.force.new.self c.memory.invariant.memory (ap (λ (l : LogState). l.area) c.in-Err.ensures.kept) (ap (λ (l : LogState). l.len) c.in-Err.ensures.kept));
      pool = c.memory.invariant.pool;
      spelled = c.memory.invariant.spelled;
    }

pub force-requires : goal.force-requires
force-requires g c =
    let d = g.D.Device.model c.args.self.now.disk in
    let st = seen_as c.args.self.now in
    subst (λ (h : StoreHeld). MayForce d h.state.log) (sym c.memory.view_is) (record {
      inside = log_fits st d.size (subst (λ (h : StoreHeld). IsMemory h.state) c.memory.view_is c.memory.invariant.memory) c.args.self.now.room;
      has = λ told. let kept = c.requires.kept told in (kept.2.parts.payloads, (kept.2.disk.running c.requires.running).logged);
    })

pub returns-in-Ok-clause-writes : goal.returns-in-Ok-clause-writes
returns-in-Ok-clause-writes g c =
    let d = g.D.Device.model c.args.self.now.disk in
    let new = g.D.Device.model c.force.new.disk in
    let log : LogState = c.force.new.self in
    let seen = (memory_seen c.memory.inside).state in
    let going : seen.stopped ≡ false = ap (λ (h : StoreHeld). h.state.stopped) c.memory.view_is ∙ c.requires.running in
    subst (λ (h : StoreHeld). WritesGroups (Ok tt) d new h.state (with_log log seen)) c.memory.view_is
    (written_so d new (g.met.D.Device.is_disk c.args.self.now.disk) (g.met.D.Device.is_disk c.force.new.disk) seen c.memory.invariant.memory going log c.force.ensures.moments _
    (λ none. (c.in-Ok.ensures.nothing none).1) c.in-Ok.ensures.forced c.in-Ok.ensures.log c.in-Ok.ensures.clock c.in-Ok.ensures.wrote)

pub returns-in-Err-clause-writes : goal.returns-in-Err-clause-writes
returns-in-Err-clause-writes g c =
    let d = g.D.Device.model c.args.self.now.disk in
    let new = g.D.Device.model c.force.new.disk in
    let log : LogState = c.force.new.self in
    let seen = (memory_seen c.memory.inside).state in
    let going : seen.stopped ≡ false = ap (λ (h : StoreHeld). h.state.stopped) c.memory.view_is ∙ c.requires.running in
    subst (λ (h : StoreHeld). WritesGroups (Err _) d new h.state (stopped_state (with_log log seen))) c.memory.view_is
    (written_not d new (g.met.D.Device.is_disk c.args.self.now.disk) (g.met.D.Device.is_disk c.force.new.disk) seen c.memory.invariant.memory going log c.force.ensures.moments _ _
    (λ none. let never = (c.in-Err.ensures.nothing none).0 in absurd (false≢true never)) c.in-Err.ensures.kept c.in-Err.ensures.wrote)

pub returns-in-Ok-clause-uses : goal.returns-in-Ok-clause-uses
returns-in-Ok-clause-uses g c = ap (λ (h : StoreHeld). h.uses) c.memory.view_is

pub returns-in-Err-clause-uses : goal.returns-in-Err-clause-uses
returns-in-Err-clause-uses g c = ap (λ (h : StoreHeld). h.uses) c.memory.view_is
