use Rattle.std.proofs.Common.{◌≡◌, ◌↔◌, ℕ, List, IsTrue, subst, refl}
use Rattle.std.specs.List.{Contains}
use Rattle.hb_disk.specs.Calls.{Syncs}
use Rattle.hb_disk.specs.NotedCalls.{Notes}
use Rattle.hb_disk.specs.MemDisk.{mem_disk_seen, HasSameRecord}
use Rattle.hb_disk.specs.declared.event.Change.TheVariants.{Synced}
use Rattle.hb_disk.specs.declared.mem_disk.MemDisk.{MemDisk}
use Rattle.hb_disk.proofs.MemDisks.{told_syncs, counts_after, alike, told_on_ok, called_exactly}
use Rattle.hb_disk.proofs.mem_disk.MemDiskDevice.sync.Goals as goal

-- the disk as the call leaves it
abbrev new_of : goal.After-answer → MemDisk
new_of c = record {
  alloc = c.args.self.now.alloc;
  history = c.sync-done.new.self;
  failing = c.args.self.now.failing;
  calls = c.saturating_add-self.result;
  read_faults = c.args.self.now.read_faults;
  write_faults = c.answer.new.faults;
  starved = c.answer.new.starved;
}

-- by its history's answer
by_history : (c : goal.After-answer) → Syncs c.sync-done.result (mem_disk_seen c.args.self.now) (mem_disk_seen (new_of c))
by_history c = c.sync-done.ensures.syncs c.args.self.now.read_faults c.args.self.now.write_faults c.answer.new.faults
    (counts_after c.sync-done.result c.args.self.now.write_faults c.answer.new.faults _ c.answer.ensures.done c.answer.ensures.failed c.answer.ensures.later)

pub returns-clause-syncs : goal.returns-clause-syncs
returns-clause-syncs c = told_syncs c.sync-done.result c.answer.result (mem_disk_seen c.args.self.now) (mem_disk_seen (new_of c)) (alike c.sync-done.result c.answer.result c.answer.ensures.alike) (by_history c)

pub returns-clause-exact : goal.returns-clause-exact
returns-clause-exact c =
    called_exactly c.args.self.now (new_of c) c.is_listed-listed.result (subst (λ (l : List ℕ). IsTrue c.is_listed-listed.result ↔ Contains l c.args.self.now.calls) c.deref.ensures.value c.is_listed-listed.ensures) c.saturating_add-self.ensures refl refl (HasSameRecord c.args.self.now (new_of c))
    c.sync-done.result c.answer.result (alike c.sync-done.result c.answer.result c.answer.ensures.alike) c.sync-done.ensures.passes.fails (λ at_end. ((by_history c).ticks.ended refl at_end).0)
    c.sync-done.ensures.passes.why c.sync-done.ensures.passes.same c.answer.ensures.done c.answer.ensures.failed c.answer.ensures.starved

pub returns-clause-recorded : goal.returns-clause-recorded
returns-clause-recorded c =
    let old = c.args.self.now in
    let new = c.sync-done.new.self in
    told_on_ok c.sync-done.result c.answer.result (Notes (λ d. d ≡ Synced) old.history.clock old.calls old.history.events.items new.events.items)
    (alike c.sync-done.result c.answer.result c.answer.ensures.alike) c.sync-done.ensures.passes.noted
