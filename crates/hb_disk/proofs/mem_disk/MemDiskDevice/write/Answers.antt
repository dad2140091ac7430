use Rattle.std.proofs.Common.{◌≡◌, ◌↔◌, length, ℕ, List, IsTrue, subst, refl}
use Rattle.std.specs.List.{Contains}
use Rattle.hb_disk.specs.Calls.{Writes}
use Rattle.hb_disk.specs.NotedCalls.{Notes, IsOver}
use Rattle.hb_disk.specs.MemDisk.{mem_disk_seen, Records}
use Rattle.hb_disk.specs.declared.event.Change.TheVariants.{Tried}
use Rattle.hb_disk.specs.declared.mem_disk.MemDisk.{MemDisk}
use Rattle.hb_disk.proofs.MemDisks.{told_writes, counts_after, alike, told_on_ok, called_exactly}
use Rattle.hb_disk.proofs.mem_disk.MemDiskDevice.write.Goals as goal

-- the disk as the call leaves it
abbrev new_of : goal.After-answer → MemDisk
new_of c = record {
  alloc = c.args.self.now.alloc;
  history = c.write-done.new.self;
  failing = c.args.self.now.failing;
  calls = c.saturating_add-self.result;
  read_faults = c.args.self.now.read_faults;
  write_faults = c.answer.new.faults;
  starved = c.answer.new.starved;
}

-- by its history's answer
by_history : (c : goal.After-answer) → Writes c.args.at c.args.from.now c.write-done.result (mem_disk_seen c.args.self.now) (mem_disk_seen (new_of c))
by_history c = c.write-done.ensures.writes c.args.self.now.read_faults c.args.self.now.write_faults c.answer.new.faults
    (counts_after c.write-done.result c.args.self.now.write_faults c.answer.new.faults _ c.answer.ensures.done c.answer.ensures.failed c.answer.ensures.later)

pub returns-clause-writes : goal.returns-clause-writes
returns-clause-writes c = told_writes c.write-done.result c.answer.result c.args.at c.args.from.now (mem_disk_seen c.args.self.now) (mem_disk_seen (new_of c)) (alike c.write-done.result c.answer.result c.answer.ensures.alike) (by_history c)

pub returns-clause-exact : goal.returns-clause-exact
returns-clause-exact c =
    called_exactly c.args.self.now (new_of c) c.is_listed-listed.result (subst (λ (l : List ℕ). IsTrue c.is_listed-listed.result ↔ Contains l c.args.self.now.calls) c.deref.ensures.value c.is_listed-listed.ensures) c.saturating_add-self.ensures refl refl (Records (λ d. d ≡ Tried c.args.at (length c.args.from.now)) c.args.self.now (new_of c))
    c.write-done.result c.answer.result (alike c.write-done.result c.answer.result c.answer.ensures.alike) c.write-done.ensures.passes.fails (λ at_end. ((by_history c).ticks.ended refl at_end).0)
    c.write-done.ensures.passes.why c.write-done.ensures.passes.same c.answer.ensures.done c.answer.ensures.failed c.answer.ensures.starved

pub returns-clause-recorded : goal.returns-clause-recorded
returns-clause-recorded c =
    let old = c.args.self.now in
    let new = c.write-done.new.self in
    told_on_ok c.write-done.result c.answer.result (Notes (IsOver c.args.at (length c.args.from.now) old.history.bytes.items) old.history.clock old.calls old.history.events.items new.events.items)
    (alike c.write-done.result c.answer.result c.answer.ensures.alike) c.write-done.ensures.passes.noted
