use Rattle.std.proofs.Common.{◌≡◌, take, drop, rules}
use Rattle.hb_disk.specs.NotedCalls.{IsOver, IsNoted}
use Rattle.hb_disk.specs.declared.event.Change.TheVariants.{Wrote, Tried}
use Rattle.hb_disk.proofs.Histories.{Passes-noted}
use Rattle.hb_disk.proofs.history.History.keep.Goals as goal

pub returns-in-Ok : goal.returns-in-Ok
returns-in-Ok c =
    let before = c.in-Ok.before in
    let old = c.args.self.now in
    let new = c.note.new.self in
    let same : before.items ≡ take c.args.len (drop c.args.at old.bytes.items) = search rules in
    Passes-noted (λ d. d ≡ Wrote c.args.at before) (IsOver c.args.at c.args.len old.bytes.items) (IsNoted (λ d. d ≡ Tried c.args.at c.args.len) c.args.call old new) old.bytes.items c.args.call c.args.listed c.note.result old new
    (λ d is. (before, is, same)) c.if-listed.false c.note.ensures
