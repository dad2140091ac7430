use Rattle.std.proofs.Common.{◌≡◌}
use Rattle.hb_disk.specs.declared.event.Change.TheVariants.{Synced}
use Rattle.hb_disk.proofs.Histories.{sync_noted, unnoted, Passes-noted}
use Rattle.hb_disk.proofs.history.History.sync.Goals as goal

pub returns-clause-syncs : goal.returns-clause-syncs
returns-clause-syncs c =
    let old = c.args.self.now in
    let new = c.note.new.self in
    sync_noted old.bytes.items old.events.items old.clock old.bytes_fit old.clock_fits c.args.call new.bytes.items new.events.items new.clock c.note.ensures.clock c.note.result
    c.note.ensures.made c.note.ensures.same c.note.ensures.noted (unnoted c.note.result (new.events.items ≡ old.events.items) old.clock c.note.ensures.why)

pub returns-clause-passes : goal.returns-clause-passes
returns-clause-passes c =
    let old = c.args.self.now in
    let new = c.note.new.self in
    Passes-noted (λ d. d ≡ Synced) (λ d. d ≡ Synced) (new.events.items ≡ old.events.items) old.bytes.items c.args.call c.args.listed c.note.result old new (λ d is. is) c.if-listed.false c.note.ensures
