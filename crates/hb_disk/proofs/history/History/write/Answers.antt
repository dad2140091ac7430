use Rattle.std.proofs.Common.{◌≡◌, ap, ◌∙◌, sym, subst, length}
use Rattle.hb_disk.specs.Model.{overwritten}
use Rattle.hb_disk.specs.NotedCalls.{Notes, IsOver, IsNoted}
use Rattle.hb_disk.specs.declared.event.Change.TheVariants.{Tried}
use Rattle.hb_disk.proofs.Histories.{left_by, write_refused, write_kept, Passes-put}
use Rattle.hb_disk.proofs.history.History.write.Goals as goal

pub returns-in_err-keep-clause-writes : goal.returns-in_err-keep-clause-writes
returns-in_err-keep-clause-writes c =
    let old = c.args.self.now in
    let new = c.keep.new.self in
    write_refused old.bytes.items old.events.items old.clock old.bytes_fit old.clock_fits c.args.call new.bytes.items new.events.items new.clock c.in_err-keep.ensures.clock c.from_residual.result c.args.at c.args.piece.now
    c.from_residual.ensures.0 c.requires c.in_err-keep.ensures.same (left_by _ _ _ _ _ c.in_err-keep.ensures.why)

pub returns-clause-writes : goal.returns-clause-writes
returns-clause-writes c =
    let old = c.args.self.now in
    let new = c.put.new.self in
    write_kept old.bytes.items old.events.items old.clock old.bytes_fit old.clock_fits c.args.call new.bytes.items new.events.items new.clock (c.put.ensures.clock ∙ c.in_ok-keep.ensures.clock) _ c.args.at c.args.piece.now
    c.requires (c.put.ensures.bytes ∙ ap (λ l. overwritten l c.args.at c.args.piece.now) c.in_ok-keep.ensures.made) (subst (λ es. Notes (IsOver c.args.at (length c.args.piece.now) old.bytes.items) old.clock c.args.call old.events.items es) (sym (ap (λ v. v.items) c.put.ensures.events)) c.in_ok-keep.ensures.noted)

pub returns-clause-passes : goal.returns-clause-passes
returns-clause-passes c =
    let old = c.args.self.now in
    let mid = c.keep.new.self in
    let new = c.put.new.self in
    Passes-put (IsOver c.args.at (length c.args.piece.now) old.bytes.items) (IsNoted (λ d. d ≡ Tried c.args.at (length c.args.piece.now)) c.args.call old mid) (IsNoted (λ d. d ≡ Tried c.args.at (length c.args.piece.now)) c.args.call old new) old.bytes.items (overwritten old.bytes.items c.args.at c.args.piece.now)
    c.args.call c.args.listed _ old mid new c.in_ok-keep.ensures c.put.ensures.events c.put.ensures.clock
    (c.put.ensures.bytes ∙ ap (λ l. overwritten l c.args.at c.args.piece.now) c.in_ok-keep.ensures.made)
