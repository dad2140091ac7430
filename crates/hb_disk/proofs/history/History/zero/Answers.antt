use Rattle.std.proofs.Common.{ap, ◌∙◌, sym, subst, length, replicate, ◌+◌, ◌≤◌, ◌⊎◌, ◌≡◌}
use Rattle.std.proofs.lemmas.List.{length-replicate}
use Rattle.hb_disk.specs.Model.{overwritten}
use Rattle.hb_disk.specs.NotedCalls.{Notes, IsOver, IsNoted}
use Rattle.hb_disk.specs.declared.event.Change.TheVariants.{Tried}
use Rattle.hb_disk.proofs.Histories.{left_by, write_refused, write_kept, Passes-put}
use Rattle.hb_disk.proofs.history.History.zero.Goals as goal

pub returns-in_err-keep-clause-writes : goal.returns-in_err-keep-clause-writes
returns-in_err-keep-clause-writes c =
    let old = c.args.self.now in
    let new = c.keep.new.self in
    write_refused old.bytes.items old.events.items old.clock old.bytes_fit old.clock_fits c.args.call new.bytes.items new.events.items new.clock c.in_err-keep.ensures.clock c.from_residual.result c.args.at (replicate c.args.len 0)
    c.from_residual.ensures.0 (subst (λ n. c.args.at + n ≤ length old.bytes.items) (sym (length-replicate c.args.len 0)) c.requires) c.in_err-keep.ensures.same (subst (λ n. (c.keep.new.self.events.items ≡ old.events.items) ⊎ Notes (λ d. d ≡ Tried c.args.at n) old.clock c.args.call old.events.items c.keep.new.self.events.items) (sym (length-replicate c.args.len 0)) (left_by _ _ _ _ _ c.in_err-keep.ensures.why))

pub returns-clause-writes : goal.returns-clause-writes
returns-clause-writes c =
    let old = c.args.self.now in
    let new = c.clear.new.self in
    write_kept old.bytes.items old.events.items old.clock old.bytes_fit old.clock_fits c.args.call new.bytes.items new.events.items new.clock (c.clear.ensures.clock ∙ c.in_ok-keep.ensures.clock) _ c.args.at (replicate c.args.len 0)
    (subst (λ n. c.args.at + n ≤ length old.bytes.items) (sym (length-replicate c.args.len 0)) c.requires) (c.clear.ensures.bytes ∙ ap (λ l. overwritten l c.args.at (replicate c.args.len 0)) c.in_ok-keep.ensures.made) (subst (λ es. Notes (IsOver c.args.at (length (replicate c.args.len 0)) old.bytes.items) old.clock c.args.call old.events.items es) (sym (ap (λ v. v.items) c.clear.ensures.events)) (subst (λ n. Notes (IsOver c.args.at n old.bytes.items) old.clock c.args.call old.events.items c.keep.new.self.events.items) (sym (length-replicate c.args.len 0)) c.in_ok-keep.ensures.noted))

pub returns-clause-passes : goal.returns-clause-passes
returns-clause-passes c =
    let old = c.args.self.now in
    let mid = c.keep.new.self in
    let new = c.clear.new.self in
    Passes-put (IsOver c.args.at c.args.len old.bytes.items) (IsNoted (λ d. d ≡ Tried c.args.at c.args.len) c.args.call old mid) (IsNoted (λ d. d ≡ Tried c.args.at c.args.len) c.args.call old new) old.bytes.items (overwritten old.bytes.items c.args.at (replicate c.args.len 0))
    c.args.call c.args.listed _ old mid new c.in_ok-keep.ensures c.clear.ensures.events c.clear.ensures.clock
    (c.clear.ensures.bytes ∙ ap (λ l. overwritten l c.args.at (replicate c.args.len 0)) c.in_ok-keep.ensures.made)
