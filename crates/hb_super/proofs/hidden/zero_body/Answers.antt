use Rattle.std.proofs.Common.{ℕ, ◌+◌, List, IfSome, replicate, is_err, ap, sym, ◌∙◌, subst, arith}
use Rattle.hb_disk.specs.Model.{Torn, overwritten}
use Rattle.hb_disk.specs.Calls.{Writes}
use Rattle.hb_disk.proofs.Facts.RewriteLaws.{WritesThrough-failed}
use Rattle.hb_lemmas.proofs.Options.{if_value, on_ok}
use Rattle.hb_layout.specs.declared.meta.Meta.{Meta}
use Rattle.hb_layout.specs.Offsets.{slot_offset}
use Rattle.hb_super.specs.Moments.{HidesNoOther}
use Rattle.hb_super.proofs.Clears.{zero_moments, zero_wrote, sync_moments, sync_wrote, zeroed_hides}
use Rattle.hb_super.proofs.hidden.zero_body.Goals as goal

pub returns-in_err-zero-clause-moments : goal.returns-in_err-zero-clause-moments
returns-in_err-zero-clause-moments g c =
    let is_disk = g.met.D.Device.is_disk in
    zero_moments (g.D.Device.model c.args.disk.now) (g.D.Device.model c.zero.new.self) (is_disk c.args.disk.now) (is_disk c.zero.new.self) c.requires.room c.args.turn c.zero.result c.slot_offset.result c.slot_offset.ensures c.zero.ensures

pub returns-clause-moments : goal.returns-clause-moments
returns-clause-moments g c =
    let is_disk = g.met.D.Device.is_disk in
    sync_moments (g.D.Device.model c.args.disk.now) (g.D.Device.model c.zero.new.self) (is_disk c.args.disk.now) (is_disk c.zero.new.self) c.requires.room c.args.turn c.zero.result c.slot_offset.result c.slot_offset.ensures c.zero.ensures
    c.sync.result (g.D.Device.model c.sync.new.self) c.sync.ensures

pub returns-clause-hidden : goal.returns-clause-hidden
returns-clause-hidden g c =
    let d = g.D.Device.model c.args.disk.now in
    let one = g.D.Device.model c.zero.new.self in
    let new = g.D.Device.model c.sync.new.self in
    let P = λ (b : List ℕ). (meta : Meta) → HidesNoOther b c.args.turn meta in
    on_ok c.sync.result (IfSome new.told P) (if_value new.told P (λ e told meta.
    zeroed_hides c.zero.result c.in_ok-zero.field-0 d one (g.met.D.Device.is_disk c.args.disk.now) c.requires.room c.args.turn c.in_ok-zero.was
    (subst (λ (at : ℕ). Writes (at + 1) (replicate 40 0) c.zero.result d one) c.slot_offset.ensures c.zero.ensures)
    e (sym c.sync.ensures.same ∙ told) meta))

pub returns-in_err-zero-clause-wrote : goal.returns-in_err-zero-clause-wrote
returns-in_err-zero-clause-wrote g c =
    let is_disk = g.met.D.Device.is_disk in
    let place = slot_offset c.args.turn + 1 in
    WritesThrough-failed c.zero.result c.from_residual.result (λ b. overwritten b place (replicate 40 0)) (Torn place 40) 1 2 (g.D.Device.model c.args.disk.now) (g.D.Device.model c.zero.new.self) (ap is_err c.in_err-zero.was) c.from_residual.ensures.0 (omega arith)
    (zero_wrote (g.D.Device.model c.args.disk.now) (g.D.Device.model c.zero.new.self) (is_disk c.args.disk.now) (is_disk c.zero.new.self) c.requires.room c.args.turn c.zero.result c.slot_offset.result c.slot_offset.ensures c.zero.ensures)

pub returns-clause-wrote : goal.returns-clause-wrote
returns-clause-wrote g c =
    let is_disk = g.met.D.Device.is_disk in
    sync_wrote (g.D.Device.model c.args.disk.now) (g.D.Device.model c.zero.new.self) (is_disk c.args.disk.now) (is_disk c.zero.new.self) c.requires.room c.args.turn c.zero.result c.slot_offset.result c.slot_offset.ensures c.zero.ensures
    c.in_ok-zero.field-0 c.in_ok-zero.was c.sync.result (g.D.Device.model c.sync.new.self) c.sync.ensures
