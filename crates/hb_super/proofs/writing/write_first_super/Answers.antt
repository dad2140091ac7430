use Rattle.std.proofs.Common.{◌≡◌, ◌≢◌, ℕ, ◌≤◌, List, ◌∷◌, Some, IsSome, IfSome, Result, Ok, get_or, length, is_err, ap, subst, sym, arith}
use Rattle.hb_outside.specs.declared.traits.Failed.{Failed}
use Rattle.hb_disk.specs.Model.{overwritten, Torn}
use Rattle.hb_disk.specs.Calls.{Leaves, FrameOrNot, open_gate}
use Rattle.hb_disk.proofs.Facts.FaultLaws.{not_failed}
use Rattle.hb_disk.proofs.Facts.RewriteLaws.{WritesThrough-as}
use Rattle.hb_lemmas.proofs.Options.{if_value, at_value, of_value}
use Rattle.hb_super.specs.Superblocks.{IsNewest, body_bytes}
use Rattle.hb_super.proofs.Writes.{framed_wrote}
use Rattle.hb_super.proofs.Firsts.{first_newest, of_first}
use Rattle.hb_super.proofs.writing.write_first_super.Goals as goal

pub write_behind_gate-requires-clause-closed : goal.write_behind_gate-requires-clause-closed
write_behind_gate-requires-clause-closed g c = λ tells image_bytes image.
    subst (λ (at : ℕ). get_or image_bytes at 0 ≢ open_gate) (sym c.slot_offset.ensures) (c.requires.closed tells image_bytes image)

pub returns-in_err-write_behind_gate-clause-moments : goal.returns-in_err-write_behind_gate-clause-moments
returns-in_err-write_behind_gate-clause-moments g c =
    let d = g.D.Device.model c.args.disk.now in
    let new = g.D.Device.model c.write_behind_gate.new.disk in
    of_first (λ at body. IsSome d.told → Leaves d new (λ e. (b : List ℕ) × d.Image b × FrameOrNot at body b e)) c.args.meta.now _ _ c.slot_offset.ensures c.body_of-body.ensures
    c.write_behind_gate.ensures.moments

pub returns-clause-moments : goal.returns-clause-moments
returns-clause-moments g c =
    let d = g.D.Device.model c.args.disk.now in
    let new = g.D.Device.model c.write_behind_gate.new.disk in
    of_first (λ at body. IsSome d.told → Leaves d new (λ e. (b : List ℕ) × d.Image b × FrameOrNot at body b e)) c.args.meta.now _ _ c.slot_offset.ensures c.body_of-body.ensures
    c.write_behind_gate.ensures.moments

pub returns-clause-newest : goal.returns-clause-newest
returns-clause-newest g c =
    let d = g.D.Device.model c.args.disk.now in
    let new = g.D.Device.model c.write_behind_gate.new.disk in
    if_value d.told (λ b. get_or b 4096 0 ≢ open_gate → IfSome new.told (λ e. IsNewest e 0 c.args.meta.now)) (λ b told closed.
    let ok : Result (Unit {0}) Failed = Ok c.in_ok-write_behind_gate.field-0 in
    let wrote = framed_wrote ok d new 0 c.args.meta.now _ _ c.slot_offset.ensures c.body_of-body.ensures c.in_ok-write_behind_gate.ensures.wrote in
    let is_disk = g.met.D.Device.is_disk c.args.disk.now in
    let long : 8192 ≤ length b = omega (arith, c.requires.room, is_disk.long b (is_disk.as_read b told)) in
    of_value new.told (λ e. IsNewest e 0 c.args.meta.now) (overwritten b 0 (open_gate ∷ body_bytes 0 c.args.meta.now))
    (at_value d.told (λ e. new.told ≡ Some (overwritten e 0 (open_gate ∷ body_bytes 0 c.args.meta.now))) b told wrote.written)
    (first_newest b c.args.meta.now c.requires.legal long closed))

pub returns-in_err-write_behind_gate-clause-wrote : goal.returns-in_err-write_behind_gate-clause-wrote
returns-in_err-write_behind_gate-clause-wrote g c =
    let d = g.D.Device.model c.args.disk.now in
    let new = g.D.Device.model c.write_behind_gate.new.disk in
    WritesThrough-as c.write_behind_gate.result c.from_residual.result (λ b. overwritten b 0 (open_gate ∷ body_bytes 0 c.args.meta.now)) (Torn 0 41) 4 d new (λ _. c.from_residual.ensures.0) (λ _. ap is_err c.in_err-write_behind_gate.was)
    (framed_wrote c.write_behind_gate.result d new 0 c.args.meta.now _ _ c.slot_offset.ensures c.body_of-body.ensures c.write_behind_gate.ensures.wrote)

pub returns-clause-wrote : goal.returns-clause-wrote
returns-clause-wrote g c =
    let d = g.D.Device.model c.args.disk.now in
    let new = g.D.Device.model c.write_behind_gate.new.disk in
    WritesThrough-as c.write_behind_gate.result _ (λ b. overwritten b 0 (open_gate ∷ body_bytes 0 c.args.meta.now)) (Torn 0 41) 4 d new (λ failed. absurd (not_failed c.write_behind_gate.result c.in_ok-write_behind_gate.field-0 c.in_ok-write_behind_gate.was failed)) (λ failed. cc)
    (framed_wrote c.write_behind_gate.result d new 0 c.args.meta.now _ _ c.slot_offset.ensures c.body_of-body.ensures c.write_behind_gate.ensures.wrote)
