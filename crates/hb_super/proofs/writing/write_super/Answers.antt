use Rattle.std.proofs.Common.{◌≡◌, ℕ, [], ◌∷◌, Some, IfSome, Result, Ok, is_err, ap, subst, arith}
use Rattle.hb_outside.specs.declared.traits.Failed.{Failed}
use Rattle.hb_disk.specs.Model.{overwritten, Torn}
use Rattle.hb_disk.specs.Calls.{Leaves, Writes, open_gate}
use Rattle.hb_disk.proofs.Facts.FaultLaws.{not_failed}
use Rattle.hb_disk.proofs.Facts.RewriteLaws.{Becomes-tells, WritesThrough-failed, WritesThrough-as}
use Rattle.hb_lemmas.proofs.Options.{if_value, at_value, of_value, has_value}
use Rattle.hb_layout.specs.Offsets.{slot_offset}
use Rattle.hb_super.specs.Superblocks.{IsNewest, body_bytes}
use Rattle.hb_super.specs.Moments.{WriteLeaves}
use Rattle.hb_super.proofs.Writes.{run_one, run_two, run_behind, gate_closed, wrote_one, wrote_two, wrote_behind, newest_written}
use Rattle.hb_super.proofs.writing.write_super.Goals as goal

pub returns-in_err-write-clause-moments : goal.returns-in_err-write-clause-moments
returns-in_err-write-clause-moments g c = λ old said next synced.
    let d = g.D.Device.model c.args.disk.now in
    let one = g.D.Device.model c.write.new.self in
    if_value d.told (λ b. IsNewest b old said → Leaves d one (WriteLeaves d b old said c.args.turn c.args.meta.now)) (λ b told newest.
    run_one d (g.met.D.Device.is_disk c.args.disk.now) c.requires.room c.args.turn c.args.meta.now c.requires.legal old said next synced b told newest
    c.write.result one (subst (λ (at : ℕ). Writes at (0 ∷ []) c.write.result d one) c.slot_offset-place.ensures c.write.ensures))

pub returns-in_err-sync-clause-moments : goal.returns-in_err-sync-clause-moments
returns-in_err-sync-clause-moments g c = λ old said next synced.
    let d = g.D.Device.model c.args.disk.now in
    let one = g.D.Device.model c.write.new.self in
    let two = g.D.Device.model c.sync.new.self in
    if_value d.told (λ b. IsNewest b old said → Leaves d two (WriteLeaves d b old said c.args.turn c.args.meta.now)) (λ b told newest.
    run_two d (g.met.D.Device.is_disk c.args.disk.now) c.requires.room c.args.turn c.args.meta.now c.requires.legal old said next synced b told newest
    c.write.result one (subst (λ (at : ℕ). Writes at (0 ∷ []) c.write.result d one) c.slot_offset-place.ensures c.write.ensures)
    c.sync.result two c.sync.ensures)

pub write_behind_gate-requires-clause-closed : goal.write_behind_gate-requires-clause-closed
write_behind_gate-requires-clause-closed g c = λ tells image_bytes image.
    let d = g.D.Device.model c.args.disk.now in
    let one = g.D.Device.model c.write.new.self in
    let two = g.D.Device.model c.sync.new.self in
    rw c.slot_offset-place.ensures (gate_closed d (g.met.D.Device.is_disk c.args.disk.now) c.requires.room c.args.turn c.args.meta.now c.requires.legal
    c.write.result c.in_ok-write.field-0 c.in_ok-write.was one (subst (λ (at : ℕ). Writes at (0 ∷ []) c.write.result d one) c.slot_offset-place.ensures c.write.ensures)
    c.sync.result c.in_ok-sync.field-0 c.in_ok-sync.was two c.sync.ensures tells image_bytes image)

pub returns-in_err-write_behind_gate-clause-moments : goal.returns-in_err-write_behind_gate-clause-moments
returns-in_err-write_behind_gate-clause-moments g c = λ old said next synced.
    let d = g.D.Device.model c.args.disk.now in
    let one = g.D.Device.model c.write.new.self in
    let two = g.D.Device.model c.sync.new.self in
    if_value d.told (λ b. IsNewest b old said → Leaves d (g.D.Device.model c.write_behind_gate.new.disk) (WriteLeaves d b old said c.args.turn c.args.meta.now)) (λ b told newest.
    let gate = subst (λ (at : ℕ). Writes at (0 ∷ []) c.write.result d one) c.slot_offset-place.ensures c.write.ensures in
    run_behind d (g.met.D.Device.is_disk c.args.disk.now) c.requires.room c.args.turn c.args.meta.now c.requires.legal old said next synced b told newest
    c.write.result one gate c.sync.result two c.sync.ensures (g.D.Device.model c.write_behind_gate.new.disk) _ _ c.slot_offset-place.ensures c.body_of-body.ensures
    (c.write_behind_gate.ensures.moments (Becomes-tells (Torn (slot_offset c.args.turn) 41) d two
    (wrote_two d (g.met.D.Device.is_disk c.args.disk.now) c.requires.room c.args.turn c.args.meta.now c.requires.legal
    c.write.result one (g.met.D.Device.is_disk c.write.new.self) gate c.in_ok-write.field-0 c.in_ok-write.was c.sync.result two c.sync.ensures).became (has_value d.told b told))))

pub returns-clause-moments : goal.returns-clause-moments
returns-clause-moments g c = λ old said next synced.
    let d = g.D.Device.model c.args.disk.now in
    let one = g.D.Device.model c.write.new.self in
    let two = g.D.Device.model c.sync.new.self in
    if_value d.told (λ b. IsNewest b old said → Leaves d (g.D.Device.model c.write_behind_gate.new.disk) (WriteLeaves d b old said c.args.turn c.args.meta.now)) (λ b told newest.
    let gate = subst (λ (at : ℕ). Writes at (0 ∷ []) c.write.result d one) c.slot_offset-place.ensures c.write.ensures in
    run_behind d (g.met.D.Device.is_disk c.args.disk.now) c.requires.room c.args.turn c.args.meta.now c.requires.legal old said next synced b told newest
    c.write.result one gate c.sync.result two c.sync.ensures (g.D.Device.model c.write_behind_gate.new.disk) _ _ c.slot_offset-place.ensures c.body_of-body.ensures
    (c.write_behind_gate.ensures.moments (Becomes-tells (Torn (slot_offset c.args.turn) 41) d two
    (wrote_two d (g.met.D.Device.is_disk c.args.disk.now) c.requires.room c.args.turn c.args.meta.now c.requires.legal
    c.write.result one (g.met.D.Device.is_disk c.write.new.self) gate c.in_ok-write.field-0 c.in_ok-write.was c.sync.result two c.sync.ensures).became (has_value d.told b told))))

pub returns-in_err-write-clause-wrote : goal.returns-in_err-write-clause-wrote
returns-in_err-write-clause-wrote g c =
    let d = g.D.Device.model c.args.disk.now in
    let one = g.D.Device.model c.write.new.self in
    let gate = subst (λ (at : ℕ). Writes at (0 ∷ []) c.write.result d one) c.slot_offset-place.ensures c.write.ensures in
    WritesThrough-failed c.write.result c.from_residual.result (λ b. overwritten b (slot_offset c.args.turn) (open_gate ∷ body_bytes c.args.turn c.args.meta.now)) (Torn (slot_offset c.args.turn) 41) 1 6 d one (ap is_err c.in_err-write.was) c.from_residual.ensures.0 (omega arith)
    (wrote_one d (g.met.D.Device.is_disk c.args.disk.now) c.requires.room c.args.turn c.args.meta.now c.requires.legal
    c.write.result one (g.met.D.Device.is_disk c.write.new.self) gate)

pub returns-in_err-sync-clause-wrote : goal.returns-in_err-sync-clause-wrote
returns-in_err-sync-clause-wrote g c =
    let d = g.D.Device.model c.args.disk.now in
    let one = g.D.Device.model c.write.new.self in
    let gate = subst (λ (at : ℕ). Writes at (0 ∷ []) c.write.result d one) c.slot_offset-place.ensures c.write.ensures in
    WritesThrough-failed c.sync.result c.from_residual-in_err-sync.result (λ b. overwritten b (slot_offset c.args.turn) (open_gate ∷ body_bytes c.args.turn c.args.meta.now)) (Torn (slot_offset c.args.turn) 41) 2 6 d (g.D.Device.model c.sync.new.self) (ap is_err c.in_err-sync.was) c.from_residual-in_err-sync.ensures.0 (omega arith)
    (wrote_two d (g.met.D.Device.is_disk c.args.disk.now) c.requires.room c.args.turn c.args.meta.now c.requires.legal
    c.write.result one (g.met.D.Device.is_disk c.write.new.self) gate c.in_ok-write.field-0 c.in_ok-write.was c.sync.result (g.D.Device.model c.sync.new.self) c.sync.ensures)

pub returns-in_err-write_behind_gate-clause-wrote : goal.returns-in_err-write_behind_gate-clause-wrote
returns-in_err-write_behind_gate-clause-wrote g c =
    let d = g.D.Device.model c.args.disk.now in
    let one = g.D.Device.model c.write.new.self in
    let gate = subst (λ (at : ℕ). Writes at (0 ∷ []) c.write.result d one) c.slot_offset-place.ensures c.write.ensures in
    let new = g.D.Device.model c.write_behind_gate.new.disk in
    WritesThrough-as c.write_behind_gate.result c.from_residual-in_err-write_behind_gate.result (λ b. overwritten b (slot_offset c.args.turn) (open_gate ∷ body_bytes c.args.turn c.args.meta.now)) (Torn (slot_offset c.args.turn) 41) 6 d new (λ _. c.from_residual-in_err-write_behind_gate.ensures.0) (λ _. ap is_err c.in_err-write_behind_gate.was)
    (wrote_behind d (g.met.D.Device.is_disk c.args.disk.now) c.requires.room c.args.turn c.args.meta.now c.requires.legal
    c.write.result one (g.met.D.Device.is_disk c.write.new.self) gate c.in_ok-write.field-0 c.in_ok-write.was c.sync.result (g.D.Device.model c.sync.new.self) c.sync.ensures
    c.in_ok-sync.field-0 c.in_ok-sync.was c.write_behind_gate.result new _ _ c.slot_offset-place.ensures c.body_of-body.ensures c.write_behind_gate.ensures.wrote)

pub returns-clause-wrote : goal.returns-clause-wrote
returns-clause-wrote g c =
    let d = g.D.Device.model c.args.disk.now in
    let one = g.D.Device.model c.write.new.self in
    let gate = subst (λ (at : ℕ). Writes at (0 ∷ []) c.write.result d one) c.slot_offset-place.ensures c.write.ensures in
    let new = g.D.Device.model c.write_behind_gate.new.disk in
    WritesThrough-as c.write_behind_gate.result _ (λ b. overwritten b (slot_offset c.args.turn) (open_gate ∷ body_bytes c.args.turn c.args.meta.now)) (Torn (slot_offset c.args.turn) 41) 6 d new (λ failed. absurd (not_failed c.write_behind_gate.result c.in_ok-write_behind_gate.field-0 c.in_ok-write_behind_gate.was failed)) (λ failed. cc)
    (wrote_behind d (g.met.D.Device.is_disk c.args.disk.now) c.requires.room c.args.turn c.args.meta.now c.requires.legal
    c.write.result one (g.met.D.Device.is_disk c.write.new.self) gate c.in_ok-write.field-0 c.in_ok-write.was c.sync.result (g.D.Device.model c.sync.new.self) c.sync.ensures
    c.in_ok-sync.field-0 c.in_ok-sync.was c.write_behind_gate.result new _ _ c.slot_offset-place.ensures c.body_of-body.ensures c.write_behind_gate.ensures.wrote)

pub returns-clause-newest : goal.returns-clause-newest
returns-clause-newest g c = λ old said next.
    let d = g.D.Device.model c.args.disk.now in
    let one = g.D.Device.model c.write.new.self in
    let gate = subst (λ (at : ℕ). Writes at (0 ∷ []) c.write.result d one) c.slot_offset-place.ensures c.write.ensures in
    let new = g.D.Device.model c.write_behind_gate.new.disk in
    let ok : Result (Unit {0}) Failed = Ok c.in_ok-write_behind_gate.field-0 in
    let wrote =
    (wrote_behind d (g.met.D.Device.is_disk c.args.disk.now) c.requires.room c.args.turn c.args.meta.now c.requires.legal
    c.write.result one (g.met.D.Device.is_disk c.write.new.self) gate c.in_ok-write.field-0 c.in_ok-write.was c.sync.result (g.D.Device.model c.sync.new.self) c.sync.ensures
    c.in_ok-sync.field-0 c.in_ok-sync.was ok new _ _ c.slot_offset-place.ensures c.body_of-body.ensures c.in_ok-write_behind_gate.ensures.wrote) in
    if_value d.told (λ b. IsNewest b old said → IfSome new.told (λ e. IsNewest e c.args.turn c.args.meta.now)) (λ b told newest.
    let now = at_value d.told (λ b. new.told ≡ Some (overwritten b (slot_offset c.args.turn) (open_gate ∷ body_bytes c.args.turn c.args.meta.now))) b told wrote.written in
    of_value new.told (λ e. IsNewest e c.args.turn c.args.meta.now) (overwritten b (slot_offset c.args.turn) (open_gate ∷ body_bytes c.args.turn c.args.meta.now)) now
    (newest_written d (g.met.D.Device.is_disk c.args.disk.now) c.requires.room c.args.turn c.args.meta.now c.requires.legal old said next b told newest new wrote.run.became now))
