use Rattle.std.proofs.Common.{◌≡◌, ℕ, ◌+◌, ◌*◌, ◌≤◌, ◌∙◌, List, replicate, Some, IfSome, length, ap, is_err, subst, arith}
use Rattle.std.proofs.lemmas.List.{length-replicate}
use Rattle.hb_disk.specs.Model.{overwritten}
use Rattle.hb_lemmas.proofs.Options.{if_value, at_value, on_ok}
use Rattle.hb_restart.specs.Creation.{HasEmptyPlaces, IsLaidOut}
use Rattle.hb_layout.specs.Offsets.{file_size}
use Rattle.hb_disk.specs.Model.{Torn}
use Rattle.hb_disk.proofs.Facts.RewriteLaws.{Rewrites-as, Rewrites-sync, Rewrites-torn, Rewrites-write}
use Rattle.hb_restart.proofs.Made.{laid_out}
use Rattle.hb_restart.proofs.creation.write_parts.Goals as goal

pub returns-clause-laid : goal.returns-clause-laid
returns-clause-laid g c =
    let d = g.D.Device.model c.args.disk.now in
    let one = g.D.Device.model c.zero.new.self in
    let two = g.D.Device.model c.write.new.self in
    let new = g.D.Device.model c.sync.new.self in
    let meta = c.args.meta.now in
    let page = c.args.page.now in
    let is_disk = g.met.D.Device.is_disk c.args.disk.now in
    let P : List ℕ → Type 0 = λ b. HasEmptyPlaces b → (x : List ℕ) × (new.told ≡ Some x) × IsLaidOut x meta page in
    on_ok c.sync.result (IfSome d.told P) (if_value d.told P (λ b told empty.
    let area : c.log_start.result ≡ 8192 = omega (arith, c.log_start.ensures) in
    let place : c.page_offset.result ≡ 8192 + 2 * meta.log = omega (arith, c.page_offset.ensures) in
    let zeroed : IfSome d.told (λ x. one.told ≡ Some (overwritten x 8192 (replicate meta.log 0))) =
    subst (λ (at : ℕ). IfSome d.told (λ x. one.told ≡ Some (overwritten x at (replicate meta.log 0)))) area
    (subst (λ (n : ℕ). IfSome d.told (λ x. one.told ≡ Some (overwritten x c.log_start.result (replicate n 0)))) c.from.ensures c.in_ok-zero.ensures.written) in
    let written : IfSome one.told (λ x. two.told ≡ Some (overwritten x (8192 + 2 * meta.log) page)) =
    subst (λ (at : ℕ). IfSome one.told (λ x. two.told ≡ Some (overwritten x at page))) place c.in_ok-write.ensures.written in
    let after = at_value d.told (λ x. one.told ≡ Some (overwritten x 8192 (replicate meta.log 0))) b told zeroed in
    let both = at_value one.told (λ x. two.told ≡ Some (overwritten x (8192 + 2 * meta.log) page)) (overwritten b 8192 (replicate meta.log 0)) after written in
    let fits : 8192 + 2 * meta.log + 4096 * meta.pages ≤ length b = omega (arith, c.requires.room, is_disk.long b (is_disk.as_read b told)) in (
      overwritten (overwritten b 8192 (replicate meta.log 0)) (8192 + 2 * meta.log) page,
      c.sync.ensures.same ∙ both,
      laid_out b meta page c.requires.most fits c.told-page empty,
    )))

pub returns-in_err-zero-clause-wrote : goal.returns-in_err-zero-clause-wrote
returns-in_err-zero-clause-wrote g c =
    let d = g.D.Device.model c.args.disk.now in
    let one = g.D.Device.model c.zero.new.self in
    let n = file_size c.args.meta.now in
    (Rewrites-as c.zero.result c.from_residual.result (Torn 0 n) 1 3 d one (λ f. c.from_residual.ensures.0) (λ f. ap is_err c.in_err-zero.was) (omega arith)
    (Rewrites-write c.zero.result c.log_start.result (replicate c.from.result 0) 0 n d one (g.met.D.Device.is_disk c.args.disk.now) (g.met.D.Device.is_disk c.zero.new.self)
    (omega (arith, length-replicate {A = ℕ} c.from.result 0, c.from.ensures, c.log_start.ensures, c.requires.room)) (omega arith)
    (omega (arith, length-replicate {A = ℕ} c.from.result 0, c.from.ensures, c.log_start.ensures)) c.zero.ensures))

pub returns-in_err-write-clause-wrote : goal.returns-in_err-write-clause-wrote
returns-in_err-write-clause-wrote g c =
    let d = g.D.Device.model c.args.disk.now in
    let one = g.D.Device.model c.zero.new.self in
    let two = g.D.Device.model c.write.new.self in
    let n = file_size c.args.meta.now in
    (Rewrites-as c.write.result c.from_residual-in_err-write.result (Torn 0 n) 2 3 d two (λ f. c.from_residual-in_err-write.ensures.0) (λ f. ap is_err c.in_err-write.was) (omega arith)
    (Rewrites-torn c.zero.result c.write.result 0 n 1 1 d one two c.in_ok-zero.field-0 c.in_ok-zero.was
    (Rewrites-write c.zero.result c.log_start.result (replicate c.from.result 0) 0 n d one (g.met.D.Device.is_disk c.args.disk.now) (g.met.D.Device.is_disk c.zero.new.self)
    (omega (arith, length-replicate {A = ℕ} c.from.result 0, c.from.ensures, c.log_start.ensures, c.requires.room)) (omega arith)
    (omega (arith, length-replicate {A = ℕ} c.from.result 0, c.from.ensures, c.log_start.ensures)) c.zero.ensures)
    (Rewrites-write c.write.result c.page_offset.result c.args.page.now 0 n one two (g.met.D.Device.is_disk c.zero.new.self) (g.met.D.Device.is_disk c.write.new.self)
    (omega (arith, c.requires.room, c.zero.ensures.ticks.size, c.told-page, c.page_offset.ensures, c.requires.most)) (omega arith)
    (omega (arith, c.told-page, c.page_offset.ensures, c.requires.most)) c.write.ensures)))

pub returns-clause-wrote : goal.returns-clause-wrote
returns-clause-wrote g c =
    let d = g.D.Device.model c.args.disk.now in
    let one = g.D.Device.model c.zero.new.self in
    let two = g.D.Device.model c.write.new.self in
    let new = g.D.Device.model c.sync.new.self in
    let n = file_size c.args.meta.now in
    Rewrites-torn c.write.result c.sync.result 0 n 2 1 d two new c.in_ok-write.field-0 c.in_ok-write.was
    (Rewrites-torn c.zero.result c.write.result 0 n 1 1 d one two c.in_ok-zero.field-0 c.in_ok-zero.was
    (Rewrites-write c.zero.result c.log_start.result (replicate c.from.result 0) 0 n d one (g.met.D.Device.is_disk c.args.disk.now) (g.met.D.Device.is_disk c.zero.new.self)
    (omega (arith, length-replicate {A = ℕ} c.from.result 0, c.from.ensures, c.log_start.ensures, c.requires.room)) (omega arith)
    (omega (arith, length-replicate {A = ℕ} c.from.result 0, c.from.ensures, c.log_start.ensures)) c.zero.ensures)
    (Rewrites-write c.write.result c.page_offset.result c.args.page.now 0 n one two (g.met.D.Device.is_disk c.zero.new.self) (g.met.D.Device.is_disk c.write.new.self)
    (omega (arith, c.requires.room, c.zero.ensures.ticks.size, c.told-page, c.page_offset.ensures, c.requires.most)) (omega arith)
    (omega (arith, c.told-page, c.page_offset.ensures, c.requires.most)) c.write.ensures))
    (Rewrites-sync c.sync.result 0 n two new (g.met.D.Device.is_disk c.write.new.self) c.sync.ensures)
