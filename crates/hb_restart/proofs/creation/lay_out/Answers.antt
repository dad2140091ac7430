use Rattle.std.proofs.Common.{ap, is_err, arith}
use Rattle.hb_disk.specs.Model.{Torn}
use Rattle.hb_disk.proofs.Facts.FaultLaws.{not_failed}
use Rattle.hb_disk.proofs.Facts.RewriteLaws.{Rewrites-as, Rewrites-torn, Rewrites-weaker}
use Rattle.hb_disk.proofs.Facts.TornLaws.{Torn-wider}
use Rattle.hb_layout.specs.Offsets.{file_size}
use Rattle.hb_restart.proofs.creation.lay_out.Goals as goal

pub write_parts-requires : goal.write_parts-requires
write_parts-requires g c = record { room = omega (arith, c.requires.room, c.zero_places.ensures.wrote.became.size); some = omega arith; most = c.requires.most }

pub returns-in_err-zero_places-clause-wrote : goal.returns-in_err-zero_places-clause-wrote
returns-in_err-zero_places-clause-wrote g c =
    let d = g.D.Device.model c.args.disk.now in
    let one = g.D.Device.model c.zero_places.new.disk in
    let n = file_size c.args.meta.now in
    (Rewrites-as c.zero_places.result c.from_residual.result (Torn 0 n) 2 5 d one (λ f. c.from_residual.ensures.0) (λ f. ap is_err c.in_err-zero_places.was) (omega arith)
    (Rewrites-weaker c.zero_places.result (Torn 0 8192) (Torn 0 n) 2 d one (λ b x torn. Torn-wider 0 8192 0 n b x (omega arith) (omega arith) torn) c.zero_places.ensures.wrote))

pub returns-in_err-write_parts-clause-wrote : goal.returns-in_err-write_parts-clause-wrote
returns-in_err-write_parts-clause-wrote g c =
    let d = g.D.Device.model c.args.disk.now in
    let one = g.D.Device.model c.zero_places.new.disk in
    let new = g.D.Device.model c.write_parts.new.disk in
    let n = file_size c.args.meta.now in
    (Rewrites-as c.write_parts.result c.from_residual-in_err-write_parts.result (Torn 0 n) 5 5 d new (λ f. c.from_residual-in_err-write_parts.ensures.0) (λ f. ap is_err c.in_err-write_parts.was) (omega arith)
    (Rewrites-torn c.zero_places.result c.write_parts.result 0 n 2 3 d one new c.in_ok-zero_places.field-0 c.in_ok-zero_places.was
    (Rewrites-weaker c.zero_places.result (Torn 0 8192) (Torn 0 n) 2 d one (λ b x torn. Torn-wider 0 8192 0 n b x (omega arith) (omega arith) torn) c.zero_places.ensures.wrote)
    c.write_parts.ensures.wrote))

pub returns-clause-wrote : goal.returns-clause-wrote
returns-clause-wrote g c =
    let d = g.D.Device.model c.args.disk.now in
    let one = g.D.Device.model c.zero_places.new.disk in
    let new = g.D.Device.model c.write_parts.new.disk in
    let n = file_size c.args.meta.now in
    Rewrites-as c.write_parts.result _ (Torn 0 n) 5 5 d new (λ f. absurd (not_failed c.write_parts.result c.in_ok-write_parts.field-0 c.in_ok-write_parts.was f)) (λ f. absurd (let never : ⊥ = cc f in never)) (omega arith)
    (Rewrites-torn c.zero_places.result c.write_parts.result 0 n 2 3 d one new c.in_ok-zero_places.field-0 c.in_ok-zero_places.was
    (Rewrites-weaker c.zero_places.result (Torn 0 8192) (Torn 0 n) 2 d one (λ b x torn. Torn-wider 0 8192 0 n b x (omega arith) (omega arith) torn) c.zero_places.ensures.wrote)
    c.write_parts.ensures.wrote)
