use Rattle.std.proofs.Common.{◌≡◌, ℕ, List, length, take, drop, arith, subst}
use Rattle.hb_lemmas.proofs.Options.{if_value, at_value}
use Rattle.hb_super.specs.Reading.{IsOf, StandsInPlace}
use Rattle.hb_super.proofs.Supers.{place_bytes, stands}
use Rattle.hb_super.proofs.reading.super_at.Goals as goal

pub returns-clause-stands : goal.returns-clause-stands
returns-clause-stands g c =
    let d = g.D.Device.model c.args.disk.now in
    let into = c.read.new.into in
    if_value d.told (λ b. StandsInPlace c.args.place c.super_in.result b) (λ b told.
    let is_disk = g.met.D.Device.is_disk c.args.disk.now in
    let read : into ≡ take (length into) (drop c.slot_offset.result b) = at_value d.told (λ b. into ≡ take (length into) (drop c.slot_offset.result b)) b told c.in_ok-read.ensures.bytes in
    let head = place_bytes c.args.place c.slot_offset.result b into c.slot_offset.ensures c.read.auto.into read in
    stands b (omega (arith, is_disk.long b (is_disk.as_read b told), c.requires.room)) c.args.place c.requires.place c.super_in.result
    (subst (λ (l : List ℕ). IsOf c.args.place c.super_in.result l) head c.super_in.ensures))
