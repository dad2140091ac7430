use Rattle.std.proofs.Common.{◌≡◌, length, take, drop}
use Rattle.hb_lemmas.proofs.Options.{if_value, at_value}
use Rattle.hb_super.specs.Moments.{NoOther, HidesNoOther, IsOther, HidesOther}
use Rattle.hb_super.proofs.Supers.{place_bytes}
use Rattle.hb_super.proofs.Clears.{place_read}
use Rattle.hb_super.proofs.hidden.hides_other.Goals as goal

pub returns-clause-other : goal.returns-clause-other
returns-clause-other g c = λ told_so.
    let d = g.D.Device.model c.args.disk.now in
    let into = c.read.new.into in
    if_value d.told (λ b. HidesOther b c.args.turn c.args.meta.now) (λ b told.
    place_read (IsOther c.args.turn c.args.meta.now) c.args.turn b into
    (place_bytes c.args.turn c.slot_offset.result b into c.slot_offset.ensures c.read.auto.into (at_value d.told (λ b. into ≡ take (length into) (drop c.slot_offset.result b)) b told c.in_ok-read.ensures.bytes)) (c.is_other.ensures.other told_so))

pub returns-clause-none : goal.returns-clause-none
returns-clause-none g c = λ told_so.
    let d = g.D.Device.model c.args.disk.now in
    let into = c.read.new.into in
    if_value d.told (λ b. HidesNoOther b c.args.turn c.args.meta.now) (λ b told.
    place_read (NoOther c.args.turn c.args.meta.now) c.args.turn b into
    (place_bytes c.args.turn c.slot_offset.result b into c.slot_offset.ensures c.read.auto.into (at_value d.told (λ b. into ≡ take (length into) (drop c.slot_offset.result b)) b told c.in_ok-read.ensures.bytes)) (c.is_other.ensures.none told_so))
