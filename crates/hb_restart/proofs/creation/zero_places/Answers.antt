use Rattle.std.proofs.Common.{◌≡◌, ℕ, ◌≤◌, List, replicate, Some, IfSome, length, arith}
use Rattle.std.proofs.lemmas.Result.{on_ok_weaker}
use Rattle.hb_disk.specs.Model.{overwritten}
use Rattle.hb_lemmas.proofs.Options.{if_value, at_value}
use Rattle.hb_restart.specs.Creation.{HasEmptyPlaces}
use Rattle.hb_restart.proofs.Made.{zeroed_places}
use Rattle.hb_restart.proofs.creation.zero_places.Goals as goal

pub returns-clause-closed : goal.returns-clause-closed
returns-clause-closed g c =
    let d = g.D.Device.model c.args.disk.now in
    let new = g.D.Device.model c.zero_area.new.disk in
    let is_disk = g.met.D.Device.is_disk c.args.disk.now in
    on_ok_weaker {P = IfSome d.told (λ b. new.told ≡ Some (overwritten b 0 (replicate 8192 0)))} {Q = IfSome d.told (λ b. (x : List ℕ) × (new.told ≡ Some x) × HasEmptyPlaces x)} c.zero_area.result
    (λ zeroed. if_value d.told (λ b. (x : List ℕ) × (new.told ≡ Some x) × HasEmptyPlaces x) (λ b told.
    let long : 8192 ≤ length b = omega (arith, c.requires.room, is_disk.long b (is_disk.as_read b told)) in
    (overwritten b 0 (replicate 8192 0), at_value d.told (λ x. new.told ≡ Some (overwritten x 0 (replicate 8192 0))) b told zeroed, zeroed_places b 8192 (omega arith) long)))
    c.zero_area.ensures.wrote.written

pub returns-clause-wrote : goal.returns-clause-wrote
returns-clause-wrote g c = c.zero_area.ensures.wrote.run
