use Rattle.std.proofs.Common.{ℕ, ◌<◌, ◌^◌, List, reverse, subst, arith}
use Rattle.std.specs.List.{All}
use Rattle.std.proofs.lemmas.List.Elements.{All-from_get_or}
use Rattle.hb_disk.specs.Events.{IsImage, rewound}
use Rattle.hb_disk.specs.declared.event.Event.{Event}
use Rattle.hb_disk.proofs.Picked.{picked_image, moment_since}
use Rattle.hb_disk.proofs.images.choose_before.Goals as goal

pub returns-clause-image : goal.returns-clause-image
returns-clause-image c =
    let P : ℕ → Type 0 = λ x. x < 2 ^ 8 in
    let image = c.choose.new.bytes in
    let fit : All P image = All-from_get_or P image 0 (λ i h. omega (arith, c.type_inv.bytes i)) in
    let here = picked_image c.args.pick c.rewind-earlier.new.bytes (reverse c.rewind-earlier.result.now) image c.rewind-earlier.ensures.reach fit c.choose.ensures in
    let moment = rewound c.args.before c.args.bytes.now (reverse c.args.events.now) in
    subst (λ (es : List Event). IsImage moment.0 es image) c.rewind-earlier.ensures.events
    (subst (λ (l : List ℕ). IsImage l (reverse c.rewind-earlier.result.now) image) c.rewind-earlier.ensures.bytes here)

pub returns-clause-since : goal.returns-clause-since
returns-clause-since c =
    moment_since c.args.before c.args.bytes.now (reverse c.args.events.now) c.choose.new.bytes (returns-clause-image c)
