use Rattle.std.proofs.Common.{sym, subst, length, reverse}
use Rattle.hb_disk.specs.Events.{AllLieWithin}
use Rattle.hb_disk.proofs.Picked.{reach_of, reach_range, noise_step, noise_end, noise_stop}
use Rattle.hb_disk.proofs.images.spoil.Goals as goal

pub fill_at-requires : goal.fill_at-requires
fill_at-requires c =
    let loop = c.loop-event in
    let reach = reach_of (length loop.bytes) loop.rest.now c.in-Some.earlier.now c.in-Some.event.now c.in-Some.ensures.cases.0 loop.invariant.reach in
    reach_range (length loop.bytes) c.in-Some.event.now c.in-Some-range.at c.in-Some-range.len (sym c.in-Some-range.ensures) reach.0

pub loop-event-preserved : goal.loop-event-preserved
loop-event-preserved c =
    let loop = c.loop-event in
    let event = c.in-Some.event.now in
    let earlier = c.in-Some.earlier.now in
    let reach = reach_of (length loop.bytes) loop.rest.now earlier event c.in-Some.ensures.cases.0 loop.invariant.reach in
    let fits = reach_range (length loop.bytes) event c.in-Some-range.at c.in-Some-range.len (sym c.in-Some-range.ensures) reach.0 in
    record {
      goes_on = λ image noise. loop.invariant.goes_on image
          (noise_step c.args.byte loop.bytes c.fill_at.new.bytes loop.rest.now earlier event c.in-Some-range.at c.in-Some-range.len image c.in-Some.ensures.cases.0 (sym c.in-Some-range.ensures) fits c.fill_at.ensures noise);
      reach = subst (λ n. AllLieWithin n (reverse earlier)) (sym c.fill_at.auto.bytes) reach.1;
    }

pub returns-in_default : goal.returns-in_default
returns-in_default c = c.loop-event.invariant.goes_on c.loop-event.bytes (noise_end c.args.byte c.loop-event.bytes c.loop-event.rest.now c.in_default.ensures.cases)

pub returns-in_default-range : goal.returns-in_default-range
returns-in_default-range c =
    c.loop-event.invariant.goes_on c.loop-event.bytes
    (noise_stop c.args.byte c.loop-event.bytes c.loop-event.rest.now c.in-Some.earlier.now c.in-Some.event.now c.in-Some.ensures.cases.0 (sym c.in_default-range.ensures))
