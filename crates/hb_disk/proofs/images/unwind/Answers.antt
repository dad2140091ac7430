use Rattle.std.proofs.Common.{◌≡◌, ◌∙◌, true, ap, sym, length, reverse}
use Rattle.std.specs.Prelude.{is_some}
use Rattle.hb_disk.specs.Events.{range_of}
use Rattle.hb_disk.proofs.Picked.{reach_of, reach_undone, synced_more}
use Rattle.hb_disk.proofs.images.unwind.Goals as goal

pub loop-event-preserved : goal.loop-event-preserved
loop-event-preserved c =
    let loop = c.loop-event in
    let event = c.in-Some.event.now in
    let earlier = c.in-Some.earlier.now in
    let reach = reach_of (length loop.bytes) loop.rest.now earlier event c.in-Some.ensures.cases.0 loop.invariant.reach in
    let some : is_some (range_of event.change) ≡ true = ap is_some (sym c.range.ensures) ∙ c.if-is_none.ensures in
    record {
      synced = synced_more loop.bytes c.undo.new.bytes loop.rest.now earlier event c.in-Some.ensures.cases.0 c.undo.ensures some ∙ loop.invariant.synced;
      reach = reach_undone loop.bytes c.undo.new.bytes event (reverse earlier) c.undo.ensures reach.0 reach.1;
    }
