use Rattle.std.proofs.Common.{◌∙◌, length, reverse}
use Rattle.hb_disk.proofs.Picked.{reach_of, reach_undone, rewound_more}
use Rattle.hb_disk.proofs.images.rewind.Goals as goal

pub loop-event-preserved : goal.loop-event-preserved
loop-event-preserved c =
    let loop = c.loop-event in
    let event = c.in-Some.event.now in
    let earlier = c.in-Some.earlier.now in
    let reach = reach_of (length loop.bytes) loop.rest.now earlier event c.in-Some.ensures.cases.0 loop.invariant.reach in
    record {
      moment = rewound_more c.args.before loop.bytes c.undo.new.bytes loop.rest.now earlier event c.in-Some.ensures.cases.0 c.undo.ensures c.if-event-before.false ∙ loop.invariant.moment;
      reach = reach_undone loop.bytes c.undo.new.bytes event (reverse earlier) c.undo.ensures reach.0 reach.1;
    }
