use Rattle.std.proofs.Common.{◌∙◌, sym, arith, option_map}
use Rattle.std.proofs.lemmas.Bool.{false≢true}
use Rattle.hb_space.specs.declared.records.Record.{Record}
use Rattle.hb_view.specs.Corners.{point_there}
use Rattle.hb_view.proofs.ListsPassed.{all_past, none_read, one_past, one_stops, record_shorter}
use Rattle.hb_view.proofs.well_made.past_records.Goals as goal

pub returns-in_err-key-clause-passes : goal.returns-in_err-key-clause-passes
returns-in_err-key-clause-passes c =
    let k = c.args.k.number in
    let last = option_map (λ b. point_there k b.now) c.loop.last in
    rw c.from_residual.ensures (none_read k c.args.count c.loop.counter c.args.bytes.now c.loop.rest.now c.args.bounds.now last c.loop-test.true c.in_err-key.ensures.reads c.loop.invariant.left)

pub returns-then-not-comes_next-clause-passes : goal.returns-then-not-comes_next-clause-passes
returns-then-not-comes_next-clause-passes c =
    let k = c.args.k.number in
    let last = option_map (λ b. point_there k b.now) c.loop.last in
    let r : Record = record { key = point_there k c.in_ok-key.key.now; body = c.in_ok-key.field-0-1.now } in
    one_stops k c.args.count c.loop.counter c.args.bytes.now c.loop.rest.now c.in_ok-key.after.now c.args.bounds.now last r c.loop-test.true c.in_ok-key.ensures.reads (λ next. false≢true (sym c.if-not-comes_next.true ∙ c.comes_next.ensures.1 next)) c.loop.invariant.left

pub loop-preserved : goal.loop-preserved
loop-preserved c =
    let k = c.args.k.number in
    let last = option_map (λ b. point_there k b.now) c.loop.last in
    let r : Record = record { key = point_there k c.in_ok-key.key.now; body = c.in_ok-key.field-0-1.now } in
    record {
      left = one_past k c.args.count c.loop.counter c.args.bytes.now c.loop.rest.now c.in_ok-key.after.now c.args.bounds.now last r c.loop-test.true c.in_ok-key.ensures.reads (c.comes_next.ensures.0 c.if-not-comes_next.false) c.loop.invariant.left;
      room = c.in_ok-key.ensures.room;
      few = omega (arith, record_shorter k c.loop.rest.now c.in_ok-key.after.now r c.in_ok-key.ensures.reads, c.loop.invariant.few);
    }

pub returns-clause-passes : goal.returns-clause-passes
returns-clause-passes c =
    let k = c.args.k.number in
    let last = option_map (λ b. point_there k b.now) c.loop.last in
    all_past k c.args.count c.loop.counter c.args.bytes.now c.loop.rest.now c.args.bounds.now last c.loop-test.false c.loop.invariant.left
