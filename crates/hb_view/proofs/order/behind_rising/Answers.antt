use Rattle.std.proofs.Common.{◌+◌, ◌-◌, None, ◌∙◌, sym}
use Rattle.std.proofs.lemmas.Bool.{false≢true}
use Rattle.hb_space.specs.Boxes.{Area}
use Rattle.hb_space.specs.declared.records.Record.{Record}
use Rattle.hb_view.specs.Lists.{records_there}
use Rattle.hb_view.specs.Walks.{RiseFrom}
use Rattle.hb_view.proofs.Listed.{left_list, left_behind, others_there, none_missing}
use Rattle.hb_view.proofs.Risen.{step_stops, step_goes_on, all_rose, none_after}
use Rattle.hb_view.proofs.order.behind_rising.Goals as goal

pub returns-then-not-comes_next : goal.returns-then-not-comes_next
returns-then-not-comes_next c =
    let area : Area = c.args.bounds.now in
    let all = RiseFrom area None (records_there c.args.list.now.k.number c.args.list.now.count c.args.list.now.first.now) in
    let r : Record = record { key = c.in-Some.key; body = c.in-Some.field-0-1.now } in
    let left = records_there c.args.list.now.k.number (c.args.list.now.count - c.loop.counter) c.loop.rest.now in
    let others = records_there c.args.list.now.k.number (c.args.list.now.count - (c.loop.counter + 1)) c.in-Some.after.now in
    let e = left_list c.args.list.now.k.number c.args.list.now.count c.loop.counter c.loop.rest.now r c.in-Some.after.now c.loop-test.true c.loop.invariant.there c.in-Some.ensures in
    step_stops area c.loop.last left others r all c.loop.invariant.same e (λ next. false≢true (sym c.if-not-comes_next.true ∙ c.comes_next.ensures.1 next))

pub unreachable-requires : goal.unreachable-requires
unreachable-requires c = none_missing c.args.list.now.k.number c.args.list.now.count c.loop.counter c.loop.rest.now c.loop-test.true c.loop.invariant.there c.in-None.ensures

pub loop-preserved : goal.loop-preserved
loop-preserved c =
    let area : Area = c.args.bounds.now in
    let all = RiseFrom area None (records_there c.args.list.now.k.number c.args.list.now.count c.args.list.now.first.now) in
    let r : Record = record { key = c.in-Some.key; body = c.in-Some.field-0-1.now } in
    let left = records_there c.args.list.now.k.number (c.args.list.now.count - c.loop.counter) c.loop.rest.now in
    let others = records_there c.args.list.now.k.number (c.args.list.now.count - (c.loop.counter + 1)) c.in-Some.after.now in
    let e = left_list c.args.list.now.k.number c.args.list.now.count c.loop.counter c.loop.rest.now r c.in-Some.after.now c.loop-test.true c.loop.invariant.there c.in-Some.ensures in
    record {
      there = others_there c.args.list.now.k.number c.args.list.now.count c.loop.counter c.loop.rest.now r c.in-Some.after.now c.loop-test.true c.loop.invariant.there c.in-Some.ensures;
      after = left_behind c.args.list.now.k.number c.args.list.now.count c.loop.counter c.loop.rest.now r c.in-Some.after.now c.loop-test.true c.loop.invariant.there c.in-Some.ensures ∙ c.loop.invariant.after;
      same = step_goes_on area c.loop.last left others r all c.loop.invariant.same e (c.comes_next.ensures.0 c.if-not-comes_next.false);
    }

pub returns : goal.returns
returns c =
    let area : Area = c.args.bounds.now in
    let all = RiseFrom area None (records_there c.args.list.now.k.number c.args.list.now.count c.args.list.now.first.now) in (
      all_rose c.args.list.now.k.number c.args.list.now.count c.loop.counter c.loop.rest.now area c.loop.last all c.loop-test.false c.loop.invariant.same,
      none_after c.args.list.now.k.number c.args.list.now.count c.loop.counter c.loop.rest.now c.loop-test.false ∙ c.loop.invariant.after,
    )
