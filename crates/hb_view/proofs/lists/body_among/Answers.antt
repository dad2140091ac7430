use Rattle.std.proofs.Common.{sym, ◌∙◌}
use Rattle.std.proofs.lemmas.Bool.{false≢true}
use Rattle.hb_space.specs.declared.records.Record.{Record}
use Rattle.hb_view.specs.Corners.{point_there}
use Rattle.hb_view.specs.Lists.{records_there}
use Rattle.hb_view.proofs.Listed.{is_found, passes_on, others_there, none_missing, none_left}
use Rattle.hb_view.proofs.lists.body_among.Goals as goal

pub returns-then-is_point-clause-found : goal.returns-then-is_point-clause-found
returns-then-is_point-clause-found c =
    let r : Record = record { key = point_there c.args.list.now.k.number c.in-Some.key.now; body = c.in-Some.body.now } in
    is_found c.args.list.now.k.number c.args.list.now.count c.loop.counter c.loop.rest.now c.args.p.now (records_there c.args.list.now.k.number c.args.list.now.count c.args.list.now.first.now) r c.in-Some.after.now c.loop-test.true c.loop.invariant.there c.loop.invariant.same c.in-Some.ensures.reads (c.is_point.ensures.0 c.if-is_point.true)

pub unreachable-requires : goal.unreachable-requires
unreachable-requires c = none_missing c.args.list.now.k.number c.args.list.now.count c.loop.counter c.loop.rest.now c.loop-test.true c.loop.invariant.there c.in-None.ensures.reads

pub loop-preserved : goal.loop-preserved
loop-preserved c =
    let r : Record = record { key = point_there c.args.list.now.k.number c.in-Some.key.now; body = c.in-Some.body.now } in
    record {
      there = others_there c.args.list.now.k.number c.args.list.now.count c.loop.counter c.loop.rest.now r c.in-Some.after.now c.loop-test.true c.loop.invariant.there c.in-Some.ensures.reads;
      same = passes_on c.args.list.now.k.number c.args.list.now.count c.loop.counter c.loop.rest.now c.args.p.now (records_there c.args.list.now.k.number c.args.list.now.count c.args.list.now.first.now) r c.in-Some.after.now c.loop-test.true c.loop.invariant.there c.loop.invariant.same c.in-Some.ensures.reads
          (λ same. false≢true (sym c.if-is_point.false ∙ c.is_point.ensures.1 same));
    }

pub returns-clause-found : goal.returns-clause-found
returns-clause-found c = none_left c.args.list.now.k.number c.args.list.now.count c.loop.counter c.loop.rest.now c.args.p.now (records_there c.args.list.now.k.number c.args.list.now.count c.args.list.now.first.now) c.loop-test.false c.loop.invariant.same
