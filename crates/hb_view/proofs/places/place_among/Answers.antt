use Rattle.std.proofs.Common.{sym, ◌∙◌}
use Rattle.hb_space.specs.declared.records.Record.{Record}
use Rattle.hb_view.specs.Corners.{point_there}
use Rattle.hb_view.specs.Lists.{records_there}
use Rattle.hb_view.proofs.Listed.{none_missing}
use Rattle.hb_view.proofs.PlacedAmong.{at_end, at_equal, at_greater, handed, passed_none, passed_one}
use Rattle.hb_view.proofs.places.place_among.Goals as goal

pub unreachable-requires : goal.unreachable-requires
unreachable-requires c =
    let list = c.args.list.now in
    none_missing list.k.number list.count c.loop.counter c.loop.from.now c.loop-test.true c.loop.invariant.there c.in-None.ensures.reads

pub loop-init : goal.loop-init
loop-init c = let list = c.args.list.now in passed_none list.k.number list.count list.first.now c.args.p.now c.requires.bytes list.listed

pub loop-preserved : goal.loop-preserved
loop-preserved c =
    let list = c.args.list.now in
    let r : Record = record { key = point_there list.k.number c.in-Some.key.now; body = c.in-Some.field-0-1.now } in
    passed_one list.k.number list.count c.loop.counter list.first.now c.args.p.now c.loop.from.now c.in-Some.behind.now r c.loop-test.true c.in-Some.ensures.reads (sym c.compare.ensures ∙ c.in-Less.is) c.loop.invariant

pub returns-in-Equal : goal.returns-in-Equal
returns-in-Equal c =
    let list = c.args.list.now in
    let all = records_there list.k.number list.count list.first.now in
    let r : Record = record { key = point_there list.k.number c.in-Some.key.now; body = c.in-Some.field-0-1.now } in
    let at = at_equal list.k.number list.count c.loop.counter list.first.now c.args.p.now c.loop.from.now c.in-Some.behind.now r c.loop-test.true c.in-Some.ensures.reads (sym c.compare.ensures ∙ c.in-Equal.is) c.requires.rising c.loop.invariant in
    handed c.args.p.now list.first.now c.loop.from.now c.in-Some.behind.now c.taken.result.from.now c.taken.result.behind.now 1 c.taken.result.held all at c.taken.ensures.from c.taken.ensures.behind c.taken.ensures.one

pub returns-in-Greater : goal.returns-in-Greater
returns-in-Greater c =
    let list = c.args.list.now in
    let all = records_there list.k.number list.count list.first.now in
    let r : Record = record { key = point_there list.k.number c.in-Some.key.now; body = c.in-Some.field-0-1.now } in
    let at = at_greater list.k.number list.count c.loop.counter list.first.now c.args.p.now c.loop.from.now c.in-Some.behind.now r c.loop-test.true c.in-Some.ensures.reads (sym c.compare.ensures ∙ c.in-Greater.is) c.requires.rising c.loop.invariant in
    handed c.args.p.now list.first.now c.loop.from.now c.loop.from.now c.gap.result.from.now c.gap.result.behind.now 0 c.gap.result.held all at c.gap.ensures.from c.gap.ensures.behind c.gap.ensures.none

pub returns : goal.returns
returns c =
    let list = c.args.list.now in
    let all = records_there list.k.number list.count list.first.now in
    let at = at_end list.k.number list.count c.loop.counter list.first.now c.args.p.now c.loop.from.now c.loop-test.false c.loop.invariant in
    handed c.args.p.now list.first.now c.loop.from.now c.loop.from.now c.gap-2.result.from.now c.gap-2.result.behind.now 0 c.gap-2.result.held all at c.gap-2.ensures.from c.gap-2.ensures.behind c.gap-2.ensures.none
