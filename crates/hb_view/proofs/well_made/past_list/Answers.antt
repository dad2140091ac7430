use Rattle.std.proofs.Common.{List, length, ap, refl, arith}
use Rattle.std.proofs.lemmas.List.{length-drop}
use Rattle.hb_view.proofs.ListsPassed.{list_falls, list_passed}
use Rattle.hb_view.proofs.Rooted.{count_behind}
use Rattle.hb_view.proofs.well_made.past_list.Goals as goal

pub returns-in_default-past_records-clause-passes : goal.returns-in_default-past_records-clause-passes
returns-in_default-past_records-clause-passes c =
    list_falls c.args.k.number c.args.level c.args.bounds.now c.args.bytes.now c.in-Some.first.now c.in-Some.count c.in-Some.ensures c.in_default-past_records.ensures.passes

pub returns-clause-passes : goal.returns-clause-passes
returns-clause-passes c =
    list_passed c.args.k.number c.args.level c.args.bounds.now c.args.passed.now.weight c.args.bytes.now c.in-Some.first.now c.in-Some.count _ (omega (arith, c.if-level-gt0.false)) c.in-Some.ensures c.in-Some-past_records.ensures.passes (omega (arith, c.max.ensures, c.from.ensures)) refl

pub returns-clause-light : goal.returns-clause-light
returns-clause-light c _ =
    let behind = ap (λ (b : List _). length b) (count_behind c.args.k.number c.args.bytes.now (c.in-Some.count, c.in-Some.first.now) c.in-Some.ensures) in
    omega (arith, c.max.ensures, c.from.ensures, behind, length-drop 2 c.args.bytes.now, c.in-Some-past_records.ensures.few)
