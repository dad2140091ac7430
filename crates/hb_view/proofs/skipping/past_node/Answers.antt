use Rattle.std.proofs.Common.{◌+◌, ◌-◌, ◌≤◌, List, ℕ, length, ap, ◌∙◌, arith}
use Rattle.std.proofs.lemmas.List.{length-drop}
use Rattle.hb_view.specs.Behind.{rest_after}
use Rattle.hb_view.proofs.ReadOver.{has_tag, past_cut, has_records, past_records, past_name}
use Rattle.hb_view.proofs.skipping.past_node.Goals as goal

pub bounds-bytes-0 : goal.bounds-bytes-0
bounds-bytes-0 c = omega (arith, has_tag c.args.k.number c.args.trees c.args.bytes.now c.requires.some c.requires.there)

pub from_place-requires : goal.from_place-requires
from_place-requires c = (past_cut c.args.k.number c.args.trees c.args.bytes.now c.requires.some c.requires.there c.if-tag-eq0.true).0

pub rest_behind_records-requires : goal.rest_behind_records-requires
rest_behind_records-requires c =
    has_records c.args.k.number c.args.trees c.args.bytes.now c.from_place-then-tag-eq1.result.now c.requires.some c.requires.there c.if-tag-eq1.true c.from_place-then-tag-eq1.ensures

pub from_place-requires-else-tag-eq1 : goal.from_place-requires-else-tag-eq1
from_place-requires-else-tag-eq1 c = (past_name c.args.k.number c.args.trees c.args.bytes.now c.requires.some c.requires.there c.if-tag-eq0.false c.if-tag-eq1.false).0

pub returns-then-tag-eq0-clause-same : goal.returns-then-tag-eq0-clause-same
returns-then-tag-eq0-clause-same c =
    ap (λ (b : List ℕ). rest_after (c.args.trees + 1) c.args.k.number b) c.from_place.ensures ∙ (past_cut c.args.k.number c.args.trees c.args.bytes.now c.requires.some c.requires.there c.if-tag-eq0.true).1

pub returns-then-tag-eq0-clause-fewer : goal.returns-then-tag-eq0-clause-fewer
returns-then-tag-eq0-clause-fewer c =
    let room : 10 ≤ length c.args.bytes.now = (past_cut c.args.k.number c.args.trees c.args.bytes.now c.requires.some c.requires.there c.if-tag-eq0.true).0 in
    omega (arith, length-drop 10 c.args.bytes.now, ap (λ (b : List ℕ). length b) c.from_place.ensures)

pub returns-then-tag-eq1-clause-same : goal.returns-then-tag-eq1-clause-same
returns-then-tag-eq1-clause-same c =
    (past_records c.args.k.number c.args.trees c.args.bytes.now c.from_place-then-tag-eq1.result.now c.rest_behind_records.result.now c.requires.some c.requires.there c.if-tag-eq1.true c.from_place-then-tag-eq1.ensures c.rest_behind_records.ensures).0

pub returns-then-tag-eq1-clause-fewer : goal.returns-then-tag-eq1-clause-fewer
returns-then-tag-eq1-clause-fewer c =
    omega (arith, (past_records c.args.k.number c.args.trees c.args.bytes.now c.from_place-then-tag-eq1.result.now c.rest_behind_records.result.now c.requires.some c.requires.there c.if-tag-eq1.true c.from_place-then-tag-eq1.ensures c.rest_behind_records.ensures).1)

pub returns-else-tag-eq1-clause-same : goal.returns-else-tag-eq1-clause-same
returns-else-tag-eq1-clause-same c =
    ap (λ (b : List ℕ). rest_after (c.args.trees - 1) c.args.k.number b) c.from_place-else-tag-eq1.ensures ∙ (past_name c.args.k.number c.args.trees c.args.bytes.now c.requires.some c.requires.there c.if-tag-eq0.false c.if-tag-eq1.false).1
