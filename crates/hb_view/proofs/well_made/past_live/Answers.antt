use Rattle.std.proofs.Common.{ℕ, ap, length, List, sym, ◌∙◌, arith}
use Rattle.std.proofs.lemmas.Bool.{false≢true}
use Rattle.hb_page_codec.specs.ReadingPages.{tree_at}
use Rattle.hb_page_codec.proofs.Facts.PageLaws.{head_takes}
use Rattle.hb_view.proofs.PassedOver.{HeadAt, has_stopped, live_boxless, live_headless, live_lone_sibling, live_other_count, live_passed, live_stopped, live_too_heavy, live_too_high, went_past}
use Rattle.hb_view.proofs.well_made.past_live.Goals as goal

pub returns-in_err-level : goal.returns-in_err-level
returns-in_err-level c = let l = c.args.limits in rw c.from_residual.ensures (live_headless l.k l.height l.dcap l.icap c.args.bytes.now c.in_err-level.ensures)

pub returns-then-level-limits : goal.returns-then-level-limits
returns-then-level-limits c =
    let l = c.args.limits in
    live_too_high l.k l.height l.dcap l.icap c.args.bytes.now c.in_ok-level.level c.in_ok-level.k.number c.in_ok-level.rest.now c.in_ok-level.ensures c.if-level-limits.true

pub returns-then-k-limits : goal.returns-then-k-limits
returns-then-k-limits c =
    let l = c.args.limits in
    live_other_count l.k l.height l.dcap l.icap c.args.bytes.now c.in_ok-level.level c.in_ok-level.k.number c.in_ok-level.rest.now c.in_ok-level.ensures c.if-k-limits.true

pub returns-in_err-area : goal.returns-in_err-area
returns-in_err-area c =
    let l = c.args.limits in
    rw c.from_residual-in_err-area.ensures (live_boxless l.k l.height l.dcap l.icap c.args.bytes.now c.in_ok-level.level c.in_ok-level.k.number c.in_ok-level.rest.now c.in_ok-level.ensures c.in_err-area.ensures.reads)

pub past_tree-requires-clause-few : goal.past_tree-requires-clause-few
past_tree-requires-clause-few c =
    let head = head_takes c.args.bytes.now (c.in_ok-level.level, c.in_ok-level.k.number, c.in_ok-level.rest.now) (λ i. omega (arith, c.type_inv.bytes i)) c.in_ok-level.ensures in
    omega (arith, ap (λ (l : List ℕ). length l) head.parts, c.in_ok-area.ensures.shorter, c.requires.short)

pub returns-then-not-past_tree : goal.returns-then-not-past_tree
returns-then-not-past_tree c =
    let l = c.args.limits in
    let at : HeadAt c.args.bytes.now c.in_ok-level.level c.in_ok-level.k.number c.in_ok-area.area c.in_ok-area.tree.now = record { corners = c.in_ok-level.rest.now; head = c.in_ok-level.ensures; box = c.in_ok-area.ensures.reads } in
    live_stopped l.k l.height l.dcap l.icap c.args.bytes.now c.in_ok-level.level c.in_ok-level.k.number c.in_ok-area.area c.in_ok-area.tree.now at (has_stopped c.in_ok-level.level c.in_ok-area.area 0 (tree_at c.in_ok-level.k.number c.in_ok-area.tree.now) c.past_tree.new.passed c.past_tree.result c.past_tree.ensures.passes c.if-not-past_tree.true)

pub returns-then-passed-from : goal.returns-then-passed-from
returns-then-passed-from c =
    let l = c.args.limits in
    let at : HeadAt c.args.bytes.now c.in_ok-level.level c.in_ok-level.k.number c.in_ok-area.area c.in_ok-area.tree.now = record { corners = c.in_ok-level.rest.now; head = c.in_ok-level.ensures; box = c.in_ok-area.ensures.reads } in
    let p = went_past c.in_ok-level.level c.in_ok-area.area 0 (tree_at c.in_ok-level.k.number c.in_ok-area.tree.now) c.past_tree.new.passed c.past_tree.result c.past_tree.ensures.passes c.if-not-past_tree.false in
    live_too_heavy l.k l.height l.dcap l.icap c.args.bytes.now c.in_ok-level.level c.in_ok-level.k.number c.in_ok-area.area c.in_ok-area.tree.now c.past_tree.new.passed at p (omega (arith, c.if-passed-from.true, c.from.ensures, c.capacity_of.ensures))

pub returns-then-is_sibling : goal.returns-then-is_sibling
returns-then-is_sibling c =
    let l = c.args.limits in
    let at : HeadAt c.args.bytes.now c.in_ok-level.level c.in_ok-level.k.number c.in_ok-area.area c.in_ok-area.tree.now = record { corners = c.in_ok-level.rest.now; head = c.in_ok-level.ensures; box = c.in_ok-area.ensures.reads } in
    let p = went_past c.in_ok-level.level c.in_ok-area.area 0 (tree_at c.in_ok-level.k.number c.in_ok-area.tree.now) c.past_tree.new.passed c.past_tree.result c.past_tree.ensures.passes c.if-not-past_tree.false in
    live_lone_sibling l.k l.height l.dcap l.icap c.args.bytes.now c.in_ok-level.level c.in_ok-level.k.number c.in_ok-area.area c.in_ok-area.tree.now c.past_tree.new.passed at p (c.is_sibling.ensures.0 c.if-is_sibling.true)

pub returns : goal.returns
returns c =
    let l = c.args.limits in
    let at : HeadAt c.args.bytes.now c.in_ok-level.level c.in_ok-level.k.number c.in_ok-area.area c.in_ok-area.tree.now = record { corners = c.in_ok-level.rest.now; head = c.in_ok-level.ensures; box = c.in_ok-area.ensures.reads } in
    let p = went_past c.in_ok-level.level c.in_ok-area.area 0 (tree_at c.in_ok-level.k.number c.in_ok-area.tree.now) c.past_tree.new.passed c.past_tree.result c.past_tree.ensures.passes c.if-not-past_tree.false in
    live_passed l.k l.height l.dcap l.icap c.args.bytes.now c.in_ok-level.level c.in_ok-level.k.number c.in_ok-area.area c.in_ok-area.tree.now c.past_tree.new.passed at c.if-level-limits.false c.if-k-limits.false p
    (omega (arith, c.if-passed-from.false, c.from.ensures, c.capacity_of.ensures)) (λ lone. false≢true (sym c.if-is_sibling.false ∙ c.is_sibling.ensures.1 lone))
