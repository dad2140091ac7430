use Rattle.std.proofs.Common.{◌++◌, [], ◌∷◌, List, ℕ, ap, ◌∙◌, sym}
use denote.Ref.{Bor}
use Rattle.hb_space.specs.declared.records.Record.{Record}
use Rattle.hb_view.specs.Corners.{point_there}
use Rattle.hb_view.specs.Seen.{list_seen}
use Rattle.hb_view.specs.Within.{records_within}
use Rattle.hb_view.proofs.Listed.{none_missing}
use Rattle.hb_view.proofs.TakenWithin.{leaves_it, none_more, takes_it}
use Rattle.hb_view.proofs.gathering.take_held.Goals as goal
use Rattle.hb_view.proofs.gathering.take_held.Goals.{then-lies_in+in_ok-push-in-Some, else-lies_in}

pub unreachable-requires : goal.unreachable-requires
unreachable-requires c = let list = c.args.list.now in none_missing list.k.number list.count c.loop.counter c.loop.rest.now c.loop-test.true c.loop.invariant.there c.in-None.ensures.reads

pub loop-preserved : goal.loop-preserved
loop-preserved c =
    let list = c.args.list.now in
    let all = c.args.found.now.items ++ records_within c.args.at_hand.now (list_seen list) in
    let r : Record = record { key = point_there list.k.number c.in-Some.key.now; body = c.in-Some.body.now } in
    let so_far = c.loop.found.items in
    elim c.if-lies_in.branch [
      | then-lies_in+in_ok-push-in-Some w ↦
          takes_it list.k.number list.count c.loop.counter c.loop.rest.now c.in-Some.after.now c.if-lies_in.rest.now c.args.at_hand.now so_far all r c.loop-test.true c.in-Some.ensures.reads (ap (λ (b : Bor (List ℕ)). b.now) w.rest-is) c.loop.invariant c.if-lies_in.found.items
          (ap (λ v. v.items) w.found-is ∙ w.in_ok-push-in-Some.ensures.items ∙ ap (λ (x : Record). so_far ++ x ∷ []) w.record_of.ensures) (sym w.if-lies_in.true ∙ c.lies_in.ensures)
      | else-lies_in w ↦
          leaves_it list.k.number list.count c.loop.counter c.loop.rest.now c.in-Some.after.now c.if-lies_in.rest.now c.args.at_hand.now so_far all r c.loop-test.true c.in-Some.ensures.reads (ap (λ (b : Bor (List ℕ)). b.now) w.rest-is) c.loop.invariant c.if-lies_in.found.items
          (ap (λ v. v.items) w.found-is) (sym w.if-lies_in.false ∙ c.lies_in.ensures)
    ]

pub returns : goal.returns
returns c =
    let list = c.args.list.now in
    none_more list.k.number list.count c.loop.counter c.loop.rest.now c.args.at_hand.now c.loop.found.items (c.args.found.now.items ++ records_within c.args.at_hand.now (list_seen list)) c.loop-test.false c.loop.invariant
