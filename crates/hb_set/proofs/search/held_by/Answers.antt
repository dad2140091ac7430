use Rattle.std.proofs.Common.{◌≡◌, ◌∙◌, true, sym}
use Rattle.hb_space.specs.Boxes.{holds}
use Rattle.hb_set.proofs.Windows.{searchable_tail, first_has, first_below, held_more}
use Rattle.hb_set.proofs.search.held_by.Goals as goal

pub loop-record-preserved-then-holds : goal.loop-record-preserved-then-holds
loop-record-preserved-then-holds c =
    let in_box : holds c.args.area.now c.in-Some.record.now.value.key ≡ true = rw c.deref.ensures at (sym c.holds.ensures.value ∙ c.if-holds.true) in (
      rw (c.in_ok-push.ensures.items, c.copy.ensures, c.deref-then-holds.ensures) (held_more c.args.area.now c.loop-record.held.items c.loop-record.rest.now c.in-Some.later.now c.in-Some.record.now c.in-Some.ensures.cases.0 in_box) ∙ c.loop-record.invariant.0,
      searchable_tail _ _ _ _ c.in-Some.ensures.cases.0 c.loop-record.invariant.1,
    )

pub past_outside-rest-requires-clause-later : goal.past_outside-rest-requires-clause-later
past_outside-rest-requires-clause-later c = searchable_tail _ _ _ _ c.in-Some.ensures.cases.0 c.loop-record.invariant.1

pub past_outside-rest-requires-clause-behind : goal.past_outside-rest-requires-clause-behind
past_outside-rest-requires-clause-behind c = rw c.deref-else-holds.ensures (first_below _ _ c.in-Some.record.now c.in-Some.ensures.cases.0 c.loop-record.invariant.1.rise)

pub past_outside-rest-requires-clause-same : goal.past_outside-rest-requires-clause-same
past_outside-rest-requires-clause-same c = rw c.deref-else-holds.ensures (first_has _ _ _ c.in-Some.record.now c.in-Some.ensures.cases.0 c.loop-record.invariant.1)
