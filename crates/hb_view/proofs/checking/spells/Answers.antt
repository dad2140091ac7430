use Rattle.hb_view.proofs.Checked.{spelled_by_zeros, unspelled, other_length}
use Rattle.hb_view.proofs.checking.spells.Goals as goal

pub returns-then-bytes-ne-PAGE : goal.returns-then-bytes-ne-PAGE
returns-then-bytes-ne-PAGE c = other_length c.args.bytes.now c.if-bytes-ne-PAGE.true

pub returns-in-Some : goal.returns-in-Some
returns-in-Some c = spelled_by_zeros c.args.bytes.now c.in-Some.rest.now c.is_zero.result c.if-bytes-ne-PAGE.false c.in-Some.ensures c.is_zero.ensures

pub returns-in-None : goal.returns-in-None
returns-in-None c = unspelled c.args.bytes.now c.if-bytes-ne-PAGE.false c.in-None.ensures
