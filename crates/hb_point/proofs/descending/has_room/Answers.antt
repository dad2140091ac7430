use Rattle.std.proofs.Common.{nat_le, nat_lt}
use Rattle.hb_point.proofs.ViewedRows.{first_has_room, more_have_room, test_below, test_of_most}
use Rattle.hb_point.proofs.descending.has_room.Goals as goal

pub returns-then-count_at-eq0 : goal.returns-then-count_at-eq0
returns-then-count_at-eq0 c =
    first_has_room c.args.view.now c.args.meta.now c.args.point.now c.count_at.result c.weight.result (nat_le c.weight.result c.from-capacity.result) c.requires.given c.requires.absent c.count_at.ensures c.weight.ensures c.if-count_at-eq0.true
    (test_of_most c.weight.result c.from-capacity.result c.args.meta.now.dcap c.from-capacity.ensures)

pub returns-else-count_at-eq0 : goal.returns-else-count_at-eq0
returns-else-count_at-eq0 c =
    more_have_room c.args.view.now c.args.meta.now c.args.point.now c.count_at.result c.weight-else-count_at-eq0.result (nat_lt c.weight-else-count_at-eq0.result c.from-capacity.result) c.requires.given c.requires.absent c.count_at.ensures c.weight-else-count_at-eq0.ensures
    c.if-count_at-eq0.false (test_below c.weight-else-count_at-eq0.result c.from-capacity.result c.args.meta.now.dcap c.from-capacity.ensures)
