use Rattle.std.proofs.Common.{rules, arith, length-take}
use Rattle.std.specs.Ordering.{is_lt}
use Rattle.std.proofs.lemmas.Fn.{always_returns_same}
use Rattle.std.proofs.lemmas.List.{take_rest}
use Rattle.hb_space.specs.Points.{point_cmp}
use Rattle.hb_set.proofs.Windows.{filter_limit, below_parts, rise_take, searchable_take, searchable_drop}
use Rattle.hb_set.proofs.search.past_outside.Goals as goal

-- the closure compares a record's point with the limit
pub returns-clause-held : goal.returns-clause-held
returns-clause-held c =
    rw (take_rest c.args.later.now c.partition_point-count.result) (filter_limit c.args.area.now c.args.outside.now c.in-Some-limit_behind.limit.items c.args.later.now c.reach.result c.partition_point-count.result (omega (arith, c.partition_point-count.ensures.bound, length-take c.reach.result c.args.later.now)) c.reach.ensures c.in-Some-limit_behind.ensures c.requires.behind
    (c.partition_point-count.ensures.partitioned (λ h. is_lt (point_cmp h.value.key c.in-Some-limit_behind.limit.items)) (always_returns_same _ _ _ (λ a r g called. search rules)) (below_parts _ _ (rise_take c.args.later.now c.reach.result c.requires.later.rise))).0)

pub returns-clause-searchable : goal.returns-clause-searchable
returns-clause-searchable c = searchable_take _ _ _ (searchable_drop _ _ c.partition_point-count.result c.requires.later)
