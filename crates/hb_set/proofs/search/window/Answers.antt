use Rattle.std.proofs.Common.{rules, sym, subst, get_or, leb}
use Rattle.std.specs.Ordering.{is_lt}
use Rattle.std.proofs.lemmas.Fn.{always_returns_same}
use Rattle.std.proofs.lemmas.List.{take_rest}
use Rattle.hb_space.specs.Points.{point_cmp}
use Rattle.hb_set.specs.Kept.{PointsRise}
use Rattle.hb_set.proofs.Windows.{filter_window, below_parts, reach_parts, rise_drop, searchable_take, searchable_drop}
use Rattle.hb_set.proofs.search.window.Goals as goal

-- the two closures compare a record's point, and its first value
pub returns-clause-held : goal.returns-clause-held
returns-clause-held c =
    let rest = take_rest c.args.records.now c.partition_point-start.result in
    let rise = subst PointsRise (sym rest) (rise_drop _ c.partition_point-start.result c.requires.rise) in
    filter_window c.args.area.now c.args.records.now _ _ _ rest c.partition_point-start.ensures.bound c.partition_point-count.ensures.bound
    (c.partition_point-start.ensures.partitioned (λ h. is_lt (point_cmp h.value.key c.args.area.now.lo)) (always_returns_same _ _ _ (λ a r g called. search rules)) (below_parts _ _ c.requires.rise))
    (c.partition_point-count.ensures.partitioned (λ h. leb (get_or h.value.key 0 0) (get_or c.args.area.now.hi 0 0)) (always_returns_same _ _ _ (λ a r g called. search rules)) (reach_parts _ _ rise))

pub returns-clause-searchable : goal.returns-clause-searchable
returns-clause-searchable c = searchable_take _ _ c.partition_point-count.result (searchable_take _ _ _ (searchable_drop _ _ c.partition_point-start.result c.requires))
