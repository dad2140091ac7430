use Rattle.std.proofs.Common.{rules}
use Rattle.std.proofs.lemmas.Fn.{always_returns_same}
use Rattle.hb_space.specs.Points.{point_cmp}
use Rattle.hb_set.proofs.set.place_of.Goals as goal
use Rattle.hb_lemmas.proofs.SortedEntries.{rise_at}
use Rattle.std.proofs.lemmas.Cmp.{nat_list_cmp_total}
use Rattle.hb_set.specs.Kept.{point_behind, body_behind}
use Rattle.hb_lemmas.proofs.Places.{found_at, gap_at}
use Rattle.hb_space.proofs.Facts.PointOrder.{exact_points}

-- the closure compares a record's point
pub returns-clause-found : goal.returns-clause-found
returns-clause-found c =
    let facts = c.binary_search_by.ensures in
    found_at point_behind exact_points _ _ _ facts.bound (facts.position (λ h. point_cmp h.value.key c.args.point.now) (always_returns_same _ _ _ (λ a r g called. search rules)))

pub returns-clause-absent : goal.returns-clause-absent
returns-clause-absent c =
    let facts = c.binary_search_by.ensures in
    gap_at point_behind nat_list_cmp_total _ _ (rise_at nat_list_cmp_total point_behind body_behind _ c.requires) _ facts.bound (facts.position (λ h. point_cmp h.value.key c.args.point.now) (always_returns_same _ _ _ (λ a r g called. search rules)))
