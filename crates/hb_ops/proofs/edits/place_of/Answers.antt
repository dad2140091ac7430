use Rattle.std.proofs.Common.{rules}
use Rattle.std.proofs.lemmas.Fn.{always_returns_same}
use Rattle.hb_space.specs.Points.{point_cmp}
use Rattle.hb_ops.proofs.edits.place_of.Goals as goal
use Rattle.hb_lemmas.proofs.Places.{found_at, gap_at}
use Rattle.hb_space.proofs.Facts.PointOrder.{exact_points}
use Rattle.std.proofs.lemmas.Cmp.{nat_list_cmp_total}
use Rattle.hb_frag.specs.Rules.{point_of}

-- the closure compares a record's point
pub returns-clause-found : goal.returns-clause-found
returns-clause-found c =
    let facts = c.binary_search_by.ensures in
    found_at point_of exact_points _ _ _ facts.bound (facts.position (λ r. point_cmp r.key c.args.point.now) (always_returns_same _ _ _ (λ a r g called. search rules)))

pub returns-clause-absent : goal.returns-clause-absent
returns-clause-absent c =
    let facts = c.binary_search_by.ensures in
    gap_at point_of nat_list_cmp_total _ _ c.requires _ facts.bound (facts.position (λ r. point_cmp r.key c.args.point.now) (always_returns_same _ _ _ (λ a r g called. search rules)))
