use Rattle.std.proofs.Common.{rules, ◌≡◌, [], ◌∷◌, length}
use Rattle.hb_space.specs.Boxes.{Meets, pieces_outside}
use Rattle.hb_space.proofs.Facts.Outside.{cover_where_apart, cover_from_pieces, disjoint_from_pieces, count_from_pieces}
use Rattle.hb_space.proofs.areas.Area.outside.Goals as goal

pub returns-in_ok-around-in-Some-clause-count : goal.returns-in_ok-around-in-Some-clause-count
returns-in_ok-around-in-Some-clause-count c =
    let value : c.new.result ≡ pieces_outside c.args.self.now c.in-Some.inner = search rules in
    count_from_pieces _ _ _ value

pub returns-in_ok-around-in-Some-clause-cover : goal.returns-in_ok-around-in-Some-clause-cover
returns-in_ok-around-in-Some-clause-cover c = λ p.
    let value : c.new.result ≡ pieces_outside c.args.self.now c.in-Some.inner = search rules in
    let same : length c.in-Some.inner.lo ≡ length c.args.self.now.lo = search rules in
    cover_from_pieces _ _ _ _ p value c.around.ensures.areas.0 c.around.ensures.areas.1 same c.in-Some.ensures.inside.0 (c.in-Some.ensures.points p)

pub returns-in_ok-around-in-Some-clause-disjoint : goal.returns-in_ok-around-in-Some-clause-disjoint
returns-in_ok-around-in-Some-clause-disjoint c =
    let value : c.new.result ≡ pieces_outside c.args.self.now c.in-Some.inner = search rules in
    let same : length c.in-Some.inner.lo ≡ length c.args.self.now.lo = search rules in
    disjoint_from_pieces _ _ _ value c.around.ensures.areas.0 c.around.ensures.areas.1 same c.in-Some.ensures.inside.0

pub returns-in_ok-push-in-None-clause-cover : goal.returns-in_ok-push-in-None-clause-cover
returns-in_ok-push-in-None-clause-cover c = λ p.
    let apart : ¬ (Meets c.args.self.now c.args.o.now) = search rules in
    let alone : c.new-in-None.result ≡ c.args.self.now ∷ [] = search rules in
    cover_where_apart _ _ _ p alone apart
