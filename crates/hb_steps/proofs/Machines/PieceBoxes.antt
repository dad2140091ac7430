-- What of a box lies outside another box within it are boxes of as many attributes.
use Rattle.hb_steps.proofs.Machines.Names.{◌≡◌, ℕ, zero, suc, ◌+◌, nat_lt, true, false, Bool, cond, List, [], ◌∷◌, ◌++◌, length, All, refl, sym, ◌∙◌, arith, All-append, All-cons, All-nil, IsBoxOf, same-side_from, Area, Holds, IsArea, common_area, pieces_outside, side_below, side_from}
use Rattle.std.proofs.Common.{get_or}
use Rattle.std.proofs.lemmas.Bool.{ltb-true}
use Rattle.std.proofs.lemmas.List.{length-set}
use Rattle.hb_frag.proofs.Facts.Sides.{IsArea-side_below, IsArea-side_from}
use Rattle.hb_space.proofs.Facts.Boxes.{IsArea-common_area, Meets-from_point, Within-common_area}
use Rattle.hb_space.proofs.Facts.Lists.{length-zip_by}
use Rattle.hb_space.proofs.Facts.Outside.{Inner, Inner-rest_between, above_cuts, below_cuts}
use Rattle.hb_space.specs.Boxes.{Within, pieces_above, pieces_below, pieces_from, rest_between}

-- a piece, where there is one
one_or_none : (k : ℕ) (test : Bool) (piece : Area) → (test ≡ true → IsBoxOf k piece) → All (IsBoxOf k) (cond test (piece ∷ []) [])
one_or_none k true piece is = All-cons (IsBoxOf k) piece [] (is refl) (All-nil (IsBoxOf k))
one_or_none k false piece is = All-nil (IsBoxOf k)

module _ (k axis : ℕ) (rest c : Area) (inner : Inner axis rest c) (as_many : length rest.lo ≡ k) where
  below_is : All (IsBoxOf k) (pieces_below axis rest c)
  below_is = one_or_none k (nat_lt (get_or rest.lo axis 0) (get_or c.lo axis 0)) (side_below rest axis (get_or c.lo axis 0))
      (λ test. (IsArea-side_below rest axis (get_or c.lo axis 0) inner.rest_area (below_cuts axis rest c inner (ltb-true (get_or rest.lo axis 0) (get_or c.lo axis 0) test)), as_many))

  above_is : All (IsBoxOf k) (pieces_above axis rest c)
  above_is = one_or_none k (nat_lt (get_or c.hi axis 0) (get_or rest.hi axis 0)) (side_from rest axis (get_or c.hi axis 0 + 1))
      (λ test. (IsArea-side_from rest axis (get_or c.hi axis 0 + 1) inner.rest_area (above_cuts axis rest c inner (ltb-true (get_or c.hi axis 0) (get_or rest.hi axis 0) test)), same-side_from rest axis (get_or c.hi axis 0 + 1) ∙ as_many))

pieces_are : (k n axis : ℕ) (rest c : Area) → n + axis ≡ length rest.lo → IsArea rest → IsArea c → length c.lo ≡ length rest.lo → Within c rest → length rest.lo ≡ k → All (IsBoxOf k) (pieces_from n axis rest c)
pieces_are k zero axis rest c all rest_is c_is same inside as_many = All-nil (IsBoxOf k)
pieces_are k (suc n) axis rest c all rest_is c_is same inside as_many =
    let inner : Inner axis rest c = record { attribute = omega (arith, all); rest_area = rest_is; area = c_is; same = same; inside = inside } in
    let between = Inner-rest_between axis rest c inner in
    let long = length-set rest.lo axis (get_or c.lo axis 0) in
    All-append (IsBoxOf k) (pieces_below axis rest c ++ pieces_above axis rest c) (pieces_from n (axis + 1) (rest_between axis rest c) c)
    (All-append (IsBoxOf k) (pieces_below axis rest c) (pieces_above axis rest c) (below_is k axis rest c inner as_many) (above_is k axis rest c inner as_many))
    (pieces_are k n (axis + 1) (rest_between axis rest c) c (omega (arith, all, long)) between.0 c_is (omega (arith, same, long)) between.1 (omega (arith, as_many, long)))

-- so what of a box lies outside one that shares a point with it
pub pieces_are_boxes : (k : ℕ) (a b : Area) (p : List ℕ) → IsBoxOf k a → IsBoxOf k b → Holds a p → Holds b p → All (IsBoxOf k) (pieces_outside a (common_area a b))
pieces_are_boxes k a b p (a_is, a_many) (b_is, b_many) in_a in_b =
    let meets = Meets-from_point a b p in_a in_b in
    let same : length a.lo ≡ length b.lo = a_many ∙ sym b_many in
    pieces_are k (length a.lo) 0 a (common_area a b) (omega arith) a_is (IsArea-common_area a b a_is b_is same meets) (length-zip_by _ a.lo b.lo same) (Within-common_area a b a_is b_is same meets).0 a_many
