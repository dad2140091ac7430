-- How many points a box holds: fewer where the box is cut. So a sibling leaf's box holds fewer than its page's.
use Rattle.std.proofs.Common.{ℕ, zero, suc, ◌+◌, ◌-◌, ◌<◌, ◌≤◌, List, [], ◌∷◌, length, get_or, set, arith, inl, inr}
use Rattle.std.proofs.Math.Nat.{mul-lt-mul_of_pos_left, mul-lt-mul_of_pos_right, mul-pos}
use Rattle.std.specs.List.{All, Contains}
use Rattle.std.proofs.lemmas.List.Elements.{All-append, All-contains, All-cons, All-nil, Contains-append_cases}
use Rattle.hb_frag.specs.declared.leaves.Leaf.TheVariants.{Records, Child, Sibling}
use Rattle.hb_frag.specs.Leaves.{Placed, IsWellCut, leaves_of, siblings}
use Rattle.hb_frag.specs.Rules.{IsSiblingTip}
use Rattle.hb_frag.specs.Trees.{Tree, Tip, Cut}
use Rattle.hb_ops.proofs.Facts.PlacedLaws.{sibling_is_leaf}
use Rattle.hb_space.specs.Boxes.{Area, Cuts, side_below, side_from, volume, volume_between}

-- a box holds a point
pub some_points : (lo hi : List ℕ) → 0 < volume_between lo hi
some_points [] hi = omega arith
some_points (l ∷ ls) [] = omega arith
some_points (l ∷ ls) (h ∷ hs) = let first : 0 < h - l + 1 = omega arith in mul-pos first (some_points ls hs)

fewer_below : (lo hi : List ℕ) (axis value : ℕ) → axis < length lo → get_or lo axis 0 < value → value ≤ get_or hi axis 0 → volume_between lo (set hi axis (value - 1)) < volume_between lo hi
fewer_below [] hi axis value i above upto = absurd (omega arith)
fewer_below (l ∷ ls) [] axis value i above upto = absurd (omega arith)
fewer_below (l ∷ ls) (h ∷ hs) zero value i above upto = let less : value - 1 - l + 1 < h - l + 1 = omega (arith, above, upto) in mul-lt-mul_of_pos_right less (some_points ls hs)
fewer_below (l ∷ ls) (h ∷ hs) (suc axis) value i above upto = let some : 0 < h - l + 1 = omega arith in mul-lt-mul_of_pos_left (fewer_below ls hs axis value (omega arith) above upto) some

fewer_from : (lo hi : List ℕ) (axis value : ℕ) → axis < length lo → get_or lo axis 0 < value → value ≤ get_or hi axis 0 → volume_between (set lo axis value) hi < volume_between lo hi
fewer_from [] hi axis value i above upto = absurd (omega arith)
fewer_from (l ∷ ls) [] axis value i above upto = absurd (omega arith)
fewer_from (l ∷ ls) (h ∷ hs) zero value i above upto = let less : h - value + 1 < h - l + 1 = omega (arith, above, upto) in mul-lt-mul_of_pos_right less (some_points ls hs)
fewer_from (l ∷ ls) (h ∷ hs) (suc axis) value i above upto = let some : 0 < h - l + 1 = omega arith in mul-lt-mul_of_pos_left (fewer_from ls hs axis value (omega arith) above upto) some

-- each side of a cut holds fewer
pub below_fewer : (a : Area) (axis value : ℕ) → Cuts a axis value → volume (side_below a axis value) < volume a
below_fewer a axis value cuts = fewer_below a.lo a.hi axis value cuts.attribute cuts.above_least cuts.up_to_greatest

pub from_fewer : (a : Area) (axis value : ℕ) → Cuts a axis value → volume (side_from a axis value) < volume a
from_fewer a axis value cuts = fewer_from a.lo a.hi axis value cuts.attribute cuts.above_least cuts.up_to_greatest

-- so no leaf's box holds more than the tree's
abbrev NoMore : ℕ → Placed → Type 0
NoMore n l = volume l.area ≤ n

pub leaves_no_more : (t : Tree) (a : Area) (n : ℕ) → IsWellCut t a → volume a ≤ n → All (NoMore n) (leaves_of t a)
leaves_no_more (Tip leaf) a n cut le = All-cons (NoMore n) (record { leaf = leaf; area = a }) [] le (All-nil (NoMore n))
leaves_no_more (Cut axis value left right) a n cut le =
    let below = below_fewer a axis value cut.0 in
    let from = from_fewer a axis value cut.0 in
    All-append (NoMore n) (leaves_of left (side_below a axis value)) (leaves_of right (side_from a axis value))
    (leaves_no_more left (side_below a axis value) n cut.1 (omega (arith, below, le)))
    (leaves_no_more right (side_from a axis value) n cut.2 (omega (arith, from, le)))

-- and a sibling leaf's holds fewer, where the tree isn't that leaf alone
pub sibling_fewer : (t : Tree) (a : Area) (name : ℕ) (b : Area) → IsWellCut t a → ¬ (IsSiblingTip t) → Contains (siblings (leaves_of t a)) (name, b) → volume b < volume a
sibling_fewer (Tip (Records records)) a name b cut own (k, lt, e) = absurd (omega arith)
sibling_fewer (Tip (Child page)) a name b cut own (k, lt, e) = absurd (omega arith)
sibling_fewer (Tip (Sibling page)) a name b cut own has = absurd (own tt)
sibling_fewer (Cut axis value left right) a name b cut own has =
    let below = below_fewer a axis value cut.0 in
    let from = from_fewer a axis value cut.0 in
    let lefts = leaves_of left (side_below a axis value) in
    let rights = leaves_of right (side_from a axis value) in
    elim (Contains-append_cases lefts rights _ (sibling_is_leaf (leaves_of (Cut axis value left right) a) name b has)) [
      | inl l ↦ let le = All-contains (NoMore (volume (side_below a axis value))) lefts _ (leaves_no_more left (side_below a axis value) _ cut.1 (omega arith)) l in omega (arith, le, below)
      | inr r ↦ let le = All-contains (NoMore (volume (side_from a axis value))) rights _ (leaves_no_more right (side_from a axis value) _ cut.2 (omega arith)) r in omega (arith, le, from)
    ]
