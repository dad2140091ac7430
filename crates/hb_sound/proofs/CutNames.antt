-- A records leaf that is cut: its end names the new page once, and no other page more or less often.
use Rattle.std.proofs.Common.{◌≡◌, ℕ, ◌+◌, ◌==◌, cond, List, [], ◌∷◌, ◌++◌, refl, ap, arith}
use Rattle.hb_space.specs.Boxes.{Area, side_below, side_from}
use Rattle.hb_frag.specs.declared.leaves.Leaf.{Leaf}
use Rattle.hb_frag.specs.declared.leaves.Leaf.TheVariants.{Records, Child, Sibling}
use Rattle.hb_frag.specs.declared.paths.Side.{Side}
use Rattle.hb_frag.specs.declared.paths.Side.TheVariants.{Left, Right}
use Rattle.hb_frag.specs.Trees.{Tree, Tip}
use Rattle.hb_frag.specs.Leaves.{Placed, leaves_of, siblings}
use Rattle.hb_ops.specs.Sound.{count_name}
use Rattle.hb_ops.specs.declared.leaf_cuts.LeafCut.{LeafCut}
use Rattle.hb_ops.specs.Cutting.{PartLeaves, area_on, cut_through, cut_with, going, half_area, other_side, reached, staying}
use Rattle.hb_ops.proofs.Facts.PlacedLaws.{placed}

-- how often sibling leaves of a list name a page
abbrev pub named : ℕ → List Placed → ℕ
named id ls = count_name id (siblings ls)

abbrev pub once : ℕ → ℕ → ℕ
once id name = cond (name == id) 1 0

abbrev name_of : ℕ → Leaf → ℕ
name_of id (Records records) = 0
name_of id (Child page) = 0
name_of id (Sibling page) = once id page

named-cons : (id : ℕ) (leaf : Leaf) (area : Area) (xs : List Placed) → named id (placed leaf area ∷ xs) ≡ name_of id leaf + named id xs
named-cons id (Records records) area xs = omega arith
named-cons id (Child page) area xs = omega arith
named-cons id (Sibling page) area xs = refl

pub named-append : (id : ℕ) (xs ys : List Placed) → named id (xs ++ ys) ≡ named id xs + named id ys
named-append id [] ys = omega arith
named-append id (x ∷ xs) ys =
    let rest = named-append id xs ys in
    let one = named-cons id x.leaf x.area (xs ++ ys) in
    let two = named-cons id x.leaf x.area xs in
    omega (arith, rest, one, two)

named_with : (id : ℕ) (side : Side) (axis value : ℕ) (on off : Tree) (area : Area) → named id (leaves_of (cut_with side axis value on off) area) ≡ named id (leaves_of on (area_on side axis value area)) + named id (leaves_of off (area_on (other_side side) axis value area))
named_with id Left axis value on off area = named-append id (leaves_of on (side_below area axis value)) (leaves_of off (side_from area axis value))
named_with id Right axis value on off area = let e = named-append id (leaves_of off (side_below area axis value)) (leaves_of on (side_from area axis value)) in omega (arith, e)

pub through_names : (fresh id : ℕ) (cuts : List LeafCut) (tree : Tree) (area : Area) → PartLeaves cuts tree area → named id (leaves_of (cut_through cuts tree (Tip (Sibling fresh))) area) + named id (leaves_of (reached cuts tree area).0 (reached cuts tree area).1) ≡ named id (leaves_of tree area) + once id fresh
through_names fresh id [] tree area h = omega arith
through_names fresh id (cut ∷ cuts) tree area h =
    let rest = through_names fresh id cuts (going cut tree) (half_area cut area) h.1 in
    let none = ap (λ (t : Tree). named id (leaves_of t area)) h.0.leaf in
    let e = named_with id cut.side cut.axis cut.value (cut_through cuts (going cut tree) (Tip (Sibling fresh))) (staying cut tree) area in
    omega (arith, rest, none, e)
