-- A records leaf that is cut: no cut of it has two like sides, and it is no heavier.
use Rattle.std.proofs.Common.{◌≡◌, ℕ, ◌+◌, ◌≤◌, List, [], ◌∷◌, refl, ap, arith}
use Rattle.hb_space.specs.Boxes.{Area}
use Rattle.hb_frag.specs.declared.leaves.Leaf.TheVariants.{Records, Child, Sibling}
use Rattle.hb_frag.specs.declared.paths.Side.{Side}
use Rattle.hb_frag.specs.declared.paths.Side.TheVariants.{Left, Right}
use Rattle.hb_frag.specs.Trees.{Tree, Tip, Cut}
use Rattle.hb_frag.specs.Leaves.{weight_of}
use Rattle.hb_frag.specs.Rules.{AreAlike, IsNormal, IsSiblingTip}
use Rattle.hb_ops.specs.declared.leaf_cuts.LeafCut.{LeafCut}
use Rattle.hb_ops.specs.Cutting.{PartLeaves, PartsLeaf, cut_through, cut_with, going, half_area, reached, staying}
use Rattle.hb_ops.proofs.Facts.LeafHalfLaws.{both_halves}
use Rattle.hb_frag.proofs.Facts.Parts.{weight_cut}
use Rattle.hb_frag.proofs.Facts.CarvedKinds.{some_weight}

-- a tree that is like none beside it
abbrev pub LikeNone : Tree → Type 0
LikeNone t = (other : Tree) → (AreAlike t other → ⊥) × (AreAlike other t → ⊥)

-- a sibling leaf is like none before it, and none behind it
before_sibling : (name : ℕ) (other : Tree) → AreAlike other (Tip (Sibling name)) → ⊥
before_sibling name (Tip (Records records)) h = h
before_sibling name (Tip (Child page)) h = h
before_sibling name (Tip (Sibling page)) h = h
before_sibling name (Cut axis value left right) h = h

after_sibling : (name : ℕ) (other : Tree) → AreAlike (Tip (Sibling name)) other → ⊥
after_sibling name other h = h

-- nor is a cut
pub before_cut : (a v : ℕ) (l r other : Tree) → AreAlike other (Cut a v l r) → ⊥
before_cut a v l r (Tip (Records records)) h = h
before_cut a v l r (Tip (Child page)) h = h
before_cut a v l r (Tip (Sibling page)) h = h
before_cut a v l r (Cut axis value left right) h = h

after_cut : (a v : ℕ) (l r other : Tree) → AreAlike (Cut a v l r) other → ⊥
after_cut a v l r other h = h

-- so a cut is like none
pub cut_like_none : (a v : ℕ) (l r : Tree) → LikeNone (Cut a v l r)
cut_like_none a v l r other = (after_cut a v l r other, before_cut a v l r other)

with_like_none : (side : Side) (axis value : ℕ) (on off : Tree) → LikeNone (cut_with side axis value on off)
with_like_none Left axis value on off = cut_like_none axis value on off
with_like_none Right axis value on off = cut_like_none axis value off on

-- what stays is like none
pub through_like_none : (fresh : ℕ) (cuts : List LeafCut) (tree : Tree) → LikeNone (cut_through cuts tree (Tip (Sibling fresh)))
through_like_none fresh [] tree = λ other. (after_sibling fresh other, before_sibling fresh other)
through_like_none fresh (cut ∷ cuts) tree = with_like_none cut.side cut.axis cut.value (cut_through cuts (going cut tree) (Tip (Sibling fresh))) (staying cut tree)

-- a leaf that is cut isn't a lone leaf
with_not_lone : (side : Side) (axis value : ℕ) (on off : Tree) → IsSiblingTip (cut_with side axis value on off) → ⊥
with_not_lone Left axis value on off h = h
with_not_lone Right axis value on off h = h

-- so what stays isn't one
pub not_lone_end : (fresh : ℕ) (cuts : List LeafCut) (tree : Tree) → (cuts ≡ [] → ⊥) → IsSiblingTip (cut_through cuts tree (Tip (Sibling fresh))) → ⊥
not_lone_end fresh [] tree some h = some refl
not_lone_end fresh (cut ∷ cuts) tree some h = with_not_lone cut.side cut.axis cut.value (cut_through cuts (going cut tree) (Tip (Sibling fresh))) (staying cut tree) h

-- a cut of normal sides is normal where one of them is like none
normal_with : (side : Side) (axis value : ℕ) (on off : Tree) → LikeNone on → IsNormal on → IsNormal off → IsNormal (cut_with side axis value on off)
normal_with Left axis value on off none one two = ((none off).0, one, two)
normal_with Right axis value on off none one two = ((none off).1, two, one)

-- what stays is normal
pub through_normal : (fresh : ℕ) (cuts : List LeafCut) (tree : Tree) → IsNormal (cut_through cuts tree (Tip (Sibling fresh)))
through_normal fresh [] tree = tt
through_normal fresh (cut ∷ cuts) tree = normal_with cut.side cut.axis cut.value (cut_through cuts (going cut tree) (Tip (Sibling fresh))) (staying cut tree) (through_like_none fresh cuts (going cut tree)) (through_normal fresh cuts (going cut tree)) tt

-- and what is reached, where the leaf was
pub reached_normal : (cuts : List LeafCut) (tree : Tree) (area : Area) → IsNormal tree → IsNormal (reached cuts tree area).0
reached_normal [] tree area h = h
reached_normal (cut ∷ cuts) tree area h = reached_normal cuts (going cut tree) (half_area cut area) tt

pub weight_with : (side : Side) (axis value : ℕ) (on off : Tree) → weight_of (cut_with side axis value on off) ≡ weight_of on + weight_of off
weight_with Left axis value on off = weight_cut axis value on off
weight_with Right axis value on off = let w = weight_cut axis value off on in omega (arith, w)

-- both halves together weigh what the leaf weighs
pub halves_weigh : (cut : LeafCut) (tree : Tree) (area : Area) → PartsLeaf cut tree area → weight_of (going cut tree) + weight_of (staying cut tree) ≡ weight_of tree
halves_weigh cut tree area h =
    let both = both_halves cut.side cut.axis cut.value h.records in
    let whole = ap weight_of h.leaf in
    let on = ap (λ (t : Tree). weight_of (going cut t)) h.leaf in
    let off = ap (λ (t : Tree). weight_of (staying cut t)) h.leaf in
    omega (arith, both, whole, on, off, h.on, h.off)

-- what stays is no heavier than the leaf
pub through_weighs : (fresh : ℕ) (cuts : List LeafCut) (tree : Tree) (area : Area) → PartLeaves cuts tree area → weight_of (cut_through cuts tree (Tip (Sibling fresh))) ≤ weight_of tree
through_weighs fresh [] tree area h = let some = some_weight tree in omega (arith, some)
through_weighs fresh (cut ∷ cuts) tree area h =
    let rest = through_weighs fresh cuts (going cut tree) (half_area cut area) h.1 in
    let both = halves_weigh cut tree area h.0 in
    let w = weight_with cut.side cut.axis cut.value (cut_through cuts (going cut tree) (Tip (Sibling fresh))) (staying cut tree) in
    omega (arith, rest, both, w)

-- nor is what is reached
pub reached_weighs : (cuts : List LeafCut) (tree : Tree) (area : Area) → PartLeaves cuts tree area → weight_of (reached cuts tree area).0 ≤ weight_of tree
reached_weighs [] tree area h = omega arith
reached_weighs (cut ∷ cuts) tree area h =
    let rest = reached_weighs cuts (going cut tree) (half_area cut area) h.1 in
    let both = halves_weigh cut tree area h.0 in
    omega (arith, rest, both)
