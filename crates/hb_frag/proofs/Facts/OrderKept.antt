-- A tree without cuts that part nothing has its records in order where the tree has, whatever its box.
use Rattle.std.proofs.Common.{ℕ, zero, arith}
use Rattle.std.specs.List.{All}
use Rattle.std.proofs.lemmas.List.Elements.{All-append}
use Rattle.hb_space.specs.Boxes.{Area, Cuts, side_below, side_from}
use Rattle.hb_frag.specs.declared.leaves.Leaf.TheVariants.{Child}
use Rattle.hb_frag.specs.Trees.{Tree, Tip, Cut}
use Rattle.hb_frag.specs.Leaves.{IsWellCut, Placed, leaves_of}
use Rattle.hb_frag.specs.Normal.{normal, one_leaf_or_cut}
use Rattle.hb_frag.specs.Rules.{IsInOrder}
use Rattle.hb_frag.proofs.Normals.{joined_by_cases}
use Rattle.hb_frag.proofs.Facts.OrderedLeaves.{order_of_both}
use Rattle.hb_lemmas.proofs.Lists.{All-alone, All-front, All-behind}

-- a tree keeps the order of another one
abbrev KeepsOrder : Tree → Tree → Area → Type 0
KeepsOrder old new a = All IsInOrder (leaves_of old a) → All IsInOrder (leaves_of new a)

child_kept : (axis value page : ℕ) (a : Area) → KeepsOrder (Cut axis value (Tip (Child page)) (Tip (Child page))) (Tip (Child page)) a
child_kept axis value page a k =
    let side : Placed = record { leaf = Child page; area = side_below a axis value } in
    All-alone IsInOrder (record { leaf = Child page; area = a }) (record { inside = λ i d l. absurd (omega arith); rising = (k zero side (omega arith)).rising })

joined_kept : (axis value : ℕ) (l r : Tree) (a : Area) → Cuts a axis value → KeepsOrder (Cut axis value l r) (one_leaf_or_cut axis value l r) a
joined_kept axis value = joined_by_cases axis value (λ l r t. (a : Area) → Cuts a axis value → KeepsOrder (Cut axis value l r) t a)
    (λ xs ys a cuts k. order_of_both axis value xs ys a cuts k) (λ page a cuts k. child_kept axis value page a k) (λ l r n a cuts k. k)

pub order_kept : (t : Tree) (a : Area) → IsWellCut t a → KeepsOrder t (normal t) a
order_kept (Tip leaf) a cut k = k
order_kept (Cut axis value left right) a cut k =
    let below = side_below a axis value in
    let from = side_from a axis value in
    joined_kept axis value (normal left) (normal right) a cut.0 (All-append IsInOrder (leaves_of (normal left) below) (leaves_of (normal right) from)
    (order_kept left below cut.1 (All-front IsInOrder (leaves_of left below) (leaves_of right from) k))
    (order_kept right from cut.2 (All-behind IsInOrder (leaves_of left below) (leaves_of right from) k)))
