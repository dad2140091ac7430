-- The leaf of a well cut tree at a point, and the others.
use Rattle.std.proofs.Common.{◌≡◌, ◌≢◌, ℕ, Bool, true, false, cond, IsTrue, List, [], ◌∷◌, ◌++◌, Some, None, refl, sym, ap, subst, ◌∙◌, ◌⊎◌, inl, inr, append_assoc}
use Rattle.std.specs.List.{AllByRecursion}
use Rattle.std.proofs.lemmas.List.Elements.{recursion_from_All}
use Rattle.hb_frag.proofs.Facts.OrderedLeaves.{held_below, sides_apart}
use Rattle.hb_space.specs.Boxes.{Area, Holds, holds, side_below, side_from}
use Rattle.hb_space.specs.declared.records.Record.{Record}
use Rattle.hb_space.proofs.Facts.Boxes.{Holds-from_test, Holds-side_from}
use Rattle.hb_frag.specs.declared.leaves.Leaf.{Leaf}
use Rattle.hb_frag.specs.Trees.{Tree, Tip, Cut}
use Rattle.hb_frag.specs.Leaves.{Placed, IsWellCut, first_at, leaves, leaves_of, records_of, with_leaf_at}
use Rattle.hb_frag.specs.Rules.{IsInOrder}
use Rattle.hb_frag.proofs.Facts.Sides.{failed_test}
use Rattle.hb_lemmas.proofs.Lists.{parts, whole}

-- no record of the leaf has the point
abbrev pub LeafLacks : List ℕ → Leaf → Type 0
LeafLacks p leaf = AllByRecursion (λ (r : Record). r.key ≢ p) (records_of leaf)

-- the first of two lists stands in one of them
pub first_append : (p : List ℕ) (xs ys : List Placed) (placed : Placed) → first_at p (xs ++ ys) ≡ Some placed → (first_at p xs ≡ Some placed) ⊎ (first_at p ys ≡ Some placed)
first_append p [] ys placed e = inr e
first_append p (x ∷ xs) ys placed e = elim (holds x.area p) as (λ b. cond b (Some x) (first_at p (xs ++ ys)) ≡ Some placed → (cond b (Some x) (first_at p xs) ≡ Some placed) ⊎ (first_at p ys ≡ Some placed)) [
  | true ↦ λ e. inl e
  | false ↦ λ e. first_append p xs ys placed e
] e

-- a leaf alone
pub tip_at : (p : List ℕ) (leaf : Leaf) (area : Area) (placed : Placed) → first_at p (record { leaf = leaf; area = area } ∷ []) ≡ Some placed → IsTrue (holds area p) × (record { leaf = leaf; area = area } ≡ placed)
tip_at p leaf area placed e =
    let here : Placed = record { leaf = leaf; area = area } in
    elim (holds area p) as (λ b. cond b (Some here) None ≡ Some placed → IsTrue b × (here ≡ placed)) [
      | true ↦ λ e. (refl, cc)
      | false ↦ λ e. cc
    ] e

-- the point of a leaf lies in the box of the tree
pub first_held : (p : List ℕ) (tree : Tree) (area : Area) (placed : Placed) → IsWellCut tree area → first_at p (leaves_of tree area) ≡ Some placed → Holds area p
first_held p (Tip leaf) area placed cut e = Holds-from_test area p (tip_at p leaf area placed e).0
first_held p (Cut axis value left right) area placed cut e =
    elim (first_append p (leaves_of left (side_below area axis value)) (leaves_of right (side_from area axis value)) placed e) [
      | inl l ↦ (held_below area axis value p cut.0 (first_held p left (side_below area axis value) placed cut.1 l)).0
      | inr r ↦ ((Holds-side_from area axis value p cut.0).0 (first_held p right (side_from area axis value) placed cut.2 r)).0
    ]

-- a tree outside whose box the point lies stays
pub unchanged : (p : List ℕ) (change : Leaf → Leaf) (tree : Tree) (area : Area) → IsWellCut tree area → ¬ (Holds area p) → with_leaf_at p change tree area ≡ tree
unchanged p change (Tip leaf) area cut out = ap (λ (b : Bool). Tip (cond b (change leaf) leaf)) (failed_test area p out)
unchanged p change (Cut axis value left right) area cut out =
    let l = unchanged p change left (side_below area axis value) cut.1 (λ h. out (held_below area axis value p cut.0 h).0) in
    let r = unchanged p change right (side_from area axis value) cut.2 (λ h. out ((Holds-side_from area axis value p cut.0).0 h).0) in
    λ i. Cut axis value (l i) (r i)

-- and none of its records has the point
outside_lacks : (p : List ℕ) (records : List Record) (area : Area) → ¬ (Holds area p) → AllByRecursion (λ (r : Record). Holds area r.key) records → AllByRecursion (λ (r : Record). r.key ≢ p) records
outside_lacks p [] area out inside = tt
outside_lacks p (r ∷ rs) area out inside = (λ e. out (subst (λ (q : List ℕ). Holds area q) e inside.0), outside_lacks p rs area out inside.1)

pub lacks : (p : List ℕ) (tree : Tree) (area : Area) → IsWellCut tree area → AllByRecursion IsInOrder (leaves_of tree area) → ¬ (Holds area p) → AllByRecursion (LeafLacks p) (leaves tree)
lacks p (Tip leaf) area cut order out = (outside_lacks p (records_of leaf) area out (recursion_from_All (λ (r : Record). Holds area r.key) (records_of leaf) order.0.inside), tt)
lacks p (Cut axis value left right) area cut order out =
    let both = parts IsInOrder (leaves_of left (side_below area axis value)) (leaves_of right (side_from area axis value)) order in
    whole (LeafLacks p) (leaves left) (leaves right)
    (lacks p left (side_below area axis value) cut.1 both.0 (λ h. out (held_below area axis value p cut.0 h).0))
    (lacks p right (side_from area axis value) cut.2 both.1 (λ h. out ((Holds-side_from area axis value p cut.0).0 h).0))

-- The leaves from the left are some, the one at the point, and some: a change there changes that one. Where records lie
-- in the boxes of their leaves, no other leaf has the point.
pub record Parted (p : List ℕ) (tree : Tree) (area : Area) (leaf : Leaf) : Type 0 where
  pub before : List Leaf
  pub after : List Leaf
  pub is : leaves tree ≡ before ++ (leaf ∷ after)
  pub changed : (change : Leaf → Leaf) → leaves (with_leaf_at p change tree area) ≡ before ++ (change leaf ∷ after)
  pub lack_before : AllByRecursion IsInOrder (leaves_of tree area) → AllByRecursion (LeafLacks p) before
  pub lack_after : AllByRecursion IsInOrder (leaves_of tree area) → AllByRecursion (LeafLacks p) after

pub parted : (p : List ℕ) (tree : Tree) (area : Area) (placed : Placed) → IsWellCut tree area → first_at p (leaves_of tree area) ≡ Some placed → Parted p tree area placed.leaf
parted p (Tip leaf) area placed cut e =
    let here = tip_at p leaf area placed e in
    let same : leaf ≡ placed.leaf = ap (λ (x : Placed). x.leaf) here.1 in
    record {
      before = [];
      after = [];
      is = ap (λ (l : Leaf). l ∷ []) same;
      changed = λ change. ap (λ (b : Bool). cond b (change leaf) leaf ∷ []) here.0 ∙ ap (λ (l : Leaf). change l ∷ []) same;
      lack_before = λ _. tt;
      lack_after = λ _. tt;
    }
parted p (Cut axis value left right) area placed cut e =
    let below = side_below area axis value in
    let from = side_from area axis value in
    elim (first_append p (leaves_of left below) (leaves_of right from) placed e) [
      | inl l ↦
          let there = parted p left below placed cut.1 l in
          let out : ¬ (Holds from p) = λ h. sides_apart area axis value p cut.0 (first_held p left below placed cut.1 l) h in
          record {
            before = there.before;
            after = there.after ++ leaves right;
            is = ap (λ (ls : List Leaf). ls ++ leaves right) there.is ∙ append_assoc there.before (placed.leaf ∷ there.after) (leaves right);
            changed = λ change.
                ap (λ (t : Tree). leaves (with_leaf_at p change left below) ++ leaves t) (unchanged p change right from cut.2 out)
                ∙ ap (λ (ls : List Leaf). ls ++ leaves right) (there.changed change)
                ∙ append_assoc there.before (change placed.leaf ∷ there.after) (leaves right);
            lack_before = λ order. there.lack_before (parts IsInOrder (leaves_of left below) (leaves_of right from) order).0;
            lack_after = λ order.
                let both = parts IsInOrder (leaves_of left below) (leaves_of right from) order in
                whole (LeafLacks p) there.after (leaves right) (there.lack_after both.0) (lacks p right from cut.2 both.1 out);
          }
      | inr r ↦
          let there = parted p right from placed cut.2 r in
          let out : ¬ (Holds below p) = λ h. sides_apart area axis value p cut.0 h (first_held p right from placed cut.2 r) in
          record {
            before = leaves left ++ there.before;
            after = there.after;
            is = ap (λ (ls : List Leaf). leaves left ++ ls) there.is ∙ sym (append_assoc (leaves left) there.before (placed.leaf ∷ there.after));
            changed = λ change.
                ap (λ (t : Tree). leaves t ++ leaves (with_leaf_at p change right from)) (unchanged p change left below cut.1 out)
                ∙ ap (λ (ls : List Leaf). leaves left ++ ls) (there.changed change)
                ∙ sym (append_assoc (leaves left) there.before (change placed.leaf ∷ there.after));
            lack_before = λ order.
                let both = parts IsInOrder (leaves_of left below) (leaves_of right from) order in
                whole (LeafLacks p) (leaves left) there.before (lacks p left below cut.1 both.0 out) (there.lack_before both.1);
            lack_after = λ order. there.lack_after (parts IsInOrder (leaves_of left below) (leaves_of right from) order).1;
          }
    ]
