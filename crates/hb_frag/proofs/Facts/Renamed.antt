-- A page takes another one's place in child leaves.
use Rattle.std.proofs.Common.{◌≡◌, ℕ, List, [], ◌∷◌, ◌++◌, map, refl, sym, ap, ◌∙◌}
use Rattle.std.specs.List.{sum}
use Rattle.hb_space.specs.Boxes.{Area, side_below, side_from}
use Rattle.hb_frag.specs.declared.leaves.Leaf.{Leaf}
use Rattle.hb_frag.specs.declared.leaves.Leaf.TheVariants.{Records, Child, Sibling}
use Rattle.hb_frag.specs.Trees.{Tree, Tip, Cut}
use Rattle.hb_frag.specs.Leaves.{IsWellCut, Placed, leaf_weight, leaves, leaves_of, siblings}
use Rattle.hb_frag.specs.Renaming.{Renames, renamed, renamed_leaf, renamed_place}

module _ (old new : ℕ) where
  cut_so : (t : Tree) (a : Area) → IsWellCut (renamed old new t) a → IsWellCut t a
  cut_so (Tip leaf) a h = tt
  cut_so (Cut axis value left right) a h = (h.0, cut_so left (side_below a axis value) h.1, cut_so right (side_from a axis value) h.2)

  cut_again : (t : Tree) (a : Area) → IsWellCut t a → IsWellCut (renamed old new t) a
  cut_again (Tip leaf) a h = tt
  cut_again (Cut axis value left right) a h = (h.0, cut_again left (side_below a axis value) h.1, cut_again right (side_from a axis value) h.2)

  places-append : (xs ys : List Placed) → map (renamed_place old new) (xs ++ ys) ≡ map (renamed_place old new) xs ++ map (renamed_place old new) ys
  places-append [] ys = refl
  places-append (x ∷ xs) ys = ap (λ (rest : List Placed). renamed_place old new x ∷ rest) (places-append xs ys)

  pub leaves_renamed : (t : Tree) (a : Area) → leaves_of (renamed old new t) a ≡ map (renamed_place old new) (leaves_of t a)
  leaves_renamed (Tip leaf) a = refl
  leaves_renamed (Cut axis value left right) a =
      let below = side_below a axis value in
      let from = side_from a axis value in
      ap (λ (xs : List Placed). xs ++ leaves_of (renamed old new right) from) (leaves_renamed left below)
      ∙ ap (λ (xs : List Placed). map (renamed_place old new) (leaves_of left below) ++ xs) (leaves_renamed right from)
      ∙ sym (places-append (leaves_of left below) (leaves_of right from))

  siblings_same : (xs : List Placed) → siblings (map (renamed_place old new) xs) ≡ siblings xs
  siblings_same [] = refl
  siblings_same (x ∷ xs) = elim x.leaf as (λ l. siblings (renamed_place old new (record { leaf = l; area = x.area }) ∷ map (renamed_place old new) xs) ≡ siblings (record { leaf = l; area = x.area } ∷ xs)) [
    | Records records ↦ siblings_same xs
    | Child page ↦ siblings_same xs
    | Sibling page ↦ ap (λ (rest : List (ℕ × Area)). (page, x.area) ∷ rest) (siblings_same xs)
  ]

  weight_same : (leaf : Leaf) → leaf_weight (renamed_leaf old new leaf) ≡ leaf_weight leaf
  weight_same (Records records) = refl
  weight_same (Child page) = refl
  weight_same (Sibling page) = refl

  pub plain_renamed : (t : Tree) → leaves (renamed old new t) ≡ map (renamed_leaf old new) (leaves t)
  plain_renamed (Tip leaf) = refl
  plain_renamed (Cut axis value left right) =
      ap (λ (xs : List Leaf). xs ++ leaves (renamed old new right)) (plain_renamed left)
      ∙ ap (λ (xs : List Leaf). map (renamed_leaf old new) (leaves left) ++ xs) (plain_renamed right)
      ∙ sym (plain-append (leaves left) (leaves right))
    where
      plain-append : (xs ys : List Leaf) → map (renamed_leaf old new) (xs ++ ys) ≡ map (renamed_leaf old new) xs ++ map (renamed_leaf old new) ys
      plain-append [] ys = refl
      plain-append (x ∷ xs) ys = ap (λ (rest : List Leaf). renamed_leaf old new x ∷ rest) (plain-append xs ys)

  weights_same : (xs : List Leaf) → map leaf_weight (map (renamed_leaf old new) xs) ≡ map leaf_weight xs
  weights_same [] = refl
  weights_same (x ∷ xs) = λ i. weight_same x i ∷ weights_same xs i

  pub renames : (t : Tree) → Renames old new t
  renames t = record {
    cuts = λ a. (cut_so t a, cut_again t a);
    leaves = leaves_renamed t;
    siblings = λ a. ap siblings (leaves_renamed t a) ∙ siblings_same (leaves_of t a);
    weight = ap (λ (xs : List Leaf). sum (map leaf_weight xs)) (plain_renamed t) ∙ ap sum (weights_same (leaves t));
  }
