-- That the tree without cuts that part nothing says the same as the tree.
use Rattle.std.proofs.Common.{◌≡◌, ℕ, zero, ◌↔◌, inl, inr, List, [], ◌∷◌, ◌++◌, length, get_or, length-append, Some, refl, sym, subst, ◌∙◌, arith}
use Rattle.std.specs.List.{Contains, flat_map}
use Rattle.std.specs.List.Sorted.{IsPermutation}
use Rattle.std.proofs.lemmas.Bool.{cases_lt}
use Rattle.std.proofs.lemmas.List.{append-nil}
use Rattle.std.proofs.lemmas.List.Concat.{flat_map-append}
use Rattle.std.proofs.lemmas.List.Elements.{All-append, All-contains, Contains-append_left, Contains-append_right, Contains-append_cases, All-contains_itself}
use Rattle.std.proofs.lemmas.List.Sorted.{IsPermutation-refl, IsPermutation-trans, IsPermutation-append, Contains-permutation, length_permutation}
use Rattle.hb_space.specs.Boxes.{Area, IsArea, Holds, side_below, side_from}
use Rattle.hb_space.specs.declared.records.Record.{Record}
use Rattle.hb_space.proofs.Facts.Boxes.{Holds-side_below, Holds-side_from, test-from_Holds}
use Rattle.hb_frag.specs.declared.leaves.Leaf.{Leaf}
use Rattle.hb_frag.specs.declared.leaves.Leaf.TheVariants.{Records, Child, Sibling}
use Rattle.hb_frag.specs.Trees.{Tree, Tip, Cut}
use Rattle.hb_frag.specs.Leaves.{Placed, IsWellCut, first_at, leaves_of, leaves, records_of, IsPointer}
use Rattle.hb_frag.specs.Rules.{BelongsAt, IsInOrder}
use Rattle.hb_frag.specs.Normal.{in_point_order, one_leaf_or_cut, normal}
use Rattle.hb_frag.specs.NormalLaws.{KeepsLeaf, KeepsPoint, SaysTheSame}
use Rattle.hb_frag.proofs.Facts.NamesListed.{siblings-append}
use Rattle.hb_frag.proofs.Facts.Parts.{weight_cut}
use Rattle.hb_frag.proofs.Facts.Points.{going_left, going_right, way_ends}
use Rattle.hb_frag.proofs.Facts.PointOrder.{order_permutes}
use Rattle.hb_frag.proofs.Facts.Sides.{IsArea-side_below, IsArea-side_from}
use Rattle.hb_frag.proofs.Normals.{joined_by_cases}
use Rattle.hb_frag.proofs.Facts.OrderedLeaves.{order_of_both}
use Rattle.hb_lemmas.proofs.Lists.{only_one, All-alone, All-front, All-behind}

-- a leaf says what itself does, and what one says that says what another does
keeps_itself : (leaf : Leaf) → KeepsLeaf leaf leaf
keeps_itself (Records records) = All-contains_itself records
keeps_itself (Child page) = refl
keeps_itself (Sibling page) = refl

keeps_then : (x y z : Leaf) → KeepsLeaf x y → KeepsLeaf y z → KeepsLeaf x z
keeps_then (Records xs) (Records ys) (Records zs) h k = λ i d l. All-contains (Contains zs) ys (get_or xs i d) k (h i d l)
keeps_then (Child x) (Child y) (Child z) h k = h ∙ k
keeps_then (Sibling x) (Sibling y) (Sibling z) h k = h ∙ k
keeps_then (Records xs) (Records ys) (Child z) h k = absurd k
keeps_then (Records xs) (Records ys) (Sibling z) h k = absurd k
keeps_then (Records xs) (Child y) z h k = absurd h
keeps_then (Records xs) (Sibling y) z h k = absurd h
keeps_then (Child x) (Child y) (Records zs) h k = absurd k
keeps_then (Child x) (Child y) (Sibling z) h k = absurd k
keeps_then (Child x) (Records ys) z h k = absurd h
keeps_then (Child x) (Sibling y) z h k = absurd h
keeps_then (Sibling x) (Sibling y) (Records zs) h k = absurd k
keeps_then (Sibling x) (Sibling y) (Child z) h k = absurd k
keeps_then (Sibling x) (Records ys) z h k = absurd h
keeps_then (Sibling x) (Child y) z h k = absurd h

points_then : (p : List ℕ) (xs ys zs : List Placed) → KeepsPoint p xs ys → KeepsPoint p ys zs → KeepsPoint p xs zs
points_then p xs ys zs h k =
    let same : h.after ≡ k.before = let e = h.new_leaf in let e' = k.old_leaf in cc in
    let P : Placed → Type 0 = λ l. KeepsLeaf h.before.leaf l.leaf in
    record { before = h.before; after = k.after; old_leaf = h.old_leaf; new_leaf = k.new_leaf; kept = keeps_then h.before.leaf k.before.leaf k.after.leaf (subst P same h.kept) k.kept }

-- so of trees
says_itself : (t : Tree) → SaysTheSame t t
says_itself t = record {
  cuts = λ a h. h;
  siblings = λ a. refl;
  points = λ a p h cut held. let w = way_ends t a p h cut held in record { before = w.0; after = w.0; old_leaf = w.1.first; new_leaf = w.1.first; kept = keeps_itself w.0.leaf };
  records = IsPermutation-refl (flat_map records_of (leaves t));
  names = λ leaf n. (λ h. h, λ h. h);
  weight = omega arith;
  kinds = λ level h. h;
  order = λ a h cut k. k;
}

says_then : (s t u : Tree) → SaysTheSame s t → SaysTheSame t u → SaysTheSame s u
says_then s t u f g = record {
  cuts = λ a h. g.cuts a (f.cuts a h);
  siblings = λ a. g.siblings a ∙ f.siblings a;
  points = λ a p h cut held. points_then p (leaves_of s a) (leaves_of t a) (leaves_of u a) (f.points a p h cut held) (g.points a p h (f.cuts a cut) held);
  records = IsPermutation-trans (flat_map records_of (leaves s)) (flat_map records_of (leaves t)) (flat_map records_of (leaves u)) f.records g.records;
  names = λ leaf n. (λ h. (f.names leaf n).0 ((g.names leaf n).0 h), λ h. (g.names leaf n).1 ((f.names leaf n).1 h));
  weight = let x = f.weight in let y = g.weight in omega arith;
  kinds = λ level h. g.kinds level (f.kinds level h);
  order = λ a h cut k. g.order a h (f.cuts a cut) (f.order a h cut k);
}

-- a cut says what its sides do
module _ (axis value : ℕ) (l r l' r' : Tree) (f : SaysTheSame l l') (g : SaysTheSame r r') where
  cut_point : (a : Area) (p : List ℕ) → IsArea a → IsWellCut (Cut axis value l r) a → Holds a p → KeepsPoint p (leaves_of (Cut axis value l r) a) (leaves_of (Cut axis value l' r') a)
  cut_point a p h cut held =
      let cut' : IsWellCut (Cut axis value l' r') a = (cut.0, f.cuts (side_below a axis value) cut.1, g.cuts (side_from a axis value) cut.2) in
      elim (cases_lt (get_or p axis 0) value) [
        | inl low ↦
            let w = f.points (side_below a axis value) p (IsArea-side_below a axis value h cut.0) cut.1 ((Holds-side_below a axis value p h cut.0).1 (held, low)) in
            record {
              before = w.before;
              after = w.after;
              old_leaf = going_left axis value l r a p w.before w.old_leaf;
              new_leaf = going_left axis value l' r' a p w.after w.new_leaf;
              kept = w.kept;
            }
        | inr high ↦
            let w = g.points (side_from a axis value) p (IsArea-side_from a axis value h cut.0) cut.2 ((Holds-side_from a axis value p cut.0).1 (held, high)) in
            record {
              before = w.before;
              after = w.after;
              old_leaf = going_right axis value l r a p h cut held.same high ∙ w.old_leaf;
              new_leaf = going_right axis value l' r' a p h cut' held.same high ∙ w.new_leaf;
              kept = w.kept;
            }
      ]

  cut_records : IsPermutation (flat_map records_of (leaves l ++ leaves r)) (flat_map records_of (leaves l' ++ leaves r'))
  cut_records =
      let P : List Record → Type 0 = λ xs. IsPermutation xs (flat_map records_of (leaves l' ++ leaves r')) in
      let Q : List Record → Type 0 = λ ys. IsPermutation (flat_map records_of (leaves l) ++ flat_map records_of (leaves r)) ys in
      subst P (sym (flat_map-append records_of (leaves l) (leaves r))) (subst Q (sym (flat_map-append records_of (leaves l') (leaves r')))
      (IsPermutation-append (flat_map records_of (leaves l)) (flat_map records_of (leaves l')) (flat_map records_of (leaves r)) (flat_map records_of (leaves r')) f.records g.records))

  cut_names : (leaf : Leaf) → IsPointer leaf → Contains (leaves l' ++ leaves r') leaf ↔ Contains (leaves l ++ leaves r) leaf
  cut_names leaf n = (
    λ h. elim (Contains-append_cases (leaves l') (leaves r') leaf h) [
      | inl x ↦ Contains-append_left (leaves l) (leaves r) leaf ((f.names leaf n).0 x)
      | inr y ↦ Contains-append_right (leaves l) (leaves r) leaf ((g.names leaf n).0 y)
    ],
    λ h. elim (Contains-append_cases (leaves l) (leaves r) leaf h) [
      | inl x ↦ Contains-append_left (leaves l') (leaves r') leaf ((f.names leaf n).1 x)
      | inr y ↦ Contains-append_right (leaves l') (leaves r') leaf ((g.names leaf n).1 y)
    ],
  )

  says_cut : SaysTheSame (Cut axis value l r) (Cut axis value l' r')
  says_cut = record {
    cuts = λ a h. (h.0, f.cuts (side_below a axis value) h.1, g.cuts (side_from a axis value) h.2);
    siblings = λ a.
        let x = f.siblings (side_below a axis value) in
        let y = g.siblings (side_from a axis value) in
        siblings-append (leaves_of l' (side_below a axis value)) (leaves_of r' (side_from a axis value))
        ∙ cc (x, y) ∙ sym (siblings-append (leaves_of l (side_below a axis value)) (leaves_of r (side_from a axis value)));
    points = cut_point;
    records = cut_records;
    names = cut_names;
    weight = let x = f.weight in let y = g.weight in omega (arith, weight_cut axis value l r, weight_cut axis value l' r');
    kinds = λ level h. All-append (BelongsAt level) (leaves l') (leaves r') (f.kinds level (All-front (BelongsAt level) (leaves l) (leaves r) h)) (g.kinds level (All-behind (BelongsAt level) (leaves l) (leaves r) h));
    order = λ a h cut k.
        let below = side_below a axis value in
        let from = side_from a axis value in
        All-append IsInOrder (leaves_of l' below) (leaves_of r' from)
        (f.order below (IsArea-side_below a axis value h cut.0) cut.1 (All-front IsInOrder (leaves_of l below) (leaves_of r from) k))
        (g.order from (IsArea-side_from a axis value h cut.0) cut.2 (All-behind IsInOrder (leaves_of l below) (leaves_of r from) k));
  }

-- one leaf over the whole box says what the two sides do
module _ (axis value : ℕ) (x y z : Leaf) (left : KeepsLeaf x z) (right : KeepsLeaf y z) where
  joined_point : (a : Area) (p : List ℕ) → IsArea a → IsWellCut (Cut axis value (Tip x) (Tip y)) a → Holds a p → KeepsPoint p (leaves_of (Cut axis value (Tip x) (Tip y)) a) (leaves_of (Tip z) a)
  joined_point a p h cut held =
      let whole = way_ends (Tip z) a p h tt held in
      let here : first_at p (leaves_of (Tip z) a) ≡ Some (record { leaf = z; area = a }) = rw (test-from_Holds a p h held) in
      elim (cases_lt (get_or p axis 0) value) [
        | inl low ↦
            let inside = (Holds-side_below a axis value p h cut.0).1 (held, low) in
            let w : first_at p (leaves_of (Tip x) (side_below a axis value)) ≡ Some (record { leaf = x; area = side_below a axis value }) = rw (test-from_Holds (side_below a axis value) p (IsArea-side_below a axis value h cut.0) inside) in
            record { before = record { leaf = x; area = side_below a axis value }; after = record { leaf = z; area = a }; old_leaf = going_left axis value (Tip x) (Tip y) a p (record { leaf = x; area = side_below a axis value }) w; new_leaf = here; kept = left }
        | inr high ↦
            let inside = (Holds-side_from a axis value p cut.0).1 (held, high) in
            let w : first_at p (leaves_of (Tip y) (side_from a axis value)) ≡ Some (record { leaf = y; area = side_from a axis value }) = rw (test-from_Holds (side_from a axis value) p (IsArea-side_from a axis value h cut.0) inside) in
            record { before = record { leaf = y; area = side_from a axis value }; after = record { leaf = z; area = a }; old_leaf = going_right axis value (Tip x) (Tip y) a p h cut held.same high ∙ w; new_leaf = here; kept = right }
      ]

no_name : (leaf : Leaf) (xs : List Record) → IsPointer leaf → Contains (Records xs ∷ []) leaf → ⊥
no_name leaf xs n w = let P : Leaf → Type 0 = IsPointer in subst P (sym (only_one (Records xs) leaf w)) n

says_records : (axis value : ℕ) (xs ys : List Record) → SaysTheSame (Cut axis value (Tip (Records xs)) (Tip (Records ys))) (Tip (Records (in_point_order (xs ++ ys))))
says_records axis value xs ys =
    let zs = in_point_order (xs ++ ys) in
    let moved = order_permutes (xs ++ ys) in
    record {
      cuts = λ a h. tt;
      siblings = λ a. refl;
      points = joined_point axis value (Records xs) (Records ys) (Records zs)
          (λ i d l. Contains-permutation (xs ++ ys) zs (get_or xs i d) moved (Contains-append_left xs ys (get_or xs i d) (All-contains_itself xs i d l)))
          (λ i d l. Contains-permutation (xs ++ ys) zs (get_or ys i d) moved (Contains-append_right xs ys (get_or ys i d) (All-contains_itself ys i d l)));
      records =
          let P : List Record → Type 0 = λ us. IsPermutation (xs ++ us) (zs ++ []) in
          let Q : List Record → Type 0 = λ us. IsPermutation (xs ++ ys) us in
          subst P (sym (append-nil ys)) (subst Q (sym (append-nil zs)) moved);
      names = λ leaf n. (
        λ w. absurd (no_name leaf zs n w),
        λ w. elim (Contains-append_cases (Records xs ∷ []) (Records ys ∷ []) leaf w) [ inl u ↦ absurd (no_name leaf xs n u) | inr u ↦ absurd (no_name leaf ys n u) ],
      );
      weight = let n : length zs ≡ length (xs ++ ys) = length_permutation (xs ++ ys) zs moved in omega (arith, length-append xs ys);
      kinds = λ level h. All-alone (BelongsAt level) (Records zs) (h zero (Records xs) (omega arith));
      order = λ a h cut k. order_of_both axis value xs ys a cut.0 k;
    }

says_children : (axis value page : ℕ) → SaysTheSame (Cut axis value (Tip (Child page)) (Tip (Child page))) (Tip (Child page))
says_children axis value page = record {
  cuts = λ a h. tt;
  siblings = λ a. refl;
  points = joined_point axis value (Child page) (Child page) (Child page) refl refl;
  records = IsPermutation-refl [];
  names = λ leaf n. (
    λ w. Contains-append_left (Child page ∷ []) (Child page ∷ []) leaf w,
    λ w. elim (Contains-append_cases (Child page ∷ []) (Child page ∷ []) leaf w) [ inl u ↦ u | inr u ↦ u ],
  );
  weight = omega arith;
  kinds = λ level h. All-front (BelongsAt level) (Child page ∷ []) (Child page ∷ []) h;
  order = λ a h cut k.
      let side : Placed = record { leaf = Child page; area = side_below a axis value } in
      All-alone IsInOrder (record { leaf = Child page; area = a }) (record { inside = λ i d l. absurd (omega arith); rising = (k zero side (omega arith)).rising });
}

says_joined : (axis value : ℕ) (l r : Tree) → SaysTheSame (Cut axis value l r) (one_leaf_or_cut axis value l r)
says_joined axis value = joined_by_cases axis value (λ l r t. SaysTheSame (Cut axis value l r) t)
    (says_records axis value) (says_children axis value) (λ l r n. says_itself (Cut axis value l r))

pub says_the_same : (t : Tree) → SaysTheSame t (normal t)
says_the_same (Tip leaf) = says_itself (Tip leaf)
says_the_same (Cut axis value left right) =
    says_then (Cut axis value left right) (Cut axis value (normal left) (normal right)) (one_leaf_or_cut axis value (normal left) (normal right))
    (says_cut axis value left right (normal left) (normal right) (says_the_same left) (says_the_same right))
    (says_joined axis value (normal left) (normal right))
