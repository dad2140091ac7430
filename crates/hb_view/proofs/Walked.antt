-- What one step down a tree of bytes says of the whole tree.
use Rattle.std.proofs.Common.{◌≡◌, ℕ, zero, suc, ◌<◌, ◌≤◌, max, List, [], ◌∷◌, length, get_or, Option, Some, None, refl, sym, ap, subst, ◌∙◌, arith}
use Rattle.std.proofs.lemmas.Option.{same_Some}
use Rattle.hb_space.specs.Boxes.{Area, IsArea, Holds, side_below, side_from}
use Rattle.hb_space.specs.declared.records.Record.{Record}
use Rattle.hb_space.proofs.Facts.Boxes.{Holds-side_below, Holds-side_from}
use Rattle.hb_frag.specs.declared.leaves.Leaf.{Leaf}
use Rattle.hb_frag.specs.declared.leaves.Leaf.TheVariants as leaves
use Rattle.hb_frag.specs.Trees.{Tree, Tip, Cut}
use Rattle.hb_frag.specs.Leaves.{IsPointer, IsWellCut, first_at, leaves_of, records_of, weight_of}
use Rattle.hb_frag.proofs.Facts.Ways.{found_here, found_left, found_right}
use Rattle.hb_frag.proofs.Facts.Sides.{IsArea-side_below, IsArea-side_from}
use Rattle.hb_page_codec.specs.Reading.{many_at}
use Rattle.hb_page_codec.specs.ReadingFields.{record_at}
use Rattle.hb_view.specs.declared.leaves.LeafView.{LeafView}
use Rattle.hb_view.specs.Roots.{tree_there, rest_there, IsCutAt, IsListAt}
use Rattle.hb_view.specs.Views.{LeafWithin, leaf_view, ShowsLeaf, TellsBody, FindsAmong}
use Rattle.hb_lemmas.proofs.Options.{bind_some}
use Rattle.hb_lemmas.specs.Options.{◌>>=◌}

-- ---- the leaf at a point

pub shows_tip : (t : Tree) (leaf : Leaf) (p : List ℕ) (area : Area) → t ≡ Tip leaf → IsArea area → Holds area p → ShowsLeaf (first_at p (leaves_of t area)) (leaf_view leaf) area
shows_tip t leaf p area e h held = record { placed = record { leaf = leaf; area = area }; found = found_here t leaf area p e h held; leaf = refl; area = refl }

pub shows_left : (k : ℕ) (bytes left : List ℕ) (axis value : ℕ) (p : List ℕ) (area below : Area) (view : LeafView) (box : Area) → IsCutAt k bytes axis value left → below ≡ side_below area axis value
    → ShowsLeaf (first_at p (leaves_of (tree_there k left) below)) view box → ShowsLeaf (first_at p (leaves_of (tree_there k bytes) area)) view box
shows_left k bytes left axis value p area below view box cut side h = record {
  placed = h.placed;
  found = found_left (tree_there k bytes) (tree_there k left) (tree_there k (rest_there k left)) (tree_there k left) axis value area below p h.placed cut.tree refl side h.found;
  leaf = h.leaf;
  area = h.area;
}

pub shows_right : (k : ℕ) (bytes left rest : List ℕ) (axis value at : ℕ) (p : List ℕ) (area above : Area) (view : LeafView) (box : Area) → IsCutAt k bytes axis value left → rest ≡ rest_there k left → at ≡ axis
    → IsArea area → IsWellCut (tree_there k bytes) area → Holds area p → value ≤ get_or p at 0 → above ≡ side_from area axis value
    → ShowsLeaf (first_at p (leaves_of (tree_there k rest) above)) view box → ShowsLeaf (first_at p (leaves_of (tree_there k bytes) area)) view box
shows_right k bytes left rest axis value at p area above view box cut r e is_area well_cut held over side h =
    let here : value ≤ get_or p axis 0 = subst (λ (n : ℕ). value ≤ get_or p n 0) e over in
    record {
      placed = h.placed;
      found = found_right (tree_there k bytes) (tree_there k left) (tree_there k (rest_there k left)) (tree_there k rest) axis value area above p h.placed cut.tree (ap (tree_there k) r) side is_area well_cut held here h.found;
      leaf = h.leaf;
      area = h.area;
    }

-- ---- what is so of the leaf at a point

module _ (P : Leaf → Type 0) where
  pub leaf_tip : (t : Tree) (leaf : Leaf) (p : List ℕ) → t ≡ Tip leaf → P leaf → LeafWithin P t p
  leaf_tip t leaf p e so area h cut held = (record { leaf = leaf; area = area }, found_here t leaf area p e h held, so)

  pub leaf_left : (k : ℕ) (bytes left : List ℕ) (axis value at : ℕ) (p : List ℕ) → IsCutAt k bytes axis value left → at ≡ axis → get_or p at 0 < value → LeafWithin P (tree_there k left) p → LeafWithin P (tree_there k bytes) p
  leaf_left k bytes left axis value at p cut e lt within area h cuts held =
      let parts : IsWellCut (Cut axis value (tree_there k left) (tree_there k (rest_there k left))) area = subst (λ (t : Tree). IsWellCut t area) cut.tree cuts in
      let below : get_or p axis 0 < value = subst (λ (n : ℕ). get_or p n 0 < value) e lt in
      let there = within (side_below area axis value) (IsArea-side_below area axis value h parts.0) parts.1 ((Holds-side_below area axis value p h parts.0).1 (held, below)) in
      (there.0, found_left (tree_there k bytes) (tree_there k left) (tree_there k (rest_there k left)) (tree_there k left) axis value area (side_below area axis value) p there.0 cut.tree refl refl there.1, there.2)

  pub leaf_right : (k : ℕ) (bytes left rest : List ℕ) (axis value at : ℕ) (p : List ℕ) → IsCutAt k bytes axis value left → rest ≡ rest_there k left → at ≡ axis → value ≤ get_or p at 0 → LeafWithin P (tree_there k rest) p → LeafWithin P (tree_there k bytes) p
  leaf_right k bytes left rest axis value at p cut r e le within area h cuts held =
      let parts : IsWellCut (Cut axis value (tree_there k left) (tree_there k (rest_there k left))) area = subst (λ (t : Tree). IsWellCut t area) cut.tree cuts in
      let above : value ≤ get_or p axis 0 = subst (λ (n : ℕ). value ≤ get_or p n 0) e le in
      let right : IsWellCut (tree_there k rest) (side_from area axis value) = subst (λ (b : List ℕ). IsWellCut (tree_there k b) (side_from area axis value)) (sym r) parts.2 in
      let there = within (side_from area axis value) (IsArea-side_from area axis value h parts.0) right ((Holds-side_from area axis value p parts.0).1 (held, above)) in
      (there.0, found_right (tree_there k bytes) (tree_there k left) (tree_there k (rest_there k left)) (tree_there k rest) axis value area (side_from area axis value) p there.0 cut.tree (ap (tree_there k) r) refl h cuts held above there.1, there.2)

-- ---- the record at a point

abbrev pub FindsIn : List ℕ → Option (List ℕ) → Leaf → Type 0
FindsIn p body leaf = FindsAmong p (records_of leaf) body

-- what is found in a tree, whatever its box
abbrev pub FindsWithin : Tree → List ℕ → Option (List ℕ) → Type 0
FindsWithin t p body = (area : Area) → IsArea area → IsWellCut t area → Holds area p → TellsBody p (first_at p (leaves_of t area)) body

pub finds : (t : Tree) (p : List ℕ) (records : List Record) (body : Option (List ℕ)) → LeafWithin (λ leaf. leaf ≡ leaves.Records records) t p → FindsAmong p records body → FindsWithin t p body
finds t p records body within among area h cut held =
    let there = within area h cut held in
    record { placed = there.0; found = there.1; among = subst (FindsIn p body) (sym there.2) among }

pub finds_none : (t : Tree) (p : List ℕ) → LeafWithin IsPointer t p → FindsWithin t p None
finds_none t p within area h cut held = let there = within area h cut held in record { placed = there.0; found = there.1; among = nothing there.0.leaf there.2 }
  where
    nothing : (leaf : Leaf) → IsPointer leaf → FindsIn p None leaf
    nothing (leaves.Records records) h = absurd h
    nothing (leaves.Child page) h = refl
    nothing (leaves.Sibling page) h = refl

-- ---- the weight of a list

pub many_counted : {A : Type 0} (read : List ℕ → Option (A × List ℕ)) (n : ℕ) (bytes : List ℕ) (x : List A × List ℕ) → many_at read n bytes ≡ Some x → length x.0 ≡ n
unfolding many_at
many_counted {A = A} read zero bytes x e = let same : ([], bytes) ≡ x = same_Some ([], bytes) x e in sym (ap (λ (y : List A × List ℕ). length y.0) same)
many_counted {A = A} read (suc n) bytes x e =
    let a = bind_some (read bytes) (λ first. many_at read n first.1 >>= λ others. Some (first.0 ∷ others.0, others.1)) x e in
    let b = bind_some (many_at read n a.0.1) (λ others. Some (a.0.0 ∷ others.0, others.1)) x a.2 in
    let made : List A × List ℕ = (a.0.0 ∷ b.0.0, b.0.1) in
    let one = many_counted read n a.0.1 b.0 b.1 in
    sym (ap (λ (y : List A × List ℕ). length y.0) (same_Some made x b.2)) ∙ ap suc one

pub list_weighs : (k : ℕ) (bytes first : List ℕ) (count : ℕ) → IsListAt k bytes count first → max 1 count ≡ weight_of (tree_there k bytes)
list_weighs k bytes first count list = rw list.tree (let n = many_counted (record_at k) count first (list.records, rest_there k bytes) list.read in omega (arith, n))
