-- What walks over the two sides of a cut say of the whole.
use Rattle.std.proofs.Common.{◌≡◌, ◌↔◌, ℕ, ◌-◌, List, All, Option, Some, None, slice_set, get_or, refl, sym, ap, subst, ◌∙◌}
use Rattle.hb_lemmas.proofs.Lists.{All-parts, put_back}
use Rattle.hb_space.specs.Boxes.{Area, Cuts, side_below, side_from}
use Rattle.hb_frag.specs.Leaves.{IsWellCut, leaves_of}
use Rattle.hb_frag.specs.Rules.{IsInOrder}
use Rattle.hb_frag.specs.Trees.{Tree, Cut}
use Rattle.hb_view.specs.Walks.{WalksOver}
use Rattle.hb_view.specs.Roots.{tree_there, rest_there, IsCutAt}

-- what of the whole holds exactly where it holds of both sides
abbrev pub Splits : (Tree → Type 0) → (Tree → Type 0) → (Tree → Type 0) → ℕ → ℕ → Tree → Tree → Type 0
Splits W L R axis value left right = W (Cut axis value left right) ↔ (L left × R right)

-- at a cut whose left side was passed
pub cut_goes_on : (k : ℕ) (bytes left right : List ℕ) (axis value : ℕ) (W L R : Tree → Type 0) (r : Option (List ℕ)) → IsCutAt k bytes axis value left → L (tree_there k left) × (right ≡ rest_there k left)
    → Splits W L R axis value (tree_there k left) (tree_there k right) → WalksOver (R (tree_there k right)) (rest_there k right) r → WalksOver (W (tree_there k bytes)) (rest_there k bytes) r
cut_goes_on k bytes left right axis value W L R r cut first splits passed =
    let whole : tree_there k bytes ≡ Cut axis value (tree_there k left) (tree_there k right) = cut.tree ∙ ap (λ (b : List ℕ). Cut axis value (tree_there k left) (tree_there k b)) (sym first.1) in
    let behind : rest_there k right ≡ rest_there k bytes = ap (rest_there k) first.1 ∙ sym cut.rest in
    cases r passed whole behind
  where
    cases : (r : Option (List ℕ)) → WalksOver (R (tree_there k right)) (rest_there k right) r → tree_there k bytes ≡ Cut axis value (tree_there k left) (tree_there k right) → rest_there k right ≡ rest_there k bytes → WalksOver (W (tree_there k bytes)) (rest_there k bytes) r
    cases (Some x) passed whole behind = (subst W (sym whole) (splits.1 (first.0, passed.0)), passed.1 ∙ behind)
    cases None passed whole behind = λ w. passed (splits.0 (subst W whole w)).1

-- at one that was stopped by what holds of no such whole
pub cut_stops : (k : ℕ) (bytes left : List ℕ) (axis value : ℕ) (W : Tree → Type 0) (P : Type 0) → IsCutAt k bytes axis value left → (W (Cut axis value (tree_there k left) (tree_there k (rest_there k left))) → P) → ¬ P → WalksOver (W (tree_there k bytes)) (rest_there k bytes) None
cut_stops k bytes left axis value W P cut says never = λ w. never (says (subst W cut.tree w))

-- ---- the sides of a box that becomes them in place

-- each side with its value given back is the whole
back_below : (area below : Area) (axis value greatest : ℕ) → below ≡ side_below area axis value → greatest ≡ get_or area.hi axis 0 → ◌≡◌ {A = Area} (record { lo = below.lo; hi = slice_set below.hi axis greatest }) area
back_below area below axis value greatest side same =
    let first : Area → Area = λ a. record { lo = a.lo; hi = slice_set a.hi axis greatest } in
    let second : ℕ → Area = λ n. record { lo = area.lo; hi = slice_set (slice_set area.hi axis (value - 1)) axis n } in
    let third : List ℕ → Area = λ h. record { lo = area.lo; hi = h } in
    ap first side ∙ ap second same ∙ ap third (put_back area.hi (slice_set area.hi axis (value - 1)) axis (value - 1) 0 refl)

back_from : (area above : Area) (axis value least : ℕ) → above ≡ side_from area axis value → least ≡ get_or area.lo axis 0 → ◌≡◌ {A = Area} (record { lo = slice_set above.lo axis least; hi = above.hi }) area
back_from area above axis value least side same =
    let first : Area → Area = λ a. record { lo = slice_set a.lo axis least; hi = a.hi } in
    let second : ℕ → Area = λ n. record { lo = slice_set (slice_set area.lo axis value) axis n; hi = area.hi } in
    let third : List ℕ → Area = λ l. record { lo = l; hi = area.hi } in
    ap first side ∙ ap second same ∙ ap third (put_back area.lo (slice_set area.lo axis value) axis value 0 refl)

-- a walk that left the side as it was
pub whole_again : (area below after whole : Area) (axis value greatest : ℕ) → below ≡ side_below area axis value → greatest ≡ get_or area.hi axis 0 → after ≡ below → whole ≡ record { lo = after.lo; hi = slice_set after.hi axis greatest } → whole ≡ area
whole_again area below after whole axis value greatest side same kept put = put ∙ back_below area after axis value greatest (kept ∙ side) same

pub whole_at_last : (area whole above after last : Area) (axis value least : ℕ) → whole ≡ area → above ≡ side_from whole axis value → least ≡ get_or whole.lo axis 0 → after ≡ above → last ≡ record { lo = slice_set after.lo axis least; hi = after.hi } → last ≡ area
whole_at_last area whole above after last axis value least back side same kept put = put ∙ back_from whole after axis value least (kept ∙ side) same ∙ back

-- what holds of a cut in a box exactly where it holds of each side in its side of the box
pub box_splits : (area whole below above : Area) (axis value : ℕ) (l r : Tree) (W : Tree → Area → Type 0) → whole ≡ area → below ≡ side_below area axis value → above ≡ side_from whole axis value
    → (W (Cut axis value l r) area ↔ (W l (side_below area axis value) × W r (side_from area axis value))) → Splits (λ t. W t area) (λ t. W t below) (λ t. W t above) axis value l r
box_splits area whole below above axis value l r W back eb ea splits =
    let from : above ≡ side_from area axis value = ea ∙ ap (λ (a : Area). side_from a axis value) back in
    let L : Area → Type 0 = λ b. W (Cut axis value l r) area ↔ (W l b × W r (side_from area axis value)) in
    let R : Area → Type 0 = λ b. W (Cut axis value l r) area ↔ (W l below × W r b) in
    subst R (sym from) (subst L (sym eb) splits)

pub well_cut_splits : (area : Area) (axis value : ℕ) (l r : Tree) → Cuts area axis value → IsWellCut (Cut axis value l r) area ↔ (IsWellCut l (side_below area axis value) × IsWellCut r (side_from area axis value))
well_cut_splits area axis value l r cuts = (λ w. (w.1, w.2), λ p. (cuts, p.0, p.1))

pub order_splits : (area : Area) (axis value : ℕ) (l r : Tree) → All IsInOrder (leaves_of (Cut axis value l r) area) ↔ (All IsInOrder (leaves_of l (side_below area axis value)) × All IsInOrder (leaves_of r (side_from area axis value)))
order_splits area axis value l r = All-parts IsInOrder (leaves_of l (side_below area axis value)) (leaves_of r (side_from area axis value))
