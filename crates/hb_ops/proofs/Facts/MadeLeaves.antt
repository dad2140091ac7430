-- Leaves that have their places in a spelling, and trees that are changed, parted and carved.
use Rattle.std.proofs.Common.{◌≡◌, ℕ, zero, suc, ◌+◌, ◌<◌, ◌^◌, ◌==◌, Bool, true, false, cond, nat_lt, List, [], ◌∷◌, ◌++◌, All, Some, ap, subst, arith}
use Rattle.std.specs.List.{filter, sum_by}
use Rattle.std.specs.Prelude.{slice_index}
use Rattle.std.specs.Ordering.{is_lt, is_gt, is_ne}
use Rattle.std.proofs.lemmas.List.Sums.{sum_by-append}
use Rattle.std.proofs.lemmas.List.Sorted.{All-permutation}
use Rattle.hb_frag.proofs.Facts.PointOrder.{order_permutes}
use Rattle.std.proofs.lemmas.List.Elements.{All-append, All-cons, All-filter, All-head, All-nil, All-tail}
use Rattle.std.proofs.lemmas.Option.{same_Some}
use Rattle.hb_space.specs.Boxes.{Area, holds, side_below, side_from}
use Rattle.hb_space.specs.Points.{point_cmp}
use Rattle.hb_space.specs.declared.records.Record.{Record}
use Rattle.hb_frag.specs.declared.leaves.Leaf.{Leaf}
use Rattle.hb_frag.specs.declared.leaves.Leaf.TheVariants.{Records, Child, Sibling}
use Rattle.hb_frag.specs.declared.paths.Side.{Side}
use Rattle.hb_frag.specs.declared.paths.Side.TheVariants.{Left, Right}
use Rattle.hb_frag.specs.Trees.{Tree, Tip, Cut}
use Rattle.hb_frag.specs.Leaves.{leaf_weight, leaves, with_leaf_at}
use Rattle.hb_frag.specs.Paths.{part_at}
use Rattle.hb_frag.specs.Renaming.{renamed, renamed_leaf}
use Rattle.hb_frag.specs.Carving.{carve_above, carve_below, carve_from}
use Rattle.hb_frag.specs.Normal.{in_point_order, normal, one_leaf_or_cut}
use Rattle.hb_frag.specs.Grammar.{FitsLeaf, FitsRecord, FitsTree}
use Rattle.hb_ops.specs.declared.leaf_cuts.LeafCut.{LeafCut}
use Rattle.hb_ops.specs.Recording.{joined, on_records, without}
use Rattle.hb_ops.specs.Cutting.{cut_through, cut_with, going, is_on, other_side, reached, records_in, staying}
use Rattle.hb_lemmas.proofs.Lists.{All-front, All-behind, All-alone}

-- what a leaf has is in its place, but for the number of its records
abbrev pub FitsIn : ℕ → Leaf → Type 0
FitsIn k (Records records) = All (FitsRecord k) records
FitsIn k (Child page) = page < 2 ^ 32
FitsIn k (Sibling page) = page < 2 ^ 32

abbrev pub AllFit : ℕ → Tree → Type 0
AllFit k tree = All (FitsIn k) (leaves tree)

leaf_in : (k : ℕ) (leaf : Leaf) → FitsLeaf k leaf → FitsIn k leaf
leaf_in k (Records records) fits = fits.1
leaf_in k (Child page) fits = fits
leaf_in k (Sibling page) fits = fits

pub all_fit : (k : ℕ) (tree : Tree) → FitsTree k tree → AllFit k tree
all_fit k (Tip leaf) fits = All-alone (FitsIn k) leaf (leaf_in k leaf fits)
all_fit k (Cut axis value left right) fits = All-append (FitsIn k) (leaves left) (leaves right) (all_fit k left fits.2) (all_fit k right fits.3)

-- light leaves have few records
leaf_fits : (k : ℕ) (leaf : Leaf) → leaf_weight leaf < 2 ^ 16 → FitsIn k leaf → FitsLeaf k leaf
leaf_fits k (Records records) light fits = (omega (arith, light), fits)
leaf_fits k (Child page) light fits = fits
leaf_fits k (Sibling page) light fits = fits

pub light_fit : (k : ℕ) (xs : List Leaf) → sum_by leaf_weight xs < 2 ^ 16 → All (FitsIn k) xs → All (FitsLeaf k) xs
light_fit k [] light fit = All-nil (FitsLeaf k)
light_fit k (x ∷ xs) light fit =
    let parts = sum_by-append leaf_weight (x ∷ []) xs in
    let alone : sum_by leaf_weight (x ∷ []) ≡ leaf_weight x = omega arith in
    let one : leaf_weight x < 2 ^ 16 = omega (arith, light, parts, alone) in
    let more : sum_by leaf_weight xs < 2 ^ 16 = omega (arith, light, parts, alone) in
    All-cons (FitsLeaf k) x xs (leaf_fits k x one (All-head (FitsIn k) x xs fit)) (light_fit k xs more (All-tail (FitsIn k) x xs fit))

-- ---- other records in a leaf

module _ (k : ℕ) (p : List ℕ) (change : List Record → List Record) (kept : (records : List Record) → All (FitsRecord k) records → All (FitsRecord k) (change records)) where
  leaf_changed : (b : Bool) (leaf : Leaf) → FitsIn k leaf → FitsIn k (cond b (on_records change leaf) leaf)
  leaf_changed false leaf fits = fits
  leaf_changed true (Records records) fits = kept records fits
  leaf_changed true (Child page) fits = fits
  leaf_changed true (Sibling page) fits = fits

  pub fit_changed : (tree : Tree) (area : Area) → AllFit k tree → AllFit k (with_leaf_at p (on_records change) tree area)
  fit_changed (Tip leaf) area fit = All-alone (FitsIn k) (cond (holds area p) (on_records change leaf) leaf) (leaf_changed (holds area p) leaf (All-head (FitsIn k) leaf [] fit))
  fit_changed (Cut axis value left right) area fit =
      let below = side_below area axis value in
      let from = side_from area axis value in
      All-append (FitsIn k) (leaves (with_leaf_at p (on_records change) left below)) (leaves (with_leaf_at p (on_records change) right from))
      (fit_changed left below (All-front (FitsIn k) (leaves left) (leaves right) fit))
      (fit_changed right from (All-behind (FitsIn k) (leaves left) (leaves right) fit))

pub joined_fit : (k : ℕ) (rec : Record) → FitsRecord k rec → (records : List Record) → All (FitsRecord k) records → All (FitsRecord k) (joined rec records)
joined_fit k rec fits records all =
    let lesser = λ (r : Record). is_lt (point_cmp r.key rec.key) in
    let greater = λ (r : Record). is_gt (point_cmp r.key rec.key) in
    All-append (FitsRecord k) (filter lesser records) (rec ∷ filter greater records) (All-filter lesser (FitsRecord k) records all)
    (All-cons (FitsRecord k) rec (filter greater records) fits (All-filter greater (FitsRecord k) records all))

pub without_fit : (k : ℕ) (point : List ℕ) (records : List Record) → All (FitsRecord k) records → All (FitsRecord k) (without point records)
without_fit k point records all = All-filter (λ (r : Record). is_ne (point_cmp r.key point)) (FitsRecord k) records all

-- ---- a part, and another one in its place

pub fit_part : (k : ℕ) (path : List Side) (tree : Tree) (area : Area) (part : Tree × Area) → part_at path tree area ≡ Some part → AllFit k tree → AllFit k part.0
fit_part k [] tree area part there fit = let same : tree ≡ part.0 = ap (λ (x : Tree × Area). x.0) (same_Some (tree, area) part there) in subst (AllFit k) same fit
fit_part k (Left ∷ path) (Cut axis value left right) area part there fit = fit_part k path left (side_below area axis value) part there (All-front (FitsIn k) (leaves left) (leaves right) fit)
fit_part k (Right ∷ path) (Cut axis value left right) area part there fit = fit_part k path right (side_from area axis value) part there (All-behind (FitsIn k) (leaves left) (leaves right) fit)
fit_part k (Left ∷ path) (Tip leaf) area part there fit = absurd cc
fit_part k (Right ∷ path) (Tip leaf) area part there fit = absurd cc

-- ---- names that are exchanged

leaf_renamed : (k old new : ℕ) → new < 2 ^ 32 → (leaf : Leaf) → FitsIn k leaf → FitsIn k (renamed_leaf old new leaf)
leaf_renamed k old new few (Records records) fits = fits
leaf_renamed k old new few (Child page) fits = elim (page == old) as (λ b. cond b new page < 2 ^ 32) [ true ↦ few | false ↦ fits ]
leaf_renamed k old new few (Sibling page) fits = fits

pub fit_renamed : (k old new : ℕ) → new < 2 ^ 32 → (tree : Tree) → AllFit k tree → AllFit k (renamed old new tree)
fit_renamed k old new few (Tip leaf) fit = All-alone (FitsIn k) (renamed_leaf old new leaf) (leaf_renamed k old new few leaf (All-head (FitsIn k) leaf [] fit))
fit_renamed k old new few (Cut axis value left right) fit =
    All-append (FitsIn k) (leaves (renamed old new left)) (leaves (renamed old new right))
    (fit_renamed k old new few left (All-front (FitsIn k) (leaves left) (leaves right) fit)) (fit_renamed k old new few right (All-behind (FitsIn k) (leaves left) (leaves right) fit))

-- ---- a records leaf that is cut

records_fit : (k : ℕ) (tree : Tree) → AllFit k tree → All (FitsRecord k) (records_in tree)
records_fit k (Tip (Records records)) fit = All-head (FitsIn k) (Records records) [] fit
records_fit k (Tip (Child page)) fit = All-nil (FitsRecord k)
records_fit k (Tip (Sibling page)) fit = All-nil (FitsRecord k)
records_fit k (Cut axis value left right) fit = All-nil (FitsRecord k)

half_fits : (k : ℕ) (side : Side) (cut : LeafCut) (tree : Tree) → AllFit k tree → AllFit k (Tip (Records (filter (is_on side cut.axis cut.value) (records_in tree))))
half_fits k side cut tree fit =
    All-alone (FitsIn k) (Records (filter (is_on side cut.axis cut.value) (records_in tree))) (All-filter (is_on side cut.axis cut.value) (FitsRecord k) (records_in tree) (records_fit k tree fit))

pub fit_reached : (k : ℕ) (cuts : List LeafCut) (tree : Tree) (area : Area) → AllFit k tree → AllFit k (reached cuts tree area).0
fit_reached k [] tree area fit = fit
fit_reached k (cut ∷ cuts) tree area fit = fit_reached k cuts (going cut tree) _ (half_fits k cut.side cut tree fit)

fit_cut_with : (k : ℕ) (side : Side) (axis value : ℕ) (on off : Tree) → AllFit k on → AllFit k off → AllFit k (cut_with side axis value on off)
fit_cut_with k Left axis value on off on_fits off_fits = All-append (FitsIn k) (leaves on) (leaves off) on_fits off_fits
fit_cut_with k Right axis value on off on_fits off_fits = All-append (FitsIn k) (leaves off) (leaves on) off_fits on_fits

pub fit_cut_through : (k : ℕ) (cuts : List LeafCut) (tree end : Tree) → AllFit k tree → AllFit k end → AllFit k (cut_through cuts tree end)
fit_cut_through k [] tree end fit end_fits = end_fits
fit_cut_through k (cut ∷ cuts) tree end fit end_fits =
    fit_cut_with k cut.side cut.axis cut.value (cut_through cuts (going cut tree) end) (staying cut tree)
    (fit_cut_through k cuts (going cut tree) end (half_fits k cut.side cut tree fit) end_fits) (half_fits k (other_side cut.side) cut tree fit)

-- ---- a leaf that is carved, and sides that are joined

module _ (k outer inner : ℕ) (outer_fits : outer < 2 ^ 32) (inner_fits : inner < 2 ^ 32) where
  fit_below : (axis : ℕ) (r c : Area) (rest : Tree) → AllFit k rest → AllFit k (carve_below axis r c outer rest)
  fit_below axis r c rest fit =
      elim (nat_lt (slice_index r.lo axis) (slice_index c.lo axis)) as (λ b. AllFit k (cond b (Cut axis (slice_index c.lo axis) (Tip (Child outer)) rest) rest)) [
        | true ↦ All-cons (FitsIn k) (Child outer) (leaves rest) outer_fits fit
        | false ↦ fit
      ]

  fit_above : (axis : ℕ) (r c : Area) (rest : Tree) → AllFit k rest → AllFit k (carve_above axis r c outer rest)
  fit_above axis r c rest fit =
      elim (nat_lt (slice_index c.hi axis) (slice_index r.hi axis)) as (λ b. AllFit k (cond b (Cut axis (slice_index c.hi axis + 1) rest (Tip (Child outer))) rest)) [
        | true ↦ All-append (FitsIn k) (leaves rest) (Child outer ∷ []) fit (All-alone (FitsIn k) (Child outer) outer_fits)
        | false ↦ fit
      ]

  pub fit_carved : (n axis : ℕ) (r c : Area) → AllFit k (carve_from n axis r c outer inner)
  fit_carved zero axis r c = All-alone (FitsIn k) (Child inner) inner_fits
  fit_carved (suc n) axis r c =
      fit_below axis r c (carve_above axis r c outer (carve_from n (axis + 1) r c outer inner))
      (fit_above axis r c (carve_from n (axis + 1) r c outer inner) (fit_carved n (axis + 1) r c))

module _ (k axis value : ℕ) where
  fit_cut : (left right : Tree) → AllFit k left → AllFit k right → AllFit k (Cut axis value left right)
  fit_cut left right l r = All-append (FitsIn k) (leaves left) (leaves right) l r

  fit_joined : (left right : Tree) → AllFit k left → AllFit k right → AllFit k (one_leaf_or_cut axis value left right)
  fit_joined (Tip (Records xs)) (Tip (Records ys)) l r =
      All-alone (FitsIn k) (Records (in_point_order (xs ++ ys)))
      (All-permutation (FitsRecord k) (xs ++ ys) (in_point_order (xs ++ ys)) (order_permutes (xs ++ ys)) (All-append (FitsRecord k) xs ys (All-head (FitsIn k) (Records xs) [] l) (All-head (FitsIn k) (Records ys) [] r)))
  fit_joined (Tip (Child page)) (Tip (Child other)) l r =
      elim (page == other) as (λ b. AllFit k (cond b (Tip (Child page)) (Cut axis value (Tip (Child page)) (Tip (Child other))))) [
        | true ↦ l
        | false ↦ fit_cut (Tip (Child page)) (Tip (Child other)) l r
      ]
  fit_joined (Tip (Records xs)) (Tip (Child other)) l r = fit_cut (Tip (Records xs)) (Tip (Child other)) l r
  fit_joined (Tip (Records xs)) (Tip (Sibling other)) l r = fit_cut (Tip (Records xs)) (Tip (Sibling other)) l r
  fit_joined (Tip (Records xs)) (Cut a v t u) l r = fit_cut (Tip (Records xs)) (Cut a v t u) l r
  fit_joined (Tip (Child page)) (Tip (Records ys)) l r = fit_cut (Tip (Child page)) (Tip (Records ys)) l r
  fit_joined (Tip (Child page)) (Tip (Sibling other)) l r = fit_cut (Tip (Child page)) (Tip (Sibling other)) l r
  fit_joined (Tip (Child page)) (Cut a v t u) l r = fit_cut (Tip (Child page)) (Cut a v t u) l r
  fit_joined (Tip (Sibling page)) (Tip (Records ys)) l r = fit_cut (Tip (Sibling page)) (Tip (Records ys)) l r
  fit_joined (Tip (Sibling page)) (Tip (Child other)) l r = fit_cut (Tip (Sibling page)) (Tip (Child other)) l r
  fit_joined (Tip (Sibling page)) (Tip (Sibling other)) l r = fit_cut (Tip (Sibling page)) (Tip (Sibling other)) l r
  fit_joined (Tip (Sibling page)) (Cut a v t u) l r = fit_cut (Tip (Sibling page)) (Cut a v t u) l r
  fit_joined (Cut a v t u) (Tip (Records ys)) l r = fit_cut (Cut a v t u) (Tip (Records ys)) l r
  fit_joined (Cut a v t u) (Tip (Child other)) l r = fit_cut (Cut a v t u) (Tip (Child other)) l r
  fit_joined (Cut a v t u) (Tip (Sibling other)) l r = fit_cut (Cut a v t u) (Tip (Sibling other)) l r
  fit_joined (Cut a v t u) (Cut b w x y) l r = fit_cut (Cut a v t u) (Cut b w x y) l r

pub fit_normal : (k : ℕ) (tree : Tree) → AllFit k tree → AllFit k (normal tree)
fit_normal k (Tip leaf) fit = fit
fit_normal k (Cut axis value left right) fit =
    fit_joined k axis value (normal left) (normal right)
    (fit_normal k left (All-front (FitsIn k) (leaves left) (leaves right) fit)) (fit_normal k right (All-behind (FitsIn k) (leaves left) (leaves right) fit))
