-- Boxes, paths and cuts inside a page: a well-cut tree of leaves in their places has its place, and what leads into a
-- light page is short.
use Rattle.std.proofs.Common.{◌≡◌, ℕ, ◌+◌, ◌<◌, ◌≤◌, ◌^◌, max, List, [], ◌∷◌, length, All, Some, sym, ap, subst, ◌∙◌, arith}
use Rattle.std.specs.Prelude.{slice_index}
use Rattle.std.specs.List.{filter}
use Rattle.std.proofs.lemmas.List.{length-set}
use Rattle.std.proofs.lemmas.List.Elements.{All-cons, All-head, All-nil}
use Rattle.std.proofs.lemmas.Option.{same_Some}
use Rattle.hb_space.specs.Boxes.{Area, Cuts, IsArea, side_below, side_from}
use Rattle.hb_space.specs.declared.records.Record.{Record}
use Rattle.hb_frag.specs.declared.leaves.Leaf.TheVariants.{Records, Child, Sibling}
use Rattle.hb_frag.specs.declared.paths.Side.{Side}
use Rattle.hb_frag.specs.declared.paths.Side.TheVariants.{Left, Right}
use Rattle.hb_frag.specs.Trees.{Tree, Tip, Cut}
use Rattle.hb_frag.specs.Leaves.{IsWellCut, leaves, weight_of}
use Rattle.hb_frag.specs.Paths.{part_at}
use Rattle.hb_frag.specs.Laws.{IsPart}
use Rattle.hb_frag.specs.Grammar.{FitsLeaf, FitsTree}
use Rattle.hb_frag.proofs.Facts.Parts.{weight_cut}
use Rattle.hb_frag.proofs.Facts.Sides.{IsArea-side_below, IsArea-side_from}
use Rattle.hb_frag.proofs.Facts.CarvedKinds.{some_weight}
use Rattle.hb_ops.specs.declared.leaf_cuts.LeafCut.{LeafCut}
use Rattle.hb_ops.specs.Cutting.{PartLeaves, area_on, going, half_area, is_on, other_side, reached, records_in}
use Rattle.hb_ops.proofs.Facts.LeafHalfLaws.{both_halves}
use Rattle.hb_log_codec.specs.Groups.{FitsLeafCut}
use Rattle.hb_lemmas.proofs.Lists.{All-behind, All-front}

-- what hb_frag's laws say of parts
abbrev pub PartsStand : Type 0
PartsStand = (path : List Side) (t : Tree) (a : Area) (part : Tree × Area) → part_at path t a ≡ Some part → IsArea a → IsWellCut t a → IsPart path t a part

-- ---- boxes

greatest : (a : Area) (axis value : ℕ) → IsArea a → Cuts a axis value → value < 2 ^ 64
greatest a axis value is cuts =
    let top : slice_index a.hi axis < 2 ^ 64 = is.hi_point.fits axis 0 (omega (arith, cuts.attribute, is.same)) in
    omega (arith, cuts.up_to_greatest, top)

pub fits_tree : (k : ℕ) (t : Tree) (a : Area) → IsArea a → IsWellCut t a → length a.lo ≡ k → All (FitsLeaf k) (leaves t) → FitsTree k t
fits_tree k (Tip leaf) a is cut long fit = All-head (FitsLeaf k) leaf [] fit
fits_tree k (Cut axis value left right) a is cut long fit = (
  omega (arith, cut.0.attribute, long),
  greatest a axis value is cut.0,
  fits_tree k left (side_below a axis value) (IsArea-side_below a axis value is cut.0) cut.1 long (All-front (FitsLeaf k) (leaves left) (leaves right) fit),
  fits_tree k right (side_from a axis value) (IsArea-side_from a axis value is cut.0) cut.2 (length-set a.lo axis value ∙ long) (All-behind (FitsLeaf k) (leaves left) (leaves right) fit),
)

half_box : (side : Side) (axis value : ℕ) (a : Area) → IsArea a → Cuts a axis value → IsArea (area_on side axis value a)
half_box Left axis value a is cuts = IsArea-side_below a axis value is cuts
half_box Right axis value a is cuts = IsArea-side_from a axis value is cuts

pub reached_box : (cuts : List LeafCut) (tree : Tree) (area : Area) → PartLeaves cuts tree area → IsArea area → IsArea (reached cuts tree area).1
reached_box [] tree area parted is = is
reached_box (cut ∷ cuts) tree area parted is =
    reached_box cuts (going cut tree) (half_area cut area) parted.1 (half_box cut.side cut.axis cut.value area is parted.0.plane)

pub cuts_fit : (cuts : List LeafCut) (tree : Tree) (area : Area) → PartLeaves cuts tree area → IsArea area → All FitsLeafCut cuts
cuts_fit [] tree area parted is = All-nil FitsLeafCut
cuts_fit (cut ∷ cuts) tree area parted is =
    let plane = parted.0.plane in
    All-cons FitsLeafCut cut cuts
    (record { axis = omega (arith, plane.attribute, is.lo_point.few); value = greatest area cut.axis cut.value is plane })
    (cuts_fit cuts (going cut tree) (half_area cut area) parted.1 (half_box cut.side cut.axis cut.value area is plane))

-- ---- how many steps a path has

pub steps_few : (path : List Side) (t : Tree) (a : Area) (part : Tree × Area) → part_at path t a ≡ Some part → length path + weight_of part.0 ≤ weight_of t
steps_few [] t a part there =
    let weighs = ap (λ (x : Tree × Area). weight_of x.0) (same_Some (t, a) part there) in
    omega (arith, weighs)
steps_few (Left ∷ path) (Cut axis value left right) a part there =
    omega (arith, weight_cut axis value left right, some_weight right, steps_few path left (side_below a axis value) part there)
steps_few (Right ∷ path) (Cut axis value left right) a part there =
    omega (arith, weight_cut axis value left right, some_weight left, steps_few path right (side_from a axis value) part there)
steps_few (Left ∷ path) (Tip leaf) a part there = absurd cc
steps_few (Right ∷ path) (Tip leaf) a part there = absurd cc

-- ---- how many cuts part a leaf

-- each cut leaves at least one record
pub cuts_few : (cuts : List LeafCut) (tree : Tree) (area : Area) → PartLeaves cuts tree area → length cuts + 1 ≤ max 1 (length (records_in tree))
cuts_few [] tree area parted = omega arith
cuts_few (cut ∷ cuts) tree area parted =
    let one = parted.0 in
    let same : records_in tree ≡ one.records = ap records_in one.leaf in
    let on_side = λ (side : Side) (xs : List Record). length (filter (is_on side cut.axis cut.value) xs) in
    let on : 0 < on_side cut.side (records_in tree) = subst (λ (xs : List Record). 0 < on_side cut.side xs) (sym same) one.on in
    let off : 0 < on_side (other_side cut.side) (records_in tree) = subst (λ (xs : List Record). 0 < on_side (other_side cut.side) xs) (sym same) one.off in
    let both = both_halves cut.side cut.axis cut.value (records_in tree) in
    let rest = cuts_few cuts (going cut tree) (half_area cut area) parted.1 in
    omega (arith, on, off, both, rest)

pub records_weigh : (tree : Tree) → length (records_in tree) ≤ weight_of tree
records_weigh (Tip (Records records)) = omega arith
records_weigh (Tip (Child page)) = omega arith
records_weigh (Tip (Sibling page)) = omega arith
records_weigh (Cut axis value left right) = omega arith
