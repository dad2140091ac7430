-- A records leaf that is cut: where the leaves come from that are made of it, how they stand, and whom they name.
use Rattle.std.proofs.Common.{◌≡◌, ℕ, zero, ◌⊎◌, inl, inr, List, [], ◌∷◌, length, filter, refl, sym, ap, subst, ◌∙◌, arith}
use Rattle.std.specs.List.{Contains}
use Rattle.std.proofs.lemmas.List.Elements.{Contains-append_cases}
use Rattle.hb_space.specs.Boxes.{Area, Cuts, side_below, side_from}
use Rattle.hb_space.specs.declared.records.Record.{Record}
use Rattle.hb_frag.specs.declared.leaves.Leaf.TheVariants.{Records, Sibling}
use Rattle.hb_frag.specs.declared.paths.Side.{Side}
use Rattle.hb_frag.specs.declared.paths.Side.TheVariants.{Left, Right}
use Rattle.hb_frag.specs.Trees.{Tree, Tip}
use Rattle.hb_frag.specs.Leaves.{Placed, IsWellCut, leaves_of, records_of}
use Rattle.hb_frag.specs.Rules.{IsInOrder}
use Rattle.hb_ops.specs.declared.leaf_cuts.LeafCut.{LeafCut}
use Rattle.hb_ops.specs.Cutting.{PartLeaves, PartsLeaf, area_on, cut_through, cut_with, going, half_area, half_on, is_on, other_side, reached, staying}
use Rattle.hb_ops.proofs.Facts.LeafHalfLaws.{half_in_order, side_attributes}
use Rattle.hb_ops.proofs.Facts.PlacedLaws.{placed}
use Rattle.hb_lemmas.proofs.Lists.{only_one, filter_has}

-- the leaf has some of the records of one of the old leaves, and is in order where that one is
pub record IsShareOf (old : List Placed) (x : Placed) : Type 0 where
  pub records : List Record
  pub leaf : x.leaf ≡ Records records
  pub all : List Record
  pub area : Area
  pub there : Contains old (placed (Records all) area)
  pub some : (r : Record) → Contains records r → Contains all r
  pub in_order : IsInOrder (placed (Records all) area) → IsInOrder x

-- a leaf comes from old ones: it is one, or a share of one
abbrev pub StemsFrom : List Placed → Placed → Type 0
StemsFrom old x = Contains old x ⊎ IsShareOf old x

-- what stems from a half of a leaf stems from the leaf
from_records : (side : Side) (axis value : ℕ) (area : Area) (records : List Record) → Cuts area axis value → (x : Placed) → StemsFrom (placed (Records (filter (is_on side axis value) records)) (area_on side axis value area) ∷ []) x → StemsFrom (placed (Records records) area ∷ []) x
from_records side axis value area records cuts x stems =
    let half = filter (is_on side axis value) records in
    let one = placed (Records half) (area_on side axis value area) in
    elim stems [
      | inl has ↦ let is : one ≡ x = only_one one x has in inr (record {
        records = half;
        leaf = sym (ap (λ (l : Placed). l.leaf) is);
        all = records;
        area = area;
        there = (zero, omega arith, refl);
        some = λ r has. filter_has (is_on side axis value) records r has;
        in_order = λ h. subst IsInOrder is (half_in_order side axis value area records cuts h);
      })
      | inr w ↦ let is : one ≡ placed (Records w.all) w.area = only_one one (placed (Records w.all) w.area) w.there in inr (record {
        records = w.records;
        leaf = w.leaf;
        all = records;
        area = area;
        there = (zero, omega arith, refl);
        some = λ r has. filter_has (is_on side axis value) records r (subst (λ (rs : List Record). Contains rs r) (ap (λ (l : Placed). records_of l.leaf) (sym is)) (w.some r has));
        in_order = λ h. w.in_order (subst IsInOrder is (half_in_order side axis value area records cuts h));
      })
    ]

-- so it is of a half of a tree that is one leaf
from_half : (side : Side) (cut : LeafCut) (tree : Tree) (area : Area) → PartsLeaf cut tree area → (x : Placed) → StemsFrom (leaves_of (half_on side cut tree) (area_on side cut.axis cut.value area)) x → StemsFrom (leaves_of tree area) x
from_half side cut tree area h x stems =
    subst (λ (t : Tree). StemsFrom (leaves_of (half_on side cut t) (area_on side cut.axis cut.value area)) x → StemsFrom (leaves_of t area) x) (sym h.leaf) (from_records side cut.axis cut.value area h.records h.plane x) stems

-- each leaf of the part that is reached stems from the old ones
pub reached_stems : (cuts : List LeafCut) (tree : Tree) (area : Area) → PartLeaves cuts tree area → (x : Placed) → Contains (leaves_of (reached cuts tree area).0 (reached cuts tree area).1) x → StemsFrom (leaves_of tree area) x
reached_stems [] tree area h x has = inl has
reached_stems (cut ∷ cuts) tree area h x has = from_half cut.side cut tree area h.0 x (reached_stems cuts (going cut tree) (half_area cut area) h.1 x has)

-- a leaf of a cut is a leaf of one of its sides
cut_cases : (side : Side) (axis value : ℕ) (on off : Tree) (area : Area) (x : Placed) → Contains (leaves_of (cut_with side axis value on off) area) x → Contains (leaves_of on (area_on side axis value area)) x ⊎ Contains (leaves_of off (area_on (other_side side) axis value area)) x
cut_cases Left axis value on off area x has = Contains-append_cases (leaves_of on (side_below area axis value)) (leaves_of off (side_from area axis value)) x has
cut_cases Right axis value on off area x has = elim (Contains-append_cases (leaves_of off (side_below area axis value)) (leaves_of on (side_from area axis value)) x has) [ inl l ↦ inr l | inr r ↦ inl r ]

-- each leaf of what stays names the new page, or stems from the old ones
pub through_stems : (fresh : ℕ) (cuts : List LeafCut) (tree : Tree) (area : Area) → PartLeaves cuts tree area → (x : Placed) → Contains (leaves_of (cut_through cuts tree (Tip (Sibling fresh))) area) x → (placed (Sibling fresh) (reached cuts tree area).1 ≡ x) ⊎ StemsFrom (leaves_of tree area) x
through_stems fresh [] tree area h x has = inl (only_one (placed (Sibling fresh) area) x has)
through_stems fresh (cut ∷ cuts) tree area h x has = elim (cut_cases cut.side cut.axis cut.value (cut_through cuts (going cut tree) (Tip (Sibling fresh))) (staying cut tree) area x has) [
  | inl on ↦ elim (through_stems fresh cuts (going cut tree) (half_area cut area) h.1 x on) [ inl is ↦ inl is | inr stems ↦ inr (from_half cut.side cut tree area h.0 x stems) ]
  | inr off ↦ inr (from_half (other_side cut.side) cut tree area h.0 x (inl off))
]

-- the box that is reached has as many attributes
pub reached_attributes : (cuts : List LeafCut) (tree : Tree) (area : Area) → length (reached cuts tree area).1.lo ≡ length area.lo
reached_attributes [] tree area = refl
reached_attributes (cut ∷ cuts) tree area = reached_attributes cuts (going cut tree) (half_area cut area) ∙ side_attributes cut.side cut.axis cut.value area

-- it is well cut
pub reached_well_cut : (cuts : List LeafCut) (tree : Tree) (area : Area) → PartLeaves cuts tree area → IsWellCut tree area → IsWellCut (reached cuts tree area).0 (reached cuts tree area).1
reached_well_cut [] tree area h cut = cut
reached_well_cut (cut ∷ cuts) tree area h well = reached_well_cut cuts (going cut tree) (half_area cut area) h.1 tt

-- a cut of two well-cut sides is well cut
well_cut_with : (side : Side) (axis value : ℕ) (on off : Tree) (area : Area) → Cuts area axis value → IsWellCut on (area_on side axis value area) → IsWellCut off (area_on (other_side side) axis value area) → IsWellCut (cut_with side axis value on off) area
well_cut_with Left axis value on off area cuts one two = (cuts, one, two)
well_cut_with Right axis value on off area cuts one two = (cuts, two, one)

-- so is what stays
pub through_well_cut : (fresh : ℕ) (cuts : List LeafCut) (tree : Tree) (area : Area) → PartLeaves cuts tree area → IsWellCut (cut_through cuts tree (Tip (Sibling fresh))) area
through_well_cut fresh [] tree area h = tt
through_well_cut fresh (cut ∷ cuts) tree area h = well_cut_with cut.side cut.axis cut.value (cut_through cuts (going cut tree) (Tip (Sibling fresh))) (staying cut tree) area h.0.plane (through_well_cut fresh cuts (going cut tree) (half_area cut area) h.1) tt
