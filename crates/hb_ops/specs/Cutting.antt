-- A records leaf is cut, one cut inside the other, and each goes on at its side: which records go on at all of them.
use Rattle.std.specs.Prelude.{◌≡◌, ℕ, ◌<◌, Bool, not, nat_lt, List, [], ◌∷◌, length, filter, slice_index, true, ◌&&◌}
use Rattle.hb_space.specs.Boxes.{Area, Cuts, side_below, side_from}
use Rattle.hb_space.specs.declared.records.Record.{Record}
use Rattle.hb_frag.specs.declared.leaves.Leaf.TheVariants.{Records}
use Rattle.hb_frag.specs.declared.paths.Side.{Side}
use Rattle.hb_frag.specs.declared.paths.Side.TheVariants.{Left, Right}
use Rattle.hb_frag.specs.Leaves.{records_of}
use Rattle.hb_frag.specs.Trees.{Tree, Tip, Cut}
use Rattle.hb_ops.specs.declared.leaf_cuts.LeafCut.{LeafCut}

abbrev pub other_side : Side → Side
other_side Left = Right
other_side Right = Left

-- a side of a box
abbrev pub area_on : Side → ℕ → ℕ → Area → Area
area_on Left axis value area = side_below area axis value
area_on Right axis value area = side_from area axis value

-- a record lies left where its value is below the plane's, and right elsewhere
abbrev pub is_on : Side → ℕ → ℕ → Record → Bool
is_on Left axis value r = nat_lt (slice_index r.key axis) value
is_on Right axis value r = not (nat_lt (slice_index r.key axis) value)

-- a cut with the first tree on the side, and the second one on the other
abbrev pub cut_with : Side → ℕ → ℕ → Tree → Tree → Tree
cut_with Left axis value on off = Cut axis value on off
cut_with Right axis value on off = Cut axis value off on

-- the records of a lone leaf
abbrev pub records_in : Tree → List Record
records_in (Tip leaf) = records_of leaf
records_in (Cut axis value left right) = []

-- those on a side of a cut's plane, as a leaf
abbrev pub half_on : Side → LeafCut → Tree → Tree
half_on side cut tree = Tip (Records (filter (is_on side cut.axis cut.value) (records_in tree)))

abbrev pub half_area : LeafCut → Area → Area
half_area cut area = area_on cut.side cut.axis cut.value area

-- what goes on, and what stays
abbrev pub going : LeafCut → Tree → Tree
going cut tree = half_on cut.side cut tree

abbrev pub staying : LeafCut → Tree → Tree
staying cut tree = half_on (other_side cut.side) cut tree

-- the part that cuts lead to, one inside the other, with its box
abbrev pub reached : List LeafCut → Tree → Area → Tree × Area
reached [] tree area = (tree, area)
reached (cut ∷ cuts) tree area = reached cuts (going cut tree) (half_area cut area)

-- the leaf with the cuts made, and another tree where they lead
abbrev pub cut_through : List LeafCut → Tree → Tree → Tree
cut_through [] tree end = end
cut_through (cut ∷ cuts) tree end = cut_with cut.side cut.axis cut.value (cut_through cuts (going cut tree) end) (staying cut tree)

-- a cut parts a records leaf: its plane parts the box, and there are records on both sides
pub record PartsLeaf (cut : LeafCut) (tree : Tree) (area : Area) : Type 0 where
  pub records : List Record
  pub leaf : tree ≡ Tip (Records records)
  pub plane : Cuts area cut.axis cut.value
  pub on : 0 < length (filter (is_on cut.side cut.axis cut.value) records)
  pub off : 0 < length (filter (is_on (other_side cut.side) cut.axis cut.value) records)

abbrev pub PartLeaves : List LeafCut → Tree → Area → Type 0
PartLeaves [] tree area = Unit {0}
PartLeaves (cut ∷ cuts) tree area = PartsLeaf cut tree area × PartLeaves cuts (going cut tree) (half_area cut area)

-- a record goes on at each of the cuts
abbrev pub goes_on : List LeafCut → Record → Bool
goes_on [] r = true
goes_on (cut ∷ cuts) r = is_on cut.side cut.axis cut.value r && goes_on cuts r

-- the cuts' planes part the box, one inside the other
abbrev pub PlanesCut : List LeafCut → Area → Type 0
PlanesCut [] area = Unit {0}
PlanesCut (cut ∷ cuts) area = Cuts area cut.axis cut.value × PlanesCut cuts (half_area cut area)
