-- A leaf's box is carved: a new child gets what it has in common with a box, and the old one keeps the rest.
use Rattle.std.specs.Prelude.{ℕ, zero, suc, ◌+◌, nat_lt, if◌then◌else◌, length, slice_index}
use Rattle.hb_space.specs.Boxes.{Area, common_area}
use Rattle.hb_frag.specs.declared.leaves.Leaf.TheVariants.{Child}
use Rattle.hb_frag.specs.Trees.{Tree, Tip, Cut}

-- where the leaf's box r begins below c in the attribute, a cut at c's least value, with the old child below it
abbrev pub carve_below : ℕ → Area → Area → ℕ → Tree → Tree
carve_below axis r c outer rest = if nat_lt (slice_index r.lo axis) (slice_index c.lo axis) then Cut axis (slice_index c.lo axis) (Tip (Child outer)) rest else rest

-- where r ends above c in it, a cut behind c's greatest value, with the old child from there on
abbrev pub carve_above : ℕ → Area → Area → ℕ → Tree → Tree
carve_above axis r c outer rest = if nat_lt (slice_index c.hi axis) (slice_index r.hi axis) then Cut axis (slice_index c.hi axis + 1) rest (Tip (Child outer)) else rest

-- attribute by attribute: first what lies below c, then what lies above it; what is left is c, and names the new child
abbrev pub carve_from : ℕ → ℕ → Area → Area → ℕ → ℕ → Tree
carve_from zero axis r c outer inner = Tip (Child inner)
carve_from (suc n) axis r c outer inner = carve_below axis r c outer (carve_above axis r c outer (carve_from n (axis + 1) r c outer inner))

-- a leaf of this box that names `outer`, once `inner` is named over what the box has in common with another one
abbrev pub carved : Area → Area → ℕ → ℕ → Tree
carved leaf area outer inner = carve_from (length leaf.lo) 0 leaf (common_area leaf area) outer inner
