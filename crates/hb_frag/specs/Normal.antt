-- A tree without cuts whose two sides should be one leaf.
use Rattle.std.specs.Prelude.{ℕ, ◌==◌, if◌then◌else◌, List, [], ◌∷◌, ◌++◌}
use Rattle.std.specs.Ordering.{is_gt}
use Rattle.hb_space.specs.Points.{point_cmp}
use Rattle.hb_space.specs.declared.records.Record.{Record}
use Rattle.hb_frag.specs.declared.leaves.Leaf.TheVariants.{Records, Child}
use Rattle.hb_frag.specs.Trees.{Tree, Tip, Cut}

-- Records in the order of their points. Those of one point, which no well-made page has, stay in the order in which they stand.
abbrev pub with_record_in_order : Record → List Record → List Record
with_record_in_order r [] = r ∷ []
with_record_in_order r (s ∷ rest) = if is_gt (point_cmp r.key s.key) then s ∷ with_record_in_order r rest else r ∷ s ∷ rest

abbrev pub in_point_order : List Record → List Record
in_point_order [] = []
in_point_order (r ∷ rest) = with_record_in_order r (in_point_order rest)

-- two sides of a cut as one leaf, where both have records or name the same child; else the cut
abbrev pub one_leaf_or_cut : ℕ → ℕ → Tree → Tree → Tree
one_leaf_or_cut axis value (Tip (Records records)) (Tip (Records others)) = Tip (Records (in_point_order (records ++ others)))
one_leaf_or_cut axis value (Tip (Child page)) (Tip (Child other)) = if page == other then Tip (Child page) else Cut axis value (Tip (Child page)) (Tip (Child other))
one_leaf_or_cut axis value left right = Cut axis value left right

-- from the leaves up
abbrev pub normal : Tree → Tree
normal (Tip leaf) = Tip leaf
normal (Cut axis value left right) = one_leaf_or_cut axis value (normal left) (normal right)
