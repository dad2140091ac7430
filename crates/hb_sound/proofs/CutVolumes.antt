-- The box of a part of a page, and of what cuts reach of it: no larger, and smaller below the root and behind a cut.
use Rattle.std.proofs.Common.{◌≡◌, ℕ, ◌<◌, List, [], ◌∷◌, refl, arith, ◌≤◌, subst, Some}
use Rattle.hb_space.specs.Boxes.{Area, Cuts, side_below, side_from, volume}
use Rattle.hb_frag.specs.declared.paths.Side.{Side}
use Rattle.hb_frag.specs.declared.paths.Side.TheVariants.{Left, Right}
use Rattle.hb_ops.specs.Cutting.{area_on, PartLeaves, going, half_area, reached}
use Rattle.hb_frag.specs.Trees.{Tree, Tip, Cut}
use Rattle.hb_frag.specs.Leaves.{IsWellCut}
use Rattle.hb_ops.specs.declared.leaf_cuts.LeafCut.{LeafCut}
use Rattle.hb_frag.specs.Paths.{part_at}
use Rattle.std.proofs.lemmas.Option.{same_Some}
use Rattle.hb_ops.proofs.Facts.Volumes.{below_fewer, from_fewer}

-- the side of a box is smaller
pub side_smaller : (side : Side) (axis value : ℕ) (a : Area) → Cuts a axis value → volume (area_on side axis value a) < volume a
side_smaller Left axis value a cuts = below_fewer a axis value cuts
side_smaller Right axis value a cuts = from_fewer a axis value cuts

-- the box that is reached is no larger, and smaller where there is a cut
pub reached_no_larger : (cuts : List LeafCut) (tree : Tree) (area : Area) → PartLeaves cuts tree area → volume (reached cuts tree area).1 ≤ volume area
reached_no_larger [] tree area h = omega arith
reached_no_larger (cut ∷ cuts) tree area h =
    let rest = reached_no_larger cuts (going cut tree) (half_area cut area) h.1 in
    let less = side_smaller cut.side cut.axis cut.value area h.0.plane in
    omega (arith, rest, less)

pub reached_smaller : (cuts : List LeafCut) (tree : Tree) (area : Area) → (cuts ≡ [] → ⊥) → PartLeaves cuts tree area → volume (reached cuts tree area).1 < volume area
reached_smaller [] tree area some h = absurd (some refl)
reached_smaller (cut ∷ cuts) tree area some h =
    let rest = reached_no_larger cuts (going cut tree) (half_area cut area) h.1 in
    let less = side_smaller cut.side cut.axis cut.value area h.0.plane in
    omega (arith, rest, less)

-- a part of a page by its path is no larger than the page
part_no_larger : (path : List Side) (t : Tree) (area : Area) (w : Tree × Area) → part_at path t area ≡ Some w → IsWellCut t area → volume w.1 ≤ volume area
part_no_larger [] t area w e cut = subst (λ (w : Tree × Area). volume w.1 ≤ volume area) (same_Some (t, area) w e) (omega arith)
part_no_larger (Left ∷ path) (Tip leaf) area w e cut = absurd (cc)
part_no_larger (Right ∷ path) (Tip leaf) area w e cut = absurd (cc)
part_no_larger (Left ∷ path) (Cut axis value left right) area w e cut =
    let rest = part_no_larger path left (side_below area axis value) w e cut.1 in
    let less = below_fewer area axis value cut.0 in
    omega (arith, rest, less)
part_no_larger (Right ∷ path) (Cut axis value left right) area w e cut =
    let rest = part_no_larger path right (side_from area axis value) w e cut.2 in
    let less = from_fewer area axis value cut.0 in
    omega (arith, rest, less)

-- below the root it is smaller
pub part_smaller : (path : List Side) (t : Tree) (area : Area) (w : Tree × Area) → (path ≡ [] → ⊥) → part_at path t area ≡ Some w → IsWellCut t area → volume w.1 < volume area
part_smaller [] t area w some e cut = absurd (some refl)
part_smaller (Left ∷ path) (Tip leaf) area w some e cut = absurd (cc)
part_smaller (Right ∷ path) (Tip leaf) area w some e cut = absurd (cc)
part_smaller (Left ∷ path) (Cut axis value left right) area w some e cut =
    let rest = part_no_larger path left (side_below area axis value) w e cut.1 in
    let less = below_fewer area axis value cut.0 in
    omega (arith, rest, less)
part_smaller (Right ∷ path) (Cut axis value left right) area w some e cut =
    let rest = part_no_larger path right (side_from area axis value) w e cut.2 in
    let less = from_fewer area axis value cut.0 in
    omega (arith, rest, less)
