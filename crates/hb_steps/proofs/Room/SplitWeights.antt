-- What the two pages of a split weigh, and what a page weighs with one record more.
use Rattle.hb_steps.proofs.Room.Names.{◌≡◌, ℕ, ◌+◌, ◌*◌, ◌<◌, ◌≤◌, List, [], ◌∷◌, arith, Sibling, LeafCut, weight_of, Tree, Tip, cut_through, going, half_area, reached, staying, Area}
use Rattle.hb_ops.specs.Cutting.{PartLeaves}
use Rattle.hb_ops.proofs.Facts.CutShapeLaws.{halves_weigh, weight_with}

-- ---- what stays, and what leaves

pub parted_weighs : (fresh : ℕ) (cuts : List LeafCut) (tree : Tree) (area : Area) → PartLeaves cuts tree area → weight_of (cut_through cuts tree (Tip (Sibling fresh))) + weight_of (reached cuts tree area).0 ≡ weight_of tree + 1
parted_weighs fresh [] tree area h = omega arith
parted_weighs fresh (cut ∷ cuts) tree area h =
    let rest = parted_weighs fresh cuts (going cut tree) (half_area cut area) h.1 in
    let both = halves_weigh cut tree area h.0 in
    let w = weight_with cut.side cut.axis cut.value (cut_through cuts (going cut tree) (Tip (Sibling fresh))) (staying cut tree) in
    omega (arith, rest, both, w)

-- Of a full page whose capacity is 6 at least, what stays and what leaves have room for one more.
pub both_have_room : (capacity whole put part through reach stays : ℕ) → 6 ≤ capacity → whole ≤ capacity → capacity < put → put ≤ whole + 1 → stays + part ≡ whole + through → through + reach ≡ part + 1 → whole < 3 * reach → 3 * reach ≤ 2 * whole → (stays + 1 ≤ capacity) × (reach + 1 ≤ capacity)
both_have_room capacity whole put part through reach stays least light full few is parted more less = (omega (arith, least, light, full, few, is, parted, more, less), omega (arith, least, light, full, few, is, parted, more, less))
