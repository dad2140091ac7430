-- A part of a page by its path: its box, its shape, and the page with another part there.
use Rattle.std.proofs.Common.{◌≡◌, List, [], ◌∷◌, length, Some, refl, sym, subst, ◌∙◌}
use Rattle.hb_space.specs.Boxes.{Area, side_below, side_from}
use Rattle.hb_frag.specs.declared.paths.Side.{Side}
use Rattle.hb_frag.specs.declared.paths.Side.TheVariants.{Left, Right}
use Rattle.hb_frag.specs.Trees.{Tree, Tip, Cut}
use Rattle.hb_frag.specs.Leaves.{IsWellCut}
use Rattle.hb_frag.specs.Rules.{IsNormal, IsSiblingTip}
use Rattle.hb_frag.specs.Paths.{part_at, with_part}
use Rattle.hb_ops.proofs.Facts.CutShapeLaws.{LikeNone, cut_like_none}
use Rattle.hb_ops.proofs.Facts.LeafHalfLaws.{side_attributes}
use Rattle.std.proofs.lemmas.Option.{same_Some}

-- what a part has from its tree
pub record HasFrom (t : Tree) (area : Area) (w : Tree × Area) : Type 0 where
  pub attributes : length w.1.lo ≡ length area.lo
  pub well_cut : IsWellCut w.0 w.1
  pub normal : IsNormal w.0

-- a part that a path leads to has it
pub part_has : (path : List Side) (t : Tree) (area : Area) (w : Tree × Area) → part_at path t area ≡ Some w → IsWellCut t area → IsNormal t → HasFrom t area w
part_has [] t area w e cut normal =
    subst (λ (w : Tree × Area). HasFrom t area w) (same_Some (t, area) w e) (record { attributes = refl; well_cut = cut; normal = normal })
part_has (Left ∷ path) (Tip leaf) area w e cut normal = absurd (cc)
part_has (Right ∷ path) (Tip leaf) area w e cut normal = absurd (cc)
part_has (Left ∷ path) (Cut axis value left right) area w e cut normal =
    let h = part_has path left (side_below area axis value) w e cut.1 normal.1 in
    record { attributes = h.attributes; well_cut = h.well_cut; normal = h.normal }
part_has (Right ∷ path) (Cut axis value left right) area w e cut normal =
    let h = part_has path right (side_from area axis value) w e cut.2 normal.2 in
    record { attributes = h.attributes ∙ side_attributes Right axis value area; well_cut = h.well_cut; normal = h.normal }

-- the tree with another part in its place is as well cut as that one
pub well_cut_again : (path : List Side) (t : Tree) (area : Area) (w : Tree × Area) (other : Tree) → part_at path t area ≡ Some w → IsWellCut t area → IsWellCut other w.1 → IsWellCut (with_part path t other) area
well_cut_again [] t area w other e cut well = subst (λ (w : Tree × Area). IsWellCut other w.1) (sym (same_Some (t, area) w e)) well
well_cut_again (Left ∷ path) (Tip leaf) area w other e cut well = absurd (cc)
well_cut_again (Right ∷ path) (Tip leaf) area w other e cut well = absurd (cc)
well_cut_again (Left ∷ path) (Cut axis value left right) area w other e cut well = (cut.0, well_cut_again path left (side_below area axis value) w other e cut.1 well, cut.2)
well_cut_again (Right ∷ path) (Cut axis value left right) area w other e cut well = (cut.0, cut.1, well_cut_again path right (side_from area axis value) w other e cut.2 well)

-- where that one is like none, so is the tree
pub like_none_again : (path : List Side) (t : Tree) (area : Area) (w : Tree × Area) (other : Tree) → part_at path t area ≡ Some w → LikeNone other → LikeNone (with_part path t other)
like_none_again [] t area w other e none = none
like_none_again (Left ∷ path) (Tip leaf) area w other e none = absurd (cc)
like_none_again (Right ∷ path) (Tip leaf) area w other e none = absurd (cc)
like_none_again (Left ∷ path) (Cut axis value left right) area w other e none = cut_like_none axis value (with_part path left other) right
like_none_again (Right ∷ path) (Cut axis value left right) area w other e none = cut_like_none axis value left (with_part path right other)

-- and the tree stays normal
pub normal_again : (path : List Side) (t : Tree) (area : Area) (w : Tree × Area) (other : Tree) → part_at path t area ≡ Some w → IsNormal t → LikeNone other → IsNormal other → IsNormal (with_part path t other)
normal_again [] t area w other e normal none new = new
normal_again (Left ∷ path) (Tip leaf) area w other e normal none new = absurd (cc)
normal_again (Right ∷ path) (Tip leaf) area w other e normal none new = absurd (cc)
normal_again (Left ∷ path) (Cut axis value left right) area w other e normal none new =
    ((like_none_again path left (side_below area axis value) w other e none right).0, normal_again path left (side_below area axis value) w other e normal.1 none new, normal.2)
normal_again (Right ∷ path) (Cut axis value left right) area w other e normal none new =
    ((like_none_again path right (side_from area axis value) w other e none left).1, normal.1, normal_again path right (side_from area axis value) w other e normal.2 none new)

-- below the root no lone leaf can come of it
pub not_lone_again : (side : Side) (path : List Side) (t : Tree) (area : Area) (w : Tree × Area) (other : Tree) → part_at (side ∷ path) t area ≡ Some w → IsSiblingTip (with_part (side ∷ path) t other) → ⊥
not_lone_again Left path (Tip leaf) area w other e lone = absurd (cc)
not_lone_again Right path (Tip leaf) area w other e lone = absurd (cc)
not_lone_again Left path (Cut axis value left right) area w other e lone = lone
not_lone_again Right path (Cut axis value left right) area w other e lone = lone

pub with_own : (path : List Side) (t : Tree) (area : Area) (w : Tree × Area) (other : Tree) → part_at path t area ≡ Some w → ¬ (IsSiblingTip other) → ¬ (IsSiblingTip (with_part path t other))
with_own [] t area w other e own = own
with_own (side ∷ path) t area w other e own = not_lone_again side path t area w other e
