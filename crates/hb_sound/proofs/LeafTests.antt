-- A walk over the leaves of a page that tests each of them.
use Rattle.std.proofs.Common.{◌≡◌, ◌↔◌, ℕ, Bool, IsTrue, All, subst, sym}
use Rattle.hb_space.specs.Boxes.{Area, side_below, side_from}
use Rattle.hb_frag.specs.Leaves.{IsWellCut, Placed, leaves_of}
use Rattle.hb_frag.specs.Trees.{Tree, Cut}
use Rattle.hb_lemmas.proofs.Lists.{All-parts}

-- the tests of both sides of a cut are that of the whole
pub both_match : (P : Placed → Type 0) (area below above : Area) (axis value : ℕ) (left right : Tree) (r s t : Bool) → below ≡ side_below area axis value → above ≡ side_from area axis value
    → (IsTrue t ↔ (IsTrue r × IsTrue s)) → (IsTrue r ↔ All P (leaves_of left below)) → (IsTrue s ↔ All P (leaves_of right above))
    → IsTrue t ↔ All P (leaves_of (Cut axis value left right) area)
both_match P area below above axis value left right r s t one_side other_side both one other =
    let L : Area → Type 0 = λ a. IsTrue r ↔ All P (leaves_of left a) in
    let R : Area → Type 0 = λ a. IsTrue s ↔ All P (leaves_of right a) in
    let first = subst L one_side one in
    let second = subst R other_side other in
    let parts = All-parts P (leaves_of left (side_below area axis value)) (leaves_of right (side_from area axis value)) in
    (λ h. let h2 = both.0 h in parts.1 (first.0 h2.0, second.0 h2.1), λ all. let a = parts.0 all in both.1 (first.1 a.0, second.1 a.1))

-- the right side of a cut is cut
pub right_cut : (area above : Area) (axis value : ℕ) (left right : Tree) → above ≡ side_from area axis value → IsWellCut (Cut axis value left right) area → IsWellCut right above
right_cut area above axis value left right side cut = subst (IsWellCut right) (sym side) cut.2
