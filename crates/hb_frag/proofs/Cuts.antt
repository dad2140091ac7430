-- What holds of a cut with two sides holds of a tree that is one.
use Rattle.std.proofs.Common.{◌≡◌, ℕ, ◌↔◌, Bool, true, false, IsTrue, List, ◌++◌, sym, subst, ◌∙◌}
use Rattle.std.proofs.lemmas.Bool.{false≢true}
use Rattle.hb_space.specs.Boxes.{Area, Cuts, side_below, side_from}
use Rattle.hb_frag.specs.Trees.{Tree, Cut}
use Rattle.hb_frag.specs.Leaves.{Placed, IsWellCut, leaves_of}

pub at_cut : (t l r l' r' : Tree) (axis value : ℕ) (P : Tree → Type 0) → t ≡ Cut axis value l r → l' ≡ l → r' ≡ r → P (Cut axis value l' r') → P t
at_cut t l r l' r' axis value P e d d' h =
    let Q : Tree → Type 0 = λ x. P (Cut axis value x r') in
    let R : Tree → Type 0 = λ x. P (Cut axis value l x) in
    subst P (sym e) (subst R d' (subst Q d h))

-- and so of its leaves in a box
pub leaves_at_cut : (t l r l' r' : Tree) (axis value : ℕ) (area below from : Area) (P : List Placed → Type 0) → t ≡ Cut axis value l r → l' ≡ l → r' ≡ r → below ≡ side_below area axis value → from ≡ side_from area axis value → P (leaves_of l' below ++ leaves_of r' from) → P (leaves_of t area)
leaves_at_cut t l r l' r' axis value area below from P e d d' s s' h =
    let Q : Area → Type 0 = λ x. P (leaves_of l' x ++ leaves_of r' from) in
    let R : Area → Type 0 = λ x. P (leaves_of l' (side_below area axis value) ++ leaves_of r' x) in
    at_cut t l r l' r' axis value (λ u. P (leaves_of u area)) e d d' (subst R s' (subst Q s h))

-- a cut whose left side is well cut, and one whose left side isn't
pub well_cut_then : (t l r l' r' : Tree) (axis value : ℕ) (area below from : Area) (b c : Bool) → t ≡ Cut axis value l r → l' ≡ l → r' ≡ r → below ≡ side_below area axis value → from ≡ side_from area axis value → Cuts area axis value → b ≡ true → (IsTrue b ↔ IsWellCut l' below) → (IsTrue c ↔ IsWellCut r' from) → IsTrue c ↔ IsWellCut t area
well_cut_then t l r l' r' axis value area below from b c e d d' s s' cuts is h k =
    rw (e, ← d, ← d', ← s, ← s') (λ w. (cuts, h.0 is, k.0 w), λ w. k.1 w.2)

pub well_cut_else : (t l r l' : Tree) (axis value : ℕ) (area below : Area) (b : Bool) → t ≡ Cut axis value l r → l' ≡ l → below ≡ side_below area axis value → b ≡ false → (IsTrue b ↔ IsWellCut l' below) → IsTrue b ↔ IsWellCut t area
well_cut_else t l r l' axis value area below b e d s is h =
    rw (e, ← d, ← s) (λ w. absurd (false≢true (sym is ∙ w)), λ w. h.1 w.1)
