-- The corners of a part's box, of which a walk over the cuts changes one value at a time and puts it back.
use Rattle.std.proofs.Common.{◌≡◌, ◌↔◌, ◌<◌, ◌≤◌, ℕ, ◌-◌, Bool, false, IsTrue, List, [], ◌∷◌, ◌++◌, slice_set, length, take, sym, ap, ◌∙◌, subst, arith, length-append}
use Rattle.std.proofs.Math.ListN.{length-set}
use Rattle.std.proofs.lemmas.Bool.{false≢true}
use Rattle.std.proofs.lemmas.List.{length-take-le}
use Rattle.hb_space.specs.Boxes.{Area, Cuts}
use Rattle.hb_space.specs.Points.{IsPoint}
use Rattle.hb_frag.specs.Leaves.{IsWellCut}
use Rattle.hb_frag.specs.Trees.{Tree, Cut}
use Rattle.hb_lemmas.proofs.Lists.{front_copied}

-- where the plane cuts the box, both corners have a value there
pub in_hi : (lo hi : List ℕ) (axis at value : ℕ) → at ≡ axis → length lo ≡ length hi → Cuts (record { lo = lo; hi = hi }) axis value → at < length hi
in_hi lo hi axis at value same long cuts = omega (arith, cuts.attribute)

pub in_lo : (lo hi : List ℕ) (axis at value : ℕ) → at ≡ axis → Cuts (record { lo = lo; hi = hi }) axis value → at < length lo
in_lo lo hi axis at value same cuts = omega (arith, cuts.attribute)

-- so has the corner with one value changed
pub in_changed : (xs changed : List ℕ) (at value : ℕ) → changed ≡ slice_set xs at value → at < length xs → at < length changed
in_changed xs changed at value is lt = omega (arith, ap (λ (l : List ℕ). length l) is, length-set xs at value)

-- where the plane cuts the box and the left side is cut, a test of the right side tests the whole
pub both_cut : (lo hi low high : List ℕ) (axis at value : ℕ) (left right : Tree) (r : Bool) → at ≡ axis → low ≡ lo → high ≡ hi → Cuts (record { lo = lo; hi = hi }) axis value
    → IsWellCut left (record { lo = lo; hi = slice_set hi at (value - 1) }) → (IsTrue r ↔ IsWellCut right (record { lo = slice_set low at value; hi = high }))
    → IsTrue r ↔ IsWellCut (Cut axis value left right) (record { lo = lo; hi = hi })
both_cut lo hi low high axis at value left right r same below above cuts first tells =
    let B : ℕ → Type 0 = λ n. IsWellCut left (record { lo = lo; hi = slice_set hi n (value - 1) }) in
    let N : ℕ → Type 0 = λ n. IsTrue r ↔ IsWellCut right (record { lo = slice_set lo n value; hi = hi }) in
    let L : List ℕ → Type 0 = λ l. IsTrue r ↔ IsWellCut right (record { lo = slice_set l at value; hi = high }) in
    let H : List ℕ → Type 0 = λ l. IsTrue r ↔ IsWellCut right (record { lo = slice_set lo at value; hi = l }) in
    let second = subst N same (subst H above (subst L below tells)) in
    (λ t. (cuts, subst B same first, second.0 t), λ whole. second.1 whole.2)

-- where the left side isn't cut, the whole isn't
pub left_uncut : (lo hi : List ℕ) (axis at value : ℕ) (left right : Tree) (r : Bool) → at ≡ axis → r ≡ false → (IsTrue r ↔ IsWellCut left (record { lo = lo; hi = slice_set hi at (value - 1) }))
    → IsTrue r ↔ IsWellCut (Cut axis value left right) (record { lo = lo; hi = hi })
left_uncut lo hi axis at value left right r same off tells =
    (λ t. absurd (false≢true (sym off ∙ t)), λ whole. tells.1 (subst (λ (n : ℕ). IsWellCut left (record { lo = lo; hi = slice_set hi n (value - 1) })) (sym same) whole.1))

-- they are as many as were copied
pub front_length : (copied behind values : List ℕ) (n : ℕ) → n ≡ length values → copied ≡ values → n ≡ length (take n (copied ++ behind))
front_length copied behind values n count same = count ∙ sym (ap (λ (l : List ℕ). length l) (front_copied copied behind values n count same))

-- and the longer list has as many
pub front_fits : (copied behind values : List ℕ) (n : ℕ) → n ≡ length values → copied ≡ values → n ≤ length (copied ++ behind)
front_fits copied behind values n count same = omega (arith, length-append copied behind, ap (λ (l : List ℕ). length l) same)

-- a point's values have room in an array for the longest point
pub few_values : (values point : List ℕ) → values ≡ point → IsPoint point → length values ≤ 4
few_values values point is said = subst (λ (l : List ℕ). length l ≤ 4) (sym is) said.few

-- and its front_copied is as long as they are
pub room_length : (values point : List ℕ) → values ≡ point → IsPoint point → length {A = ℕ} (take (length values) (0 ∷ 0 ∷ 0 ∷ 0 ∷ [])) ≡ length values
room_length values point is said = length-take-le {A = ℕ} (length values) (0 ∷ 0 ∷ 0 ∷ 0 ∷ []) (few_values values point is said)

-- a test of a part in the box of these corners
pub same_box : (frag : Tree) (area : Area) (lo hi : List ℕ) (r : Bool) → lo ≡ area.lo → hi ≡ area.hi → (IsTrue r ↔ IsWellCut frag (record { lo = lo; hi = hi })) → IsTrue r ↔ IsWellCut frag area
same_box frag area lo hi r low high tells =
    let L : List ℕ → Type 0 = λ l. IsTrue r ↔ IsWellCut frag (record { lo = l; hi = hi }) in
    let H : List ℕ → Type 0 = λ l. IsTrue r ↔ IsWellCut frag (record { lo = area.lo; hi = l }) in
    subst H high (subst L low tells)
