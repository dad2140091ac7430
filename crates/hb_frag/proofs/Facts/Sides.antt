-- The sides of a box that a plane parts.
use Rattle.std.proofs.Common.{◌≡◌, ℕ, ◌<◌, ◌≤◌, ◌-◌, true, false, List, length, get_or, inl, inr, refl, ap, arith, nat_lt}
use Rattle.std.proofs.lemmas.List.{length-set}
use Rattle.std.proofs.lemmas.Bool.Decides.{nat_tests}
use Rattle.hb_space.specs.Boxes.{Area, IsArea, Holds, Cuts, holds, side_below, side_from}
use Rattle.hb_space.proofs.Facts.Lists.{set_cases, IsPoint-set}
use Rattle.hb_space.proofs.Facts.Boxes.{Holds-from_test, Holds-side_below, Holds-side_from}
pub use Rattle.hb_space.proofs.Facts.Boxes.{test-from_Holds as held_test}

-- a box that doesn't hold the point fails its test
pub failed_test : (a : Area) (p : List ℕ) → (Holds a p → ⊥) → holds a p ≡ false
failed_test a p outside =
    elim (holds a p) as (λ b. (b ≡ true → Holds a p) → b ≡ false) [ true ↦ λ held. absurd (outside (held refl)) | false ↦ λ held. refl ] (Holds-from_test a p)

-- each side is a box of as many attributes
pub IsArea-side_below : (a : Area) (axis value : ℕ) → IsArea a → Cuts a axis value → IsArea (side_below a axis value)
IsArea-side_below a axis value h cuts =
    let in_hi : axis < length a.hi = omega (arith, h.same, cuts.attribute) in
    record {
      lo_point = h.lo_point;
      hi_point = IsPoint-set a.hi axis (value - 1) h.hi_point (omega (arith, cuts.up_to_greatest, h.hi_point.fits axis 0 in_hi));
      same = omega (arith, h.same, length-set a.hi axis (value - 1));
      ordered = λ i k. elim (set_cases a.hi axis (value - 1) i in_hi) [
        | inl w ↦ omega (arith, w.1, cuts.above_least, ap (λ j. get_or a.lo j 0) w.0)
        | inr w ↦ omega (arith, w.1, h.ordered i k)
      ];
    }

pub IsArea-side_from : (a : Area) (axis value : ℕ) → IsArea a → Cuts a axis value → IsArea (side_from a axis value)
IsArea-side_from a axis value h cuts =
    let in_hi : axis < length a.hi = omega (arith, h.same, cuts.attribute) in
    let n = length-set a.lo axis value in
    record {
      lo_point = IsPoint-set a.lo axis value h.lo_point (omega (arith, cuts.up_to_greatest, h.hi_point.fits axis 0 in_hi));
      hi_point = h.hi_point;
      same = omega (arith, h.same, n);
      ordered = λ i k. elim (set_cases a.lo axis value i cuts.attribute) [
        | inl w ↦ omega (arith, w.1, cuts.up_to_greatest, ap (λ j. get_or a.hi j 0) w.0)
        | inr w ↦ omega (arith, w.1, h.ordered i (omega (arith, n)))
      ];
    }

pub same-side_from : (a : Area) (axis value : ℕ) → length (side_from a axis value).lo ≡ length a.lo
same-side_from a axis value = length-set a.lo axis value

-- a point below the value isn't on the side from it, and the other way round
pub not_from : (a : Area) (axis value : ℕ) (p : List ℕ) → Cuts a axis value → get_or p axis 0 < value → Holds (side_from a axis value) p → ⊥
not_from a axis value p cuts below held = let w = (Holds-side_from a axis value p cuts).0 held in absurd (omega (arith, w.1))

pub not_below : (a : Area) (axis value : ℕ) (p : List ℕ) → IsArea a → Cuts a axis value → value ≤ get_or p axis 0 → Holds (side_below a axis value) p → ⊥
not_below a axis value p h cuts from held = let w = (Holds-side_below a axis value p h cuts).0 held in absurd (omega (arith, w.1))

-- what isn't in the box is on neither side
pub outside_below : (a : Area) (axis value : ℕ) (p : List ℕ) → IsArea a → Cuts a axis value → (Holds a p → ⊥) → Holds (side_below a axis value) p → ⊥
outside_below a axis value p h cuts outside held = outside ((Holds-side_below a axis value p h cuts).0 held).0

pub outside_from : (a : Area) (axis value : ℕ) (p : List ℕ) → Cuts a axis value → (Holds a p → ⊥) → Holds (side_from a axis value) p → ⊥
outside_from a axis value p cuts outside held = outside ((Holds-side_from a axis value p cuts).0 held).0

-- the test of a value against a cut's
pub is_below : (x value : ℕ) → x < value → nat_lt x value ≡ true
is_below x value h = grind (arith, nat_tests)

pub isnt_below : (x value : ℕ) → value ≤ x → nat_lt x value ≡ false
isnt_below x value h = grind (arith, nat_tests)
