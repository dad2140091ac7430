-- Boxes and the points that they hold.
use Rattle.std.proofs.Common.{◌≡◌, ℕ, zero, suc, ◌<◌, ◌≤◌, ◌-◌, Bool, true, false, List, [], ◌∷◌, length, get_or, EachIndex, IsTrue, ◌↔◌, refl, ap, sym, ◌∙◌, arith, min, max, inl, inr, ◌⊎◌}
use Rattle.std.proofs.lemmas.Grind.{same_number_lists, common_steps}
use Rattle.std.proofs.lemmas.List.{length-set, get_or-set_same}
use Rattle.std.proofs.lemmas.Bool.{cases_lt, false≢true}
use Rattle.std.proofs.lemmas.Bool.Decides.{nat_tests}
use Rattle.hb_space.specs.Points.{IsPoint}
use Rattle.hb_space.specs.Boxes.{Area, IsArea, Holds, Meets, Within, Cuts, Disjoint, holds, is_between, whole_area, side_below, side_from, common_area}
use Rattle.hb_space.proofs.Facts.Lists.{length-zip_by, get_or-zip_by, set_cases, IsPoint-zip_by, max_chooses, min_chooses}

-- the least corner and the greatest corner lie in the box
pub lo_held : (a : Area) → IsArea a → Holds a a.lo
lo_held a h = record { same = refl; between = λ i k. (omega arith, h.ordered i k) }

pub hi_held : (a : Area) → IsArea a → Holds a a.hi
hi_held a h = record { same = sym h.same; between = λ i k. (h.ordered i (omega (arith, h.same)), omega arith) }

-- the greater of the least corners lies in both boxes
pub IsArea-common_area : (a b : Area) → IsArea a → IsArea b → length a.lo ≡ length b.lo → Meets a b → IsArea (common_area a b)
IsArea-common_area a b ha hb e m =
    let e' : length a.hi ≡ length b.hi = omega (arith, e, ha.same, hb.same) in
    record {
      lo_point = IsPoint-zip_by max max_chooses a.lo b.lo e ha.lo_point hb.lo_point;
      hi_point = IsPoint-zip_by min min_chooses a.hi b.hi e' ha.hi_point hb.hi_point;
      same = omega (arith, length-zip_by max a.lo b.lo e, length-zip_by min a.hi b.hi e', ha.same);
      ordered = λ i k.
          let k' : i < length a.lo = omega (arith, length-zip_by max a.lo b.lo e) in
          omega (arith, get_or-zip_by max a.lo b.lo i e k', get_or-zip_by min a.hi b.hi i e' (omega (arith, ha.same)), m i k');
    }

-- the common box holds what both hold
pub Holds-common_area : (a b : Area) (p : List ℕ) → IsArea a → IsArea b → length a.lo ≡ length b.lo → Holds (common_area a b) p ↔ (Holds a p × Holds b p)
Holds-common_area a b p ha hb e =
    let e' : length a.hi ≡ length b.hi = omega (arith, e, ha.same, hb.same) in
    let n = length-zip_by max a.lo b.lo e in (
      λ h. let s : length p ≡ length a.lo = omega (arith, h.same, n) in (
        record {
          same = s;
          between = λ i k.
              let k' : i < length a.lo = omega (arith, s) in
              (omega (arith, (h.between i k).0, get_or-zip_by max a.lo b.lo i e k'), omega (arith, (h.between i k).1, get_or-zip_by min a.hi b.hi i e' (omega (arith, ha.same))));
        },
        record {
          same = omega (arith, s, e);
          between = λ i k.
              let k' : i < length a.lo = omega (arith, s) in
              (omega (arith, (h.between i k).0, get_or-zip_by max a.lo b.lo i e k'), omega (arith, (h.between i k).1, get_or-zip_by min a.hi b.hi i e' (omega (arith, ha.same))));
        },
      ),
      λ h. record {
        same = omega (arith, h.0.same, n);
        between = λ i k.
            let k' : i < length a.lo = omega (arith, h.0.same) in (
              omega (arith, (h.0.between i k).0, (h.1.between i k).0, get_or-zip_by max a.lo b.lo i e k'),
              omega (arith, (h.0.between i k).1, (h.1.between i k).1, get_or-zip_by min a.hi b.hi i e' (omega (arith, ha.same))),
            );
      },
    )

pub Meets-from_point : (a b : Area) (p : List ℕ) → Holds a p → Holds b p → Meets a b
Meets-from_point a b p ha hb i k =
    let k' : i < length p = omega (arith, ha.same) in
    omega (arith, (ha.between i k').0, (ha.between i k').1, (hb.between i k').0, (hb.between i k').1)

pub point_from_meeting : (a b : Area) → IsArea a → IsArea b → length a.lo ≡ length b.lo → Meets a b → (p : List ℕ) × Holds a p × Holds b p
point_from_meeting a b ha hb e m =
    let c = common_area a b in
    let both = (Holds-common_area a b c.lo ha hb e).0 (lo_held c (IsArea-common_area a b ha hb e m)) in
    (c.lo, both.0, both.1)

pub Within-from_points : (a b : Area) → IsArea a → ((p : List ℕ) → Holds a p → Holds b p) → Within a b
Within-from_points a b h points i k =
    (((points a.lo (lo_held a h)).between i k).0, ((points a.hi (hi_held a h)).between i (omega (arith, h.same))).1)

-- one box lies within another exactly where the other holds each of its points
pub within_by_points : (a b : Area) → IsArea a → length a.lo ≡ length b.lo → Within a b ↔ ((p : List ℕ) → Holds a p → Holds b p)
within_by_points a b ha same = (
  λ w p h. record {
    same = omega arith;
    between = λ i k. let l : i < length a.lo = omega arith in (omega (arith, (w i l).0, (h.between i k).0), omega (arith, (w i l).1, (h.between i k).1));
  },
  λ points. Within-from_points a b ha points,
)

-- the common box lies within both
pub Within-common_area : (a b : Area) → IsArea a → IsArea b → length a.lo ≡ length b.lo → Meets a b → Within (common_area a b) a × Within (common_area a b) b
Within-common_area a b ha hb e m =
    let hc = IsArea-common_area a b ha hb e m in (
      Within-from_points (common_area a b) a hc (λ p h. ((Holds-common_area a b p ha hb e).0 h).0),
      Within-from_points (common_area a b) b hc (λ p h. ((Holds-common_area a b p ha hb e).0 h).1),
    )

-- areas that hold the same points are the same
pub same_corners : (a b : Area) → a.lo ≡ b.lo → a.hi ≡ b.hi → a ≡ b
same_corners a b l h =
    let with_lo : List ℕ → Area = λ x. record { lo = x; hi = a.hi } in
    let with_hi : List ℕ → Area = λ x. record { lo = b.lo; hi = x } in
    ap with_lo l ∙ ap with_hi h

pub same_from_within : (a b : Area) → IsArea a → IsArea b → length a.lo ≡ length b.lo → Within a b → Within b a → a ≡ b
same_from_within a b ha hb e v w =
    same_corners a b
    (same_number_lists a.lo b.lo e (λ k l. omega (arith, (v k l).0, (w k (omega (arith, e))).0)))
    (same_number_lists a.hi b.hi (omega (arith, ha.same, hb.same, e)) (λ k l.
    let l' : k < length a.lo = omega (arith, ha.same) in
    omega (arith, (v k l').1, (w k (omega (arith, e))).1)))

-- a test that holds says that there are as many values
pub as_long : (lo hi p : List ℕ) → IsTrue (is_between lo hi p) → length p ≡ length lo
as_long [] [] [] t = refl
as_long [] [] (x ∷ xs) t = absurd (false≢true t)
as_long [] (h ∷ hs) p t = absurd (false≢true t)
as_long (l ∷ ls) [] p t = absurd (false≢true t)
as_long (l ∷ ls) (h ∷ hs) [] t = absurd (false≢true t)
as_long (l ∷ ls) (h ∷ hs) (x ∷ xs) t =
    let rest : IsTrue (is_between ls hs xs) = grind (arith, nat_tests) in
    let same = as_long ls hs xs rest in omega arith

-- it holds exactly where the point lies in the box
between-from_test : (lo hi p : List ℕ) → IsTrue (is_between lo hi p) → EachIndex p (λ i. (get_or lo i 0 ≤ get_or p i 0) × (get_or p i 0 ≤ get_or hi i 0))
between-from_test lo hi [] t i lt = absurd (omega arith)
between-from_test [] [] (x ∷ xs) t i lt = absurd (false≢true t)
between-from_test [] (h ∷ hs) (x ∷ xs) t i lt = absurd (false≢true t)
between-from_test (l ∷ ls) [] (x ∷ xs) t i lt = absurd (false≢true t)
between-from_test (l ∷ ls) (h ∷ hs) (x ∷ xs) t zero lt = grind (arith, nat_tests)
between-from_test (l ∷ ls) (h ∷ hs) (x ∷ xs) t (suc i) lt =
    let rest : IsTrue (is_between ls hs xs) = grind (arith, nat_tests) in
    between-from_test ls hs xs rest i (omega arith)

pub test-from_between : (lo hi p : List ℕ) → length lo ≡ length hi → length p ≡ length lo → EachIndex p (λ i. (get_or lo i 0 ≤ get_or p i 0) × (get_or p i 0 ≤ get_or hi i 0)) → IsTrue (is_between lo hi p)
test-from_between [] [] [] e f h = refl
test-from_between [] (g ∷ gs) p e f h = absurd (omega arith)
test-from_between (l ∷ ls) [] p e f h = absurd (omega arith)
test-from_between [] [] (x ∷ xs) e f h = absurd (omega arith)
test-from_between (l ∷ ls) (g ∷ gs) [] e f h = absurd (omega arith)
test-from_between (l ∷ ls) (g ∷ gs) (x ∷ xs) e f h =
    let first = h zero (omega arith) in
    let rest = test-from_between ls gs xs (omega arith) (omega arith) (λ i k. h (suc i) (omega arith)) in
    grind (arith, nat_tests)

pub Holds-from_test : (a : Area) (p : List ℕ) → IsTrue (holds a p) → Holds a p
Holds-from_test a p t = record { same = as_long a.lo a.hi p t; between = between-from_test a.lo a.hi p t }

pub test-from_Holds : (a : Area) (p : List ℕ) → IsArea a → Holds a p → IsTrue (holds a p)
test-from_Holds a p h in_box = test-from_between a.lo a.hi p h.same in_box.same in_box.between

pub same_tests : (b c : Bool) → (IsTrue b → IsTrue c) → (IsTrue c → IsTrue b) → b ≡ c
same_tests true true f g = refl
same_tests true false f g = sym (f refl)
same_tests false true f g = g refl
same_tests false false f g = refl

-- whatever tells the points of the box answers as the test
pub test_is_holds : (a : Area) (p : List ℕ) (r : Bool) → IsArea a → length p ≡ length a.lo → (IsTrue r ↔ Holds a p) → r ≡ holds a p
test_is_holds a p r h e tells =
    same_tests r (holds a p) (λ t. test-from_Holds a p h (tells.0 t)) (λ t. tells.1 (Holds-from_test a p t))

-- which points they hold
pub Holds-side_below : (a : Area) (axis value : ℕ) (p : List ℕ) → IsArea a → Cuts a axis value → Holds (side_below a axis value) p ↔ (Holds a p × (get_or p axis 0 < value))
Holds-side_below a axis value p h cuts =
    let in_hi : axis < length a.hi = omega (arith, h.same, cuts.attribute) in (
      λ s. (
        record {
          same = s.same;
          between = λ i l. elim (set_cases a.hi axis (value - 1) i in_hi) [
            | inl w ↦ ((s.between i l).0, omega (arith, (s.between i l).1, w.1, cuts.up_to_greatest, ap (λ j. get_or a.hi j 0) w.0))
            | inr w ↦ ((s.between i l).0, omega (arith, (s.between i l).1, w.1))
          ];
        },
        omega (arith, (s.between axis (omega (arith, s.same, cuts.attribute))).1, get_or-set_same a.hi axis (value - 1) 0 in_hi, cuts.above_least),
      ),
      λ s. record {
        same = s.0.same;
        between = λ i l. elim (set_cases a.hi axis (value - 1) i in_hi) [
          | inl w ↦ ((s.0.between i l).0, omega (arith, s.1, w.1, ap (λ j. get_or p j 0) w.0))
          | inr w ↦ ((s.0.between i l).0, omega (arith, (s.0.between i l).1, w.1))
        ];
      },
    )

pub Holds-side_from : (a : Area) (axis value : ℕ) (p : List ℕ) → Cuts a axis value → Holds (side_from a axis value) p ↔ (Holds a p × (value ≤ get_or p axis 0))
Holds-side_from a axis value p cuts =
    let n = length-set a.lo axis value in (
      λ s. (
        record {
          same = omega (arith, s.same, n);
          between = λ i l. elim (set_cases a.lo axis value i cuts.attribute) [
            | inl w ↦ (omega (arith, (s.between i l).0, w.1, cuts.above_least, ap (λ j. get_or a.lo j 0) w.0), (s.between i l).1)
            | inr w ↦ (omega (arith, (s.between i l).0, w.1), (s.between i l).1)
          ];
        },
        omega (arith, (s.between axis (omega (arith, s.same, n, cuts.attribute))).0, get_or-set_same a.lo axis value 0 cuts.attribute),
      ),
      λ s. record {
        same = omega (arith, s.0.same, n);
        between = λ i l. elim (set_cases a.lo axis value i cuts.attribute) [
          | inl w ↦ (omega (arith, s.1, w.1, ap (λ j. get_or p j 0) w.0), (s.0.between i l).1)
          | inr w ↦ (omega (arith, (s.0.between i l).0, w.1), (s.0.between i l).1)
        ];
      },
    )

pub meets_by_points : (a b : Area) → IsArea a → IsArea b → length a.lo ≡ length b.lo → Meets a b ↔ ((p : List ℕ) × Holds a p × Holds b p)
meets_by_points a b ha hb e = (point_from_meeting a b ha hb e, λ w. Meets-from_point a b w.0 w.1 w.2)

pub disjoint_by_meeting : (a b : Area) → IsArea a → IsArea b → length a.lo ≡ length b.lo → (¬ (Meets a b)) ↔ Disjoint a b
disjoint_by_meeting a b ha hb e = (
  λ apart p in_a in_b. apart (Meets-from_point a b p in_a in_b),
  λ apart m. let w = point_from_meeting a b ha hb e m in apart w.0 w.1 w.2,
)

pub same_from_points : (a b : Area) → IsArea a → IsArea b → ((p : List ℕ) → Holds a p ↔ Holds b p) → a ≡ b
same_from_points a b ha hb points =
    let held = (points a.lo).0 (lo_held a ha) in
    same_from_within a b ha hb held.same
    (Within-from_points a b ha (λ p h. (points p).0 h))
    (Within-from_points b a hb (λ p h. (points p).1 h))

-- every point of a box that a plane parts lies on one side
pub side_cover : (a : Area) (axis value : ℕ) (p : List ℕ) → IsArea a → Cuts a axis value → Holds a p ↔ (Holds (side_below a axis value) p ⊎ Holds (side_from a axis value) p)
side_cover a axis value p h cuts =
    let below = Holds-side_below a axis value p h cuts in
    let from = Holds-side_from a axis value p cuts in (
      λ held. elim (cases_lt (get_or p axis 0) value) [ inl l ↦ inl (below.1 (held, l)) | inr l ↦ inr (from.1 (held, l)) ],
      λ side. elim side [ inl s ↦ (below.0 s).0 | inr s ↦ (from.0 s).0 ],
    )

-- the whole space holds every point of as many attributes
pub Holds-whole_area : (k : ℕ) (p : List ℕ) → IsPoint p → length p ≡ k → Holds (whole_area k) p
Holds-whole_area k p point same = grind (arith, common_steps)

-- what one box holds, a box around it holds
pub Holds-within : (a b : Area) (p : List ℕ) → length a.lo ≡ length b.lo → Within a b → Holds a p → Holds b p
Holds-within a b p e w h = record {
  same = h.same ∙ e;
  between = λ i l.
      let l' : i < length a.lo = omega (arith, h.same) in
      (omega (arith, (w i l').0, (h.between i l).0), omega (arith, (w i l').1, (h.between i l).1));
}

-- a box lies within itself, and boxes meet from both sides
pub Within-self : (a : Area) → Within a a
Within-self a i lt = (omega arith, omega arith)

pub Meets-back : (a b : Area) → length a.lo ≡ length b.lo → Meets a b → Meets b a
Meets-back a b same meets i lt = let one = meets i (omega (arith, same, lt)) in omega (arith, one)
