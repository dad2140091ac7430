-- Points that are compared where they stand, one value after the other.
use Rattle.std.proofs.Common.{◌≡◌, inl, inr, ℕ, zero, suc, ◌+◌, ◌*◌, ◌<◌, ◌≤◌, List, [], ◌∷◌, length, get_or, drop, true, refl, sym, ap, subst, ◌∙◌, arith}
use Rattle.std.proofs.lemmas.Bool.{cases_lt, false≢true}
use Rattle.std.proofs.lemmas.List.{drop_all}
use Rattle.std.specs.Ordering.{is_lt, nat_cmp, ordering_then}
use Rattle.std.specs.declared.cmp.Ordering.{Ordering}
use Rattle.std.specs.declared.cmp.Ordering.TheVariants.{Less, Equal, Greater}
use Rattle.hb_space.specs.Boxes.{Area, Holds}
use Rattle.hb_space.specs.Points.{point_cmp}
use Rattle.hb_view.specs.Corners.{point_there}
use Rattle.hb_view.proofs.Cornered.{point_count}

-- ---- the box

-- the values so far lie between those of the corners
abbrev pub LieBetween : List ℕ → List ℕ → List ℕ → ℕ → Type 0
LieBetween lo hi p n = (i : ℕ) → i < n → (get_or lo i 0 ≤ get_or p i 0) × (get_or p i 0 ≤ get_or hi i 0)

pub one_between : (lo hi p : List ℕ) (i value : ℕ) → LieBetween lo hi p i → value ≡ get_or p i 0 → get_or lo i 0 ≤ value → value ≤ get_or hi i 0 → LieBetween lo hi p (i + 1)
one_between lo hi p i value so_far e above below j lt = elim (cases_lt j i) [
  | inl less ↦ so_far j less
  | inr le ↦ let same : i ≡ j = omega arith in subst (λ (n : ℕ). (get_or lo n 0 ≤ get_or p n 0) × (get_or p n 0 ≤ get_or hi n 0)) same (omega (arith, e, above), omega (arith, e, below))
]

pub box_holds : (k i : ℕ) (area : Area) (lo hi key : List ℕ) → length area.lo ≡ k → 8 * k ≤ length key → lo ≡ area.lo → hi ≡ area.hi → length lo ≤ i → LieBetween lo hi (point_there k key) i → Holds area (point_there k key)
box_holds k i area lo hi key same room el eh le between =
    let many = point_count k key room in
    let length_lo : length lo ≡ length area.lo = ap (λ (l : List ℕ). length l) el in
    let there : LieBetween area.lo area.hi (point_there k key) i =
    subst (λ (l : List ℕ). LieBetween l area.hi (point_there k key) i) el (subst (λ (h : List ℕ). LieBetween lo h (point_there k key) i) eh between) in
    record { same = many ∙ sym same; between = λ j lt. there j (omega (arith, lt, many, same, le, length_lo)) }

-- ---- the order

-- how two points compare, by their values so far, and by those that are left where these are the same
abbrev pub ComparesSoFar : List ℕ → List ℕ → ℕ → Ordering → Type 0
ComparesSoFar p q i order = point_cmp p q ≡ ordering_then order (point_cmp (drop i p) (drop i q))

then_again : (a b c : Ordering) → ordering_then a (ordering_then b c) ≡ ordering_then (ordering_then a b) c
then_again Less b c = refl
then_again Equal b c = refl
then_again Greater b c = refl

by_first : (p q : List ℕ) (i : ℕ) → i < length p → i < length q → point_cmp (drop i p) (drop i q) ≡ ordering_then (nat_cmp (get_or p i 0) (get_or q i 0)) (point_cmp (drop (suc i) p) (drop (suc i) q))
by_first [] q i within inside = absurd (omega arith)
by_first (x ∷ xs) [] i within inside = absurd (omega arith)
by_first (x ∷ xs) (y ∷ ys) zero within inside = refl
by_first (x ∷ xs) (y ∷ ys) (suc i) within inside = by_first xs ys i (omega arith) (omega arith)

pub one_compared : (p q : List ℕ) (i : ℕ) (order by now : Ordering) → i < length p → i < length q → ComparesSoFar p q i order → by ≡ nat_cmp (get_or p i 0) (get_or q i 0) → now ≡ ordering_then order by → ComparesSoFar p q (i + 1) now
one_compared p q i order by now within inside so_far eb en =
    let next : suc i ≡ i + 1 = omega arith in
    so_far ∙ ap (ordering_then order) (by_first p q i within inside) ∙ then_again order (nat_cmp (get_or p i 0) (get_or q i 0)) (point_cmp (drop (suc i) p) (drop (suc i) q))
    ∙ ap (λ (o : Ordering). ordering_then o (point_cmp (drop (suc i) p) (drop (suc i) q))) (ap (ordering_then order) (sym eb) ∙ sym en)
    ∙ ap (λ (n : ℕ). ordering_then now (point_cmp (drop n p) (drop n q))) next

pub all_compared : (p q : List ℕ) (i : ℕ) (order : Ordering) → length p ≤ i → length q ≤ i → ComparesSoFar p q i order → point_cmp p q ≡ order
all_compared p q i order lp lq so_far =
    so_far ∙ ap (λ (l : List ℕ). ordering_then order (point_cmp l (drop i q))) (drop_all i p lp) ∙ ap (λ (l : List ℕ). ordering_then order (point_cmp [] l)) (drop_all i q lq) ∙ done order
  where
    done : (o : Ordering) → ordering_then o Equal ≡ o
    done Less = refl
    done Equal = refl
    done Greater = refl

pub is_less : (o : Ordering) → is_lt o ≡ true → o ≡ Less
is_less Less t = refl
is_less Equal t = absurd (false≢true t)
is_less Greater t = absurd (false≢true t)
