-- Where the values of a point stand in its bytes.
use Rattle.std.proofs.Common.{◌≡◌, ℕ, zero, suc, ◌+◌, ◌*◌, ◌<◌, ◌≤◌, Bool, true, false, List, [], ◌∷◌, ◌++◌, length, get_or, take, drop, Option, Some, None, inl, inr, refl, sym, ap, subst, ◌∙◌, arith}
use Rattle.std.proofs.Math.Seq.{take-suc}
use Rattle.std.specs.Ordering.{is_ne, nat_cmp, ordering_then}
use Rattle.std.specs.declared.cmp.Ordering.{Ordering}
use Rattle.std.specs.declared.cmp.Ordering.TheVariants.{Less, Equal, Greater}
use Rattle.std.proofs.lemmas.Bool.{cases_lt, cases_Bool, false≢true, le-ltb}
use Rattle.std.proofs.lemmas.Cmp.{nat_cmp_total, nat_list_cmp_total, tied_itself}
use Rattle.std.proofs.lemmas.List.{drop-drop, length-drop, take_all, ext_get_or}
use Rattle.std.proofs.lemmas.Option.{same_Some}
use Rattle.byteorder.specs.Endian.{big_number}
use Rattle.hb_space.specs.Points.{point_cmp}
use Rattle.hb_space.specs.Boxes.{Area}
use Rattle.hb_page_codec.specs.Reading.{number_at, many_at}
use Rattle.hb_page_codec.specs.ReadingFields.{point_at, area_at, area_between, are_ordered}
use Rattle.hb_page_codec.proofs.Facts.Ordered.{ordered, ordered_test}
use Rattle.hb_lemmas.proofs.Booleans.{when_some}
use Rattle.hb_view.specs.Behind.{behind, list_or}
use Rattle.hb_view.specs.Corners.{point_there, corners_there}
use Rattle.hb_view.proofs.Skipped.{point_long, point_short}
use Rattle.hb_view.proofs.Walked.{many_counted}
use Rattle.hb_lemmas.proofs.Options.{bind_some}
use Rattle.hb_lemmas.specs.Options.{◌>>=◌}

-- ---- a point where there is room

pub point_is : (k : ℕ) (bytes : List ℕ) → 8 * k ≤ length bytes → point_at k bytes ≡ Some (point_there k bytes, drop (8 * k) bytes)
point_is k bytes room = read (point_at k bytes) (point_long k bytes room)
  where
    read : (o : Option (List ℕ × List ℕ)) → behind o ≡ Some (drop (8 * k) bytes) → o ≡ Some (list_or o, drop (8 * k) bytes)
    read None e = absurd cc
    read (Some x) e = ap (λ (b : List ℕ). Some (x.0, b)) (same_Some x.1 (drop (8 * k) bytes) e)

pub point_count : (k : ℕ) (bytes : List ℕ) → 8 * k ≤ length bytes → length (point_there k bytes) ≡ k
point_count k bytes room = many_counted (number_at 8) k bytes (point_there k bytes, drop (8 * k) bytes) (point_is k bytes room)

-- a point is its first value and the others
point_first : (k : ℕ) (bytes : List ℕ) → 8 * suc k ≤ length bytes → point_there (suc k) bytes ≡ big_number 8 bytes ∷ point_there k (drop 8 bytes)
unfolding many_at
point_first k bytes room =
    let others = point_is k (drop 8 bytes) (omega (arith, length-drop 8 bytes)) in
    rw (le-ltb (length bytes) 8 (omega arith), others) refl

pub value_is : (k i : ℕ) (bytes : List ℕ) → i < k → 8 * k ≤ length bytes → number_at 8 (drop (8 * i) bytes) ≡ Some (get_or (point_there k bytes) i 0, drop 8 (drop (8 * i) bytes))
value_is zero i bytes lt room = absurd (omega arith)
value_is (suc k) zero bytes lt room = rw (le-ltb (length bytes) 8 (omega arith), point_first k bytes room) refl
value_is (suc k) (suc i) bytes lt room =
    let there : drop (8 * i) (drop 8 bytes) ≡ drop (8 * suc i) bytes = drop-drop (8 * i) 8 bytes ∙ ap (λ n. drop n bytes) (let e : 8 + 8 * i ≡ 8 * suc i = omega arith in e) in
    let next = value_is k i (drop 8 bytes) (omega arith) (omega (arith, length-drop 8 bytes)) in
    rw (← there, point_first k bytes room) next

pub is_value : (k i n : ℕ) (bytes from rest : List ℕ) → i < k → 8 * k ≤ length bytes → from ≡ drop (8 * i) bytes → number_at 8 from ≡ Some (n, rest) → n ≡ get_or (point_there k bytes) i 0
is_value k i n bytes from rest lt room ef e =
    let value = get_or (point_there k bytes) i 0 in
    let behind_it = drop 8 (drop (8 * i) bytes) in
    ap (λ (x : ℕ × List ℕ). x.0) (same_Some (n, rest) (value, behind_it) (sym e ∙ ap (number_at 8) ef ∙ value_is k i bytes lt room))

pub has_value_there : (k i : ℕ) (bytes from : List ℕ) → i < k → 8 * k ≤ length bytes → from ≡ drop (8 * i) bytes → number_at 8 from ≡ None → ⊥
has_value_there k i bytes from lt room ef none =
    let never : None ≡ Some (get_or (point_there k bytes) i 0, drop 8 (drop (8 * i) bytes)) = sym none ∙ ap (number_at 8) ef ∙ value_is k i bytes lt room in
    cc never

-- ---- its values, one after the other

pub one_more : (k i value : ℕ) (bytes : List ℕ) → i < k → 8 * k ≤ length bytes → value ≡ get_or (point_there k bytes) i 0 → take i (point_there k bytes) ++ value ∷ [] ≡ take (i + 1) (point_there k bytes)
one_more k i value bytes lt room e =
    let n : suc i ≡ i + 1 = omega arith in
    ap (λ v. take i (point_there k bytes) ++ v ∷ []) e ∙ sym (take-suc (point_there k bytes) i 0 (omega (arith, point_count k bytes room))) ∙ ap (λ m. take m (point_there k bytes)) n

pub all_taken : (k i : ℕ) (bytes : List ℕ) → k ≤ i → 8 * k ≤ length bytes → take i (point_there k bytes) ≡ point_there k bytes
all_taken k i bytes le room = take_all i (point_there k bytes) (omega (arith, point_count k bytes room))

pub same_values : (k i : ℕ) (bytes p : List ℕ) → length p ≡ k → 8 * k ≤ length bytes → length p ≤ i → ((j : ℕ) → j < i → get_or (point_there k bytes) j 0 ≡ get_or p j 0) → point_there k bytes ≡ p
same_values k i bytes p long room le same = ext_get_or 0 (point_there k bytes) p (point_count k bytes room ∙ sym long) (λ j lt. same j (omega (arith, lt, point_count k bytes room)))

-- the first value that differs decides how two points compare
pub differs_first : (x p : List ℕ) (i : ℕ) (o : Ordering) → i < length x → i < length p → ((j : ℕ) → j < i → get_or x j 0 ≡ get_or p j 0) → o ≡ nat_cmp (get_or x i 0) (get_or p i 0) → is_ne o ≡ true → o ≡ point_cmp x p
differs_first [] p i o inside within same e ne = absurd (omega arith)
differs_first (a ∷ xs) [] i o inside within same e ne = absurd (omega arith)
differs_first (a ∷ xs) (b ∷ ps) zero o inside within same e ne = decides o ne ∙ ap (λ (q : Ordering). ordering_then q (point_cmp xs ps)) e
  where
    decides : (o : Ordering) → is_ne o ≡ true → o ≡ ordering_then o (point_cmp xs ps)
    decides Less h = refl
    decides Equal h = absurd (false≢true h)
    decides Greater h = refl
differs_first (a ∷ xs) (b ∷ ps) (suc i) o inside within same e ne =
    let first : nat_cmp a b ≡ Equal = ap (λ (n : ℕ). nat_cmp n b) (same 0 (omega arith)) ∙ tied_itself nat_cmp_total b in
    differs_first xs ps i o (omega arith) (omega arith) (λ j less. same (suc j) (omega arith)) e ne ∙ sym (ap (λ (q : Ordering). ordering_then q (point_cmp xs ps)) first)

-- and where none does, they are one
pub same_compare : (x p : List ℕ) → x ≡ p → Equal ≡ point_cmp x p
same_compare x p e = sym (ap (λ (y : List ℕ). point_cmp y p) e ∙ tied_itself nat_list_cmp_total p)

-- ---- two points in order

pub are_in_order : (k i : ℕ) (lo hi : List ℕ) → 8 * k ≤ length lo → 8 * k ≤ length hi → k ≤ i → ((j : ℕ) → j < i → get_or (point_there k lo) j 0 ≤ get_or (point_there k hi) j 0) → are_ordered (point_there k lo) (point_there k hi) ≡ true
are_in_order k i lo hi rl rh le each =
    let cl = point_count k lo rl in
    ordered_test (point_there k lo) (point_there k hi) (cl ∙ sym (point_count k hi rh)) (λ j lt. each j (omega (arith, lt, cl)))

pub arent_in_order : (k i : ℕ) (lo hi : List ℕ) → 8 * k ≤ length lo → 8 * k ≤ length hi → i < k → get_or (point_there k hi) i 0 < get_or (point_there k lo) i 0 → are_ordered (point_there k lo) (point_there k hi) ≡ false
arent_in_order k i lo hi rl rh lt above =
    let cl = point_count k lo rl in
    elim (cases_Bool (are_ordered (point_there k lo) (point_there k hi))) [
      | inl t ↦ absurd (omega (arith, above, ordered (point_there k lo) (point_there k hi) (cl ∙ sym (point_count k hi rh)) t i (omega (arith, lt, cl))))
      | inr f ↦ f
    ]

-- ---- boxes

-- a box whose corners are read
pub box_read : (k : ℕ) (bytes lo hi middle rest : List ℕ) (b : Bool) → point_at k bytes ≡ Some (lo, middle) → point_at k middle ≡ Some (hi, rest) → b ≡ are_ordered lo hi → b ≡ true → area_at k bytes ≡ Some (record { lo = lo; hi = hi }, rest)
unfolding area_at
box_read k bytes lo hi middle rest b el eh test t = rw (el, eh, sym test ∙ t) refl

pub box_behind : (k : ℕ) (bytes lo hi middle rest : List ℕ) (b : Bool) → point_at k bytes ≡ Some (lo, middle) → point_at k middle ≡ Some (hi, rest) → b ≡ are_ordered lo hi → b ≡ true → behind (area_at k bytes) ≡ Some rest
box_behind k bytes lo hi middle rest b el eh test t = ap (λ (o : Option (Area × List ℕ)). behind o) (box_read k bytes lo hi middle rest b el eh test t)

pub box_disordered : (k : ℕ) (bytes lo hi middle rest : List ℕ) (b : Bool) → point_at k bytes ≡ Some (lo, middle) → point_at k middle ≡ Some (hi, rest) → b ≡ are_ordered lo hi → b ≡ false → behind (area_at k bytes) ≡ None
unfolding area_at
box_disordered k bytes lo hi middle rest b el eh test f = rw (el, eh, sym test ∙ f) refl

pub box_without_hi : (k : ℕ) (bytes lo middle : List ℕ) → point_at k bytes ≡ Some (lo, middle) → point_at k middle ≡ None → behind (area_at k bytes) ≡ None
unfolding area_at
box_without_hi k bytes lo middle el eh = rw (el, eh) refl

pub box_without_lo : (k : ℕ) (bytes : List ℕ) → point_at k bytes ≡ None → behind (area_at k bytes) ≡ None
unfolding area_at
box_without_lo k bytes el = rw el refl

-- what a box that was read says of its corners
pub record HasCorners (k : ℕ) (bytes : List ℕ) (area : Area) : Type 0 where
  pub room : 16 * k ≤ length bytes
  pub corners : corners_there k bytes ≡ area

point_room : (k : ℕ) (bytes : List ℕ) (x : List ℕ × List ℕ) → point_at k bytes ≡ Some x → 8 * k ≤ length bytes
point_room k bytes x e = elim (cases_lt (length bytes) (8 * k)) [
  | inl short ↦ let never : None ≡ Some x = sym (point_short k bytes short) ∙ e in absurd (let no_way : ⊥ = cc never in no_way)
  | inr le ↦ le
]

pub point_shorter : (k : ℕ) (bytes : List ℕ) (x : List ℕ × List ℕ) → point_at k bytes ≡ Some x → length x.1 ≤ length bytes
point_shorter k bytes x e =
    let read = same_Some x (point_there k bytes, drop (8 * k) bytes) (sym e ∙ point_is k bytes (point_room k bytes x e)) in
    let behind : length x.1 ≡ length (drop (8 * k) bytes) = ap (λ (y : List ℕ × List ℕ). length y.1) read in
    omega (arith, behind, length-drop (8 * k) bytes)

corners_of : (k : ℕ) (bytes : List ℕ) (x y : List ℕ × List ℕ) → point_at k bytes ≡ Some x → point_at k x.1 ≡ Some y → HasCorners k bytes (record { lo = x.0; hi = y.0 })
corners_of k bytes x y ex ey =
    let room = point_room k bytes x ex in
    let first : x ≡ (point_there k bytes, drop (8 * k) bytes) = same_Some x (point_there k bytes, drop (8 * k) bytes) (sym ex ∙ point_is k bytes room) in
    let middle : x.1 ≡ drop (8 * k) bytes = ap (λ (z : List ℕ × List ℕ). z.1) first in
    let second : point_at k (drop (8 * k) bytes) ≡ Some y = ap (point_at k) (sym middle) ∙ ey in
    let more = point_room k (drop (8 * k) bytes) y second in
    let make : List ℕ → Area = λ l. record { lo = l; hi = point_there k (drop (8 * k) bytes) } in
    let last : List ℕ → Area = λ h. record { lo = x.0; hi = h } in
    record {
      room = omega (arith, more, room, length-drop (8 * k) bytes);
      corners = ap make (ap list_or ex) ∙ ap last (ap list_or second);
    }

pub has_corners : (k : ℕ) (bytes : List ℕ) (x : Area × List ℕ) → area_at k bytes ≡ Some x → HasCorners k bytes x.0
unfolding area_at
has_corners k bytes x e =
    let a = bind_some (point_at k bytes) (λ lo. point_at k lo.1 >>= λ hi. area_between lo.0 hi.0 >>= λ area. Some (area, hi.1)) x e in
    let b = bind_some (point_at k a.0.1) (λ hi. area_between a.0.0 hi.0 >>= λ area. Some (area, hi.1)) x a.2 in
    let d = bind_some (area_between a.0.0 b.0.0) (λ area. Some (area, b.0.1)) x b.2 in
    made a.0 b.0 d.0 (corners_of k bytes a.0 b.0 a.1 b.1) d.1 d.2
  where
    made : (u v : List ℕ × List ℕ) (area : Area) → HasCorners k bytes (record { lo = u.0; hi = v.0 }) → area_between u.0 v.0 ≡ Some area → ◌≡◌ {A = Option (Area × List ℕ)} (Some (area, v.1)) (Some x) → HasCorners k bytes x.0
    made u v area has between e =
        let box : Area = record { lo = u.0; hi = v.0 } in
        let same : box ≡ area = same_Some box area (when_some (are_ordered u.0 v.0) (Some box) area between).1 in
        let whole : area ≡ x.0 = ap (λ (z : Area × List ℕ). z.0) (same_Some (area, v.1) x e) in
        subst (HasCorners k bytes) (same ∙ whole) has

-- ---- a point that is read, and one for which there is no room

pub is_read : (k n : ℕ) (bytes from : List ℕ) → n ≡ k → 8 * n ≤ length bytes → from ≡ drop (8 * n) bytes → point_at k bytes ≡ Some (point_there k bytes, from)
is_read k n bytes from e room ef = point_is k bytes (omega (arith, e, room)) ∙ ap (λ (b : List ℕ). Some (point_there k bytes, b)) (sym (ef ∙ ap (λ m. drop (8 * m) bytes) e))

pub isnt_read : (k n : ℕ) (bytes : List ℕ) → n ≡ k → length bytes < 8 * n → point_at k bytes ≡ None
isnt_read k n bytes e lt = point_short k bytes (omega (arith, e, lt))
