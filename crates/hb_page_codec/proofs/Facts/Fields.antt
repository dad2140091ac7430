-- A field that is read is the field that was spelled, and what was spelled is read again.
use Rattle.std.proofs.Common.{◌≡◌, ℕ, zero, suc, ◌+◌, ◌*◌, ◌^◌, ◌<◌, ◌≤◌, false, cond, ltb, List, [], ◌∷◌, ◌++◌, length, take, drop, All, Option, Some, None, refl, sym, ap, subst, ◌∙◌, append_assoc, arith, inl, inr}
use Rattle.std.specs.List.{flat_map, AllByRecursion}
use Rattle.std.proofs.lemmas.Bool.{cases_lt, ltb-false, le-ltb, lt-ltb, ltb-true}
use Rattle.std.proofs.lemmas.List.{take_at, drop_at, take-append-drop, length-append, length-take, get_or-drop, get_or-take, get_or_past, length-take-le}
use Rattle.std.proofs.lemmas.List.Concat.{flat_map-cons}
use Rattle.std.proofs.lemmas.List.Elements.{All-from_recursion, recursion_from_All, All-from_get_or}
use Rattle.std.proofs.lemmas.Option.{some_pair_parts, same_Some}
use Rattle.std.proofs.lemmas.Nat.{be_bytes_2, be_bytes_4, be_bytes_8}
use Rattle.byteorder.specs.Endian.{big_number}
use Rattle.hb_lemmas.specs.Numbers.{big_endian}
use Rattle.hb_space.specs.Points.{IsBody}
use Rattle.hb_space.specs.Boxes.{Area, IsArea}
use Rattle.hb_space.specs.declared.form.TheConstants.{KMAX, BMAX}
use Rattle.hb_space.specs.declared.records.Record.{Record}
use Rattle.hb_frag.specs.Grammar.{point_bytes, record_bytes, FitsRecord}
use Rattle.hb_page_codec.specs.Reading.{byte_at, number_at, many_at}
use Rattle.hb_page_codec.specs.ReadingFields.{point_at, are_ordered, area_between, area_at, body_at, record_at, count_at, axis_at}
use Rattle.hb_page_codec.proofs.Spelled.{big_number-spelled}
use Rattle.hb_page_codec.proofs.Facts.Ordered.{ordered, ordered_test}
use Rattle.hb_lemmas.proofs.Booleans.{unless_some, when_some}
use Rattle.hb_lemmas.proofs.Numbers.{length_big_endian}
use Rattle.hb_page_codec.specs.Exact.{AreBytes}
use Rattle.hb_lemmas.proofs.Options.{bind_some}
use Rattle.hb_lemmas.specs.Options.{◌>>=◌}

pub AreBytes-drop : (n : ℕ) (bytes : List ℕ) → AreBytes bytes → AreBytes (drop n bytes)
AreBytes-drop n bytes h i = rw get_or-drop (h (n + i))

pub AreBytes-take : (n : ℕ) (bytes : List ℕ) → AreBytes bytes → AreBytes (take n bytes)
AreBytes-take n bytes h i =
    elim (cases_lt i n) [
      | inl lt ↦ rw (get_or-take n bytes i 0 lt) (h i)
      | inr le ↦ rw (get_or_past (take n bytes) i 0 (omega (arith, length-take n bytes))) (omega arith)
    ]

pub AreBytes-rest : (b : ℕ) (bytes : List ℕ) → AreBytes (b ∷ bytes) → AreBytes bytes
AreBytes-rest b bytes h i = h (suc i)

-- what was read from the front
pub record Takes (bytes text rest : List ℕ) : Type 0 where
  pub parts : bytes ≡ text ++ rest
  pub rest_fits : AreBytes rest

pub Takes-then : (a x b y c : List ℕ) → Takes a x b → Takes b y c → Takes a (x ++ y) c
Takes-then a x b y c p q = record { parts = p.parts ∙ ap (λ (t : List ℕ). x ++ t) q.parts ∙ sym (append_assoc x y c); rest_fits = q.rest_fits }

pub Takes-byte : (b : ℕ) (bytes text rest : List ℕ) → Takes bytes text rest → Takes (b ∷ bytes) (b ∷ text) rest
Takes-byte b bytes text rest t = record { parts = ap (λ (xs : List ℕ). b ∷ xs) t.parts; rest_fits = t.rest_fits }

-- ---- a byte

pub byte_takes : (bytes : List ℕ) (x : ℕ × List ℕ) → AreBytes bytes → byte_at bytes ≡ Some x → Takes bytes (x.0 ∷ []) x.1 × (x.0 < 256)
byte_takes [] x fits e = absurd cc
byte_takes (b ∷ rest) x fits e =
    subst (λ (y : ℕ × List ℕ). Takes (b ∷ rest) (y.0 ∷ []) y.1 × (y.0 < 256)) (same_Some (b, rest) x e) (record { parts = refl; rest_fits = AreBytes-rest b rest fits }, fits 0)

-- ---- numbers

pub record IsWide (width limit : ℕ) : Type 0 where
  pub whole : 256 ^ width ≡ limit
  pub back : (bytes : List ℕ) → length bytes ≡ width → AreBytes bytes → big_endian width (big_number width bytes) ≡ bytes
  pub below : (bytes : List ℕ) → AreBytes bytes → big_number width bytes < limit

pub wide_2 : IsWide 2 (2 ^ 16)
unfolding big_endian
wide_2 = record {
  whole = refl;
  back = λ bytes len fits. be_bytes_2 bytes _ len fits (omega arith);
  below = λ bytes fits. omega (arith, fits 0, fits 1);
}

pub wide_4 : IsWide 4 (2 ^ 32)
unfolding big_endian
wide_4 = record {
  whole = refl;
  back = λ bytes len fits. be_bytes_4 bytes _ len fits (omega arith);
  below = λ bytes fits. omega (arith, fits 0, fits 1, fits 2, fits 3);
}

pub wide_8 : IsWide 8 (2 ^ 64)
unfolding big_endian
wide_8 = record {
  whole = refl;
  back = λ bytes len fits. be_bytes_8 bytes _ len fits (omega arith);
  below = λ bytes fits. omega (arith, fits 0, fits 1, fits 2, fits 3, fits 4, fits 5, fits 6, fits 7);
}

-- a number reads no byte behind it
front_alone : (width limit : ℕ) → IsWide width limit → (bytes : List ℕ) → width ≤ length bytes → AreBytes bytes → big_number width bytes ≡ big_number width (take width bytes)
front_alone width limit wide bytes le fits =
    let front = take width bytes in
    let n = big_number width front in
    let back = wide.back front (length-take-le width bytes le) (AreBytes-take width bytes fits) in
    let small : n < 256 ^ width = rw wide.whole (wide.below front (AreBytes-take width bytes fits)) in
    ap (big_number width) (sym (take-append-drop width bytes) ∙ ap (λ (x : List ℕ). x ++ drop width bytes) (sym back)) ∙ big_number-spelled width n (drop width bytes) small

pub number_takes : (width limit : ℕ) → IsWide width limit → (bytes : List ℕ) (x : ℕ × List ℕ) → AreBytes bytes → number_at width bytes ≡ Some x → Takes bytes (big_endian width x.0) x.1 × (x.0 < limit)
number_takes width limit wide bytes x fits e =
    let g = unless_some (ltb (length bytes) width) (Some (big_number width bytes, drop width bytes)) x e in
    let le : width ≤ length bytes = ltb-false _ _ g.0 in
    let alone = front_alone width limit wide bytes le fits in
    let spelled : big_endian width (big_number width bytes) ≡ take width bytes = ap (big_endian width) alone ∙ wide.back (take width bytes) (length-take-le width bytes le) (AreBytes-take width bytes fits) in
    let parts : bytes ≡ big_endian width (big_number width bytes) ++ drop width bytes = sym (take-append-drop width bytes) ∙ ap (λ (t : List ℕ). t ++ drop width bytes) (sym spelled) in
    subst (λ (y : ℕ × List ℕ). Takes bytes (big_endian width y.0) y.1 × (y.0 < limit)) (same_Some (big_number width bytes, drop width bytes) x g.1) (record { parts = parts; rest_fits = AreBytes-drop width bytes fits }, wide.below bytes fits)

pub number_again : (width limit : ℕ) → IsWide width limit → (n : ℕ) (rest : List ℕ) → n < limit → number_at width (big_endian width n ++ rest) ≡ Some (n, rest)
number_again width limit wide n rest lt =
    let small : n < 256 ^ width = rw wide.whole lt in
    let long : ltb (length (big_endian width n ++ rest)) width ≡ false = le-ltb _ _ (omega (arith, length-append (big_endian width n) rest, length_big_endian width n)) in
    rw (long, big_number-spelled width n rest small, drop_at (big_endian width n) rest width (length_big_endian width n)) refl

-- ---- one thing after the other

pub many_take : {A : Type 0} (read : List ℕ → Option (A × List ℕ)) (spell : A → List ℕ) (fit : A → Type 0)
    → ((bytes : List ℕ) (x : A × List ℕ) → AreBytes bytes → read bytes ≡ Some x → Takes bytes (spell x.0) x.1 × fit x.0)
    → (n : ℕ) (bytes : List ℕ) (x : List A × List ℕ) → AreBytes bytes → many_at read n bytes ≡ Some x → Takes bytes (flat_map spell x.0) x.1 × (length x.0 ≡ n) × AllByRecursion fit x.0
unfolding many_at
many_take {A = A} read spell fit each zero bytes x fits e =
    subst (λ (y : List A × List ℕ). Takes bytes (flat_map spell y.0) y.1 × (length y.0 ≡ 0) × AllByRecursion fit y.0) (same_Some ([], bytes) x e) (record { parts = refl; rest_fits = fits }, refl, tt)
many_take {A = A} read spell fit each (suc n) bytes x fits e =
    let a = bind_some (read bytes) (λ first. many_at read n first.1 >>= λ others. Some (first.0 ∷ others.0, others.1)) x e in
    let b = bind_some (many_at read n a.0.1) (λ others. Some (a.0.0 ∷ others.0, others.1)) x a.2 in
    let first = each bytes a.0 fits a.1 in
    let second = many_take read spell fit each n a.0.1 b.0 first.0.rest_fits b.1 in
    let both = Takes-then bytes (spell a.0.0) a.0.1 (flat_map spell b.0.0) b.0.1 first.0 second.0 in
    let made : List A × List ℕ = (a.0.0 ∷ b.0.0, b.0.1) in
    subst (λ (y : List A × List ℕ). Takes bytes (flat_map spell y.0) y.1 × (length y.0 ≡ suc n) × AllByRecursion fit y.0) (same_Some made x b.2) (rw flat_map-cons both, ap suc second.1, (first.1, second.2))

pub many_again : {A : Type 0} (read : List ℕ → Option (A × List ℕ)) (spell : A → List ℕ) (fit : A → Type 0)
    → ((x : A) (rest : List ℕ) → fit x → read (spell x ++ rest) ≡ Some (x, rest))
    → (xs : List A) (rest : List ℕ) → AllByRecursion fit xs → many_at read (length xs) (flat_map spell xs ++ rest) ≡ Some (xs, rest)
unfolding many_at
many_again read spell fit each [] rest fits = refl
many_again read spell fit each (x ∷ xs) rest fits =
    let regrouped : flat_map spell (x ∷ xs) ++ rest ≡ spell x ++ (flat_map spell xs ++ rest) = ap (λ (t : List ℕ). t ++ rest) (flat_map-cons spell x xs) ∙ append_assoc (spell x) (flat_map spell xs) rest in
    ap (many_at read (suc (length xs))) regrouped ∙ rw (each x (flat_map spell xs ++ rest) fits.0, many_again read spell fit each xs rest fits.1) refl

-- ---- points

abbrev IsValue : ℕ → Type 0
IsValue x = x < 2 ^ 64

pub point_takes : (k : ℕ) (bytes : List ℕ) (x : List ℕ × List ℕ) → AreBytes bytes → point_at k bytes ≡ Some x → Takes bytes (point_bytes x.0) x.1 × (length x.0 ≡ k) × All IsValue x.0
point_takes k bytes x fits e =
    let h = many_take (number_at 8) (big_endian 8) IsValue (λ bs y f r. number_takes 8 (2 ^ 64) wide_8 bs y f r) k bytes x fits e in
    (h.0, h.1, All-from_recursion IsValue x.0 h.2)

pub point_again : (point rest : List ℕ) → All IsValue point → point_at (length point) (point_bytes point ++ rest) ≡ Some (point, rest)
point_again point rest fits = many_again (number_at 8) (big_endian 8) IsValue (λ n more lt. number_again 8 (2 ^ 64) wide_8 n more lt) point rest (recursion_from_All IsValue point fits)

-- ---- boxes

pub area_takes : (k : ℕ) (bytes : List ℕ) (x : Area × List ℕ) → 0 < k → k ≤ KMAX → AreBytes bytes → area_at k bytes ≡ Some x → Takes bytes (point_bytes x.0.lo ++ point_bytes x.0.hi) x.1 × (length x.0.lo ≡ k) × IsArea x.0
unfolding area_at
area_takes k bytes x some few fits e =
    let a = bind_some (point_at k bytes) (λ lo. point_at k lo.1 >>= λ hi. area_between lo.0 hi.0 >>= λ area. Some (area, hi.1)) x e in
    let b = bind_some (point_at k a.0.1) (λ hi. area_between a.0.0 hi.0 >>= λ area. Some (area, hi.1)) x a.2 in
    let c = bind_some (area_between a.0.0 b.0.0) (λ area. Some (area, b.0.1)) x b.2 in
    let made : Area = record { lo = a.0.0; hi = b.0.0 } in
    let g = when_some (are_ordered a.0.0 b.0.0) (Some made) c.0 c.1 in
    let lo = point_takes k bytes a.0 fits a.1 in
    let hi = point_takes k a.0.1 b.0 lo.0.rest_fits b.1 in
    let same : length a.0.0 ≡ length b.0.0 = lo.1 ∙ sym hi.1 in
    let is_area : IsArea made = record {
      lo_point = record { some = omega (arith, lo.1); few = omega (arith, lo.1); fits = lo.2 };
      hi_point = record { some = omega (arith, hi.1); few = omega (arith, hi.1); fits = hi.2 };
      same = same;
      ordered = ordered a.0.0 b.0.0 same g.0;
    } in
    let parts = some_pair_parts c.0 x.0 b.0.1 x.1 c.2 in
    let whole : made ≡ x.0 = subst (λ (z : Area). made ≡ z) parts.0 (same_Some made c.0 g.1) in
    let rest : b.0.1 ≡ x.1 = parts.1 in
    let all : (y : Area) (r : List ℕ) → made ≡ y → b.0.1 ≡ r → Takes bytes (point_bytes y.lo ++ point_bytes y.hi) r × (length y.lo ≡ k) × IsArea y = λ y r p q.
    subst (λ (z : Area). Takes bytes (point_bytes z.lo ++ point_bytes z.hi) r × (length z.lo ≡ k) × IsArea z) p
    (subst (λ (s : List ℕ). Takes bytes (point_bytes a.0.0 ++ point_bytes b.0.0) s) q (Takes-then bytes (point_bytes a.0.0) a.0.1 (point_bytes b.0.0) b.0.1 lo.0 hi.0), lo.1, is_area) in
    all x.0 x.1 whole rest

pub area_again : (area : Area) (rest : List ℕ) → IsArea area → area_at (length area.lo) (point_bytes area.lo ++ point_bytes area.hi ++ rest) ≡ Some (area, rest)
unfolding area_at
area_again area rest fits =
    let regrouped : point_bytes area.lo ++ point_bytes area.hi ++ rest ≡ point_bytes area.lo ++ (point_bytes area.hi ++ rest) = append_assoc (point_bytes area.lo) (point_bytes area.hi) rest in
    let hi : point_at (length area.lo) (point_bytes area.hi ++ rest) ≡ Some (area.hi, rest) = ap (λ (n : ℕ). point_at n (point_bytes area.hi ++ rest)) fits.same ∙ point_again area.hi rest fits.hi_point.fits in
    ap (area_at (length area.lo)) regrouped
    ∙ rw (point_again area.lo (point_bytes area.hi ++ rest) fits.lo_point.fits, hi, ordered_test area.lo area.hi fits.same fits.ordered) refl

-- ---- bodies and records

pub body_takes : (bytes : List ℕ) (x : List ℕ × List ℕ) → AreBytes bytes → body_at bytes ≡ Some x → Takes bytes (length x.0 ∷ x.0) x.1 × IsBody x.0
unfolding body_at
body_takes bytes x fits e =
    let a = bind_some (byte_at bytes) (λ count. cond (ltb BMAX count.0) None (cond (ltb (length count.1) count.0) None (Some (take count.0 count.1, drop count.0 count.1)))) x e in
    let n = a.0.0 in
    let rest = a.0.1 in
    let g = unless_some (ltb BMAX n) (cond (ltb (length rest) n) None (Some (take n rest, drop n rest))) x a.2 in
    let h = unless_some (ltb (length rest) n) (Some (take n rest, drop n rest)) x g.1 in
    let count = byte_takes bytes a.0 fits a.1 in
    let few : n ≤ BMAX = ltb-false _ _ g.0 in
    let room : n ≤ length rest = ltb-false _ _ h.0 in
    let len : length (take n rest) ≡ n = length-take-le n rest room in
    let body_fits = AreBytes-take n rest count.0.rest_fits in
    let second : Takes rest (take n rest) (drop n rest) = record { parts = sym (take-append-drop n rest); rest_fits = AreBytes-drop n rest count.0.rest_fits } in
    let both = Takes-then bytes (n ∷ []) rest (take n rest) (drop n rest) count.0 second in
    let whole : Takes bytes (length (take n rest) ∷ take n rest) (drop n rest) = rw len both in
    let is_body : IsBody (take n rest) = record { few = omega (arith, len, few); fits = All-from_get_or (λ b. b < 2 ^ 8) (take n rest) 0 (λ i lt. body_fits i) } in
    subst (λ (y : List ℕ × List ℕ). Takes bytes (length y.0 ∷ y.0) y.1 × IsBody y.0) (same_Some (take n rest, drop n rest) x h.1) (whole, is_body)

pub body_again : (body rest : List ℕ) → IsBody body → body_at (length body ∷ body ++ rest) ≡ Some (body, rest)
unfolding body_at
body_again body rest fits =
    let few : ltb BMAX (length body) ≡ false = le-ltb _ _ fits.few in
    let room : ltb (length (body ++ rest)) (length body) ≡ false = le-ltb _ _ (omega (arith, length-append body rest)) in
    rw (few, room, take_at body rest (length body) refl, drop_at body rest (length body) refl) refl

pub record_takes : (k : ℕ) (bytes : List ℕ) (x : Record × List ℕ) → AreBytes bytes → record_at k bytes ≡ Some x → Takes bytes (record_bytes x.0) x.1 × FitsRecord k x.0
unfolding record_at
record_takes k bytes x fits e =
    let a = bind_some (point_at k bytes) (λ key. body_at key.1 >>= λ body. Some (record { key = key.0; body = body.0 }, body.1)) x e in
    let b = bind_some (body_at a.0.1) (λ body. Some (record { key = a.0.0; body = body.0 }, body.1)) x a.2 in
    let key = point_takes k bytes a.0 fits a.1 in
    let body = body_takes a.0.1 b.0 key.0.rest_fits b.1 in
    let made : Record × List ℕ = (record { key = a.0.0; body = b.0.0 }, b.0.1) in
    let both = Takes-then bytes (point_bytes a.0.0) a.0.1 (length b.0.0 ∷ b.0.0) b.0.1 key.0 body.0 in
    subst (λ (y : Record × List ℕ). Takes bytes (record_bytes y.0) y.1 × FitsRecord k y.0) (same_Some made x b.2) (both, record { attributes = key.1; values = key.2; body = body.1 })

pub record_again : (k : ℕ) (r : Record) (rest : List ℕ) → FitsRecord k r → record_at k (record_bytes r ++ rest) ≡ Some (r, rest)
unfolding record_at
record_again k r rest fits =
    let regrouped : record_bytes r ++ rest ≡ point_bytes r.key ++ (length r.body ∷ r.body ++ rest) = append_assoc (point_bytes r.key) (length r.body ∷ r.body) rest in
    let key : point_at k (point_bytes r.key ++ (length r.body ∷ r.body ++ rest)) ≡ Some (r.key, length r.body ∷ r.body ++ rest) = ap (λ (n : ℕ). point_at n (point_bytes r.key ++ (length r.body ∷ r.body ++ rest))) (sym fits.attributes) ∙ point_again r.key (length r.body ∷ r.body ++ rest) fits.values in
    ap (record_at k) regrouped ∙ rw (key, body_again r.body rest fits.body) refl

-- ---- the count of records, and the attribute of a cut

pub count_takes : (k : ℕ) (bytes : List ℕ) (x : ℕ × List ℕ) → AreBytes bytes → count_at k bytes ≡ Some x → Takes bytes (big_endian 2 x.0) x.1 × (x.0 < 2 ^ 16)
unfolding count_at
count_takes k bytes x fits e =
    let a = bind_some (number_at 2 bytes) (λ count. cond (ltb (length count.1) (count.0 * (8 * k + 1))) None (Some count)) x e in
    let g = unless_some (ltb (length a.0.1) (a.0.0 * (8 * k + 1))) (Some a.0) x a.2 in
    subst (λ (y : ℕ × List ℕ). Takes bytes (big_endian 2 y.0) y.1 × (y.0 < 2 ^ 16)) (same_Some a.0 x g.1) (number_takes 2 (2 ^ 16) wide_2 bytes a.0 fits a.1)

pub length_point : (point : List ℕ) → length (point_bytes point) ≡ 8 * length point
length_point [] = refl
length_point (x ∷ xs) = ap length (flat_map-cons (big_endian 8) x xs) ∙ length-append (big_endian 8 x) (point_bytes xs) ∙ omega (arith, length_big_endian 8 x, length_point xs)

pub length_record : (k : ℕ) (r : Record) → FitsRecord k r → length (record_bytes r) ≡ 8 * k + 1 + length r.body
length_record k r fits = length-append (point_bytes r.key) (length r.body ∷ r.body) ∙ omega (arith, length_point r.key, fits.attributes)

-- records have room
pub records_room : (k : ℕ) (rs : List Record) → AllByRecursion (FitsRecord k) rs → length rs * (8 * k + 1) ≤ length (flat_map record_bytes rs)
records_room k [] fits = omega arith
records_room k (r ∷ rs) fits =
    let step : length (flat_map record_bytes (r ∷ rs)) ≡ length (record_bytes r) + length (flat_map record_bytes rs) = ap length (flat_map-cons record_bytes r rs) ∙ length-append (record_bytes r) (flat_map record_bytes rs) in
    let more = records_room k rs fits.1 in
    let one = length_record k r fits.0 in
    omega (arith, step, more, one)

pub count_again : (k : ℕ) (n : ℕ) (rest : List ℕ) → n < 2 ^ 16 → n * (8 * k + 1) ≤ length rest → count_at k (big_endian 2 n ++ rest) ≡ Some (n, rest)
unfolding count_at
count_again k n rest lt room = rw (number_again 2 (2 ^ 16) wide_2 n rest lt, le-ltb (length rest) (n * (8 * k + 1)) room) refl

pub axis_takes : (k : ℕ) (bytes : List ℕ) (x : ℕ × List ℕ) → AreBytes bytes → axis_at k bytes ≡ Some x → Takes bytes (x.0 ∷ []) x.1 × (x.0 < k)
unfolding axis_at
axis_takes k bytes x fits e =
    let a = bind_some (byte_at bytes) (λ axis. cond (ltb axis.0 k) (Some axis) None) x e in
    let g = when_some (ltb a.0.0 k) (Some a.0) x a.2 in
    subst (λ (y : ℕ × List ℕ). Takes bytes (y.0 ∷ []) y.1 × (y.0 < k)) (same_Some a.0 x g.1) ((byte_takes bytes a.0 fits a.1).0, ltb-true _ _ g.0)

pub axis_again : (k axis : ℕ) (rest : List ℕ) → axis < k → axis_at k (axis ∷ rest) ≡ Some (axis, rest)
unfolding axis_at
axis_again k axis rest lt = rw (lt-ltb axis k lt) refl
