-- Where each plane leaves few records on one of its sides, nearly all records have one value in each attribute. Points
-- are distinct, so there are few records then.
use Rattle.std.proofs.Common.{◌≡◌, ℕ, zero, suc, ◌+◌, ◌*◌, ◌<◌, ◌≤◌, ◌==◌, ◌⊎◌, inl, inr, Bool, true, false, cond, not, ◌||◌, nat_lt, List, [], ◌∷◌, length, filter, get_or, max, refl, sym, ap, ◌∙◌, arith, subst}
use Rattle.std.specs.Prelude.{Any, slice_index}
use Rattle.std.proofs.lemmas.Bool.{cases_lt, or_parts}
use Rattle.std.proofs.lemmas.List.Filters.{length-filter_both}
use Rattle.std.proofs.lemmas.List.Kept.{AllPairs-filter}
use Rattle.std.proofs.lemmas.List.Elements.{All-filter}
use Rattle.hb_space.specs.declared.records.Record.{Record}
use Rattle.hb_frag.specs.declared.paths.Side.TheVariants.{Left, Right}
use Rattle.hb_frag.specs.Rules.{Precedes}
use Rattle.hb_split.specs.Choosing.{MayCut, count_on}
use Rattle.hb_split.specs.Steps.{AreOf}
use Rattle.hb_split.proofs.Nexts.{differs}
use Rattle.hb_split.proofs.Thirds.{both}
use Rattle.hb_lemmas.proofs.Booleans.{if_below, if_same}
use Rattle.std.proofs.lemmas.List.Sums.{length-filter, count_by-le-length}

-- the last place up to a bound at which a count is still small
last_small : (f : ℕ → ℕ) (l bound : ℕ) → f 0 ≤ l → (v : ℕ) × (f v ≤ l) × ((v ≡ bound) ⊎ (l < f (v + 1)))
last_small f l zero h = (0, h, inl refl)
last_small f l (suc b) h =
    let before = last_small f l b h in
    elim before.2 [
      | inr gt ↦ (before.0, before.1, inr gt)
      | inl at ↦ elim (cases_lt l (f (b + 1))) [
        | inl lt ↦ (before.0, before.1, inr (subst (λ (n : ℕ). l < f (n + 1)) (sym at) lt))
        | inr le ↦ (b + 1, le, inl (omega arith))
      ]
    ]

-- how many records have a value below v in the attribute, and how many another one than v
abbrev below : ℕ → ℕ → List Record → ℕ
below axis v records = count_on Left axis v records

abbrev is_off : ℕ → ℕ → Record → Bool
is_off axis v r = not (slice_index r.key axis == v)

abbrev off : ℕ → ℕ → List Record → ℕ
off axis v records = length (filter (is_off axis v) records)

none_below : (axis : ℕ) (records : List Record) → below axis 0 records ≤ 0
none_below axis [] = omega arith
none_below axis (r ∷ rest) =
    let h = none_below axis rest in
    if_below (slice_index r.key axis) 0 (λ b. length (cond b (r ∷ filter (λ s. nat_lt (slice_index s.key axis) 0) rest) (filter (λ s. nat_lt (slice_index s.key axis) 0) rest)) ≤ 0) (λ lt. absurd (omega (arith, lt))) (λ le. h)

rises : (axis v w : ℕ) (records : List Record) → v ≤ w → below axis v records ≤ below axis w records
rises axis v w [] le = omega arith
rises axis v w (r ∷ rest) le =
    let h = rises axis v w rest le in
    let F = λ (n : ℕ). filter (λ s. nat_lt (slice_index s.key axis) n) rest in
    if_below (slice_index r.key axis) v (λ b. length (cond b (r ∷ F v) (F v)) ≤ below axis w (r ∷ rest))
    (λ lt. if_below (slice_index r.key axis) w (λ b. suc (length (F v)) ≤ length (cond b (r ∷ F w) (F w))) (λ less. omega (arith, h)) (λ more. absurd (omega (arith, lt, more, le))))
    (λ ge. if_below (slice_index r.key axis) w (λ b. length (F v) ≤ length (cond b (r ∷ F w) (F w))) (λ less. omega (arith, h)) (λ more. h))

-- above some bound no record has its value
bound_of : (axis : ℕ) (records : List Record) → (b : ℕ) × (length records ≤ below axis b records)
bound_of axis [] = (0, omega arith)
bound_of axis (r ∷ rest) =
    let h = bound_of axis rest in
    let b = max (slice_index r.key axis + 1) h.0 in
    let up = rises axis h.0 b rest (omega arith) in
    let more = h.1 in
    let F = filter (λ s. nat_lt (slice_index s.key axis) b) rest in
    (b, if_below (slice_index r.key axis) b (λ t. suc (length rest) ≤ length (cond t (r ∷ F) F)) (λ lt. omega (arith, up, more)) (λ le. absurd (omega (arith, le))))

-- where a count rises, a record has the value
met_at : (axis v : ℕ) (records : List Record) → below axis v records < below axis (v + 1) records → Any (λ r. slice_index r.key axis ≡ v) records
met_at axis v [] lt = absurd (omega (arith, lt))
met_at axis v (r ∷ rest) lt =
    let F = λ (n : ℕ). filter (λ s. nat_lt (slice_index s.key axis) n) rest in
    let x = slice_index r.key axis in
    let later : below axis v rest < below axis (v + 1) rest → Any (λ s. slice_index s.key axis ≡ v) (r ∷ rest) = λ less. let m = met_at axis v rest less in let n = m.2 in (suc m.0, m.1, omega (arith, n), m.3, m.4) in
    let G : Bool → Bool → Type 0 = λ a b. length (cond a (r ∷ F v) (F v)) < length (cond b (r ∷ F (v + 1)) (F (v + 1))) → Any (λ s. slice_index s.key axis ≡ v) (r ∷ rest) in
    if_below x v (λ a. G a (nat_lt x (v + 1)))
    (λ low. if_below x (v + 1) (λ b. G true b) (λ l h. later (omega (arith, h))) (λ g. absurd (omega (arith, low, g))))
    (λ high. if_below x (v + 1) (λ b. G false b) (λ l h. (0, r, omega arith, refl, omega (arith, high, l))) (λ g h. later h)) lt

pub some_below : (axis v : ℕ) (records : List Record) → 0 < below axis v records → Any (λ r. slice_index r.key axis < v) records
some_below axis v [] lt = absurd (omega (arith, lt))
some_below axis v (r ∷ rest) lt =
    let F = filter (λ s. nat_lt (slice_index s.key axis) v) rest in
    if_below (slice_index r.key axis) v (λ b. 0 < length (cond b (r ∷ F) F) → Any (λ s. slice_index s.key axis < v) (r ∷ rest))
    (λ less h. (0, r, omega arith, refl, less))
    (λ ge h. let m = some_below axis v rest h in let n = m.2 in (suc m.0, m.1, omega (arith, n), m.3, m.4)) lt

-- the others are those below and those above
off_is : (axis v : ℕ) (records : List Record) → off axis v records + below axis (v + 1) records ≡ below axis v records + length records
off_is axis v [] = refl
off_is axis v (r ∷ rest) =
    let h = off_is axis v rest in
    let x = slice_index r.key axis in
    let O = filter (is_off axis v) rest in
    let F = λ (n : ℕ). filter (λ s. nat_lt (slice_index s.key axis) n) rest in
    let G : Bool → Bool → Bool → Type 0 = λ e a b. length (cond (not e) (r ∷ O) O) + length (cond b (r ∷ F (v + 1)) (F (v + 1))) ≡ length (cond a (r ∷ F v) (F v)) + suc (length rest) in
    if_same x v (λ e. G e (nat_lt x v) (nat_lt x (v + 1)))
    (λ same. if_below x v (λ a. G true a (nat_lt x (v + 1))) (λ l. absurd (omega (arith, same, l))) (λ g. if_below x (v + 1) (λ b. G true false b) (λ l. omega (arith, h)) (λ g2. absurd (omega (arith, same, g2)))))
    (λ other. if_below x v (λ a. G false a (nat_lt x (v + 1)))
    (λ l. if_below x (v + 1) (λ b. G false true b) (λ l2. omega (arith, h)) (λ g. absurd (omega (arith, l, g))))
    (λ g. if_below x (v + 1) (λ b. G false false b) (λ l. absurd (other (omega (arith, g, l)))) (λ g2. omega (arith, h))))

-- a plane that may cut leaves at most so many records on one of its sides
abbrev pub LeavesFew : ℕ → ℕ → List Record → Type 0
LeavesFew k l records = (axis value : ℕ) → MayCut k axis value records → (count_on Left axis value records ≤ l) ⊎ (count_on Right axis value records ≤ l)

-- then nearly all have one value in an attribute
center : (k l axis : ℕ) (records : List Record) → axis < k → LeavesFew k l records → (v : ℕ) × (off axis v records ≤ 2 * l)
center k l axis records lt few =
    let start = none_below axis records in
    let b = bound_of axis records in
    let all = b.1 in
    let first = last_small (λ n. below axis n records) l b.0 (omega (arith, start)) in
    let v = first.0 in
    let small = first.1 in
    let is = off_is axis v records in (
      v,
      elim first.2 [
        | inl at ↦
            let whole : length records ≤ below axis v records = subst (λ (n : ℕ). length records ≤ below axis n records) (sym at) all in
            let counted = length-filter (is_off axis v) records in
            let few = count_by-le-length (is_off axis v) records in
            omega (arith, small, whole, counted, few)
        | inr gt ↦
            let second = last_small (λ n. below axis n records) (below axis (v + 1) records) b.0 (omega (arith, start)) in
            let w = second.0 in
            let low = second.1 in
            elim second.2 [
              | inl at ↦
                  let whole : length records ≤ below axis w records = subst (λ (n : ℕ). length records ≤ below axis n records) (sym at) all in
                  omega (arith, small, low, whole, is)
              | inr more ↦
                  elim (cases_lt v w) [
                    | inr le ↦ let up = rises axis (w + 1) (v + 1) records (omega (arith, le)) in absurd (omega (arith, up, more))
                    | inl after ↦
                        let up = rises axis (v + 1) w records (omega (arith, after)) in
                        let may : MayCut k axis w records = record { attribute = lt; met = met_at axis w records (omega (arith, low, more)); exceeds = some_below axis w records (omega (arith, gt, up)) } in
                        let sides = both axis w records in
                        elim (few axis w may) [
                          | inl left ↦ absurd (omega (arith, left, up, gt))
                          | inr right ↦ omega (arith, right, sides, up, low, small, is)
                        ]
                  ]
            ]
      ],
    )

-- values, those of the first attributes, the last of them first; whether a record has another one somewhere
abbrev strays : List ℕ → Record → Bool
strays [] r = false
strays (v ∷ vs) r = strays vs r || is_off (length vs) v r

filter_either : (p q : Record → Bool) (records : List Record) → length (filter (λ r. p r || q r) records) ≤ length (filter p records) + length (filter q records)
filter_either p q [] = omega arith
filter_either p q (r ∷ rest) =
    let h = filter_either p q rest in
    let E = filter (λ s. p s || q s) rest in
    elim (p r) as (λ (b : Bool). length (cond (b || q r) (r ∷ E) E) ≤ length (cond b (r ∷ filter p rest) (filter p rest)) + length (filter q (r ∷ rest))) [
      | true ↦ elim (q r) as (λ (c : Bool). suc (length E) ≤ suc (length (filter p rest)) + length (cond c (r ∷ filter q rest) (filter q rest))) [ true ↦ omega (arith, h) | false ↦ omega (arith, h) ]
      | false ↦ elim (q r) as (λ (c : Bool). length (cond c (r ∷ E) E) ≤ length (filter p rest) + length (cond c (r ∷ filter q rest) (filter q rest))) [ true ↦ omega (arith, h) | false ↦ omega (arith, h) ]
    ]

-- so many times
abbrev pub times : ℕ → ℕ → ℕ
times zero m = 0
times (suc j) m = m + times j m

record AreCenters (l j : ℕ) (records : List Record) : Type 0 where
  pub values : List ℕ
  pub many : length values ≡ j
  pub stray : length (filter (strays values) records) ≤ times j (2 * l)

none_stray : (records : List Record) → length (filter (strays []) records) ≤ 0
none_stray [] = omega arith
none_stray (r ∷ rest) = none_stray rest

centers : (k l j : ℕ) (records : List Record) → j ≤ k → LeavesFew k l records → AreCenters l j records
centers k l zero records le few = record { values = []; many = refl; stray = none_stray records }
centers k l (suc j) records le few =
    let before = centers k l j records (omega (arith, le)) few in
    let one = center k l j records (omega (arith, le)) few in
    let here : off (length before.values) one.0 records ≤ 2 * l = subst (λ (n : ℕ). off n one.0 records ≤ 2 * l) (sym before.many) one.1 in
    let either = filter_either (strays before.values) (is_off (length before.values) one.0) records in
    let b = before.stray in
    record { values = one.0 ∷ before.values; many = ap suc before.many; stray = omega (arith, here, either, b) }

at_home : (x v : ℕ) → not (x == v) ≡ false → x ≡ v
at_home x v e = if_same x v (λ b. not b ≡ false → x ≡ v) (λ same h. same) (λ other h. absurd cc) e

same_values : (vs : List ℕ) (r s : Record) → strays vs r ≡ false → strays vs s ≡ false → (i : ℕ) → i < length vs → slice_index r.key i ≡ slice_index s.key i
same_values [] r s er es i lt = absurd (omega (arith, lt))
same_values (v ∷ vs) r s er es i lt =
    let a = or_parts (strays vs r) (is_off (length vs) v r) er in
    let b = or_parts (strays vs s) (is_off (length vs) v s) es in
    elim (cases_lt i (length vs)) [
      | inl below_ ↦ same_values vs r s a.0 b.0 i below_
      | inr ge ↦
          let at : length vs ≡ i = omega (arith, lt, ge) in
          subst (λ (n : ℕ). slice_index r.key n ≡ slice_index s.key n) at (at_home (slice_index r.key (length vs)) v a.1 ∙ sym (at_home (slice_index s.key (length vs)) v b.1))
    ]

-- records that don't stray, of which the first two can't be two
lone : (k : ℕ) (vs : List ℕ) (records : List Record) → length vs ≡ k → AreOf k records → ((i : ℕ) (d : Record) → i < length records → strays vs (get_or records i d) ≡ false) → length records ≤ 1
lone k vs [] many of home = omega arith
lone k vs (r ∷ []) many of home = omega arith
lone k vs (r ∷ s ∷ rest) many of home =
    let er = of.attributes 0 r (omega arith) in
    let es = of.attributes 1 r (omega arith) in
    let d = differs r.key s.key (er ∙ sym es) (of.rising 0 1 r (omega arith) (omega arith)) in
    let lt = d.1 in
    let less = d.2 in
    let same = same_values vs r s (home 0 r (omega arith)) (home 1 r (omega arith)) d.0 (omega (arith, lt, er, many)) in
    absurd (omega (arith, less, same))

-- what is left behind a record for which the test fails
behind : (p : Record → Bool) (r : Record) (rest : List Record) → p r ≡ false → ((j : ℕ) (d : Record) → j < length rest → p (get_or rest j d) ≡ false) → (i : ℕ) (d : Record) → i < suc (length rest) → p (get_or (r ∷ rest) i d) ≡ false
behind p r rest e h zero d lt = e
behind p r rest e h (suc i) d lt = h i d (omega (arith, lt))

kept_home : (p : Record → Bool) (records : List Record) (i : ℕ) (d : Record) → i < length (filter (λ r. not (p r)) records) → p (get_or (filter (λ r. not (p r)) records) i d) ≡ false
kept_home p [] i d lt = absurd (omega (arith, lt))
kept_home p (r ∷ rest) i d lt =
    let F = filter (λ s. not (p s)) rest in
    let h : (j : ℕ) (e : Record) → j < length F → p (get_or F j e) ≡ false = λ j e l. kept_home p rest j e l in
    (elim (p r) as (λ (b : Bool). p r ≡ b → i < length (cond (not b) (r ∷ F) F) → p (get_or (cond (not b) (r ∷ F) F) i d) ≡ false) [
      | true ↦ λ e l. h i d l
      | false ↦ λ e l. behind p r F e h i d l
    ]) refl lt

-- so there are few records
pub few_records : (k l : ℕ) (records : List Record) → AreOf k records → LeavesFew k l records → length records ≤ times k (2 * l) + 1
few_records k l records of few =
    let c = centers k l k records (omega arith) few in
    let p = strays c.values in
    let home = λ (r : Record). not (p r) in
    let rest = filter home records in
    let kept : AreOf k rest = record {
      attributes = All-filter home (λ (r : Record). length r.key ≡ k) records of.attributes;
      rising = AllPairs-filter Precedes home records of.rising;
    } in
    let one = lone k c.values rest c.many kept (kept_home p records) in
    let s = c.stray in
    let all = length-filter_both p home (λ r. refl) records in
    omega (arith, one, s, all)
