-- A set of numbers, as bits.
use Rattle.std.proofs.Common.{◌≡◌, ◌≢◌, inl, inr, ℕ, zero, suc, ◌*◌, ◌+◌, ◌/◌, ◌%◌, ◌<◌, ◌≤◌, ◌==◌, Bool, true, false, List, length, get_or, slice_set, refl, sym, ap, ◌∙◌, arith}
use Rattle.std.specs.Prelude.{◌||◌, ◌&&◌, if◌then◌else◌, replicate}
use Rattle.std.specs.Cmp.{nat_cmp_total, unsigned_tied}
use Rattle.std.specs.FinSet as set
use Rattle.std.specs.Int.{bit_at}
use Rattle.std.specs.Ordering.{nat_cmp}
use Rattle.std.proofs.lemmas.Bool.{cases_eq, cases_lt, eq-eqb, ne_eqb}
use Rattle.std.proofs.lemmas.List.{get_or_past, get_or-set_other, get_or-set_same}
use Rattle.std.proofs.lemmas.Nat.{div-add-mod', le-div}
use Rattle.std.proofs.lemmas.Nat.Bits.{bit_at-zero}
use Rattle.hb_store.specs.PageSets.{has_bit, numbers_below, numbers_in}

plain : (b : Bool) → (b || false) ≡ b
plain true = refl
plain false = refl

both : (a : Bool) → a ≡ (a && true)
both true = refl
both false = refl

neither : (a : Bool) → false ≡ (a && false)
neither true = refl
neither false = refl

module _ (words : List ℕ) where
  next : (n q : ℕ) → set.contains (numbers_below words (suc n)) q ≡ ((q == n) && has_bit words n || set.contains (numbers_below words n) q)
  unfolding numbers_below
  next n q = elim (has_bit words n) as (λ b. set.contains (if b then set.insert (numbers_below words n) n else numbers_below words n) q ≡ ((q == n) && b || set.contains (numbers_below words n) q)) [
    | true ↦ set.contains-insert nat_cmp_total (numbers_below words n) n q ∙ ap (λ (b : Bool). b || set.contains (numbers_below words n) q) (unsigned_tied q n ∙ both (q == n))
    | false ↦ ap (λ (b : Bool). b || set.contains (numbers_below words n) q) (neither (q == n))
  ]

  above : (n q : ℕ) → n ≤ q → set.contains (numbers_below words n) q ≡ false
  unfolding numbers_below
  above zero q past = set.contains-empty nat_cmp q
  above (suc n) q past =
      let apart : q ≢ n = λ e. absurd (omega (arith, e, past)) in
      next n q ∙ ap (λ (b : Bool). b && has_bit words n || set.contains (numbers_below words n) q) (ne_eqb q n apart) ∙ above n q (omega (arith, past))

  below : (n q : ℕ) → q < n → set.contains (numbers_below words n) q ≡ has_bit words q
  below zero q within = absurd (omega (arith, within))
  below (suc n) q within = elim (cases_eq q n) [
    | inl is ↦
        next n q ∙ ap (λ (b : Bool). b && has_bit words n || set.contains (numbers_below words n) q) (eq-eqb q n is)
        ∙ ap (λ (b : Bool). has_bit words n || b) (above n q (omega (arith, is))) ∙ plain (has_bit words n) ∙ ap (has_bit words) (sym is)
    | inr apart ↦ next n q ∙ ap (λ (b : Bool). b && has_bit words n || set.contains (numbers_below words n) q) (ne_eqb q n apart) ∙ below n q (omega (arith, within, apart))
  ]

  -- behind the words no bit is set
  no_bit : (q : ℕ) → 64 * length words ≤ q → has_bit words q ≡ false
  no_bit q past =
      let none : get_or words (q / 64) 0 ≡ 0 = get_or_past words (q / 64) 0 (le-div (length words) q 64 (omega arith) (omega (arith, past))) in
      ap (λ (w : ℕ). bit_at w (q % 64) == 1) none ∙ ap (λ (b : ℕ). b == 1) (bit_at-zero (q % 64))

  -- a number is in the set where its bit is set
  pub bit_tells : (q : ℕ) → set.contains (numbers_in words) q ≡ has_bit words q
  bit_tells q = elim (cases_lt q (64 * length words)) [
    | inl within ↦ below (64 * length words) q within
    | inr past ↦ above (64 * length words) q past ∙ sym (no_bit q past)
  ]

  -- where there is no word it isn't
  pub no_word : (q : ℕ) → ◌≡◌ {A = ℕ} 0 (get_or words (q / 64) 0) → false ≡ set.contains (numbers_in words) q
  no_word q none = ap (λ (b : ℕ). b == 1) (sym (bit_at-zero (q % 64))) ∙ ap (λ (w : ℕ). bit_at w (q % 64) == 1) none ∙ sym (bit_tells q)

-- two numbers of one word and one bit are the same
same_place : (q id : ℕ) → q / 64 ≡ id / 64 → q % 64 ≡ id % 64 → q ≡ id
same_place q id word bit = sym (div-add-mod' q 64) ∙ (λ i. word i * 64 + bit i) ∙ div-add-mod' id 64

-- one bit more is one number more
module _ (words : List ℕ) (id word : ℕ) (within : id / 64 < length words) (here : bit_at word (id % 64) ≡ 1) (others : (i : ℕ) → i ≢ id % 64 → bit_at word i ≡ bit_at (get_or words (id / 64) 0) i) where
  abbrev more : List ℕ
  more = slice_set words (id / 64) word

  at_word : (q : ℕ) → q / 64 ≡ id / 64 → get_or more (q / 64) 0 ≡ word
  at_word q same = ap (λ (n : ℕ). get_or more n 0) same ∙ get_or-set_same words (id / 64) word 0 within

  bit_more : (q : ℕ) → has_bit more q ≡ ((q == id) || has_bit words q)
  bit_more q = elim (cases_eq (q / 64) (id / 64)) [
    | inl same ↦ elim (cases_eq (q % 64) (id % 64)) [
      | inl bit ↦
          ap (λ (w : ℕ). bit_at w (q % 64) == 1) (at_word q same) ∙ ap (λ (n : ℕ). bit_at word n == 1) bit ∙ ap (λ (b : ℕ). b == 1) here
          ∙ ap (λ (b : Bool). b || has_bit words q) (sym (eq-eqb q id (same_place q id same bit)))
      | inr bit ↦
          ap (λ (w : ℕ). bit_at w (q % 64) == 1) (at_word q same) ∙ ap (λ (b : ℕ). b == 1) (others (q % 64) bit)
          ∙ ap (λ (n : ℕ). bit_at (get_or words n 0) (q % 64) == 1) (sym same)
          ∙ ap (λ (b : Bool). b || has_bit words q) (sym (ne_eqb q id (λ e. bit (ap (λ (n : ℕ). n % 64) e))))
    ]
    | inr apart ↦
        ap (λ (w : ℕ). bit_at w (q % 64) == 1) (get_or-set_other words (id / 64) (q / 64) word 0 apart)
        ∙ ap (λ (b : Bool). b || has_bit words q) (sym (ne_eqb q id (λ e. apart (ap (λ (n : ℕ). n / 64) e))))
  ]

  pub number_more : (q : ℕ) → set.contains (numbers_in more) q ≡ ((q == id) || set.contains (numbers_in words) q)
  number_more q = bit_tells more q ∙ bit_more q ∙ ap (λ (b : Bool). (q == id) || b) (sym (bit_tells words q))

-- ---- no bit

zero_at : (n i : ℕ) → ◌≡◌ {A = ℕ} (get_or (replicate n 0) i 0) 0
zero_at zero i = refl
zero_at (suc n) zero = refl
zero_at (suc n) (suc i) = zero_at n i

no_number : (n q : ℕ) → set.contains (numbers_in (replicate n 0)) q ≡ false
no_number n q = bit_tells (replicate n 0) q ∙ ap (λ (w : ℕ). bit_at w (q % 64) == 1) (zero_at n (q / 64)) ∙ ap (λ (b : ℕ). b == 1) (bit_at-zero (q % 64))

-- zeros are the empty set
pub zeros_empty : (words : List ℕ) (n : ℕ) → words ≡ replicate n 0 → numbers_in words ≡ set.empty
zeros_empty words n are =
    ap numbers_in are ∙ set.same_set nat_cmp_total set.nat_cmp-IsAntisymmetric (numbers_in (replicate n 0)) set.empty (λ q. no_number n q ∙ sym (set.contains-empty nat_cmp q))
