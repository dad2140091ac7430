-- A number of a text is its decimal digits.
use Rattle.std.specs.Prelude.{◌≡◌, ℕ, suc, ◌<◌, ◌^◌, ◌↔◌, true, nat_lt, List, [], ◌∷◌, length, Ok, Err}
use Rattle.std.proofs.Common.{rules, zero, refl, sym, ap, ◌∙◌, inl, inr, arith, get_or}
use Rattle.std.specs.List.{list_all}
use Rattle.std.specs.Char.{is_ascii_digit}
use Rattle.std.specs.Fmt.{decimal}
use Rattle.std.specs.Str.Parse.{digits_value}
use Rattle.std.proofs.lemmas.Bool.Decides.{nat_tests}
use Rattle.std.proofs.lemmas.Fmt.{decimal_digit, first_decimal, decimal_nonempty, digits_decimal, digits_value-decimal, decimal-digits_value}
use Rattle.std.proofs.lemmas.Str.Parse.{IsNumeralModel, numerals_by_value}
use Rattle.std.proofs.lemmas.Bool.{and_parts}
use Rattle.hb_text.specs.declared.numbers.NumberFault.TheVariants.{NotANumber, AboveLimit}
use Rattle.hb_text.specs.Numbers.{is_number, number_read}
use Rattle.hb_lemmas.proofs.Booleans.{chosen}

-- the digits of a number, and its value by them
pub own : IsNumeralModel (λ ds. list_all is_ascii_digit ds ≡ true) (digits_value 10)
own = numerals_by_value _ (search rules)

-- decimal digits, one or more, with no leading zero
record IsPlain (ds : List ℕ) : Type 0 where
  digits : list_all is_ascii_digit ds ≡ true
  some : 0 < length ds
  leading : get_or ds 0 0 ≡ 48 → length ds ≡ 1

plain : (word : List ℕ) → is_number word ≡ true → IsPlain word
plain [] e = absurd (cc)
plain (c ∷ []) e = record { digits = grind (arith, nat_tests, e); some = omega arith; leading = λ zero. refl }
plain (c ∷ d ∷ rest) e =
    let parts = and_parts (nat_lt 48 c) (list_all is_ascii_digit (c ∷ d ∷ rest)) e in
    let high : 48 < c = grind (arith, nat_tests, parts.0) in
    record { digits = parts.1; some = omega arith; leading = λ zero. absurd (omega (arith, zero, high)) }

number_from : (ds : List ℕ) → list_all is_ascii_digit ds ≡ true → 0 < length ds → 48 < get_or ds 0 0 → is_number ds ≡ true
number_from [] digits some high = absurd (omega arith)
number_from (c ∷ []) digits some high = (and_parts (is_ascii_digit c) true digits).0
number_from (c ∷ d ∷ rest) digits some high =
    let first : nat_lt 48 c ≡ true = grind (arith, nat_tests, high) in
    rw (first, digits) refl

decimal_is_number : (n : ℕ) → n < 2 ^ 64 → is_number (decimal n) ≡ true
decimal_is_number zero small = rw (decimal_digit zero (omega arith)) refl
decimal_is_number (suc n) small = number_from (decimal (suc n)) (digits_decimal own (suc n) small) (decimal_nonempty (suc n) small) (first_decimal (suc n) (omega arith) small)

word_is_decimal : (word : List ℕ) (n : ℕ) → number_read word ≡ Ok n → word ≡ decimal n
word_is_decimal word n e = elim (chosen (is_number word) _ (Err NotANumber) (Ok n) e) [
  | inl number ↦ elim (chosen (nat_lt (digits_value 10 word) (2 ^ 64)) (Ok (digits_value 10 word)) (Err AboveLimit) (Ok n) number.1) [
    | inl below ↦
        let p = plain word number.0 in
        let small : digits_value 10 word < 2 ^ 64 = grind (arith, nat_tests, below.0) in
        let same : digits_value 10 word ≡ n = cc (below.1) in
        sym (decimal-digits_value own word p.digits p.some p.leading small) ∙ ap decimal same
    | inr above ↦ cc (above.1)
  ]
  | inr none ↦ cc (none.1)
]

decimal_is_read : (n : ℕ) → n < 2 ^ 64 → number_read (decimal n) ≡ Ok n
decimal_is_read n small =
    let value = digits_value-decimal own n small in
    let below : nat_lt n (2 ^ 64) ≡ true = grind (arith, nat_tests, small) in
    rw (decimal_is_number n small, value, below) refl

pub numbers_are_decimal : (word : List ℕ) (n : ℕ) → n < 2 ^ 64 → (number_read word ≡ Ok n) ↔ (word ≡ decimal n)
numbers_are_decimal word n small = (word_is_decimal word n, λ e. rw e (decimal_is_read n small))
