-- Number words: digits by place, and the value so far.
use Rattle.std.proofs.Common.{◌≡◌, ℕ, zero, suc, ◌+◌, ◌-◌, ◌*◌, ◌<◌, ◌≤◌, true, ◌&&◌, ltb, List, [], ◌∷◌, length, drop, get_or, refl, sym, ap, ◌∙◌, arith}
use Rattle.std.specs.List.{list_all}
use Rattle.std.specs.Char.{is_ascii_digit, digit_value}
use Rattle.std.specs.Str.Parse.{digits_value, digits_value_after}
use Rattle.std.proofs.Math.Seq.{drop-cons}
use Rattle.std.proofs.Math.Numerals.{add-one}
use Rattle.std.proofs.lemmas.List.{drop_all}
use Rattle.std.proofs.lemmas.Bool.Decides.{nat_tests}
use Rattle.std.proofs.lemmas.Bool.{and_parts}
use Rattle.hb_text.specs.Numbers.{is_number}

-- of two bytes or more the first is no 0
pub is_number_long : (w : List ℕ) → 2 ≤ length w → is_number w ≡ (ltb 48 (get_or w 0 0) && list_all is_ascii_digit w)
is_number_long [] h = absurd (omega arith)
is_number_long (c ∷ []) h = absurd (omega arith)
is_number_long (c ∷ d ∷ rest) h = refl

-- a digit's value
digit_test : (c : ℕ) → is_ascii_digit c ≡ true → digit_value c ≡ c - 48
digit_test c h = grind (arith, nat_tests)

all_digit_at : (w : List ℕ) → list_all is_ascii_digit w ≡ true → (i : ℕ) → i < length w → digit_value (get_or w i 0) ≡ get_or w i 0 - 48
all_digit_at [] h i lt = absurd (omega arith)
all_digit_at (c ∷ w) h zero lt = digit_test c (and_parts _ _ h).0
all_digit_at (c ∷ w) h (suc i) lt = all_digit_at w (and_parts _ _ h).1 i (omega arith)

pub digit_at : (w : List ℕ) → is_number w ≡ true → (i : ℕ) → i < length w → digit_value (get_or w i 0) ≡ get_or w i 0 - 48
digit_at [] h i lt = absurd (omega arith)
digit_at (c ∷ []) h zero lt = digit_test c h
digit_at (c ∷ []) h (suc i) lt = absurd (omega arith)
digit_at (c ∷ d ∷ rest) h i lt = all_digit_at (c ∷ d ∷ rest) (and_parts _ _ h).1 i lt

-- more digits never make the number smaller
pub value_grows : (n : ℕ) (w : List ℕ) → n ≤ digits_value_after 10 n w
value_grows n [] = omega arith
value_grows n (c ∷ w) = omega (arith, value_grows (n * 10 + digit_value c) w)

-- the value after one digit more
pub value_step : (n : ℕ) (w : List ℕ) (i : ℕ) → i < length w → digits_value_after 10 n (drop i w) ≡ digits_value_after 10 (n * 10 + digit_value (get_or w i 0)) (drop (i + 1) w)
value_step n w i lt = ap (digits_value_after 10 n) (drop-cons w i 0 lt) ∙ ap (λ j. digits_value_after 10 (n * 10 + digit_value (get_or w i 0)) (drop j w)) (sym (add-one i))

-- the same where the number so far and the digits that are left give the whole number
pub carried : (n : ℕ) (w : List ℕ) (i m : ℕ) → i < length w → digits_value_after 10 n (drop i w) ≡ digits_value 10 w → m ≡ n * 10 + digit_value (get_or w i 0) → digits_value_after 10 m (drop (i + 1) w) ≡ digits_value 10 w
carried n w i m lt so_far e = rw e (sym (value_step n w i lt) ∙ so_far)

-- once a digit more passes a bound, so does the whole number
pub passes : (n : ℕ) (w : List ℕ) (i bound : ℕ) → i < length w → digits_value_after 10 n (drop i w) ≡ digits_value 10 w → (n * 10 + digit_value (get_or w i 0) < bound → ⊥) → digits_value 10 w < bound → ⊥
passes n w i bound lt so_far over below =
    let grown = value_grows (n * 10 + digit_value (get_or w i 0)) (drop (i + 1) w) in
    let whole = carried n w i _ lt so_far refl in
    over (omega (arith, grown, whole))

-- when no digit is left, the number so far is the whole
pub all_read : (n : ℕ) (w : List ℕ) (i : ℕ) → length w ≤ i → digits_value_after 10 n (drop i w) ≡ digits_value 10 w → n ≡ digits_value 10 w
all_read n w i past so_far = rw (drop_all i w past) at so_far
