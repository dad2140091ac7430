-- Value words, one after the other.
use Rattle.std.proofs.Common.{◌≡◌, ℕ, zero, suc, ◌+◌, ◌-◌, ◌*◌, ◌<◌, ◌≤◌, true, false, cond, List, [], ◌∷◌, ◌++◌, length, take, drop, Ok, Err, Result, refl, sym, ap, ◌∙◌, arith, append_assoc, append-nil, drop-drop}
use Rattle.std.specs.Prelude.{EachIndex, slice_index, ◌↔◌, IsSome, IfSome, Option, Some, None}
use Rattle.std.specs.Option.{ok_or}
use mathlib.Core.Bool.{false≢true}
use Rattle.hb_space.specs.Boxes.{Area}
use Rattle.std.proofs.lemmas.Bool.Decides.{nat_tests}
use Rattle.hb_text.specs.declared.rules.TextRule.{TextRule}
use Rattle.hb_text.specs.declared.rules.TextRule.TheVariants.{EmptyBox}
use Rattle.hb_text.specs.Numbers.{number_read}
use Rattle.hb_text.specs.Words.{◌>>=◌}
use Rattle.hb_text.specs.Operands.{or_fault, values_read, lows, highs, pairs_are_ordered, box_read}

-- the values so far, and what the rest reads
abbrev pub after_values : List ℕ → Result (List ℕ) TextRule → Result (List ℕ) TextRule
after_values front read = read >>= (λ values. Ok (front ++ values))

-- one value more
after_one : (front : List ℕ) (value : ℕ) (read : Result (List ℕ) TextRule) → after_values front (read >>= (λ values. Ok (value ∷ values))) ≡ after_values (front ++ value ∷ []) read
after_one front value (Ok values) = ap Ok (sym (append_assoc front (value ∷ []) values))
after_one front value (Err rule) = refl

head_ok : (front : List ℕ) (word : List ℕ) (words : List (List ℕ)) (value : ℕ) → or_fault (number_read word) ≡ Ok value → after_values front (values_read (word ∷ words)) ≡ after_values (front ++ value ∷ []) (values_read words)
unfolding values_read
head_ok front word words value e = rw e (after_one front value (values_read words))

head_err : (front : List ℕ) (word : List ℕ) (words : List (List ℕ)) (rule : TextRule) → or_fault (number_read word) ≡ Err rule → after_values front (values_read (word ∷ words)) ≡ Err rule
unfolding values_read
head_err front word words rule e = rw e refl

-- the first of the words that are still wanted
first_wanted : (count counter : ℕ) (words : List (List ℕ)) (word : List ℕ) (rest : List (List ℕ)) → counter < count → words ≡ word ∷ rest → take (count - counter) words ≡ word ∷ take (count - (counter + 1)) rest
first_wanted count counter words word rest more e =
    let one : count - counter ≡ suc (count - (counter + 1)) = omega arith in
    rw (e, one) refl

pub value_ok : (front : List ℕ) (count counter : ℕ) (words : List (List ℕ)) (word : List ℕ) (rest : List (List ℕ)) (value : ℕ) → counter < count → words ≡ word ∷ rest → or_fault (number_read word) ≡ Ok value → after_values front (values_read (take (count - counter) words)) ≡ after_values (front ++ value ∷ []) (values_read (take (count - (counter + 1)) rest))
value_ok front count counter words word rest value more e ok =
    ap (λ ws. after_values front (values_read ws)) (first_wanted count counter words word rest more e) ∙ head_ok front word _ value ok

pub value_err : (front : List ℕ) (count counter : ℕ) (words : List (List ℕ)) (word : List ℕ) (rest : List (List ℕ)) (rule : TextRule) → counter < count → words ≡ word ∷ rest → or_fault (number_read word) ≡ Err rule → after_values front (values_read (take (count - counter) words)) ≡ Err rule
value_err front count counter words word rest rule more e err =
    ap (λ ws. after_values front (values_read ws)) (first_wanted count counter words word rest more e) ∙ head_err front word _ rule err

-- no word is wanted any more
pub values_done : (front : List ℕ) (count counter : ℕ) (words : List (List ℕ)) → count ≤ counter → after_values front (values_read (take (count - counter) words)) ≡ Ok front
unfolding values_read
values_done front count counter words past =
    let none : count - counter ≡ 0 = omega arith in
    rw none (ap Ok (append-nil front))

-- what is left behind the first of what was left
pub drop_next : (i : ℕ) (xs rest : List (List ℕ)) (x : List ℕ) → drop i xs ≡ x ∷ rest → rest ≡ drop (i + 1) xs
drop_next i xs rest x e = sym (ap (drop 1) e) ∙ drop-drop 1 i xs

-- as many lower values as upper ones
pub same_length : (values : List ℕ) → length (lows values) ≡ length (highs values)
same_length [] = refl
same_length (lo ∷ []) = refl
same_length (lo ∷ hi ∷ rest) = omega (arith, same_length rest)

pub half_length : (values : List ℕ) → (2 * length (lows values) ≤ length values) × (length values ≤ 2 * length (lows values) + 1)
half_length [] = (omega arith, omega arith)
half_length (lo ∷ []) = (omega arith, omega arith)
half_length (lo ∷ hi ∷ rest) = let h = half_length rest in (omega (arith, h.0), omega (arith, h.1))

-- the test of a search's values is that no lower value is above its upper one
pub ordered_by_place : (values : List ℕ) → pairs_are_ordered values ≡ true → EachIndex (lows values) (λ i. slice_index (lows values) i ≤ slice_index (highs values) i)
ordered_by_place [] e i lt = absurd (omega arith)
ordered_by_place (lo ∷ []) e i lt = absurd (omega arith)
ordered_by_place (lo ∷ hi ∷ rest) e zero lt = grind (arith, nat_tests)
ordered_by_place (lo ∷ hi ∷ rest) e (suc i) lt = ordered_by_place rest (grind (arith, nat_tests)) i (omega arith)

pub ordered_from_places : (values : List ℕ) → EachIndex (lows values) (λ i. slice_index (lows values) i ≤ slice_index (highs values) i) → pairs_are_ordered values ≡ true
ordered_from_places [] h = refl
ordered_from_places (lo ∷ []) h = refl
ordered_from_places (lo ∷ hi ∷ rest) h =
    let first : lo ≤ hi = h 0 (omega arith) in
    let others = ordered_from_places rest (λ i lt. h (suc i) (omega arith)) in
    grind (arith, nat_tests, first, others)

-- what the corners make is what the values say
pub boxed : (values lo hi : List ℕ) (made : Option Area) → lo ≡ lows values → hi ≡ highs values → (IsSome made ↔ EachIndex lo (λ i. slice_index lo i ≤ slice_index hi i)) → IfSome made (λ a. (a.lo ≡ lo) × (a.hi ≡ hi)) → ok_or made EmptyBox ≡ box_read values
boxed values lo hi None lo_is hi_is made corners =
    elim (pairs_are_ordered values) as (λ b. pairs_are_ordered values ≡ b → ok_or {T = Area} None EmptyBox ≡ cond b (Ok (record { lo = lows values; hi = highs values })) (Err EmptyBox)) [
      | true ↦ λ e. absurd (false≢true (made.1 (rw (lo_is, hi_is) (ordered_by_place values e))))
      | false ↦ λ e. refl
    ] refl
boxed values lo hi (Some a) lo_is hi_is made corners =
    let ordered : pairs_are_ordered values ≡ true = ordered_from_places values (rw (lo_is, hi_is) at (made.0 refl)) in
    rw ordered (ap Ok (λ i. record { lo = (corners.0 ∙ lo_is) i; hi = (corners.1 ∙ hi_is) i }))
