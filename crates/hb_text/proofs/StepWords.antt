-- Where the word of a step line is cut, and how many steps are left behind words.
use Rattle.std.proofs.Common.{◌≡◌, ℕ, ◌+◌, ◌-◌, ◌<◌, ◌≤◌, true, false, cond, eqb, ◌&&◌, List, [], ◌∷◌, ◌++◌, length, take, drop, replicate, Option, Some, None, Result, Ok, Err, refl, sym, ap, subst, ◌∙◌, arith, append_assoc, nat_le, nat_lt, inl, inr}
use Rattle.std.specs.List.{position, position_or_len, slice_split, list_all}
use Rattle.std.specs.Char.{is_ascii_digit}
use Rattle.std.proofs.lemmas.Bool.Decides.{nat_tests}
use Rattle.std.proofs.lemmas.List.{length-append, length-replicate}
use Rattle.std.proofs.lemmas.List.Splits.{length-slice_split}
use Rattle.std.proofs.lemmas.Bool.{and_parts}
use Rattle.std.proofs.lemmas.Option.{cond_some}
use Rattle.hb_text.specs.declared.numbers.NumberFault.{NumberFault}
use Rattle.hb_text.specs.declared.rules.TextRule.TheVariants.{BadStep}
use Rattle.hb_text.specs.Numbers.{is_number, number_read}
use Rattle.hb_text.specs.StepWords.{actor_of, count_number, repeated, steps_of_parts, word_steps, joined_steps, steps_of, within_schedule, steps_read}
use Rattle.hb_text.specs.Steps.{left_after, then_left, steps_left}
use Rattle.hb_lemmas.proofs.Booleans.{chosen}
use Rattle.hb_text.proofs.WordCuts.{cut_at, cut_nowhere}

abbrev parts : List ℕ → List (List ℕ)
parts word = slice_split (λ c. eqb c 120) word

no_x : (w : List ℕ) → list_all is_ascii_digit w ≡ true → length w ≤ position_or_len (λ c. eqb c 120) w
no_x [] h = omega arith
no_x (c ∷ w) h =
    let digit = and_parts (is_ascii_digit c) (list_all is_ascii_digit w) h in
    let other : eqb c 120 ≡ false = grind (arith, nat_tests, digit.0) in
    rw other (omega (arith, no_x w digit.1))

digits_of : (w : List ℕ) → is_number w ≡ true → list_all is_ascii_digit w ≡ true
digits_of [] e = refl
digits_of (c ∷ []) e = rw e refl
digits_of (c ∷ d ∷ rest) e = (and_parts (nat_lt 48 c) (list_all is_ascii_digit (c ∷ d ∷ rest)) e).1

no_count : (w : List ℕ) (j : ℕ) → position (λ c. eqb c 120) w ≡ Some j → count_number (number_read w) ≡ None
no_count w j e = elim (is_number w) as (λ b. is_number w ≡ b → count_number (number_read w) ≡ None) [
  | true ↦ λ is.
      let h = cond_some _ (position_or_len (λ c. eqb c 120) w) j e in
      let within : position_or_len (λ c. eqb c 120) w < length w = grind (arith, nat_tests, h.0) in
      absurd (omega (arith, within, no_x w (digits_of w is)))
  | false ↦ λ not. rw not refl
] refl

none_repeated : (actor : Option ℕ) → repeated actor None ≡ None
none_repeated None = refl
none_repeated (Some a) = refl

three : (a b : List ℕ) (rest : List (List ℕ)) → 0 < length rest → steps_of_parts (a ∷ b ∷ rest) ≡ None
three a b [] some = absurd (omega arith)
three a b (c ∷ rest) some = refl

some_part : (w : List ℕ) → 0 < length (parts w)
some_part w = omega (arith, length-slice_split (λ c. eqb c 120) w)

two_parts : (a w : List ℕ) (o : Option ℕ) → position (λ c. eqb c 120) w ≡ o → steps_of_parts (a ∷ parts w) ≡ repeated (actor_of a) (count_number (number_read w))
two_parts a w None e = ap (λ (ps : List (List ℕ)). steps_of_parts (a ∷ ps)) (cut_nowhere 120 w e)
two_parts a w (Some j) e =
    ap (λ (ps : List (List ℕ)). steps_of_parts (a ∷ ps)) (cut_at 120 w j e)
    ∙ three a (take j w) (parts (take (length w - (j + 1)) (drop (j + 1) w))) (some_part (take (length w - (j + 1)) (drop (j + 1) w)))
    ∙ sym (ap (repeated (actor_of a)) (no_count w j e) ∙ none_repeated (actor_of a))

pub steps_at_x : (word : List ℕ) (at : ℕ) → position (λ c. eqb c 120) word ≡ Some at → word_steps word ≡ repeated (actor_of (take at word)) (count_number (number_read (take (length word - (at + 1)) (drop (at + 1) word))))
steps_at_x word at e = ap steps_of_parts (cut_at 120 word at e) ∙ two_parts (take at word) (take (length word - (at + 1)) (drop (at + 1) word)) (position (λ c. eqb c 120) (take (length word - (at + 1)) (drop (at + 1) word))) refl

pub steps_without_x : (word : List ℕ) → position (λ c. eqb c 120) word ≡ None → word_steps word ≡ repeated (actor_of word) (Some 1)
steps_without_x word e = ap steps_of_parts (cut_nowhere 120 word e)

-- steps are left exactly where the words say steps within what was left
abbrev pub Left : ℕ → Option (List ℕ) → Option ℕ → Type 0
Left left None rest = rest ≡ None
Left left (Some steps) None = left < length steps
Left left (Some steps) (Some rest) = left ≡ rest + length steps

one_left : (left : ℕ) (one more : Option (List ℕ)) (rest : ℕ → Option ℕ) → ((n : ℕ) → Left n more (rest n)) → Left left (joined_steps one more) (then_left (left_after left one) rest)
one_left left None more rest f = refl
one_left left (Some steps) more rest f = elim (nat_le (length steps) left) as (λ b. nat_le (length steps) left ≡ b → Left left (joined_steps (Some steps) more) (then_left (cond b (Some (left - length steps)) None) rest)) [
  | true ↦ λ fits. joined more (rest (left - length steps)) (grind (arith, nat_tests, fits)) (f (left - length steps))
  | false ↦ λ not. short more (grind (arith, nat_tests, not))
] refl where
  joined : (more : Option (List ℕ)) (r : Option ℕ) → length steps ≤ left → Left (left - length steps) more r → Left left (joined_steps (Some steps) more) r
  joined None r fits h = h
  joined (Some m) None fits h = omega (arith, h, fits, length-append steps m)
  joined (Some m) (Some r) fits h = omega (arith, h, fits, length-append steps m)

  short : (more : Option (List ℕ)) → left < length steps → Left left (joined_steps (Some steps) more) None
  short None h = refl
  short (Some m) h = omega (arith, h, length-append steps m)

pub words_left : (left : ℕ) (words : List (List ℕ)) → Left left (steps_of words) (steps_left left words)
words_left left [] = omega arith
words_left left (word ∷ words) = one_left left (word_steps word) (steps_of words) (λ n. steps_left n words) (λ n. words_left n words)

-- what a schedule may still take, and what the words say
schedule_some : (taken rest : ℕ) (said : Option (List ℕ)) → taken ≤ 10000000 → Left (10000000 - taken) said (Some rest) → (steps : List ℕ) × (said ≡ Some steps) × (within_schedule taken said ≡ Ok steps)
schedule_some taken rest None few h = cc
schedule_some taken rest (Some steps) few h =
    let fits : nat_le (taken + length steps) 10000000 ≡ true = grind (arith, nat_tests, few, h) in
    (steps, refl, rw fits refl)

schedule_none : (taken : ℕ) (said : Option (List ℕ)) → taken ≤ 10000000 → Left (10000000 - taken) said None → within_schedule taken said ≡ Err BadStep
schedule_none taken None few h = refl
schedule_none taken (Some steps) few h =
    let many : nat_le (taken + length steps) 10000000 ≡ false = grind (arith, nat_tests, few, h) in
    rw many refl

-- an actor at least makes a step
repeated_some : (actor count : Option ℕ) (steps : List ℕ) → ((n : ℕ) → count ≡ Some n → 0 < n) → repeated actor count ≡ Some steps → 0 < length steps
repeated_some (Some a) (Some n) steps f e =
    let same : replicate n a ≡ steps = cc in
    omega (arith, f n refl, length-replicate n a, ap (λ (s : List ℕ). length s) same)
repeated_some (Some a) None steps f e = cc
repeated_some None count steps f e = cc

count_some : (read : Result ℕ NumberFault) (n : ℕ) → count_number read ≡ Some n → 0 < n
count_some (Err fault) n e = cc
count_some (Ok m) n e = elim (chosen (nat_le 1 m && nat_le m 1000000) (Some m) None (Some n) e) [
  | inl fits ↦ let same : m ≡ n = cc (fits.1) in grind (arith, nat_tests, fits.0, same)
  | inr other ↦ cc (other.1)
]

parts_some : (ps : List (List ℕ)) (steps : List ℕ) → steps_of_parts ps ≡ Some steps → 0 < length steps
parts_some [] steps e = cc
parts_some (a ∷ []) steps e = repeated_some (actor_of a) (Some 1) steps (λ n is. let same : 1 ≡ n = cc in omega (arith, same)) e
parts_some (a ∷ b ∷ []) steps e = repeated_some (actor_of a) (count_number (number_read b)) steps (λ n is. count_some (number_read b) n is) e
parts_some (a ∷ b ∷ c ∷ rest) steps e = cc

joined_some : (one more : Option (List ℕ)) (steps : List ℕ) → ((s : List ℕ) → one ≡ Some s → 0 < length s) → joined_steps one more ≡ Some steps → 0 < length steps
joined_some (Some one) (Some more) steps f e =
    let same : one ++ more ≡ steps = cc in
    omega (arith, f one refl, length-append one more, ap (λ (s : List ℕ). length s) same)
joined_some (Some one) None steps f e = cc
joined_some None more steps f e = cc

words_some : (word : List ℕ) (words : List (List ℕ)) (steps : List ℕ) → steps_of (word ∷ words) ≡ Some steps → 0 < length steps
words_some word words steps e = joined_some (word_steps word) (steps_of words) steps (λ s is. parts_some (parts word) s is) e

pub read_some : (taken : ℕ) (words : List (List ℕ)) (rest : ℕ) (left : Option ℕ) → taken ≤ 10000000 → (words ≡ [] → ⊥) → left ≡ steps_left (10000000 - taken) words → left ≡ Some rest → (steps : List ℕ) × (steps_read taken words ≡ Ok steps) × (steps_of words ≡ Some steps) × (0 < length steps)
read_some taken [] rest left few some is e = absurd (some refl)
read_some taken (word ∷ words) rest left few some is e =
    let found = schedule_some taken rest (steps_of (word ∷ words)) few (subst (Left (10000000 - taken) (steps_of (word ∷ words))) (sym is ∙ e) (words_left (10000000 - taken) (word ∷ words))) in
    (found.0, found.2, found.1, words_some word words found.0 found.1)

pub read_none : (taken : ℕ) (words : List (List ℕ)) (left : Option ℕ) → taken ≤ 10000000 → left ≡ steps_left (10000000 - taken) words → left ≡ None → steps_read taken words ≡ Err BadStep
read_none taken [] left few is e = refl
read_none taken (word ∷ words) left few is e = schedule_none taken (steps_of (word ∷ words)) few (subst (Left (10000000 - taken) (steps_of (word ∷ words))) (sym is ∙ e) (words_left (10000000 - taken) (word ∷ words)))

-- the steps of one word more
pub said_more : (word : List ℕ) (words : List (List ℕ)) (said one : List ℕ) → steps_of (word ∷ words) ≡ Some said → word_steps word ≡ Some one → (rest : List ℕ) × (steps_of words ≡ Some rest) × (said ≡ one ++ rest)
said_more word words said one e is = split (word_steps word) (steps_of words) refl e is where
  split : (a b : Option (List ℕ)) → steps_of words ≡ b → joined_steps a b ≡ Some said → a ≡ Some one → (rest : List ℕ) × (steps_of words ≡ Some rest) × (said ≡ one ++ rest)
  split (Some x) (Some y) w e is =
      let same : x ≡ one = cc in
      let whole : x ++ y ≡ said = cc in
      (y, w, sym whole ∙ ap (λ (s : List ℕ). s ++ y) same)
  split (Some x) None w e is = cc
  split None y w e is = cc

-- the steps so far and the rest, after one word more
pub steps_grow : (before now new : List ℕ) (word : List ℕ) (words : List (List ℕ)) (said all one rest : List ℕ) → now ++ said ≡ before ++ all → said ≡ one ++ rest → new ≡ now ++ one → new ++ rest ≡ before ++ all
steps_grow before now new word words said all one rest whole is more = ap (λ (s : List ℕ). s ++ rest) more ∙ append_assoc now one rest ∙ ap (λ (s : List ℕ). now ++ s) (sym is) ∙ whole
