-- Plain words, and a line that is made of them.
use Rattle.std.proofs.Common.{◌≡◌, ℕ, ◌*◌, ◌<◌, ◌≤◌, ◌^◌, true, false, List, [], ◌∷◌, ◌++◌, length, refl, sym, ap, ◌∙◌, arith, append-nil}
use Rattle.std.specs.Prelude.{map}
use Rattle.std.specs.List.{AllByRecursion, flat_map, list_all, list_any, join_with_byte}
use Rattle.std.specs.Fmt.{decimal}
use Rattle.std.specs.Char.{is_ascii_digit}
use Rattle.std.proofs.lemmas.Bool.Decides.{nat_tests}
use Rattle.std.proofs.lemmas.Bool.{and_parts}
use Rattle.std.proofs.lemmas.Fmt.{decimal_nonempty, digits_decimal, length-decimal-le}
use Rattle.std.proofs.lemmas.List.{length-append}
use Rattle.hb_text.specs.BodyText.{IsVisible}
use Rattle.hb_text.specs.Output.{numbers_text}
use Rattle.hb_text.specs.TextLaws.{HasNo}
use Rattle.hb_text.specs.Words.{words_of, is_printable, is_empty}
use Rattle.hb_text.proofs.Facts.NumberLaws.{own}
use Rattle.hb_text.proofs.Facts.WordLaws.{words_come_back}

-- a word has bytes, and all of them are visible
pub record IsPlain (word : List ℕ) : Type 0 where
  pub some : 0 < length word
  pub visible : AllByRecursion IsVisible word

digits_visible : (word : List ℕ) → list_all is_ascii_digit word ≡ true → AllByRecursion IsVisible word
digits_visible [] e = tt
digits_visible (c ∷ word) e =
    let parts = and_parts (is_ascii_digit c) (list_all is_ascii_digit word) e in
    ((grind (arith, nat_tests, parts.0), grind (arith, nat_tests, parts.0)), digits_visible word parts.1)

pub decimal_plain : (n : ℕ) → n < 2 ^ 64 → IsPlain (decimal n)
decimal_plain n small = record { some = decimal_nonempty n small; visible = digits_visible (decimal n) (digits_decimal own n small) }

-- numbers, each in a word
pub numbers_plain : (ns : List ℕ) → AllByRecursion (λ n. n < 2 ^ 64) ns → AllByRecursion IsPlain (map decimal ns)
numbers_plain [] below = tt
numbers_plain (n ∷ ns) below = (decimal_plain n below.0, numbers_plain ns below.1)

pub numbers_length : (ns : List ℕ) → AllByRecursion (λ n. n < 2 ^ 64) ns → length (numbers_text ns) ≤ 21 * length ns
numbers_length [] below = omega arith
numbers_length (n ∷ ns) below =
    let first : length (decimal n) ≤ 20 = length-decimal-le 20 n (omega arith) (omega (arith, below.0)) below.0 in
    omega (arith, length-append (32 ∷ decimal n) (numbers_text ns), first, numbers_length ns below.1)

-- the words behind the first one, each after a space
abbrev pub spaced : List (List ℕ) → List ℕ
spaced words = flat_map (λ word. 32 ∷ word) words

pub joined_is_spaced : (word : List ℕ) (words : List (List ℕ)) → join_with_byte 32 (word ∷ words) ≡ word ++ spaced words
joined_is_spaced word [] = sym (append-nil word)
joined_is_spaced word (next ∷ words) = ap (λ rest. word ++ 32 ∷ rest) (joined_is_spaced next words)

-- what may stand in a line
abbrev IsPrinted : ℕ → Type 0
IsPrinted c = (32 ≤ c) × (c ≤ 126)

visible_printed : (word rest : List ℕ) → AllByRecursion IsVisible word → AllByRecursion IsPrinted rest → AllByRecursion IsPrinted (word ++ rest)
visible_printed [] rest v p = p
visible_printed (c ∷ word) rest v p = ((omega (arith, v.0), omega (arith, v.0)), visible_printed word rest v.1 p)

spaced_printed : (words : List (List ℕ)) → AllByRecursion IsPlain words → AllByRecursion IsPrinted (spaced words)
spaced_printed [] plain = tt
spaced_printed (word ∷ words) plain = ((omega arith, omega arith), visible_printed word (spaced words) plain.0.visible (spaced_printed words plain.1))

printed_by_test : (line : List ℕ) → AllByRecursion IsPrinted line → list_all is_printable line ≡ true
printed_by_test [] p = refl
printed_by_test (c ∷ line) p =
    let first : is_printable c ≡ true = grind (arith, nat_tests, p.0) in
    rw (first, printed_by_test line p.1) refl

printed_no_feed : (line : List ℕ) → AllByRecursion IsPrinted line → HasNo 10 line
printed_no_feed [] p = tt
printed_no_feed (c ∷ line) p = (λ same. omega (arith, same, p.0), printed_no_feed line p.1)

visible_no_space : (word : List ℕ) → AllByRecursion IsVisible word → HasNo 32 word
visible_no_space [] v = tt
visible_no_space (c ∷ word) v = (λ same. omega (arith, same, v.0), visible_no_space word v.1)

plain_no_space : (words : List (List ℕ)) → AllByRecursion IsPlain words → AllByRecursion (HasNo 32) words
plain_no_space [] plain = tt
plain_no_space (word ∷ words) plain = (visible_no_space word plain.0.visible, plain_no_space words plain.1)

none_empty : (words : List (List ℕ)) → AllByRecursion IsPlain words → list_any is_empty words ≡ false
none_empty [] plain = refl
none_empty (word ∷ words) plain =
    let some : 0 < length word = plain.0.some in
    let first : is_empty word ≡ false = grind (arith, nat_tests, some) in
    rw (first, none_empty words plain.1) refl

-- a line of plain words: it breaks none of the rules of lines, and those are its words
pub record IsPlainLine (line : List ℕ) (words : List (List ℕ)) : Type 0 where
  pub words_are : words_of line ≡ words
  pub some : 0 < length line
  pub printable : list_all is_printable line ≡ true
  pub spacing : list_any is_empty words ≡ false
  pub one_line : HasNo 10 line

pub plain_line : (word : List ℕ) (words : List (List ℕ)) → IsPlain word → AllByRecursion IsPlain words → IsPlainLine (word ++ spaced words) (word ∷ words)
plain_line word words first others =
    let printed = visible_printed word (spaced words) first.visible (spaced_printed words others) in
    let some_words : 0 < length (word ∷ words) = omega arith in
    record {
      words_are = ap words_of (sym (joined_is_spaced word words)) ∙ words_come_back (word ∷ words) some_words (plain_no_space (word ∷ words) (first, others));
      some = omega (arith, length-append word (spaced words), first.some);
      printable = printed_by_test (word ++ spaced words) printed;
      spacing = none_empty (word ∷ words) (first, others);
      one_line = printed_no_feed (word ++ spaced words) printed;
    }
