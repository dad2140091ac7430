-- What the words of a line are, seen from the writer of a text.
use Rattle.std.specs.Prelude.{◌≡◌, ℕ, ◌<◌, true, false, cond, ◌==◌, List, [], ◌∷◌, ◌++◌, length}
use Rattle.std.proofs.Common.{refl, ap, ◌∙◌, arith}
use Rattle.std.specs.List.{AllByRecursion, onto_first, join_with_byte}
use Rattle.std.proofs.lemmas.Bool.Decides.{nat_tests}
use Rattle.std.proofs.lemmas.List.Splits.{join_with_byte-slice_split}
use Rattle.hb_text.specs.Words.{words_of}
use Rattle.hb_text.specs.TextLaws.{HasNo}
use Rattle.hb_text.proofs.Facts.TextLaws.{onto_has_no}

pub words_have_no_space : (line : List ℕ) → AllByRecursion (HasNo 32) (words_of line)
words_have_no_space [] = (tt, tt)
words_have_no_space (c ∷ line) = elim (c == 32) as (λ b. (c == 32) ≡ b → AllByRecursion (HasNo 32) (cond b ([] ∷ words_of line) (onto_first c (words_of line)))) [
  | true ↦ λ is. (tt, words_have_no_space line)
  | false ↦ λ is. onto_has_no 32 c (words_of line) (λ same. absurd (grind (arith, nat_tests, is, same))) (words_have_no_space line)
] refl

pub words_give_the_line : (line : List ℕ) → join_with_byte 32 (words_of line) ≡ line
words_give_the_line line = join_with_byte-slice_split 32 line

only_word : (word : List ℕ) → HasNo 32 word → words_of word ≡ word ∷ []
only_word [] none = refl
only_word (c ∷ word) none = elim (c == 32) as (λ b. (c == 32) ≡ b → cond b ([] ∷ words_of word) (onto_first c (words_of word)) ≡ (c ∷ word) ∷ []) [
  | true ↦ λ is. absurd (none.0 (grind (arith, nat_tests, is)))
  | false ↦ λ is. ap (onto_first c) (only_word word none.1)
] refl

first_word_back : (word rest : List ℕ) → HasNo 32 word → words_of (word ++ 32 ∷ rest) ≡ word ∷ words_of rest
first_word_back [] rest none = refl
first_word_back (c ∷ word) rest none = elim (c == 32) as (λ b. (c == 32) ≡ b → cond b ([] ∷ words_of (word ++ 32 ∷ rest)) (onto_first c (words_of (word ++ 32 ∷ rest))) ≡ (c ∷ word) ∷ words_of rest) [
  | true ↦ λ is. absurd (none.0 (grind (arith, nat_tests, is)))
  | false ↦ λ is. ap (onto_first c) (first_word_back word rest none.1)
] refl

pub words_come_back : (words : List (List ℕ)) → 0 < length words → AllByRecursion (HasNo 32) words → words_of (join_with_byte 32 words) ≡ words
words_come_back [] some none = absurd (omega arith)
words_come_back (word ∷ []) some none = only_word word none.0
words_come_back (word ∷ next ∷ words) some none =
    first_word_back word (join_with_byte 32 (next ∷ words)) none.0 ∙ ap (λ rest. word ∷ rest) (words_come_back (next ∷ words) (omega arith) none.1)
