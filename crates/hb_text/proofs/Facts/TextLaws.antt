-- What the lines of a text are, seen from its writer.
use Rattle.std.specs.Prelude.{◌≡◌, ◌≢◌, ℕ, ◌<◌, true, false, cond, ◌==◌, List, [], ◌∷◌, ◌++◌, length}
use Rattle.std.proofs.Common.{refl, ap, ◌∙◌, arith}
use Rattle.std.specs.List.{AllByRecursion, onto_first}
use Rattle.std.proofs.lemmas.Bool.Decides.{nat_tests}
use Rattle.hb_text.specs.Words.{lines_of}
use Rattle.hb_text.specs.TextLaws.{HasNo, with_line_feeds}

onto_fed : (c : ℕ) (lines : List (List ℕ)) → 0 < length lines → with_line_feeds (onto_first c lines) ≡ c ∷ with_line_feeds lines
onto_fed c [] some = absurd (omega arith)
onto_fed c (line ∷ lines) some = refl

onto_some : (c : ℕ) (lines : List (List ℕ)) → 0 < length (onto_first c lines)
onto_some c [] = omega arith
onto_some c (line ∷ lines) = omega arith

some_line : (text : List ℕ) (d : ℕ) → 0 < length (lines_of (text ++ d ∷ []))
some_line [] d = elim (d == 10) as (λ b. 0 < length (cond b ([] ∷ []) ((d ∷ []) ∷ []))) [ true ↦ omega arith | false ↦ omega arith ]
some_line (c ∷ text) d = elim (c == 10) as (λ b. 0 < length (cond b ([] ∷ lines_of (text ++ d ∷ [])) (onto_first c (lines_of (text ++ d ∷ []))))) [
  | true ↦ omega arith
  | false ↦ onto_some c (lines_of (text ++ d ∷ []))
]

pub lines_give_the_text : (text : List ℕ) → with_line_feeds (lines_of (text ++ 10 ∷ [])) ≡ text ++ 10 ∷ []
lines_give_the_text [] = refl
lines_give_the_text (c ∷ text) = elim (c == 10) as (λ b. (c == 10) ≡ b → with_line_feeds (cond b ([] ∷ lines_of (text ++ 10 ∷ [])) (onto_first c (lines_of (text ++ 10 ∷ [])))) ≡ c ∷ (text ++ 10 ∷ [])) [
  | true ↦ λ is.
      let feed : 10 ≡ c = grind (arith, nat_tests, is) in
      rw (← feed) (ap (λ rest. 10 ∷ rest) (lines_give_the_text text))
  | false ↦ λ is. onto_fed c _ (some_line text 10) ∙ ap (λ rest. c ∷ rest) (lines_give_the_text text)
] refl

pub last_feed_is_free : (text : List ℕ) (c : ℕ) → c ≢ 10 → lines_of (text ++ c ∷ []) ≡ lines_of (text ++ c ∷ 10 ∷ [])
last_feed_is_free [] c other = elim (c == 10) as (λ b. (c == 10) ≡ b → cond b ([] ∷ []) ((c ∷ []) ∷ []) ≡ cond b ([] ∷ [] ∷ []) ((c ∷ []) ∷ [])) [
  | true ↦ λ is. absurd (other (grind (arith, nat_tests, is)))
  | false ↦ λ is. refl
] refl
last_feed_is_free (d ∷ text) c other = ap (λ rest. cond (d == 10) ([] ∷ rest) (onto_first d rest)) (last_feed_is_free text c other)

first_line_back : (line rest : List ℕ) → HasNo 10 line → lines_of ((line ++ 10 ∷ []) ++ rest) ≡ line ∷ lines_of rest
first_line_back [] rest none = refl
first_line_back (c ∷ line) rest none = elim (c == 10) as (λ b. (c == 10) ≡ b → cond b ([] ∷ lines_of ((line ++ 10 ∷ []) ++ rest)) (onto_first c (lines_of ((line ++ 10 ∷ []) ++ rest))) ≡ (c ∷ line) ∷ lines_of rest) [
  | true ↦ λ is. absurd (none.0 (grind (arith, nat_tests, is)))
  | false ↦ λ is. ap (onto_first c) (first_line_back line rest none.1)
] refl

pub lines_come_back : (lines : List (List ℕ)) → AllByRecursion (HasNo 10) lines → lines_of (with_line_feeds lines) ≡ lines
lines_come_back [] none = refl
lines_come_back (line ∷ lines) none = first_line_back line (with_line_feeds lines) none.0 ∙ ap (λ rest. line ∷ rest) (lines_come_back lines none.1)

-- a byte that isn't the one joins the first part
pub onto_has_no : (byte c : ℕ) (parts : List (List ℕ)) → c ≢ byte → AllByRecursion (HasNo byte) parts → AllByRecursion (HasNo byte) (onto_first c parts)
onto_has_no byte c [] other none = ((other, tt), tt)
onto_has_no byte c (part ∷ parts) other none = ((other, none.0), none.1)

pub lines_have_no_feed : (text : List ℕ) → AllByRecursion (HasNo 10) (lines_of text)
lines_have_no_feed [] = tt
lines_have_no_feed (c ∷ text) = elim (c == 10) as (λ b. (c == 10) ≡ b → AllByRecursion (HasNo 10) (cond b ([] ∷ lines_of text) (onto_first c (lines_of text)))) [
  | true ↦ λ is. (tt, lines_have_no_feed text)
  | false ↦ λ is. onto_has_no 10 c (lines_of text) (λ same. absurd (grind (arith, nat_tests, is, same))) (lines_have_no_feed text)
] refl
