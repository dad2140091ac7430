-- Where a line is cut into words.
use Rattle.std.proofs.Common.{◌≡◌, ℕ, suc, ◌+◌, ◌-◌, ◌<◌, ◌≤◌, Bool, true, false, not, cond, eqb, List, [], ◌∷◌, length, take, drop, Some, None, refl, sym, ap, ◌∙◌, arith}
use Rattle.std.specs.List.{onto_first, position, position_or_len, count_by, slice_split}
use Rattle.std.proofs.lemmas.List.{take_rest}
use Rattle.std.proofs.lemmas.Bool.Decides.{nat_tests}
use Rattle.std.proofs.lemmas.List.Splits.{slice_split_first, length-slice_split}
use Rattle.std.proofs.lemmas.Option.{cond_some}
use Rattle.hb_text.specs.Words.{words_of}

pub not_made : (b : Bool) (n : ℕ) → cond b (Some n) None ≡ None → b ≡ false
not_made true n e = cc
not_made false n e = refl

-- a list that is cut at each byte of a kind: where it has one, and where it has none
pub cut_at : (byte : ℕ) (line : List ℕ) (at : ℕ) → position (λ c. eqb c byte) line ≡ Some at → slice_split (λ c. eqb c byte) line ≡ take at line ∷ slice_split (λ c. eqb c byte) (take (length line - (at + 1)) (drop (at + 1) line))
cut_at byte line at e =
    let h = cond_some _ (position_or_len (λ c. eqb c byte) line) at e in
    let within : position_or_len (λ c. eqb c byte) line < length line = grind (arith, nat_tests, h.0) in
    slice_split_first (λ c. eqb c byte) line 0 within ∙ ap (λ n. take n line ∷ slice_split (λ c. eqb c byte) (drop (n + 1) line)) h.1
    ∙ ap (λ rest. take at line ∷ slice_split (λ c. eqb c byte) rest) (sym (take_rest line (at + 1)))

none_cut : (byte : ℕ) (line : List ℕ) → length line ≤ position_or_len (λ c. eqb c byte) line → slice_split (λ c. eqb c byte) line ≡ line ∷ []
none_cut byte [] h = refl
none_cut byte (c ∷ line) h =
    elim (eqb c byte) as (λ b. suc (length line) ≤ cond (not b) (1 + position_or_len (λ c. eqb c byte) line) 0 → cond b ([] ∷ slice_split (λ c. eqb c byte) line) (onto_first c (slice_split (λ c. eqb c byte) line)) ≡ (c ∷ line) ∷ []) [
      | true ↦ λ past. absurd (omega arith)
      | false ↦ λ past. ap (onto_first c) (none_cut byte line (omega arith))
    ] h

pub cut_nowhere : (byte : ℕ) (line : List ℕ) → position (λ c. eqb c byte) line ≡ None → slice_split (λ c. eqb c byte) line ≡ line ∷ []
cut_nowhere byte line e =
    let h = not_made _ (position_or_len (λ c. eqb c byte) line) e in
    none_cut byte line (grind (arith, nat_tests, h))

-- a line with a space is its first word, and the words behind that space
pub words_at_space : (line : List ℕ) (at : ℕ) → position (λ c. eqb c 32) line ≡ Some at → words_of line ≡ take at line ∷ words_of (take (length line - (at + 1)) (drop (at + 1) line))
words_at_space line at e = cut_at 32 line at e

-- a line without a space is one word
pub words_at_end : (line : List ℕ) → position (λ c. eqb c 32) line ≡ None → words_of line ≡ line ∷ []
words_at_end line e = cut_nowhere 32 line e

-- there is one word more than there are spaces
pub words_counted : (line : List ℕ) → length (words_of line) ≡ count_by (λ c. eqb c 32) line + 1
words_counted line = length-slice_split (λ c. eqb c 32) line

-- a line has a word
pub some_word : (line : List ℕ) → words_of line ≡ [] → ⊥
some_word line none = absurd (omega (arith, words_counted line, ap (λ (ws : List (List ℕ)). length ws) none))
