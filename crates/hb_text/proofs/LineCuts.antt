-- Where a text is cut into lines.
use Rattle.std.proofs.Common.{◌≡◌, ℕ, suc, ◌+◌, ◌-◌, ◌<◌, ◌≤◌, true, false, not, cond, eqb, List, [], ◌∷◌, length, take, drop, Some, None, refl, sym, ap, ◌∙◌, arith}
use Rattle.std.specs.List.{onto_first, position, position_or_len}
use Rattle.std.proofs.Math.Numerals.{add-one}
use Rattle.std.proofs.lemmas.List.{drop_all, take_rest}
use Rattle.std.proofs.lemmas.Bool.Decides.{nat_tests}
use Rattle.std.proofs.lemmas.Option.{cond_some}
use Rattle.hb_text.specs.Words.{lines_of}
use Rattle.hb_text.proofs.WordCuts.{not_made}

-- a text with a line feed is its first line, and the lines behind that line feed
cut_at : (text : List ℕ) (at : ℕ) → position_or_len (λ c. eqb c 10) text ≡ at → at < length text → lines_of text ≡ take at text ∷ lines_of (drop (at + 1) text)
cut_at [] at e h = absurd (omega arith)
cut_at (c ∷ text) at e h =
    elim (eqb c 10) as (λ b. cond (not b) (1 + position_or_len (λ c. eqb c 10) text) 0 ≡ at → cond b ([] ∷ lines_of text) (onto_first c (lines_of text)) ≡ take at (c ∷ text) ∷ lines_of (drop (at + 1) (c ∷ text))) [
      | true ↦ λ first. rw (← first) refl
      | false ↦ λ later.
          let n = position_or_len (λ c. eqb c 10) text in
          let is_suc : at ≡ suc n = omega arith in
          rw (is_suc, add-one) (ap (onto_first c) (cut_at text n refl (omega arith)) ∙ rw add-one refl)
    ] e

-- a text without a line feed is one line
none_cut : (c : ℕ) (text : List ℕ) → length (c ∷ text) ≤ position_or_len (λ c. eqb c 10) (c ∷ text) → lines_of (c ∷ text) ≡ (c ∷ text) ∷ []
none_cut c [] h =
    elim (eqb c 10) as (λ b. 1 ≤ cond (not b) (1 + 0) 0 → cond b ([] ∷ []) ((c ∷ []) ∷ []) ≡ (c ∷ []) ∷ []) [
      | true ↦ λ past. absurd (omega arith)
      | false ↦ λ past. refl
    ] h
none_cut c (d ∷ text) h =
    elim (eqb c 10) as (λ b. suc (length (d ∷ text)) ≤ cond (not b) (1 + position_or_len (λ c. eqb c 10) (d ∷ text)) 0 → cond b ([] ∷ lines_of (d ∷ text)) (onto_first c (lines_of (d ∷ text))) ≡ (c ∷ d ∷ text) ∷ []) [
      | true ↦ λ past. absurd (omega arith)
      | false ↦ λ past. ap (onto_first c) (none_cut d text (omega arith))
    ] h

pub lines_at_feed : (text : List ℕ) (at : ℕ) → position (λ c. eqb c 10) text ≡ Some at → lines_of text ≡ take at text ∷ lines_of (take (length text - (at + 1)) (drop (at + 1) text))
lines_at_feed text at e =
    let h = cond_some _ (position_or_len (λ c. eqb c 10) text) at e in
    let within : at < length text = grind (arith, nat_tests, h.0, h.1) in
    cut_at text at h.1 within ∙ ap (λ rest. take at text ∷ lines_of rest) (sym (take_rest text (at + 1)))

one_line : (text : List ℕ) → 0 < length text → length text ≤ position_or_len (λ c. eqb c 10) text → lines_of text ≡ text ∷ []
one_line [] some h = absurd (omega arith)
one_line (c ∷ text) some h = none_cut c text h

pub lines_at_end : (text : List ℕ) → 0 < length text → position (λ c. eqb c 10) text ≡ None → lines_of text ≡ text ∷ lines_of (take (length text - length text) (drop (length text) text))
lines_at_end text some e =
    let h = not_made _ (position_or_len (λ c. eqb c 10) text) e in
    let past : length text ≤ position_or_len (λ c. eqb c 10) text = grind (arith, nat_tests, h) in
    rw (take_rest text (length text), drop_all (length text) text (omega arith)) (one_line text some past)
