-- A text has a line feed or none: what its first line is then, whatever follows the text.
use Rattle.std.specs.Prelude.{◌≡◌, ℕ, ◌⊎◌, ◌+◌, ◌≤◌, true, false, ◌==◌, List, [], ◌∷◌, ◌++◌, length, refl}
use Rattle.std.proofs.Common.{inl, inr, ap, ◌∙◌, arith}
use Rattle.std.specs.List.{onto_first}
use Rattle.std.proofs.lemmas.Bool.{cond-true, cond-false}
use Rattle.hb_text.specs.Words.{lines_of}

-- the first of some lines
abbrev pub first_of : List (List ℕ) → List ℕ
first_of [] = []
first_of (line ∷ lines) = line

-- a text with a line feed: its first line, and what stands behind that line feed, whatever follows the text
pub record HasFeed (text : List ℕ) : Type 0 where
  pub line : List ℕ
  pub behind : List ℕ
  pub cuts : (rest : List ℕ) → lines_of (text ++ rest) ≡ line ∷ lines_of (behind ++ rest)
  pub bytes : length text ≡ (length line + 1) + length behind

-- a text without a line feed is within the first line, whatever follows the text
abbrev pub HasNoFeed : List ℕ → Type 0
HasNoFeed text = (rest : List ℕ) → length text ≤ length (first_of (lines_of (text ++ rest)))

onto_longer : (c : ℕ) (lines : List (List ℕ)) → length (first_of (onto_first c lines)) ≡ length (first_of lines) + 1
onto_longer c [] = omega arith
onto_longer c (line ∷ lines) = omega arith

other_cut : (c : ℕ) (text : List ℕ) → (c == 10) ≡ false → HasFeed text ⊎ HasNoFeed text → HasFeed (c ∷ text) ⊎ HasNoFeed (c ∷ text)
other_cut c text e (inl h) = inl (record {
  line = c ∷ h.line;
  behind = h.behind;
  cuts = λ rest. cond-false (c == 10) ([] ∷ lines_of (text ++ rest)) (onto_first c (lines_of (text ++ rest))) e ∙ ap (onto_first c) (h.cuts rest);
  bytes = omega (arith, h.bytes);
})
other_cut c text e (inr h) = inr (λ rest.
    let is = ap (λ (lines : List (List ℕ)). length (first_of lines)) (cond-false (c == 10) ([] ∷ lines_of (text ++ rest)) (onto_first c (lines_of (text ++ rest))) e) in
    omega (arith, is, onto_longer c (lines_of (text ++ rest)), h rest))

-- each text has a line feed or none
pub cut : (text : List ℕ) → HasFeed text ⊎ HasNoFeed text
cut [] = inr (λ rest. omega arith)
cut (c ∷ text) =
    elim (c == 10) as (λ b. (c == 10) ≡ b → HasFeed (c ∷ text) ⊎ HasNoFeed (c ∷ text)) [
      | true ↦ λ e. inl (record {
        line = [];
        behind = text;
        cuts = λ rest. cond-true (c == 10) ([] ∷ lines_of (text ++ rest)) (onto_first c (lines_of (text ++ rest))) e;
        bytes = omega arith;
      })
      | false ↦ λ e. other_cut c text e (cut text)
    ] refl
