-- A text that breaks no rule has at most 1,000,000 lines of at most 256 bytes, each with a line feed.
use Rattle.std.specs.Prelude.{Bool, ◌≡◌, ℕ, suc, ◌+◌, ◌-◌, ◌*◌, ◌≤◌, true, false, not, cond, ◌==◌, nat_lt, List, [], ◌∷◌, length, None, Result, Ok, Err, if◌then◌else◌}
use Rattle.std.proofs.Common.{inl, inr, arith}
use Rattle.std.specs.List.{list_all, list_any, onto_first}
use Rattle.hb_text.specs.declared.rules.TextRule.{TextRule}
use Rattle.hb_text.specs.declared.rules.TextRule.TheVariants.{TooMany, LongLine, BadByte, BadSpacing}
use Rattle.hb_space.specs.declared.form.TheConstants.{LINE}
use Rattle.hb_text.specs.Grammar.{words_read, line_read, lines_read, at_line, text_read, Said, Reading}
use Rattle.hb_text.specs.Words.{words_of, lines_of, is_empty, is_printable}
use Rattle.hb_lemmas.proofs.Booleans.{chosen}
use Rattle.hb_text.proofs.Facts.ReadingLaws.{bound, at_line_ok}
use Rattle.std.proofs.lemmas.Bool.Decides.{nat_tests}

-- the bytes of the lines, each with a line feed behind it
abbrev bytes_of : List (List ℕ) → ℕ
bytes_of [] = 0
bytes_of (line ∷ lines) = (length line + 1) + bytes_of lines

onto_bytes : (c : ℕ) (lines : List (List ℕ)) → 1 + bytes_of lines ≤ bytes_of (onto_first c lines)
onto_bytes c [] = omega arith
onto_bytes c (line ∷ lines) = omega arith

text_bytes : (text : List ℕ) → length text ≤ bytes_of (lines_of text)
text_bytes [] = omega arith
text_bytes (c ∷ text) =
    elim (c == 10) as (λ b. suc (length text) ≤ bytes_of (cond b ([] ∷ lines_of text) (onto_first c (lines_of text)))) [
      | true ↦ omega (arith, text_bytes text)
      | false ↦ omega (arith, text_bytes text, onto_bytes c (lines_of text))
    ]

-- whether step lines are allowed
module _ (allowed : Bool) where
  -- a line that breaks no rule is one of the first 1,000,000 and has at most 256 bytes
  pub line_bytes : (k taken number : ℕ) (line : List ℕ) (said : Said) → line_read allowed k taken number line ≡ Ok said → (number ≤ 1000000) × (length line ≤ 256)
  unfolding line_read
  line_bytes k taken number line said e =
      let words = words_read allowed k taken number (words_of line) in
      let spaced = if list_any is_empty (words_of line) then Err BadSpacing else words in
      let plain = if not (list_all is_printable line) then Err BadByte else spaced in
      let short = if nat_lt LINE (length line) then Err LongLine else plain in
      let some : Result Said TextRule = if is_empty line then Ok (record { line = None; steps = [] }) else short in
      elim (chosen (nat_lt 1000000 number) (Err TooMany) some (Ok said) e) [
        | inl many ↦ cc (many.1)
        | inr few ↦ elim (chosen (is_empty line) (Ok (record { line = None; steps = [] })) short (Ok said) few.1) [
          | inl none ↦ (grind (arith, nat_tests, few.0), grind (arith, nat_tests, none.0))
          | inr filled ↦ elim (chosen (nat_lt LINE (length line)) (Err LongLine) plain (Ok said) filled.1) [
            | inl long ↦ cc (long.1)
            | inr fit ↦ (grind (arith, nat_tests, few.0), grind (arith, nat_tests, fit.0))
          ]
        ]
      ]

  lines_bytes : (k taken number : ℕ) (lines : List (List ℕ)) (reading : Reading) → number ≤ 1000001 → lines_read allowed k taken number lines ≡ Ok reading → bytes_of lines ≤ 257 * (1000001 - number)
  unfolding lines_read
  lines_bytes k taken number [] reading n_to e = omega arith
  lines_bytes k taken number (line ∷ lines) reading n_to e =
      let said = bound (at_line number (line_read allowed k taken number line)) _ reading e in
      let more = bound (lines_read allowed k (taken + length said.0.steps) (number + 1) lines) _ reading said.2 in
      let short = line_bytes k taken number line said.0 (at_line_ok number _ said.0 said.1) in
      omega (arith, short.0, short.1, lines_bytes k (taken + length said.0.steps) (number + 1) lines more.0 (omega (arith, short.0)) more.1)

  pub text_is_short : (k : ℕ) (text : List ℕ) (reading : Reading) → text_read allowed k text ≡ Ok reading → length text ≤ 257000000
  text_is_short k text reading e = omega (arith, text_bytes text, lines_bytes k 0 1 (lines_of text) reading (omega arith) e)
