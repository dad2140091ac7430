-- Lines of a text, one after the other.
use Rattle.std.proofs.Common.{◌≡◌, ℕ, ◌+◌, Bool, List, [], ◌∷◌, ◌++◌, length, Ok, Err, Result, refl, sym, ap, ◌∙◌, arith, append_assoc, append-nil}
use Rattle.std.specs.Option.{option_to_list}
use Rattle.std.proofs.lemmas.List.{length-append}
use Rattle.hb_set.specs.declared.scripts.Line.{Line}
use Rattle.hb_text.specs.declared.rules.BadLine.{BadLine}
use Rattle.hb_text.specs.declared.rules.TextRule.{TextRule}
use Rattle.hb_text.specs.Grammar.{Said, Reading, with_said, line_read, lines_read, text_read}
use Rattle.hb_text.specs.Words.{◌>>=◌, lines_of}
use Rattle.hb_text.specs.declared.rules.TextError.{TextError}
use Rattle.hb_text.specs.declared.rules.TextError.TheVariants as errors
use Rattle.hb_text.specs.Reading.{ReadsScript, AddsLine}

-- a list of lines and one of steps, each for another
pub both_same : {X : Type 0} (f : List Line → List ℕ → X) (ls ms : List Line) (ss ts : List ℕ) → ls ≡ ms → ss ≡ ts → f ls ss ≡ f ms ts
both_same f ls ms ss ts e d = ap (λ (l : List Line). f l ss) e ∙ ap (f ms) d

-- the commands and steps so far, and what the rest reads
abbrev pub after_lines : List Line → List ℕ → Result Reading BadLine → Result Reading BadLine
after_lines front before read = read >>= (λ more. Ok (record { lines = front ++ more.lines; steps = before ++ more.steps }))

-- before the first line
pub lines_begin : (read : Result Reading BadLine) → after_lines [] [] read ≡ read
lines_begin (Ok reading) = refl
lines_begin (Err bad) = refl

-- what one line says joins them
after_said : (front : List Line) (before : List ℕ) (said : Said) (read : Result Reading BadLine) → after_lines front before (read >>= (λ more. Ok (with_said said more))) ≡ after_lines (front ++ option_to_list said.line) (before ++ said.steps) read
after_said front before said (Ok more) = both_same (λ (lines : List Line) (steps : List ℕ). Ok (record { lines = lines; steps = steps })) _ _ _ _ (sym (append_assoc front (option_to_list said.line) more.lines)) (sym (append_assoc before said.steps more.steps))
after_said front before said (Err bad) = refl

module _ (allowed : Bool) where
  pub line_ok : (front new : List Line) (before after : List ℕ) (k number : ℕ) (text behind line : List ℕ) (said : Said) → lines_of text ≡ line ∷ lines_of behind → line_read allowed k (length before) number line ≡ Ok said → new ≡ front ++ option_to_list said.line → after ≡ before ++ said.steps → after_lines front before (lines_read allowed k (length before) number (lines_of text)) ≡ after_lines new after (lines_read allowed k (length after) (number + 1) (lines_of behind))
  unfolding lines_read
  line_ok front new before after k number text behind line said cut ok is steps =
      let count : length after ≡ length before + length said.steps = ap length steps ∙ length-append before said.steps in
      rw cut (rw ok (after_said front before said (lines_read allowed k (length before + length said.steps) (number + 1) (lines_of behind))
      ∙ ap (λ (n : ℕ). after_lines (front ++ option_to_list said.line) (before ++ said.steps) (lines_read allowed k n (number + 1) (lines_of behind))) (sym count)
      ∙ both_same (λ (ls : List Line) (ss : List ℕ). after_lines ls ss (lines_read allowed k (length after) (number + 1) (lines_of behind))) _ _ _ _ (sym is) (sym steps)))

  pub line_err : (front : List Line) (before : List ℕ) (k number : ℕ) (text behind line : List ℕ) (rule : TextRule) → lines_of text ≡ line ∷ lines_of behind → line_read allowed k (length before) number line ≡ Err rule → after_lines front before (lines_read allowed k (length before) number (lines_of text)) ≡ Err (record { line = number; rule = rule })
  unfolding lines_read
  line_err front before k number text behind line rule cut err = rw cut (rw err refl)

  -- no line is left
  pub lines_done : (front : List Line) (before : List ℕ) (k number : ℕ) → after_lines front before (lines_read allowed k (length before) number (lines_of [])) ≡ Ok (record { lines = front; steps = before })
  unfolding lines_read
  lines_done front before k number = both_same (λ (lines : List Line) (steps : List ℕ). Ok (record { lines = lines; steps = steps })) _ _ _ _ (append-nil front) (append-nil before)

  pub text_done : (front : List Line) (before : List ℕ) (k number : ℕ) (rest : List ℕ) → length rest ≡ 0 → after_lines front before (lines_read allowed k (length before) number (lines_of rest)) ≡ Ok (record { lines = front; steps = before })
  text_done front before k number [] e = lines_done front before k number
  text_done front before k number (c ∷ rest) e = absurd (omega arith)

  -- the first bad line is the answer
  pub text_err : (front new : List Line) (before after : List ℕ) (k number : ℕ) (text rest behind line : List ℕ) (error : TextError) → lines_of rest ≡ line ∷ lines_of behind → AddsLine number front new before after (Err error) (line_read allowed k (length before) number line) → after_lines front before (lines_read allowed k (length before) number (lines_of rest)) ≡ text_read allowed k text → ReadsScript (Err error) (text_read allowed k text)
  text_err front new before after k number text rest behind line errors.NoMemory cut adds told = tt
  text_err front new before after k number text rest behind line (errors.Bad bad) cut adds told =
      sym told ∙ line_err front before k number rest behind line bad.rule cut adds.1 ∙ ap (λ n. Err (record { line = n; rule = bad.rule })) (sym adds.0)
