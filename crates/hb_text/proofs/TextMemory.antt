-- Where memory is refused, a command was read.
use Rattle.std.proofs.Common.{◌≡◌, ℕ, ◌+◌, ◌<◌, ◌≤◌, List, [], ◌∷◌, ◌++◌, length, Ok, Err, Result, refl, sym, ap, subst, ◌∙◌, inl, inr, ◌⊎◌, Bool, arith, append_assoc, IfErr}
use Rattle.std.proofs.lemmas.List.{length-append}
use Rattle.std.specs.Option.{option_to_list}
use Rattle.hb_set.specs.declared.scripts.Line.{Line}
use Rattle.hb_text.specs.declared.rules.BadLine.{BadLine}
use Rattle.hb_text.specs.declared.rules.TextRule.{TextRule}
use Rattle.hb_text.specs.declared.rules.TextError.{TextError}
use Rattle.hb_text.specs.declared.rules.TextError.TheVariants as errors
use Rattle.hb_text.specs.Grammar.{Said, Reading, at_line, line_read, lines_read, text_read}
use Rattle.hb_text.specs.Words.{◌>>=◌, lines_of}
use Rattle.hb_text.specs.Reading.{AddsLine, WantsMemory}
use Rattle.hb_text.proofs.TextLines.{after_lines, line_ok}

bound_err : {A B E : Type 0} (r : Result A E) (f : A → Result B E) (d : E) → (r >>= f) ≡ Err d → (r ≡ Err d) ⊎ ((x : A) × (r ≡ Ok x) × (f x ≡ Err d))
bound_err (Ok x) f d e = inr (x, refl, e)
bound_err (Err c) f d e = inl (cc)

at_line_err : (number : ℕ) (read : Result Said TextRule) (bad : BadLine) → at_line number read ≡ Err bad → bad.line ≡ number
at_line_err number (Ok said) bad e = cc
at_line_err number (Err rule) bad e =
    let same : record { line = number; rule = rule } ≡ bad = cc in
    sym (ap (λ (b : BadLine). b.line) same)

-- no bad line stands before the first that is read
bad_from : (allowed : Bool) (k taken number : ℕ) (lines : List (List ℕ)) (bad : BadLine) → lines_read allowed k taken number lines ≡ Err bad → number ≤ bad.line
unfolding lines_read
bad_from allowed k taken number [] bad e = cc
bad_from allowed k taken number (line ∷ lines) bad e = elim (bound_err (at_line number (line_read allowed k taken number line)) _ bad e) [
  | inl here ↦ omega (arith, at_line_err number (line_read allowed k taken number line) bad here)
  | inr good ↦ elim (bound_err (lines_read allowed k (taken + length good.0.steps) (number + 1) lines) _ bad good.2) [
    | inl later ↦ omega (arith, bad_from allowed k (taken + length good.0.steps) (number + 1) lines bad later)
    | inr none ↦ cc (none.2)
  ]
]

after_some : (front : List Line) (before : List ℕ) (number : ℕ) (read : Result Reading BadLine) → ((bad : BadLine) → read ≡ Err bad → number + 1 ≤ bad.line) → IfErr (after_lines front before read) (λ bad. number < bad.line)
after_some front before number (Ok more) later = tt
after_some front before number (Err bad) later = omega (arith, later bad refl)

-- The lines in front of the number-th one, and the rest of the text, are all its lines.
abbrev pub Behind : List ℕ → ℕ → List ℕ → Type 0
Behind text number rest = (front : List (List ℕ)) × (lines_of text ≡ front ++ lines_of rest) × (length front + 1 ≡ number)

pub behind_start : (text : List ℕ) → Behind text 1 text
behind_start text = ([], refl, refl)

pub behind_next : (text rest behind line : List ℕ) (number : ℕ) → lines_of rest ≡ line ∷ lines_of behind → Behind text number rest → Behind text (number + 1) behind
behind_next text rest behind line number cut (front, all, count) = (front ++ line ∷ [], all ∙ ap (λ ls. front ++ ls) cut ∙ sym (append_assoc front (line ∷ []) (lines_of behind)), omega (arith, count, length-append front (line ∷ [])))

pub text_starved : (allowed : Bool) (front new : List Line) (before after : List ℕ) (k number : ℕ) (text rest behind line : List ℕ) (error : TextError) → Behind text number rest → lines_of rest ≡ line ∷ lines_of behind → AddsLine number front new before after (Err error) (line_read allowed k (length before) number line) → after_lines front before (lines_read allowed k (length before) number (lines_of rest)) ≡ text_read allowed k text → WantsMemory allowed k text (Err error)
text_starved allowed front new before after k number text rest behind line (errors.Bad bad) place cut adds told = tt
text_starved allowed front new before after k number text rest behind line errors.NoMemory (lines, all, count) cut adds told =
    let said = adds.0 in
    let ls : List Line = front ++ option_to_list said.line in
    let ss : List ℕ = before ++ said.steps in
    let read = lines_read allowed k (length ss) (number + 1) (lines_of behind) in
    let is : after_lines front before (lines_read allowed k (length before) number (lines_of rest)) ≡ after_lines ls ss read = line_ok allowed front ls before ss k number rest behind line said cut adds.1 refl refl in
    record {
      front = lines;
      line = line;
      behind = lines_of behind;
      taken = length before;
      said = said;
      parts = all ∙ ap (λ ls. lines ++ ls) cut;
      reads = subst (λ n. line_read allowed k (length before) n line ≡ Ok said) (sym count) adds.1;
      something = adds.2;
      first_bad = subst (λ r. IfErr r (λ bad. length lines + 1 < bad.line)) (sym is ∙ told) (subst (λ n. IfErr (after_lines ls ss read) (λ bad. n < bad.line)) (sym count) (after_some ls ss number read (λ bad e. bad_from allowed k (length ss) (number + 1) (lines_of behind) bad e)));
    }
