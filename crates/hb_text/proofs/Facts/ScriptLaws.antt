-- What a text says is a script.
use Rattle.std.specs.Prelude.{◌≡◌, ℕ, ◌+◌, ◌≤◌, Bool, not, nat_lt, List, [], ◌∷◌, ◌++◌, length, Option, Some, None, Result, Ok, Err, codes, if◌then◌else◌}
use Rattle.std.proofs.Common.{inl, inr, arith}
use Rattle.std.specs.List.{list_all, list_any, AllByRecursion}
use Rattle.std.specs.Option.{option_to_list}
use Rattle.std.specs.Str.{bytes_eq}
use Rattle.hb_set.specs.declared.scripts.Line.{Line}
use Rattle.hb_set.specs.Order.{IsAbove, AreRising}
use Rattle.hb_set.specs.Scripts.{IsLineFor, IsScriptFor}
use Rattle.hb_text.specs.Numbers.{number_read}
use Rattle.hb_text.specs.declared.rules.TextRule.{TextRule}
use Rattle.hb_text.specs.declared.rules.TextRule.TheVariants.{TooMany, LongLine, BadByte, BadSpacing, BadStep}
use Rattle.hb_space.specs.declared.form.TheConstants.{LINE}
use Rattle.hb_text.specs.Grammar.{session_read, words_read, says_steps, line_read, lines_read, at_line, text_read, Said, Reading}
use Rattle.hb_text.specs.Words.{words_of, lines_of, is_empty, is_printable}
use Rattle.hb_text.specs.StepWords.{session_of, steps_read}
use Rattle.std.proofs.lemmas.Bool.Decides.{nat_tests}
use Rattle.hb_lemmas.proofs.Booleans.{chosen}
use Rattle.hb_lemmas.proofs.Options.{same_Ok}
use Rattle.hb_text.proofs.Facts.ReadingLaws.{bound, at_line_ok}
use Rattle.hb_text.proofs.Facts.LineLaws.{session_fits, FitsLine, session_line_fits, steps_fit}

-- whether step lines are allowed
module _ (allowed : Bool) where
  words_fit : (k taken number : ℕ) (words : List (List ℕ)) (said : Said) → 1 ≤ number → number ≤ 1000000 → words_read allowed k taken number words ≡ Ok said → FitsLine k number said
  unfolding words_read
  words_fit k taken number [] said n_from n_to e = cc
  words_fit k taken number (first ∷ words) said n_from n_to e = elim (chosen (bytes_eq first (codes "step")) (if allowed then says_steps (steps_read taken words) else Err BadStep) (session_read k number (session_of first) words) (Ok said) e) [
    | inl step ↦ steps_fit k number allowed (steps_read taken words) said step.1
    | inr command ↦ session_line_fits k number (session_of first) words said n_from n_to (λ s is. session_fits (number_read first) s is) command.1
  ]

  line_fits : (k taken number : ℕ) (line : List ℕ) (said : Said) → 1 ≤ number → line_read allowed k taken number line ≡ Ok said → FitsLine k number said
  unfolding line_read
  line_fits k taken number line said n_from e =
      let words = words_read allowed k taken number (words_of line) in
      let spaced = if list_any is_empty (words_of line) then Err BadSpacing else words in
      let plain = if not (list_all is_printable line) then Err BadByte else spaced in
      let short = if nat_lt LINE (length line) then Err LongLine else plain in
      let some : Result Said TextRule = if is_empty line then Ok (record { line = None; steps = [] }) else short in
      elim (chosen (nat_lt 1000000 number) (Err TooMany) some (Ok said) e) [
        | inl many ↦ cc (many.1)
        | inr few ↦ elim (chosen (is_empty line) (Ok (record { line = None; steps = [] })) short (Ok said) few.1) [
          | inl none ↦ rw (← same_Ok _ _ none.1) tt
          | inr filled ↦ elim (chosen (nat_lt LINE (length line)) (Err LongLine) plain (Ok said) filled.1) [
            | inl long ↦ cc (long.1)
            | inr fit ↦ elim (chosen (not (list_all is_printable line)) (Err BadByte) spaced (Ok said) fit.1) [
              | inl odd ↦ cc (odd.1)
              | inr printed ↦ elim (chosen (list_any is_empty (words_of line)) (Err BadSpacing) words (Ok said) printed.1) [
                | inl gap ↦ cc (gap.1)
                | inr said_by ↦ words_fit k taken number (words_of line) said n_from (grind (arith, nat_tests, few.0)) said_by.1
              ]
            ]
          ]
        ]
      ]

  -- the command lines of a script, from a line number on
  record IsScriptFrom (k number : ℕ) (ls : List Line) : Type 0 where
    lines : AllByRecursion (IsLineFor k) ls
    from : AllByRecursion (λ l. number ≤ l.number) ls
    rising : AreRising ls

  from_later : (number : ℕ) (ls : List Line) → AllByRecursion (λ l. number + 1 ≤ l.number) ls → AllByRecursion (λ l. number ≤ l.number) ls
  from_later number [] h = tt
  from_later number (l ∷ ls) h = (omega (arith, h.0), from_later number ls h.1)

  above : (number n : ℕ) (l : Line) (ls : List Line) → l.number ≡ number → AllByRecursion (λ after. number + 1 ≤ after.number) ls → IsAbove l ls
  above number n l [] same h = tt
  above number n l (after ∷ ls) same h = (omega (arith, h.0, same), above number n l ls same h.1)

  one_more : (k number : ℕ) (line : Option Line) (ls : List Line) → AllByRecursion (λ l. IsLineFor k l × (l.number ≡ number)) (option_to_list line) → IsScriptFrom k (number + 1) ls → IsScriptFrom k number (option_to_list line ++ ls)
  one_more k number None ls fits more = record { lines = more.lines; from = from_later number ls more.from; rising = more.rising }
  one_more k number (Some l) ls fits more = record {
    lines = (fits.0.0, more.lines);
    from = (omega (arith, fits.0.1), from_later number ls more.from);
    rising = (above number 0 l ls fits.0.1 more.from, more.rising);
  }

  lines_fit : (k taken number : ℕ) (lines : List (List ℕ)) (reading : Reading) → 1 ≤ number → lines_read allowed k taken number lines ≡ Ok reading → IsScriptFrom k number reading.lines
  unfolding lines_read
  lines_fit k taken number [] reading n_from e = rw (← same_Ok _ _ e) (record { lines = tt; from = tt; rising = tt })
  lines_fit k taken number (line ∷ lines) reading n_from e =
      let said = bound (at_line number (line_read allowed k taken number line)) _ reading e in
      let more = bound (lines_read allowed k (taken + length said.0.steps) (number + 1) lines) _ reading said.2 in
      rw (← same_Ok _ _ more.2) (one_more k number said.0.line more.0.lines
      (line_fits k taken number line said.0 n_from (at_line_ok number _ said.0 said.1))
      (lines_fit k (taken + length said.0.steps) (number + 1) lines more.0 (omega arith) more.1))

  -- what a text says is a script over its attributes
  pub text_is_script : (k : ℕ) (text : List ℕ) (reading : Reading) → text_read allowed k text ≡ Ok reading → IsScriptFor k reading.lines
  text_is_script k text reading e = let from = lines_fit k 0 1 (lines_of text) reading (omega arith) e in record { lines = from.lines; rising = from.rising }
