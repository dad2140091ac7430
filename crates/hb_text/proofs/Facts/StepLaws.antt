-- What the steps of a text are: actors, no more than a schedule has, and none where step lines aren't allowed.
use Rattle.std.specs.Prelude.{◌≡◌, ℕ, ◌+◌, ◌≤◌, Bool, true, false, not, nat_lt, nat_le, List, [], ◌∷◌, ◌++◌, length, All, Option, Some, None, Result, Ok, Err, refl, codes, if◌then◌else◌}
use Rattle.std.proofs.Common.{inl, inr, sym, ap, ◌∙◌, arith, subst}
use Rattle.std.specs.List.{list_all, list_any}
use Rattle.std.specs.Str.{bytes_eq}
use Rattle.std.proofs.lemmas.Bool.Decides.{nat_tests}
use Rattle.std.proofs.lemmas.List.{length-append}
use Rattle.std.proofs.lemmas.List.Elements.{All-from_recursion}
use Rattle.hb_space.specs.Actors.{IsActor}
use Rattle.hb_space.specs.declared.form.TheConstants.{LINE}
use Rattle.hb_set.specs.declared.commands.Command.{Command}
use Rattle.hb_text.specs.declared.rules.TextRule.{TextRule}
use Rattle.hb_text.specs.declared.rules.TextRule.TheVariants.{TooMany, LongLine, BadByte, BadSpacing, BadStep}
use Rattle.hb_text.specs.Grammar.{Said, Reading, says_steps, says_command, session_read, words_read, line_read, lines_read, at_line, text_read}
use Rattle.hb_text.specs.StepWords.{steps_of, within_schedule, steps_read, session_of}
use Rattle.hb_text.specs.Operands.{command_read}
use Rattle.hb_text.specs.Words.{words_of, lines_of, is_empty, is_printable}
use Rattle.hb_lemmas.proofs.Booleans.{chosen}
use Rattle.hb_lemmas.proofs.Options.{same_Ok}
use Rattle.hb_text.proofs.Facts.ReadingLaws.{bound, at_line_ok}
use Rattle.hb_text.proofs.Facts.ActorLaws.{AreActors, words_actors}
use Rattle.hb_lemmas.proofs.Lists.{whole}

-- the steps of a line: actors, within the schedule, and none where step lines aren't allowed
record FitsSchedule (allowed : Bool) (taken : ℕ) (steps : List ℕ) : Type 0 where
  actors : AreActors steps
  few : taken ≤ 10000000 → taken + length steps ≤ 10000000
  none : allowed ≡ false → steps ≡ []

no_steps : (allowed : Bool) (taken : ℕ) → FitsSchedule allowed taken []
no_steps allowed taken = record { actors = tt; few = λ h. omega (arith, h); none = λ e. refl }

within_fits : (taken : ℕ) (read : Option (List ℕ)) (steps : List ℕ) → ((s : List ℕ) → read ≡ Some s → AreActors s) → within_schedule taken read ≡ Ok steps → AreActors steps × (taken + length steps ≤ 10000000)
within_fits taken None steps f e = cc
within_fits taken (Some said) steps f e = elim (chosen (nat_le (taken + length said) 10000000) (Ok said) (Err BadStep) (Ok steps) e) [
  | inl fits ↦
      let same : said ≡ steps = same_Ok _ _ fits.1 in
      let few : taken + length said ≤ 10000000 = grind (arith, nat_tests, fits.0) in
      (subst AreActors same (f said refl), subst (λ (s : List ℕ). taken + length s ≤ 10000000) same few)
  | inr many ↦ cc (many.1)
]

read_fits : (taken : ℕ) (words : List (List ℕ)) (steps : List ℕ) → steps_read taken words ≡ Ok steps → AreActors steps × (taken + length steps ≤ 10000000)
read_fits taken [] steps e = cc
read_fits taken (word ∷ words) steps e = within_fits taken (steps_of (word ∷ words)) steps (λ s is. words_actors (word ∷ words) s is) e

said_steps : (allowed : Bool) (taken : ℕ) (words : List (List ℕ)) (read : Result (List ℕ) TextRule) (said : Said) → read ≡ steps_read taken words → (if allowed then says_steps read else Err BadStep) ≡ Ok said → FitsSchedule allowed taken said.steps
said_steps false taken words read said is e = cc
said_steps true taken words (Err rule) said is e = cc
said_steps true taken words (Ok steps) said is e =
    let same : steps ≡ said.steps = ap (λ (s : Said). s.steps) (same_Ok _ _ e) in
    let fits = read_fits taken words steps (sym is) in
    subst (FitsSchedule true taken) same (record { actors = fits.0; few = λ h. fits.1; none = λ e. cc })

command_steps : (number session : ℕ) (read : Result Command TextRule) (said : Said) → says_command number session read ≡ Ok said → said.steps ≡ []
command_steps number session (Err rule) said e = cc
command_steps number session (Ok command) said e = sym (ap (λ (s : Said). s.steps) (same_Ok _ _ e))

session_steps : (k number : ℕ) (session : Option ℕ) (words : List (List ℕ)) (said : Said) → session_read k number session words ≡ Ok said → said.steps ≡ []
session_steps k number None words said e = cc
session_steps k number (Some session) words said e = command_steps number session (command_read k words) said e

module _ (allowed : Bool) where
  words_schedule : (k taken number : ℕ) (words : List (List ℕ)) (said : Said) → words_read allowed k taken number words ≡ Ok said → FitsSchedule allowed taken said.steps
  unfolding words_read
  words_schedule k taken number [] said e = cc
  words_schedule k taken number (first ∷ words) said e = elim (chosen (bytes_eq first (codes "step")) (if allowed then says_steps (steps_read taken words) else Err BadStep) (session_read k number (session_of first) words) (Ok said) e) [
    | inl step ↦ said_steps allowed taken words (steps_read taken words) said refl step.1
    | inr command ↦ subst (FitsSchedule allowed taken) (sym (session_steps k number (session_of first) words said command.1)) (no_steps allowed taken)
  ]

  line_schedule : (k taken number : ℕ) (line : List ℕ) (said : Said) → line_read allowed k taken number line ≡ Ok said → FitsSchedule allowed taken said.steps
  unfolding line_read
  line_schedule k taken number line said e =
      let words = words_read allowed k taken number (words_of line) in
      let spaced = if list_any is_empty (words_of line) then Err BadSpacing else words in
      let plain = if not (list_all is_printable line) then Err BadByte else spaced in
      let short = if nat_lt LINE (length line) then Err LongLine else plain in
      let some : Result Said TextRule = if is_empty line then Ok (record { line = None; steps = [] }) else short in
      elim (chosen (nat_lt 1000000 number) (Err TooMany) some (Ok said) e) [
        | inl many ↦ cc (many.1)
        | inr few ↦ elim (chosen (is_empty line) (Ok (record { line = None; steps = [] })) short (Ok said) few.1) [
          | inl none ↦ subst (FitsSchedule allowed taken) (ap (λ (s : Said). s.steps) (same_Ok _ _ none.1)) (no_steps allowed taken)
          | inr filled ↦ elim (chosen (nat_lt LINE (length line)) (Err LongLine) plain (Ok said) filled.1) [
            | inl long ↦ cc (long.1)
            | inr fit ↦ elim (chosen (not (list_all is_printable line)) (Err BadByte) spaced (Ok said) fit.1) [
              | inl odd ↦ cc (odd.1)
              | inr printed ↦ elim (chosen (list_any is_empty (words_of line)) (Err BadSpacing) words (Ok said) printed.1) [
                | inl gap ↦ cc (gap.1)
                | inr said_by ↦ words_schedule k taken number (words_of line) said said_by.1
              ]
            ]
          ]
        ]
      ]

  pub line_few : (k taken number : ℕ) (line : List ℕ) (said : Said) → line_read allowed k taken number line ≡ Ok said → taken ≤ 10000000 → taken + length said.steps ≤ 10000000
  line_few k taken number line said e = (line_schedule k taken number line said e).few

  lines_schedule : (k taken number : ℕ) (lines : List (List ℕ)) (reading : Reading) → lines_read allowed k taken number lines ≡ Ok reading → FitsSchedule allowed taken reading.steps
  unfolding lines_read
  lines_schedule k taken number [] reading e = subst (FitsSchedule allowed taken) (ap (λ (r : Reading). r.steps) (same_Ok _ _ e)) (no_steps allowed taken)
  lines_schedule k taken number (line ∷ lines) reading e =
      let said = bound (at_line number (line_read allowed k taken number line)) _ reading e in
      let more = bound (lines_read allowed k (taken + length said.0.steps) (number + 1) lines) _ reading said.2 in
      let one = line_schedule k taken number line said.0 (at_line_ok number _ said.0 said.1) in
      let rest = lines_schedule k (taken + length said.0.steps) (number + 1) lines more.0 more.1 in
      let same : said.0.steps ++ more.0.steps ≡ reading.steps = ap (λ (r : Reading). r.steps) (same_Ok _ _ more.2) in
      subst (FitsSchedule allowed taken) same (record {
        actors = whole IsActor said.0.steps more.0.steps one.actors rest.actors;
        few = λ h. omega (arith, length-append said.0.steps more.0.steps, rest.few (one.few h));
        none = λ e. ap (λ (s : List ℕ). s ++ more.0.steps) (one.none e) ∙ rest.none e;
      })

  pub text_has_no_steps : (k : ℕ) (text : List ℕ) (reading : Reading) → text_read allowed k text ≡ Ok reading → allowed ≡ false → reading.steps ≡ []
  text_has_no_steps k text reading e = (lines_schedule k 0 1 (lines_of text) reading e).none

  pub text_actors : (k : ℕ) (text : List ℕ) (reading : Reading) → text_read allowed k text ≡ Ok reading → All IsActor reading.steps
  text_actors k text reading e = All-from_recursion IsActor reading.steps (lines_schedule k 0 1 (lines_of text) reading e).actors

  pub text_few_steps : (k : ℕ) (text : List ℕ) (reading : Reading) → text_read allowed k text ≡ Ok reading → length reading.steps ≤ 10000000
  text_few_steps k text reading e = omega (arith, (lines_schedule k 0 1 (lines_of text) reading e).few (omega arith))
