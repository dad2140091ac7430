-- The command text: what a line says and what a text says, or the first rule that is broken.
use Rattle.std.specs.Prelude.{◌≡◌, ℕ, ◌+◌, ◌<◌, Bool, not, nat_lt, if◌then◌else◌, List, [], ◌∷◌, ◌++◌, length, drop, codes, Option, Some, None, Result, Ok, Err}
use Rattle.std.specs.List.{list_any, list_all}
use Rattle.std.specs.Option.{option_to_list}
use Rattle.std.specs.Str.{bytes_eq}
use Rattle.hb_space.specs.declared.form.TheConstants.{LINE}
use Rattle.hb_set.specs.declared.commands.Command.{Command}
use Rattle.hb_set.specs.declared.scripts.Line.{Line}
use Rattle.hb_text.specs.declared.rules.TextRule.{TextRule}
use Rattle.hb_text.specs.declared.rules.TextRule.TheVariants.{TooMany, LongLine, BadByte, BadSpacing, BadStep, BadSession}
use Rattle.hb_text.specs.declared.rules.BadLine.{BadLine}
use Rattle.hb_text.specs.declared.lines.Meaning.{Meaning}
use Rattle.hb_text.specs.declared.lines.Meaning.TheVariants as meanings
use Rattle.hb_text.specs.Words.{lines_of, words_of, is_printable, is_empty, ◌>>=◌}
use Rattle.hb_text.specs.StepWords.{session_of, steps_of, steps_read}
use Rattle.hb_text.specs.Operands.{command_read}

-- what a line says: a command of a session, steps, or nothing
pub record Said : Type 0 where
  pub line : Option Line
  pub steps : List ℕ

abbrev pub says_command : ℕ → ℕ → Result Command TextRule → Result Said TextRule
says_command number session (Ok command) = Ok (record { line = Some (record { number = number; session = session; command = command }); steps = [] })
says_command number session (Err rule) = Err rule

abbrev pub says_steps : Result (List ℕ) TextRule → Result Said TextRule
says_steps (Ok steps) = Ok (record { line = None; steps = steps })
says_steps (Err rule) = Err rule

abbrev pub session_read : ℕ → ℕ → Option ℕ → List (List ℕ) → Result Said TextRule
session_read k number None words = Err BadSession
session_read k number (Some session) words = says_command number session (command_read k words)

-- whether step lines are allowed; the attributes; how many steps were taken before; the number of the line
unfoldable pub words_read : Bool → ℕ → ℕ → ℕ → List (List ℕ) → Result Said TextRule
words_read allowed k taken number [] = Err BadSession
words_read allowed k taken number (first ∷ words) =
    if bytes_eq first (codes "step")
    then (if allowed then says_steps (steps_read taken words) else Err BadStep)
    else session_read k number (session_of first) words

-- The rules in their order: a line says something only where it breaks none of them.
unfoldable pub line_read : Bool → ℕ → ℕ → ℕ → List ℕ → Result Said TextRule
line_read allowed k taken number line =
    if nat_lt 1000000 number then Err TooMany
    else (if is_empty line then Ok (record { line = None; steps = [] })
    else (if nat_lt LINE (length line) then Err LongLine
    else (if not (list_all is_printable line) then Err BadByte
    else (if list_any is_empty (words_of line) then Err BadSpacing
    else words_read allowed k taken number (words_of line)))))

-- What a call on the words behind `step` answered is what they say.
abbrev pub SaysSteps : List (List ℕ) → Result Meaning TextRule → Result Said TextRule → Type 0
SaysSteps words (Ok meanings.Nothing) read = ⊥
SaysSteps words (Ok (meanings.Command line)) read = ⊥
SaysSteps words (Ok meanings.Steps) read = (steps : List ℕ) × (read ≡ Ok (record { line = None; steps = steps })) × (steps_of words ≡ Some steps) × (0 < length steps)
SaysSteps words (Err rule) read = read ≡ Err rule

-- What a call on a line answered is what the line of these words says. The steps of a step line stand behind its first word.
abbrev pub SaysLine : List (List ℕ) → Result Meaning TextRule → Result Said TextRule → Type 0
SaysLine words (Ok meanings.Nothing) read = read ≡ Ok (record { line = None; steps = [] })
SaysLine words (Ok (meanings.Command line)) read = read ≡ Ok (record { line = Some line; steps = [] })
SaysLine words (Ok meanings.Steps) read = (steps : List ℕ) × (read ≡ Ok (record { line = None; steps = steps })) × (steps_of (drop 1 words) ≡ Some steps) × (0 < length steps)
SaysLine words (Err rule) read = read ≡ Err rule

abbrev pub at_line : ℕ → Result Said TextRule → Result Said BadLine
at_line number (Ok said) = Ok said
at_line number (Err rule) = Err (record { line = number; rule = rule })

-- what a text says
pub record Reading : Type 0 where
  pub lines : List Line
  pub steps : List ℕ

abbrev pub with_said : Said → Reading → Reading
with_said said more = record { lines = option_to_list said.line ++ more.lines; steps = said.steps ++ more.steps }

-- the lines from a number on: what they say, or the first that breaks a rule
unfoldable pub lines_read : Bool → ℕ → ℕ → ℕ → List (List ℕ) → Result Reading BadLine
lines_read allowed k taken number [] = Ok (record { lines = []; steps = [] })
lines_read allowed k taken number (line ∷ lines) = do
  said ← at_line number (line_read allowed k taken number line)
  more ← lines_read allowed k (taken + length said.steps) (number + 1) lines
  Ok (with_said said more)

-- what a text over k attributes says, or its first line that breaks a rule, with its first such rule
abbrev pub text_read : Bool → ℕ → List ℕ → Result Reading BadLine
text_read allowed k text = lines_read allowed k 0 1 (lines_of text)
