-- What a call on a text answers.
use Rattle.std.specs.Prelude.{◌≡◌, ◌⊎◌, ℕ, ◌+◌, ◌<◌, Bool, List, ◌∷◌, ◌++◌, length, Result, Ok, Err, IfErr, IsSome}
use Rattle.std.specs.Option.{option_to_list}
use Rattle.hb_set.specs.declared.scripts.Line.{Line}
use Rattle.hb_set.specs.declared.scripts.Script.{Script}
use Rattle.hb_text.specs.declared.rules.TextError.{TextError}
use Rattle.hb_text.specs.declared.rules.TextError.TheVariants as errors
use Rattle.hb_text.specs.declared.rules.TextRule.{TextRule}
use Rattle.hb_text.specs.declared.rules.BadLine.{BadLine}
use Rattle.hb_text.specs.Grammar.{Said, Reading, line_read, text_read}
use Rattle.hb_text.specs.Words.{lines_of}

-- The script is what the text says, and the bad line the first that breaks a rule. `WantsMemory` bounds want of memory.
abbrev pub ReadsScript : Result Script TextError → Result Reading BadLine → Type 0
ReadsScript (Ok script) read = read ≡ Ok (record { lines = script.lines; steps = script.steps })
ReadsScript (Err (errors.Bad bad)) read = read ≡ Err bad
ReadsScript (Err errors.NoMemory) read = Unit {0}

-- What one line says joins the commands and the steps so far, or its first broken rule is the answer. Memory is wanted
-- for a command, or for steps.
abbrev pub IsSomething : Said → Type 0
IsSomething said = IsSome said.line ⊎ (0 < length said.steps)

abbrev pub AddsLine : ℕ → List Line → List Line → List ℕ → List ℕ → Result (Unit {0}) TextError → Result Said TextRule → Type 0
AddsLine number old new before after (Ok done) read = (said : Said) × (read ≡ Ok said) × (new ≡ old ++ option_to_list said.line) × (after ≡ before ++ said.steps)
AddsLine number old new before after (Err (errors.Bad bad)) read = (bad.line ≡ number) × (read ≡ Err bad.rule)
AddsLine number old new before after (Err errors.NoMemory) read = (said : Said) × (read ≡ Ok said) × IsSomething said

-- A line of the text says a command or steps, where so many steps were taken before it; and the first bad line, if there
-- is one, stands behind it.
pub record SaysSome (allowed : Bool) (k : ℕ) (text : List ℕ) : Type 0 where
  pub front : List (List ℕ)
  pub line : List ℕ
  pub behind : List (List ℕ)
  pub taken : ℕ
  pub said : Said
  pub parts : lines_of text ≡ front ++ line ∷ behind
  pub reads : line_read allowed k taken (length front + 1) line ≡ Ok said
  pub something : IsSomething said
  pub first_bad : IfErr (text_read allowed k text) (λ bad. length front + 1 < bad.line)

-- Memory is wanted for commands and steps alone.
abbrev pub WantsMemory : Bool → ℕ → List ℕ → Result Script TextError → Type 0
WantsMemory allowed k text (Ok script) = Unit {0}
WantsMemory allowed k text (Err (errors.Bad bad)) = Unit {0}
WantsMemory allowed k text (Err errors.NoMemory) = SaysSome allowed k text
