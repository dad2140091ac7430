use Rattle.std.proofs.Common.{◌≡◌, ℕ, ◌+◌, ◌≤◌, Bool, List, length, drop, ap, subst, ◌∙◌, arith, Some, None, Ok}
use Rattle.std.proofs.lemmas.List.{length-append}
use Rattle.hb_text.specs.declared.lines.Meaning.{Meaning}
use Rattle.hb_text.specs.declared.lines.Meaning.TheVariants.{Steps}
use Rattle.hb_text.specs.Grammar.{SaysLine, line_read}
use Rattle.hb_text.specs.StepWords.{steps_of}
use Rattle.hb_text.specs.Words.{words_of}
use Rattle.hb_text.proofs.Facts.StepLaws.{line_few}
use Rattle.hb_text.proofs.reading.add_line.Goals as goal

-- the steps of the line, which fit the schedule
fits : (allowed : Bool) (k taken number now : ℕ) (line : List ℕ) (m : Meaning) → m ≡ Steps → SaysLine (words_of line) (Ok m) (line_read allowed k taken number line) → taken ≡ now → now ≤ 10000000 → (said : List ℕ) × (steps_of (drop 1 (words_of line)) ≡ Some said) × (now + length said ≤ 10000000)
fits allowed k taken number now line m is says len few =
    let said = subst (λ (m : Meaning). SaysLine (words_of line) (Ok m) (line_read allowed k taken number line)) is says in
    (said.0, said.2, omega (arith, len, line_few allowed k taken number line (record { line = None; steps = said.0 }) said.1 (omega (arith, len, few))))

pub add_steps-requires : goal.add_steps-requires
add_steps-requires c =
    fits c.args.step_lines c.args.attributes.number c.len.result c.args.number (length c.args.steps.now.items) c.args.line.now c.in-Ok-Steps.field-0 c.in-Ok-Steps.field-0-is c.in-Ok-Steps.ensures (c.len.ensures ∙ c.args.steps.now.ok.0) c.requires

pub returns-in_ok-add_steps-in-Ok-Steps-clause-taken : goal.returns-in_ok-add_steps-in-Ok-Steps-clause-taken
returns-in_ok-add_steps-in-Ok-Steps-clause-taken c =
    let said = fits c.args.step_lines c.args.attributes.number c.len.result c.args.number (length c.args.steps.now.items) c.args.line.now c.in-Ok-Steps.field-0 c.in-Ok-Steps.field-0-is c.in-Ok-Steps.ensures (c.len.ensures ∙ c.args.steps.now.ok.0) c.requires in
    omega (arith, said.2, ap (λ (s : List ℕ). length s) (c.in_ok-add_steps-in-Ok-Steps.ensures said.0 said.1), length-append c.args.steps.now.items said.0)
