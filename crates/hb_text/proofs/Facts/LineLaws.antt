-- What a line of a text says is a line of a script, or nothing.
use Rattle.std.specs.Prelude.{◌≡◌, ℕ, ◌≤◌, Bool, true, false, ◌&&◌, nat_le, List, Option, Some, None, Result, Ok, Err, refl, if◌then◌else◌}
use Rattle.std.proofs.Common.{inl, inr, arith}
use Rattle.std.specs.List.{AllByRecursion}
use Rattle.std.specs.Option.{option_to_list}
use Rattle.hb_set.specs.declared.commands.Command.{Command}
use Rattle.hb_set.specs.Machine.{attributes}
use Rattle.hb_set.specs.Scripts.{IsLineFor}
use Rattle.hb_text.specs.declared.numbers.NumberFault.{NumberFault}
use Rattle.hb_text.specs.declared.rules.TextRule.{TextRule}
use Rattle.hb_text.specs.declared.rules.TextRule.TheVariants.{BadStep}
use Rattle.hb_text.specs.Grammar.{says_command, session_read, says_steps, Said}
use Rattle.hb_text.specs.Operands.{command_read}
use Rattle.hb_text.specs.StepWords.{session_number}
use Rattle.std.proofs.lemmas.Bool.Decides.{nat_tests}
use Rattle.hb_lemmas.proofs.Booleans.{chosen}
use Rattle.hb_lemmas.proofs.Options.{same_Ok}
use Rattle.std.proofs.lemmas.Option.{same_Some}
use Rattle.hb_text.proofs.Facts.CommandLaws.{command_attributes}

-- a session is a number from 1 to 16
pub session_fits : (read : Result ℕ NumberFault) (session : ℕ) → session_number read ≡ Some session → (1 ≤ session) × (session ≤ 16)
session_fits (Err fault) session e = cc
session_fits (Ok n) session e = elim (chosen (nat_le 1 n && nat_le n 16) (Some n) None (Some session) e) [
  | inl fits ↦ let same : n ≡ session = same_Some _ _ fits.1 in (grind (arith, nat_tests, fits.0, same), grind (arith, nat_tests, fits.0, same))
  | inr other ↦ cc (other.1)
]

-- what a line of a number says is a line of that number over k attributes, or nothing
abbrev pub FitsLine : ℕ → ℕ → Said → Type 0
FitsLine k number said = AllByRecursion (λ l. IsLineFor k l × (l.number ≡ number)) (option_to_list said.line)

command_fits : (k number session : ℕ) (read : Result Command TextRule) (said : Said) → 1 ≤ number → number ≤ 1000000 → 1 ≤ session → session ≤ 16 → ((command : Command) → read ≡ Ok command → attributes command ≡ k) → says_command number session read ≡ Ok said → FitsLine k number said
command_fits k number session (Err rule) said n_from n_to s_from s_to fits e = cc
command_fits k number session (Ok command) said n_from n_to s_from s_to fits e =
    rw (← same_Ok _ _ e) ((record { number_from = n_from; number_to = n_to; session_from = s_from; session_to = s_to; attributes_are = fits command refl }, refl), tt)

pub session_line_fits : (k number : ℕ) (session : Option ℕ) (words : List (List ℕ)) (said : Said) → 1 ≤ number → number ≤ 1000000 → ((s : ℕ) → session ≡ Some s → (1 ≤ s) × (s ≤ 16)) → session_read k number session words ≡ Ok said → FitsLine k number said
session_line_fits k number None words said n_from n_to s_fits e = cc
session_line_fits k number (Some session) words said n_from n_to s_fits e =
    let s = s_fits session refl in
    command_fits k number session (command_read k words) said n_from n_to s.0 s.1 (λ command is. command_attributes k words command is) e

-- a step line says no command
no_command : (k number : ℕ) (read : Result (List ℕ) TextRule) (said : Said) → says_steps read ≡ Ok said → FitsLine k number said
no_command k number (Err rule) said e = cc
no_command k number (Ok steps) said e = rw (← same_Ok _ _ e) tt

pub steps_fit : (k number : ℕ) (may : Bool) (read : Result (List ℕ) TextRule) (said : Said) → (if may then says_steps read else Err BadStep) ≡ Ok said → FitsLine k number said
steps_fit k number true read said e = no_command k number read said e
steps_fit k number false read said e = cc
