-- A step of reading, taken apart: what it gave, and what was made of it.
use Rattle.std.specs.Prelude.{◌≡◌, ℕ, Result, Ok, Err, refl}
use Rattle.std.proofs.Common.{ap}
use Rattle.hb_lemmas.proofs.Options.{same_Ok}
use Rattle.hb_text.specs.declared.rules.TextRule.{TextRule}
use Rattle.hb_text.specs.Grammar.{at_line, Said}
use Rattle.hb_text.specs.Words.{◌>>=◌}

-- a step of reading that gave something was fed by one that did
pub bound : {A B E : Type 0} (r : Result A E) (f : A → Result B E) (y : B) → (r >>= f) ≡ Ok y → (x : A) × (r ≡ Ok x) × (f x ≡ Ok y)
bound (Ok x) f y e = (x, refl, e)
bound (Err d) f y e = cc

pub at_line_ok : (number : ℕ) (read : Result Said TextRule) (said : Said) → at_line number read ≡ Ok said → read ≡ Ok said
at_line_ok number (Ok found) said e = ap Ok (same_Ok _ _ e)
at_line_ok number (Err rule) said e = cc
