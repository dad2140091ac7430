-- How many lines a script has, and how many attributes each of them.
use Rattle.std.proofs.Common.{◌≡◌, ℕ, zero, suc, ◌+◌, ◌<◌, ◌≤◌, List, [], ◌∷◌, length, get_or, arith}
use Rattle.std.specs.List.{AllByRecursion}
use Rattle.hb_set.specs.declared.scripts.Line.{Line}
use Rattle.hb_set.specs.Machine.{attributes}
use Rattle.hb_set.specs.Order.{AreRising}
use Rattle.hb_set.specs.Scripts.{IsLineFor, IsScriptFor}

-- a script has at most 1,000,000 command lines
short_from : (k n : ℕ) (ls : List Line) → n ≤ 1000000 → AllByRecursion (IsLineFor k) ls → AllByRecursion (λ l. n < l.number) ls → AreRising ls → length ls + n ≤ 1000000
short_from k n [] n_to lines above rising = omega arith
short_from k n (l ∷ ls) n_to lines above rising = omega (arith, short_from k l.number ls (lines.0).number_to lines.1 rising.0 rising.1, above.0)

numbered : (k : ℕ) (ls : List Line) → AllByRecursion (IsLineFor k) ls → AllByRecursion (λ l. 0 < l.number) ls
numbered k [] lines = tt
numbered k (l ∷ ls) lines = (omega (arith, (lines.0).number_from), numbered k ls lines.1)

pub script_is_short : (k : ℕ) (ls : List Line) → IsScriptFor k ls → length ls ≤ 1000000
script_is_short k ls script = omega (arith, short_from k 0 ls (omega arith) script.lines (numbered k ls script.lines) script.rising)

-- each line of it has its attributes
pub line_attributes : (k : ℕ) (ls : List Line) (i : ℕ) (l : Line) → AllByRecursion (IsLineFor k) ls → i < length ls → l ≡ get_or ls i l → attributes l.command ≡ k
line_attributes k [] i l lines lt is = absurd (omega arith)
line_attributes k (m ∷ ls) zero l lines lt is = rw is (lines.0).attributes_are
line_attributes k (m ∷ ls) (suc i) l lines lt is = line_attributes k ls i l lines.1 (omega arith) is
