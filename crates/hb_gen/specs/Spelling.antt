-- How command lines are spelled.
use Rattle.std.specs.Prelude.{ℕ, List, [], ◌∷◌, ◌++◌, codes}
use Rattle.std.specs.List.{flat_map}
use Rattle.std.specs.Fmt.{decimal}
use Rattle.hb_set.specs.declared.commands.Command.{Command}
use Rattle.hb_set.specs.declared.commands.Command.TheVariants.{Insert, Delete, Lookup, Search}
use Rattle.hb_set.specs.declared.scripts.Line.{Line}
use Rattle.hb_text.specs.Output.{numbers_text}
use Rattle.hb_gen.specs.Lines.{generated}

-- the lower and the upper value of one attribute after the other
abbrev pub side_by_side : List ℕ → List ℕ → List ℕ
side_by_side (low ∷ lows) (high ∷ highs) = low ∷ high ∷ side_by_side lows highs
side_by_side _ _ = []

-- what follows the session
abbrev pub command_text : Command → List ℕ
command_text (Insert added) = codes " insert" ++ numbers_text added.key ++ codes " =" ++ added.body
command_text (Delete point) = codes " delete" ++ numbers_text point
command_text (Lookup point) = codes " lookup" ++ numbers_text point
command_text (Search area) = codes " search" ++ numbers_text (side_by_side area.lo area.hi)

-- a line, with its line feed
abbrev pub line_text : Line → List ℕ
line_text line = decimal line.session ++ command_text line.command ++ codes "\n"

abbrev pub lines_text : List Line → List ℕ
lines_text lines = flat_map line_text lines

-- the text of n lines over k attributes from the state x
abbrev pub generated_text : ℕ → ℕ → ℕ → List ℕ
generated_text x n k = lines_text (generated x n k)
