-- How a text is cut into lines, and a line into words; and one step of reading after another.
use Rattle.std.specs.Prelude.{ℕ, Bool, ◌&&◌, ◌==◌, nat_le, if◌then◌else◌, List, [], ◌∷◌, length, Result, Ok, Err}
use Rattle.std.specs.List.{slice_split, onto_first}

-- the lines: the text is cut at each line feed, and an empty rest after the last one doesn't count
abbrev pub lines_of : List ℕ → List (List ℕ)
lines_of [] = []
lines_of (c ∷ rest) = if c == 10 then [] ∷ lines_of rest else onto_first c (lines_of rest)

-- the words: the line is cut at each space
abbrev pub words_of : List ℕ → List (List ℕ)
words_of line = slice_split (λ c. c == 32) line

-- a byte that may stand in a line
abbrev pub is_printable : ℕ → Bool
is_printable c = nat_le 32 c && nat_le c 126

-- a space at either end of a line, or two together, leave an empty word
abbrev pub is_empty : List ℕ → Bool
is_empty word = length word == 0

-- One step of reading after another: the first rule that is broken is the answer.
infixl 10 ◌>>=◌
abbrev pub ◌>>=◌ : {A B E : Type 0} → Result A E → (A → Result B E) → Result B E
(Ok x) >>= f = f x
(Err e) >>= f = Err e
