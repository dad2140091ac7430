-- What the words of a step line say: actors, and how often each steps.
use Rattle.std.specs.Prelude.{ℕ, ◌+◌, ◌&&◌, ◌==◌, nat_le, if◌then◌else◌, List, [], ◌∷◌, ◌++◌, length, replicate, codes, Option, Some, None, Result, Ok, Err}
use Rattle.std.specs.List.{slice_split}
use Rattle.std.specs.Str.{bytes_eq}
use Rattle.hb_space.specs.declared.actors.TheConstants.{SESSIONS, POSTER, CONSOLIDATOR, FLUSHER}
use Rattle.hb_text.specs.Numbers.{number_read}
use Rattle.hb_text.specs.declared.numbers.NumberFault.{NumberFault}
use Rattle.hb_text.specs.declared.rules.TextRule.{TextRule}
use Rattle.hb_text.specs.declared.rules.TextRule.TheVariants.{BadStep}

-- a session by its number
abbrev pub session_number : Result ℕ NumberFault → Option ℕ
session_number (Ok n) = if nat_le 1 n && nat_le n SESSIONS then Some n else None
session_number (Err e) = None

abbrev pub session_of : List ℕ → Option ℕ
session_of word = session_number (number_read word)

-- an actor is a session, or the poster, the consolidator or the flusher
abbrev pub actor_of : List ℕ → Option ℕ
actor_of word =
    if bytes_eq word (codes "p") then Some POSTER
    else (if bytes_eq word (codes "c") then Some CONSOLIDATOR
    else (if bytes_eq word (codes "f") then Some FLUSHER
    else session_of word))

-- a count of steps is a number from 1 to 1,000,000
abbrev pub count_number : Result ℕ NumberFault → Option ℕ
count_number (Ok n) = if nat_le 1 n && nat_le n 1000000 then Some n else None
count_number (Err e) = None

-- the steps that a word of a step line says: an actor alone, or with x and a count behind it
abbrev pub repeated : Option ℕ → Option ℕ → Option (List ℕ)
repeated (Some actor) (Some count) = Some (replicate count actor)
repeated (Some actor) None = None
repeated None count = None

abbrev pub steps_of_parts : List (List ℕ) → Option (List ℕ)
steps_of_parts (actor ∷ []) = repeated (actor_of actor) (Some 1)
steps_of_parts (actor ∷ count ∷ []) = repeated (actor_of actor) (count_number (number_read count))
steps_of_parts _ = None

-- the steps of all words of a step line
abbrev pub joined_steps : Option (List ℕ) → Option (List ℕ) → Option (List ℕ)
joined_steps (Some steps) (Some more) = Some (steps ++ more)
joined_steps (Some steps) None = None
joined_steps None more = None

abbrev pub word_steps : List ℕ → Option (List ℕ)
word_steps word = steps_of_parts (slice_split (λ c. c == 120) word)

abbrev pub steps_of : List (List ℕ) → Option (List ℕ)
steps_of [] = Some []
steps_of (word ∷ words) = joined_steps (word_steps word) (steps_of words)

abbrev pub within_schedule : ℕ → Option (List ℕ) → Result (List ℕ) TextRule
within_schedule taken None = Err BadStep
within_schedule taken (Some steps) = if nat_le (taken + length steps) 10000000 then Ok steps else Err BadStep

-- the steps of a step line, where so many were taken before; one actor at least has to follow
abbrev pub steps_read : ℕ → List (List ℕ) → Result (List ℕ) TextRule
steps_read taken [] = Err BadStep
steps_read taken (word ∷ words) = within_schedule taken (steps_of (word ∷ words))
