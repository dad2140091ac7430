-- A text that is read piece by piece.
use Rattle.std.specs.Prelude.{◌≡◌, ℕ, ◌≤◌, List, [], ◌++◌, length, take, drop, Option, Some, None}
use Rattle.hb_outside.specs.Calls.{SourceModel}
use Rattle.hb_outside.specs.Streams.{Rose}
use Rattle.hbpi.specs.declared.texts.TextStop.{TextStop}
use Rattle.hbpi.specs.declared.texts.TextStop.TheVariants.{SourceFault, NoMemory}

-- the front of what was left joined the text, where the source tells
abbrev pub TakesPiece : Option (List ℕ) → Option (List ℕ) → List ℕ → List ℕ → Type 0
TakesPiece None after old new = after ≡ None
TakesPiece (Some left) after old new = (n : ℕ) × (n ≤ length left) × (new ≡ old ++ take n left) × (after ≡ Some (drop n left))

-- The text so far is the front of what was left, and the rest is left, where the source tells.
abbrev pub TakesSoFar : Option (List ℕ) → Option (List ℕ) → List ℕ → Type 0
TakesSoFar None after text = after ≡ None
TakesSoFar (Some left) after text = (length text ≤ length left) × (text ≡ take (length text) left) × (after ≡ Some (drop (length text) left))

-- nothing is left, where the source tells
abbrev pub IsAtEnd : Option (List ℕ) → Type 0
IsAtEnd None = Unit {0}
IsAtEnd (Some left) = left ≡ []

-- why no text was read: the source failed, or only memory was refused
abbrev pub NotTaken : SourceModel → SourceModel → TextStop → Type 0
NotTaken before after SourceFault = Rose before.faults after.faults × (before.faults ≤ after.faults)
NotTaken before after NoMemory = after.faults ≡ before.faults
