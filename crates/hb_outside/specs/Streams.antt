-- What sources and sinks do to the bytes that they tell of, and counts of faults.
use Rattle.std.specs.Prelude.{◌≡◌, ℕ, ◌-◌, ◌^◌, ◌<◌, ◌≤◌, ◌⊎◌, List, [], ◌++◌, length, take, drop, Option, Some, None}

-- A count of faults rose. One that stands at its last value counts as one that rose.
abbrev pub Rose : ℕ → ℕ → Type 0
Rose before after = (before < after) ⊎ (after ≡ 2 ^ 64 - 1)

-- n bytes were moved from the front of what was left, and none only where nothing was left
pub record TakesFront (left rest into : List ℕ) (n : ℕ) : Type 0 where
  pub moved : take n into ≡ take n left
  pub count : n ≤ length left
  pub rest_is : rest ≡ drop n left
  pub at_end : n ≡ 0 → left ≡ []

-- the same where the source tells; one that doesn't tell goes on so
abbrev pub Takes : Option (List ℕ) → Option (List ℕ) → List ℕ → ℕ → Type 0
Takes None after into n = after ≡ None
Takes (Some left) after into n = (rest : List ℕ) × (after ≡ Some rest) × TakesFront left rest into n

-- one list begins another
abbrev pub IsFront : List ℕ → List ℕ → Type 0
IsFront front bytes = (rest : List ℕ) × (front ++ rest ≡ bytes)

-- the piece stands behind what was written, where the sink tells
abbrev pub Appends : Option (List ℕ) → Option (List ℕ) → List ℕ → Type 0
Appends None after piece = after ≡ None
Appends (Some written) after piece = after ≡ Some (written ++ piece)

-- a front of the piece does
abbrev pub AppendsFront : Option (List ℕ) → Option (List ℕ) → List ℕ → Type 0
AppendsFront before after piece = (front : List ℕ) × IsFront front piece × Appends before after front
