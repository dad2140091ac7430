-- Writing from left to right.
use Rattle.std.specs.Prelude.{◌≡◌, ℕ, ◌+◌, ◌<◌, ◌^◌, List, ◌++◌, length, take}
use Rattle.hb_frag.specs.declared.leaves.Leaf.{Leaf}
use Rattle.hb_frag.specs.declared.leaves.Leaf.TheVariants.{Records, Child, Sibling}
use Rattle.hb_frag.specs.Trees.{Tree, Tip, Cut}

-- The bytes were written at a place, and `end` is the place behind them; in front of it nothing else changed.
pub record Wrote (old : List ℕ) (at : ℕ) (bytes new : List ℕ) (end : ℕ) : Type 0 where
  pub behind : end ≡ at + length bytes
  pub front : take end new ≡ take at old ++ bytes

-- the count of records has its place
abbrev pub IsCountable : Leaf → Type 0
IsCountable (Records records) = length records < 2 ^ 16
IsCountable (Child page) = Unit {0}
IsCountable (Sibling page) = Unit {0}

abbrev pub AreCountable : Tree → Type 0
AreCountable (Tip leaf) = IsCountable leaf
AreCountable (Cut axis value left right) = AreCountable left × AreCountable right
