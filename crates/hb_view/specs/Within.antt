-- The records of a leaf that lie in a box.
use Rattle.std.specs.Prelude.{◌≡◌, List, ◌++◌, filter, Option, Some, None}
use Rattle.hb_space.specs.Boxes.{Area, holds}
use Rattle.hb_space.specs.declared.records.Record.{Record}
use Rattle.hb_frag.specs.declared.leaves.Leaf.{Leaf}
use Rattle.hb_frag.specs.declared.leaves.Leaf.TheVariants.{Records, Child, Sibling}
use Rattle.hb_frag.specs.Leaves.{Placed}

-- the records that lie in a box
abbrev pub records_within : Area → List Record → List Record
records_within at_hand records = filter (λ r. holds at_hand r.key) records

-- Of a leaf of records those in a box came behind others, and the leaf's box was told. A leaf that names a page has none, and no box
-- was told.
abbrev pub TakesWithin : Area → Leaf → Area → List Record → List Record → Option Area → Type 0
TakesWithin at_hand (Records records) area old new told = (new ≡ old ++ records_within at_hand records) × (told ≡ Some area)
TakesWithin at_hand (Child page) area old new told = (new ≡ old) × (told ≡ None)
TakesWithin at_hand (Sibling page) area old new told = (new ≡ old) × (told ≡ None)

-- A leaf was found, and so it was with that one.
pub record TakesFound (at_hand : Area) (at : Option Placed) (old new : List Record) (told : Option Area) : Type 0 where
  pub placed : Placed
  pub found : at ≡ Some placed
  pub takes : TakesWithin at_hand placed.leaf placed.area old new told
