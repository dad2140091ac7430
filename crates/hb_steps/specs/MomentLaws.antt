-- What the images of a disk open to while steps are taken, as laws.
use Rattle.std.specs.Prelude.{◌≡◌, ℕ, ◌≤◌, List, All, length, take}
use Rattle.hb_ops.specs.Files.{FileState, contents_of}
use Rattle.hb_ops.specs.Sound.{IsSound}
use Rattle.hb_set.specs.Machine.{RecordSet}
use Rattle.hb_set.specs.Order.{Entry, result_of}
use Rattle.hb_sound.specs.PointWalks.{IsPointOf}
use Rattle.hb_store.specs.Keeps.{OpensToEither}
use Rattle.hb_store.specs.Opening.{OpensTo}
use Rattle.hb_steps.specs.KeepingLaws.{IsAmongFirst}
use Rattle.hb_steps.specs.Laws.{HasOnePage}
use Rattle.hb_steps.specs.KeptMachine.{CoreKeeps}
use Rattle.hb_steps.specs.Machines.{Files, Machine, settled_count}

-- The bytes open to a sound file that has the set after a prefix of the order, of at least so many entries; and in it each point has
-- one responsible page, at which the walk from the root ends.
pub record IsPrefixImage (n : RecordSet) (order : List Entry) (least : ℕ) (bytes : List ℕ) : Type 0 where
  pub s : FileState
  pub opens : OpensTo bytes s
  pub sound : IsSound s
  pub pages : (p : List ℕ) → IsPointOf s p → HasOnePage s p
  pub count : ℕ
  pub enough : least ≤ count
  pub inside : count ≤ length order
  pub contents : contents_of s ≡ result_of n (take count order)

-- So do they with each line answered by then.
pub record ImageHasPrefix (n : RecordSet) (m : Machine) (bytes : List ℕ) : Type 0 where
  pub image : IsPrefixImage n m.order (settled_count m) bytes
  pub answered : All (IsAmongFirst m image.count) m.answered

-- Bytes that open to the durable file of a machine, or to the file after all its groups that wait, do. What the store says of a
-- force is that at each of its moments every image is one of these.
abbrev pub ImagesHavePrefixes : Type 0
ImagesHavePrefixes = (n : RecordSet) (m : Machine) (files : Files) (bytes : List ℕ) → CoreKeeps n m files → OpensToEither files.durable files.later bytes → ImageHasPrefix n m bytes
