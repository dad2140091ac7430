-- What a merge makes of a sound file, as laws.
use Rattle.std.specs.Prelude.{◌≡◌, ◌≢◌, ◌⊎◌, ◌↔◌, ℕ, List, Contains, Some}
use Rattle.hb_space.specs.Boxes.{Holds}
use Rattle.hb_frag.specs.declared.leaves.Leaf.TheVariants.{Child, Sibling}
use Rattle.hb_frag.specs.declared.pages.LivePage.{LivePage}
use Rattle.hb_frag.specs.declared.pages.Page.TheVariants.{Free}
use Rattle.hb_frag.specs.Leaves.{Placed, first_named, leaf_at, leaves, siblings_of}
use Rattle.hb_frag.specs.Renaming.{renamed_leaf}
use Rattle.hb_ops.specs.declared.operations.Op.TheVariants.{Merge}
use Rattle.hb_ops.specs.Files.{FileState, contents_of, live_page, page_of}
use Rattle.hb_ops.specs.Merging.{kept_page, parent_page}
use Rattle.hb_ops.specs.Operations.{effect_of}
use Rattle.hb_ops.specs.Sound.{IsSound}
use Rattle.hb_sound.specs.LawsOfOperations.{HasDirectly, MayBeDone}
use Rattle.hb_sound.specs.PointWalks.{HasOn, IsPointOf}

-- A merge leaves a sound file sound, and its contents as they are.
abbrev pub MergesKeepSound : Type 0
MergesKeepSound = (s : FileState) (parent keep gone : ℕ) → let op = Merge parent keep gone in MayBeDone s op → IsSound (effect_of s op)

abbrev pub MergesKeepContents : Type 0
MergesKeepContents = (s : FileState) (parent keep gone : ℕ) → let op = Merge parent keep gone in MayBeDone s op → contents_of (effect_of s op) ≡ contents_of s

-- What either of the two pages directly held, the one that is kept directly holds afterwards. Every other page directly holds
-- what it held.
pub record AreJoinedAt (s t : FileState) (keep gone : ℕ) (p : List ℕ) : Type 0 where
  pub joined : HasDirectly t keep p ↔ (HasDirectly s keep p ⊎ HasDirectly s gone p)
  pub others : (level id : ℕ) → id ≢ keep → id ≢ gone → HasOn s level p id ↔ HasOn t level p id

abbrev pub MergesJoinDirect : Type 0
MergesJoinDirect = (s : FileState) (parent keep gone : ℕ) (p : List ℕ) → let op = Merge parent keep gone in
    MayBeDone s op → IsPointOf s p → AreJoinedAt s (effect_of s op) keep gone p

-- The parent and the page to keep stand under their numbers as they are made, the page to go is free, in front of the free pages
-- of before, and every other number has what it had. The page to keep had a leaf to the page to go with exactly that page's box.
pub record ChangesThree (s t : FileState) (parent keep gone : ℕ) : Type 0 where
  pub above : LivePage
  pub kept : LivePage
  pub going : LivePage
  pub above_live : live_page s parent ≡ Some above
  pub kept_live : live_page s keep ≡ Some kept
  pub gone_live : live_page s gone ≡ Some going
  pub parent_now : live_page t parent ≡ Some (parent_page keep gone above)
  pub keep_now : live_page t keep ≡ Some (kept_page gone kept going)
  pub gone_now : page_of t gone ≡ Some (Free s.meta.free)
  pub box : first_named gone (siblings_of kept) ≡ Some going.area
  pub others : (id : ℕ) → id ≢ parent → id ≢ keep → id ≢ gone → page_of t id ≡ page_of s id

abbrev pub MergesChangeThree : Type 0
MergesChangeThree = (s : FileState) (parent keep gone : ℕ) → let op = Merge parent keep gone in
    MayBeDone s op → ChangesThree s (effect_of s op) parent keep gone

-- What the parent's leaf at a point names: the page to keep, where it named the page to go, and else what it named before.
pub record RenamesAt (above new : LivePage) (keep gone : ℕ) (p : List ℕ) : Type 0 where
  pub before : Placed
  pub after : Placed
  pub was : leaf_at above p ≡ Some before
  pub now : leaf_at new p ≡ Some after
  pub name : after.leaf ≡ renamed_leaf gone keep before.leaf

abbrev pub MergesRename : Type 0
MergesRename = (s : FileState) (parent keep gone : ℕ) (above : LivePage) (p : List ℕ) → let op = Merge parent keep gone in
    MayBeDone s op → live_page s parent ≡ Some above → Holds above.area p → RenamesAt above (parent_page keep gone above) keep gone p

-- No leaf of a sound file names a page that isn't in use; so none names a page that a merge made free.
abbrev pub FreePagesAreNotNamed : Type 0
FreePagesAreNotNamed = (s : FileState) (free id : ℕ) (page : LivePage) → IsSound s → ((other : LivePage) → live_page s free ≢ Some other) → live_page s id ≡ Some page →
    (¬ (Contains (leaves page.frag) (Child free))) × (¬ (Contains (leaves page.frag) (Sibling free)))
