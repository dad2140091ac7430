-- What a posting makes of a sound file, as laws.
use Rattle.std.specs.Prelude.{◌≡◌, ◌≢◌, ◌↔◌, ℕ, List, Some}
use Rattle.hb_space.specs.Boxes.{Area, Holds}
use Rattle.hb_frag.specs.declared.pages.LivePage.{LivePage}
use Rattle.hb_frag.specs.declared.paths.Side.{Side}
use Rattle.hb_frag.specs.Leaves.{Placed, leaf_at}
use Rattle.hb_ops.specs.declared.operations.Op.TheVariants.{Post}
use Rattle.hb_ops.specs.Files.{FileState, contents_of, live_page, page_of}
use Rattle.hb_ops.specs.Operations.{effect_of}
use Rattle.hb_ops.specs.Sound.{IsSound}
use Rattle.hb_sound.specs.PointWalks.{HasOn}
use Rattle.hb_frag.specs.declared.leaves.Leaf.TheVariants.{Child}
use Rattle.hb_ops.specs.Posting.{IsChildAt, post_page}
use Rattle.hb_sound.specs.LawsOfOperations.{MayBeDone}

-- A posting leaves a sound file sound, and its contents as they are.
abbrev pub PostingsKeepSound : Type 0
PostingsKeepSound = (s : FileState) (parent : ℕ) (at : List Side) (inner : ℕ) (area : Area) → let op = Post parent at inner area in MayBeDone s op → IsSound (effect_of s op)

abbrev pub PostingsKeepContents : Type 0
PostingsKeepContents = (s : FileState) (parent : ℕ) (at : List Side) (inner : ℕ) (area : Area) → let op = Post parent at inner area in
    MayBeDone s op → contents_of (effect_of s op) ≡ contents_of s

-- Every page directly holds what it held.
abbrev pub PostingsKeepDirect : Type 0
PostingsKeepDirect = (s : FileState) (parent : ℕ) (at : List Side) (inner : ℕ) (area : Area) (level : ℕ) (p : List ℕ) (id : ℕ) → let op = Post parent at inner area in
    MayBeDone s op → HasOn s level p id ↔ HasOn (effect_of s op) level p id

-- The parent alone changes.
pub record ChangesParent (s t : FileState) (parent : ℕ) (at : List Side) (inner : ℕ) (area : Area) : Type 0 where
  pub page : LivePage
  pub live : live_page s parent ≡ Some page
  pub now : live_page t parent ≡ Some (post_page at inner area page)
  pub others : (id : ℕ) → id ≢ parent → page_of t id ≡ page_of s id

abbrev pub PostingsChangeParent : Type 0
PostingsChangeParent = (s : FileState) (parent : ℕ) (at : List Side) (inner : ℕ) (area : Area) → let op = Post parent at inner area in
    MayBeDone s op → ChangesParent s (effect_of s op) parent at inner area

-- What the leaf at a point names: the new child where the point lies in the box that was given and in that of the leaf
-- to which the path leads, and otherwise what it named before.
pub record NamesAt (page new : LivePage) (at : List Side) (inner : ℕ) (area : Area) (p : List ℕ) : Type 0 where
  pub outer : ℕ
  pub box : Area
  pub leaf : IsChildAt at page outer box
  pub before : Placed
  pub after : Placed
  pub was : leaf_at page p ≡ Some before
  pub now : leaf_at new p ≡ Some after
  pub given : Holds box p → Holds area p → after.leaf ≡ Child inner
  pub kept : ¬ (Holds box p × Holds area p) → after.leaf ≡ before.leaf

abbrev pub PostingsName : Type 0
PostingsName = (s : FileState) (parent : ℕ) (at : List Side) (inner : ℕ) (area : Area) (page : LivePage) (p : List ℕ) → let op = Post parent at inner area in
    MayBeDone s op → live_page s parent ≡ Some page → Holds page.area p → NamesAt page (post_page at inner area page) at inner area p
