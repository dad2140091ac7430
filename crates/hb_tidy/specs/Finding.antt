-- What may be found in a file that isn't tidy: a posting or a growth that is owed, and pages that may become one.
use Rattle.std.specs.Prelude.{◌≡◌, ◌≢◌, ◌⊎◌, ℕ, ◌<◌, ◌≤◌, List, [], All, Some}
use Rattle.hb_space.specs.Boxes.{Area, Meets}
use Rattle.hb_layout.specs.declared.limits.TheConstants.{HEIGHT_MAX}
use Rattle.hb_frag.specs.declared.pages.LivePage.{LivePage}
use Rattle.hb_frag.specs.Leaves.{siblings_of}
use Rattle.hb_ops.specs.Files.{FileState, live_page}
use Rattle.hb_ops.specs.Owing.{LacksRoom}
use Rattle.hb_ops.specs.Settled.{HasChild, HasLoneRoot, IsMergeable, IsSettled}

-- a file with nothing left to tidy: it is settled, and no three of its pages may be merged
pub record IsTidy (s : FileState) : Type 0 where
  pub settled : IsSettled s
  pub none : (parent keep gone : ℕ) → ¬ (IsMergeable s parent keep gone)

-- Nothing is found at a child leaf of a page: the page that it names owes it no posting, and is none to keep in a merge.
pub record IsTidyBelow (s : FileState) (parent : ℕ) (leaf : ℕ × Area) : Type 0 where
  pub posted : (named : LivePage) → live_page s leaf.0 ≡ Some named → All (λ sibling. ¬ (Meets leaf.1 sibling.1)) (siblings_of named)
  pub none : (gone : ℕ) → ¬ (IsMergeable s parent leaf.0 gone)

-- Nor at any child leaf of the page of a number.
pub record IsTidyAt (s : FileState) (id : ℕ) : Type 0 where
  pub posted : (name : ℕ) (page named : LivePage) (area : Area) → live_page s id ≡ Some page → HasChild page name area → live_page s name ≡ Some named →
      All (λ sibling. ¬ (Meets area sibling.1)) (siblings_of named)
  pub none : (keep gone : ℕ) → ¬ (IsMergeable s id keep gone)

-- The root has no sibling leaf, or the file grows no more.
abbrev pub HasGrown : FileState → Type 0
HasGrown s = (s.meta.height ≡ HEIGHT_MAX) ⊎ HasLoneRoot s

-- A growth is owed: the root has a sibling leaf, and the file may grow. Or a posting is for which the parent has no room.
pub record OwesGrowth (s : FileState) : Type 0 where
  pub low : s.meta.height < HEIGHT_MAX
  pub root : LivePage
  pub live : live_page s s.meta.root ≡ Some root
  pub given : siblings_of root ≢ []

pub record OwesSplit (s : FileState) : Type 0 where
  pub parent : ℕ
  pub child : ℕ
  pub area : Area
  pub above : LivePage
  pub below : LivePage
  pub above_live : live_page s parent ≡ Some above
  pub below_live : live_page s child ≡ Some below
  pub leaf : HasChild above child area
  pub point : List ℕ
  pub lacks : LacksRoom above below point s.meta.icap

-- One of the two wants a page, and none is free.
pub record WantsPage (s : FileState) : Type 0 where
  pub none_free : s.meta.live ≡ s.meta.pages
  pub owed : OwesGrowth s ⊎ OwesSplit s

-- at each page up to a number
abbrev pub AreTidyUpTo : FileState → ℕ → Type 0
AreTidyUpTo s count = (id : ℕ) → id ≤ count → IsTidyAt s id

-- this page is in use under this number
abbrev pub HasPage : ℕ → LivePage → FileState → Type 0
HasPage id page s = live_page s id ≡ Some page

-- these two are
abbrev pub BothLive : ℕ → LivePage → ℕ → LivePage → FileState → Type 0
BothLive parent above child below s = HasPage parent above s × HasPage child below s
