-- Which page of a level has a point, and the walk that leads to it.
use Rattle.std.specs.Prelude.{◌≡◌, ◌≢◌, ◌⊎◌, ℕ, ◌+◌, List, [], ◌∷◌, length, Some}
use Rattle.hb_space.specs.Points.{IsPoint}
use Rattle.hb_space.specs.Boxes.{Area, Holds, Within}
use Rattle.hb_space.specs.declared.records.Record.{Record}
use Rattle.hb_frag.specs.declared.leaves.Leaf.{Leaf}
use Rattle.hb_frag.specs.declared.leaves.Leaf.TheVariants.{Records, Child, Sibling}
use Rattle.hb_frag.specs.declared.pages.LivePage.{LivePage}
use Rattle.hb_frag.specs.Leaves.{leaf_at, DirectlyHolds}
use Rattle.hb_ops.specs.Files.{FileState, live_page}

-- a point of as many attributes as the file has
pub record IsPointOf (s : FileState) (p : List ℕ) : Type 0 where
  pub point : IsPoint p
  pub attributes : length p ≡ s.meta.k

-- the page of this number is in use and of the level, and directly holds the point
pub record HasOn (s : FileState) (level : ℕ) (p : List ℕ) (id : ℕ) : Type 0 where
  pub page : LivePage
  pub live : live_page s id ≡ Some page
  pub on : page.level ≡ level
  pub direct : DirectlyHolds page p

-- the page that is responsible for the point is the one of level 0
abbrev pub IsResponsible : FileState → List ℕ → ℕ → Type 0
IsResponsible s p id = HasOn s 0 p id

-- the leaf at the point in the page of this number
pub record Sees (s : FileState) (p : List ℕ) (id : ℕ) (leaf : Leaf) : Type 0 where
  pub page : LivePage
  pub area : Area
  pub live : live_page s id ≡ Some page
  pub there : leaf_at page p ≡ Some (record { leaf = leaf; area = area })

-- that leaf names the next page, as a child or as a sibling
abbrev pub LeadsOn : FileState → List ℕ → ℕ → ℕ → Type 0
LeadsOn s p id next = Sees s p id (Child next) ⊎ Sees s p id (Sibling next)

-- a walk for the point leads from the page through the pages of the list, the last of which is named once more
abbrev pub IsWalk : FileState → List ℕ → ℕ → List ℕ → ℕ → Type 0
IsWalk s p id [] last = id ≡ last
IsWalk s p id (next ∷ rest) last = LeadsOn s p id next × IsWalk s p next rest last

-- a walk from the page to one whose leaf at the point has records
pub record IsWholeWalk (s : FileState) (p : List ℕ) (id : ℕ) (rest : List ℕ) (last : ℕ) : Type 0 where
  pub walk : IsWalk s p id rest last
  pub records : List Record
  pub ends : Sees s p last (Records records)

-- there is such a walk from the page, and it ends at the page that is responsible
pub record HasWalk (s : FileState) (p : List ℕ) (id : ℕ) : Type 0 where
  pub rest : List ℕ
  pub last : ℕ
  pub whole : IsWholeWalk s p id rest last
  pub responsible : IsResponsible s p last

-- A page is further on for a point: it has the point in its box too, and stands one level down, or on the same level with a box
-- that lies in the page's and isn't all of it.
pub record IsFurther (p : List ℕ) (page named : LivePage) : Type 0 where
  pub inside : Holds named.area p
  pub further : (named.level + 1 ≡ page.level) ⊎ ((named.level ≡ page.level) × Within named.area page.area × (named.area ≢ page.area))

-- So is the next page.
pub record LeadsFurther (s : FileState) (p : List ℕ) (page : LivePage) (next : ℕ) : Type 0 where
  pub named : LivePage
  pub live : live_page s next ≡ Some named
  pub further : IsFurther p page named
