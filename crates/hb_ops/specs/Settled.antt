-- A settled file, in which nothing is late to be posted; and what may still be merged.
use Rattle.std.specs.Prelude.{◌≡◌, ◌⊎◌, ℕ, [], All, Contains, Some}
use Rattle.hb_space.specs.Boxes.{Area, Meets}
use Rattle.hb_layout.specs.declared.limits.TheConstants.{HEIGHT_MAX}
use Rattle.hb_frag.specs.declared.leaves.Leaf.TheVariants.{Child}
use Rattle.hb_frag.specs.declared.pages.LivePage.{LivePage}
use Rattle.hb_frag.specs.Leaves.{leaves_of, siblings_of}
use Rattle.hb_ops.specs.declared.operations.Op.TheVariants.{Merge}
use Rattle.hb_ops.specs.Files.{FileState, live_page}
use Rattle.hb_ops.specs.Operations.{IsAllowed}

-- this page has a child leaf of this box that names that page
abbrev pub HasChild : LivePage → ℕ → Area → Type 0
HasChild page name area = Contains (leaves_of page.frag page.area) (record { leaf = Child name; area = area })

-- no child leaf's box meets a sibling leaf's box in the page that it names
abbrev pub AllPosted : FileState → Type 0
AllPosted s = (id name : ℕ) (page named : LivePage) (area : Area) → live_page s id ≡ Some page → HasChild page name area → live_page s name ≡ Some named →
    All (λ sibling. ¬ (Meets area sibling.1)) (siblings_of named)

-- the root has no sibling leaf
abbrev pub HasLoneRoot : FileState → Type 0
HasLoneRoot s = (page : LivePage) → live_page s s.meta.root ≡ Some page → siblings_of page ≡ []

-- A file of the greatest height grows no more, so its root may keep sibling leaves.
pub record IsSettled (s : FileState) : Type 0 where
  pub posted : AllPosted s
  pub grown : (s.meta.height ≡ HEIGHT_MAX) ⊎ HasLoneRoot s

-- these three pages may be merged: the parent, the page to keep, and the page to go
abbrev pub IsMergeable : FileState → ℕ → ℕ → ℕ → Type 0
IsMergeable s parent keep gone = IsAllowed s (Merge parent keep gone)
