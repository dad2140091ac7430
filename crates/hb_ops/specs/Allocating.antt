-- A page number is taken for a page that is made; and a file gets a level, by a root that passes all points on to the old one.
use Rattle.std.specs.Prelude.{◌≡◌, ◌≢◌, ℕ, ◌+◌, ◌<◌, ◌≤◌, max, Some}
use Rattle.hb_layout.specs.declared.meta.Meta.{Meta}
use Rattle.hb_frag.specs.declared.pages.Page.TheVariants.{Free}
use Rattle.hb_ops.specs.Files.{FileState, page_of}
use Rattle.hb_space.specs.Boxes.{whole_area}
use Rattle.hb_layout.specs.declared.limits.TheConstants.{HEIGHT_MAX}
use Rattle.hb_frag.specs.declared.leaves.Leaf.TheVariants.{Child}
use Rattle.hb_frag.specs.declared.pages.LivePage.{LivePage}
use Rattle.hb_frag.specs.Trees.{Tip}

-- there is room, and the number is the first of the free chain, or where that has none the one behind the highest page
pub record Allocates (meta : Meta) (fresh free_after : ℕ) : Type 0 where
  pub room : meta.live < meta.pages
  pub from_chain : meta.free ≢ 0 → (fresh ≡ meta.free) × (fresh ≤ meta.high)
  pub from_behind : meta.free ≡ 0 → (fresh ≡ meta.high + 1) × (fresh ≤ meta.pages) × (free_after ≡ 0)

-- what the file says of itself then
abbrev pub allocated : Meta → ℕ → ℕ → Meta
allocated meta fresh free_after = record meta { high = max meta.high fresh; live = meta.live + 1; free = free_after }

-- What a caller knows beyond the pages that an operation reads: the free head afterwards is what the free page names.
abbrev pub NamesNext : FileState → ℕ → ℕ → Type 0
NamesNext s fresh free_after = s.meta.free ≢ 0 → page_of s fresh ≡ Some (Free free_after)

-- a page number may be taken, and the height may rise
pub record FitsGrow (meta : Meta) (fresh free_after : ℕ) : Type 0 where
  pub allocates : Allocates meta fresh free_after
  pub height : meta.height < HEIGHT_MAX

-- the new root: one level above the old one, of the whole space, with a child leaf to it alone
abbrev pub new_root : Meta → LivePage
new_root meta = record { level = meta.height; area = whole_area meta.k; frag = Tip (Child meta.root) }

-- what the file says of itself, with another root and one level more
abbrev pub raised : Meta → ℕ → Meta
raised meta root = record meta { root = root; height = meta.height + 1 }
