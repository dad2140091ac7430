-- How pages are spelled: 4,096 bytes, with zeros behind the last field.
use Rattle.std.specs.Prelude.{◌≡◌, ℕ, ◌<◌, ◌≤◌, ◌^◌, List, ◌∷◌, ◌++◌, length, flat_map, replicate, All}
use Rattle.hb_space.specs.Points.{IsBody}
use Rattle.hb_space.specs.Boxes.{IsArea}
use Rattle.hb_space.specs.declared.form.TheConstants.{PAGE}
use Rattle.hb_space.specs.declared.records.Record.{Record}
use Rattle.hb_lemmas.specs.Numbers.{big_endian}
use Rattle.hb_frag.specs.declared.leaves.Leaf.{Leaf}
use Rattle.hb_frag.specs.declared.leaves.Leaf.TheVariants.{Records, Child, Sibling}
use Rattle.hb_frag.specs.declared.pages.Page.{Page}
use Rattle.hb_frag.specs.declared.pages.Page.TheVariants.{Live, Free}
use Rattle.hb_frag.specs.Trees.{Tree, Tip, Cut}

-- a point: its values, 8 bytes each
abbrev pub point_bytes : List ℕ → List ℕ
point_bytes point = flat_map (big_endian 8) point

-- a record: its point, the length of its body, its body
abbrev pub record_bytes : Record → List ℕ
record_bytes r = point_bytes r.key ++ length r.body ∷ r.body

abbrev pub leaf_bytes : Leaf → List ℕ
leaf_bytes (Records records) = 1 ∷ big_endian 2 (length records) ++ flat_map record_bytes records
leaf_bytes (Child page) = 2 ∷ big_endian 4 page
leaf_bytes (Sibling page) = 3 ∷ big_endian 4 page

-- a tree: the root, then its left side, then its right side
abbrev pub tree_bytes : Tree → List ℕ
tree_bytes (Tip leaf) = leaf_bytes leaf
tree_bytes (Cut axis value left right) = 0 ∷ axis ∷ big_endian 8 value ++ tree_bytes left ++ tree_bytes right

-- all fields of a page
abbrev pub page_fields : Page → List ℕ
page_fields (Free next) = 2 ∷ big_endian 4 next
page_fields (Live page) = 1 ∷ page.level ∷ length page.area.lo ∷ 0 ∷ point_bytes page.area.lo ++ point_bytes page.area.hi ++ tree_bytes page.frag

-- what of a record, leaf, tree or page with k attributes has its place in the spelling
pub record FitsRecord (k : ℕ) (r : Record) : Type 0 where
  pub attributes : length r.key ≡ k
  pub values : All (λ x. x < 2 ^ 64) r.key
  pub body : IsBody r.body

abbrev pub FitsLeaf : ℕ → Leaf → Type 0
FitsLeaf k (Records records) = (length records < 2 ^ 16) × All (FitsRecord k) records
FitsLeaf k (Child page) = page < 2 ^ 32
FitsLeaf k (Sibling page) = page < 2 ^ 32

abbrev pub FitsTree : ℕ → Tree → Type 0
FitsTree k (Tip leaf) = FitsLeaf k leaf
FitsTree k (Cut axis value left right) = (axis < k) × (value < 2 ^ 64) × FitsTree k left × FitsTree k right

abbrev pub FitsPage : Page → Type 0
FitsPage (Free next) = next < 2 ^ 32
FitsPage (Live page) = (page.level < 2 ^ 8) × IsArea page.area × FitsTree (length page.area.lo) page.frag

-- a page that has a spelling: its fields have their places, and are no longer than a page
pub record HasSpelling (page : Page) : Type 0 where
  pub fits : FitsPage page
  pub short : length (page_fields page) ≤ PAGE

-- these bytes spell this page
pub record SpellsPage (bytes : List ℕ) (page : Page) : Type 0 where
  pub fits : FitsPage page
  pub long : length bytes ≡ PAGE
  pub spelled : (zeros : ℕ) × (bytes ≡ page_fields page ++ replicate zeros 0)
