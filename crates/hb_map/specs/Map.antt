-- The text of a file's map: what the file says of itself, and a line for each page in use and for each of its leaves.
use Rattle.std.specs.Prelude.{ℕ, ◌+◌, ◌-◌, ◌==◌, Bool, false, List, [], ◌∷◌, ◌++◌, length, codes, decimal, flat_map, count_by}
use Rattle.std.specs.List.{list_any}
use Rattle.hb_frag.specs.declared.leaves.Leaf.{Leaf}
use Rattle.hb_frag.specs.declared.leaves.Leaf.TheVariants.{Records, Child, Sibling}
use Rattle.hb_frag.specs.declared.pages.LivePage.{LivePage}
use Rattle.hb_frag.specs.declared.pages.Page.{Page}
use Rattle.hb_frag.specs.declared.pages.Page.TheVariants.{Live, Free}
use Rattle.hb_frag.specs.Leaves.{Placed, child_names, leaves, leaves_of, weight_of}
use Rattle.hb_layout.specs.declared.meta.Meta.{Meta}
use Rattle.hb_ops.specs.Files.{FileState}
use Rattle.hb_text.specs.Output.{numbers_text}

-- the first line: height, root, pages in use, and how many pages may still be taken
abbrev pub head_text : Meta → List ℕ
head_text meta = codes "height " ++ decimal meta.height ++ codes " root " ++ decimal meta.root ++ codes " pages " ++ decimal meta.live ++ codes " free " ++ decimal (meta.pages - meta.live) ++ codes "\n"

-- for each attribute the lower value of a box and the upper one
abbrev pub corners_text : List ℕ → List ℕ → List ℕ
corners_text (l ∷ lo) (h ∷ hi) = numbers_text (l ∷ h ∷ []) ++ corners_text lo hi
corners_text _ _ = []

-- what a leaf has: so many records, a page one level down, or a hole that is another page's of the same level
abbrev pub leaf_text : Leaf → List ℕ
leaf_text (Records records) = codes "records " ++ decimal (length records)
leaf_text (Child page) = codes "child " ++ decimal page
leaf_text (Sibling page) = codes "hole " ++ decimal page

-- the line of a leaf with its box
abbrev pub placed_text : Placed → List ℕ
placed_text placed = leaf_text placed.leaf ++ corners_text placed.area.lo placed.area.hi ++ codes "\n"

-- the line of a page of this number that so many pages name, and those of its leaves, from the left
abbrev pub page_head : ℕ → ℕ → LivePage → List ℕ
page_head id parents page = codes "page " ++ decimal id ++ codes " level " ++ decimal page.level ++ codes " weight " ++ decimal (weight_of page.frag) ++ codes " parents " ++ decimal parents ++ codes "\n"

-- a free page has no line
abbrev pub page_text : ℕ → ℕ → Page → List ℕ
page_text id parents (Live page) = page_head id parents page ++ flat_map placed_text (leaves_of page.frag page.area)
page_text id parents (Free next) = []

-- whether a page names another one by a child leaf, by one or more
abbrev pub is_parent : ℕ → Page → Bool
is_parent id (Live page) = list_any (λ name. name == id) (child_names (leaves page.frag))
is_parent id (Free next) = false

-- how many pages do
abbrev pub parents_of : ℕ → List Page → ℕ
parents_of id pages = count_by (is_parent id) pages

-- the pages from this number on, of a file that has these pages in all
abbrev pub pages_text : List Page → ℕ → List Page → List ℕ
pages_text all id [] = []
pages_text all id (page ∷ rest) = page_text id (parents_of id all) page ++ pages_text all (id + 1) rest

abbrev pub map_text : FileState → List ℕ
map_text s = head_text s.meta ++ pages_text s.pages 1 s.pages
