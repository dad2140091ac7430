-- Reading a page: its tree, its fields, and what its bytes are read as.
use Rattle.std.specs.Prelude.{ℕ, zero, suc, List, [], ◌∷◌, length, Option, Some, None, nat_lt, ◌==◌, if◌then◌else◌}
use Rattle.std.specs.List.{list_all}
use Rattle.hb_space.specs.declared.form.TheConstants.{PAGE, KMAX}
use Rattle.hb_frag.specs.declared.leaves.Leaf.TheVariants.{Records, Child, Sibling}
use Rattle.hb_frag.specs.declared.pages.Page.{Page}
use Rattle.hb_frag.specs.declared.pages.Page.TheVariants.{Live, Free}
use Rattle.hb_frag.specs.Trees.{Tree, Tip, Cut}
use Rattle.hb_page_codec.specs.Reading.{number_at}
use Rattle.hb_page_codec.specs.ReadingFields.{area_at, records_at, count_at, axis_at}
use Rattle.hb_lemmas.specs.Options.{◌>>=◌}

-- a cut behind its tag, where trees are read as given
unfoldable pub cut_at : (List ℕ → Option (Tree × List ℕ)) → ℕ → List ℕ → Option (Tree × List ℕ)
cut_at read k bytes = do
  axis ← axis_at k bytes
  value ← number_at 8 axis.1
  left ← read value.1
  right ← read left.1
  Some (Cut axis.0 value.0 left.0 right.0, right.1)

-- a leaf of records behind its tag
unfoldable pub records_tip_at : ℕ → List ℕ → Option (Tree × List ℕ)
records_tip_at k bytes = do
  count ← count_at k bytes
  records ← records_at k count.0 count.1
  Some (Tip (Records records.0), records.1)

-- a tree, of which the sides of the root are read as given
unfoldable pub node_at : (List ℕ → Option (Tree × List ℕ)) → ℕ → List ℕ → Option (Tree × List ℕ)
node_at read k [] = None
node_at read k (zero ∷ rest) = cut_at read k rest
node_at read k (suc zero ∷ rest) = records_tip_at k rest
node_at read k (suc (suc zero) ∷ rest) = do
  page ← number_at 4 rest
  Some (Tip (Child page.0), page.1)
node_at read k (suc (suc (suc zero)) ∷ rest) = do
  page ← number_at 4 rest
  Some (Tip (Sibling page.0), page.1)
node_at read k (suc (suc (suc (suc b))) ∷ rest) = None

-- a tree that is at most so deep
unfoldable pub tree_within : ℕ → ℕ → List ℕ → Option (Tree × List ℕ)
tree_within zero k bytes = None
tree_within (suc depth) k bytes = node_at (tree_within depth k) k bytes

-- a tree: it is no deeper than it has bytes
unfoldable pub tree_at : ℕ → List ℕ → Option (Tree × List ℕ)
tree_at k bytes = tree_within (length bytes) k bytes

-- the level and the number of attributes, and the byte that is zero
unfoldable pub head_at : List ℕ → Option (ℕ × ℕ × List ℕ)
head_at (level ∷ k ∷ zero ∷ rest) = if k == 0 then None else if nat_lt KMAX k then None else Some (level, k, rest)
head_at _ = None

-- a live page behind its tag
unfoldable pub live_at : List ℕ → Option (Page × List ℕ)
live_at bytes = do
  head ← head_at bytes
  area ← area_at head.1 head.2
  tree ← tree_at head.1 area.1
  Some (Live (record { level = head.0; area = area.0; frag = tree.0 }), tree.1)

-- all fields of a page
unfoldable pub fields_at : List ℕ → Option (Page × List ℕ)
fields_at [] = None
fields_at (zero ∷ rest) = None
fields_at (suc zero ∷ rest) = live_at rest
fields_at (suc (suc zero) ∷ rest) = do
  next ← number_at 4 rest
  Some (Free next.0, next.1)
fields_at (suc (suc (suc b)) ∷ rest) = None

-- a page: as many bytes as it takes, with zeros behind the fields
unfoldable pub page_of_bytes : List ℕ → Option Page
page_of_bytes bytes = if length bytes == PAGE then ends_in_zeros (fields_at bytes) else None
  where
    ends_in_zeros : Option (Page × List ℕ) → Option Page
    ends_in_zeros read = do
      page ← read
      if list_all (λ b. b == 0) page.1 then Some page.0 else None
