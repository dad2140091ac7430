-- The tree at the front of bytes, seen by its root.
use Rattle.std.specs.Prelude.{◌≡◌, ℕ, zero, suc, ◌<◌, List, [], ◌∷◌, length, drop, Option, Some, None, IsSome}
use Rattle.hb_space.specs.declared.records.Record.{Record}
use Rattle.hb_frag.specs.declared.leaves.Leaf.{Leaf}
use Rattle.hb_frag.specs.declared.leaves.Leaf.TheVariants as leaves
use Rattle.hb_frag.specs.Trees.{Tree, Tip, Cut}
use Rattle.hb_page_codec.specs.Reading.{number_at}
use Rattle.hb_page_codec.specs.ReadingFields.{axis_at, count_at, records_at}
use Rattle.hb_page_codec.specs.ReadingPages.{tree_at}
use Rattle.hb_view.specs.declared.roots.Root.{Root}
use Rattle.hb_view.specs.declared.roots.Root.TheVariants as roots
use Rattle.hb_view.specs.Behind.{after_or}
use Rattle.hb_lemmas.specs.Options.{◌>>=◌}

-- the tree at the front of the bytes, where one stands there
abbrev pub tree_or : Option (Tree × List ℕ) → Tree
tree_or (Some x) = x.0
tree_or None = Tip (leaves.Child 0)

abbrev pub tree_there : ℕ → List ℕ → Tree
tree_there k bytes = tree_or (tree_at k bytes)

-- and the bytes behind it
abbrev pub rest_there : ℕ → List ℕ → List ℕ
rest_there k bytes = after_or (tree_at k bytes)

-- What a root says by itself: a cut with the bytes of its sides, a leaf with the bytes of its records, or one that names
-- a page, with the bytes behind it.
pub data RootSeen : Type 0 where
  SeenCut : ℕ → ℕ → List ℕ → RootSeen
  SeenRecords : ℕ → List ℕ → RootSeen
  SeenChild : ℕ → List ℕ → RootSeen
  SeenSibling : ℕ → List ℕ → RootSeen

abbrev pub sight_of : Root → RootSeen
sight_of (roots.Cut axis value left) = SeenCut axis value left.now
sight_of (roots.Records count first) = SeenRecords count first.now
sight_of (roots.Child page rest) = SeenChild page rest.now
sight_of (roots.Sibling page rest) = SeenSibling page rest.now

unfoldable pub root_at : ℕ → List ℕ → Option RootSeen
root_at k [] = None
root_at k (zero ∷ rest) = do
  axis ← axis_at k rest
  value ← number_at 8 axis.1
  Some (SeenCut axis.0 value.0 value.1)
root_at k (suc zero ∷ rest) = do
  count ← count_at k rest
  Some (SeenRecords count.0 count.1)
root_at k (suc (suc zero) ∷ rest) = do
  page ← number_at 4 rest
  Some (SeenChild page.0 page.1)
root_at k (suc (suc (suc zero)) ∷ rest) = do
  page ← number_at 4 rest
  Some (SeenSibling page.0 page.1)
root_at k (suc (suc (suc (suc b))) ∷ rest) = None

-- A tree stands at the front, and is this cut. Its left side begins at `left`, and its right side behind that.
pub record IsCutAt (k : ℕ) (bytes : List ℕ) (axis value : ℕ) (left : List ℕ) : Type 0 where
  pub left_there : IsSome (tree_at k left)
  pub right_there : IsSome (tree_at k (rest_there k left))
  pub tree : tree_there k bytes ≡ Cut axis value (tree_there k left) (tree_there k (rest_there k left))
  pub rest : rest_there k bytes ≡ rest_there k (rest_there k left)
  pub attribute : axis < k
  pub begins : left ≡ drop 10 bytes
  pub left_shorter : length left < length bytes
  pub right_shorter : length (rest_there k left) < length bytes

-- It is a leaf with so many records, the first of which stands at `first`.
pub record IsListAt (k : ℕ) (bytes : List ℕ) (count : ℕ) (first : List ℕ) : Type 0 where
  pub records : List Record
  pub read : records_at k count first ≡ Some (records, rest_there k bytes)
  pub begins : first ≡ drop 3 bytes
  pub tree : tree_there k bytes ≡ Tip (leaves.Records records)

-- It is this leaf, which names a page, and these bytes are behind it.
pub record IsNameAt (k : ℕ) (bytes : List ℕ) (leaf : Leaf) (rest : List ℕ) : Type 0 where
  pub tree : tree_there k bytes ≡ Tip leaf
  pub behind : rest_there k bytes ≡ rest

abbrev pub IsSeenAt : ℕ → List ℕ → RootSeen → Type 0
IsSeenAt k bytes (SeenCut axis value left) = IsCutAt k bytes axis value left
IsSeenAt k bytes (SeenRecords count first) = IsListAt k bytes count first
IsSeenAt k bytes (SeenChild page rest) = IsNameAt k bytes (leaves.Child page) rest
IsSeenAt k bytes (SeenSibling page rest) = IsNameAt k bytes (leaves.Sibling page) rest
