-- Reading over what stands at the front of the bytes. Each definition gives the bytes behind it, and None where
-- nothing of its kind stands there.
use Rattle.std.specs.Prelude.{ℕ, zero, suc, List, [], ◌∷◌, Option, Some, None}
use Rattle.hb_page_codec.specs.Reading.{number_at}
use Rattle.hb_page_codec.specs.ReadingFields.{area_at, axis_at, body_at, count_at, point_at, records_at}
use Rattle.hb_page_codec.specs.ReadingPages.{head_at, tree_at}
use Rattle.hb_lemmas.specs.Options.{◌>>=◌}

-- the bytes behind what was read
abbrev pub behind : {A : Type 0} → Option (A × List ℕ) → Option (List ℕ)
behind (Some x) = Some x.1
behind None = None

-- so many elements as were read, and the bytes behind what was read, none of either where nothing was
abbrev pub list_or : {A : Type 0} → Option (List A × List ℕ) → List A
list_or (Some x) = x.0
list_or None = []

abbrev pub after_or : {A : Type 0} → Option (A × List ℕ) → List ℕ
after_or (Some x) = x.1
after_or None = []

-- a record of k attributes
unfoldable pub record_behind : ℕ → List ℕ → Option (List ℕ)
record_behind k bytes = do
  rest ← behind (point_at k bytes)
  behind (body_at rest)

-- a leaf of records behind its tag
unfoldable pub list_behind : ℕ → List ℕ → Option (List ℕ)
list_behind k bytes = do
  count ← count_at k bytes
  behind (records_at k count.0 count.1)

-- a cut behind its tag
unfoldable pub cut_behind : ℕ → List ℕ → Option (List ℕ)
cut_behind k bytes = do
  axis ← axis_at k bytes
  value ← number_at 8 axis.1
  left ← behind (tree_at k value.1)
  behind (tree_at k left)

-- the name of a page
unfoldable pub name_behind : List ℕ → Option (List ℕ)
name_behind bytes = do
  page ← number_at 4 bytes
  Some page.1

-- a tree by its root
unfoldable pub node_behind : ℕ → List ℕ → Option (List ℕ)
node_behind k [] = None
node_behind k (zero ∷ rest) = cut_behind k rest
node_behind k (suc zero ∷ rest) = list_behind k rest
node_behind k (suc (suc zero) ∷ rest) = name_behind rest
node_behind k (suc (suc (suc zero)) ∷ rest) = name_behind rest
node_behind k (suc (suc (suc (suc b))) ∷ rest) = None

-- so many trees, one behind the other
unfoldable pub rest_after : ℕ → ℕ → List ℕ → Option (List ℕ)
rest_after zero k bytes = Some bytes
rest_after (suc n) k bytes = do
  rest ← behind (tree_at k bytes)
  rest_after n k rest

-- a live page behind its tag
unfoldable pub live_behind : List ℕ → Option (List ℕ)
live_behind bytes = do
  head ← head_at bytes
  rest ← behind (area_at head.1 head.2)
  behind (tree_at head.1 rest)

-- all fields of a page
unfoldable pub fields_behind : List ℕ → Option (List ℕ)
fields_behind [] = None
fields_behind (zero ∷ rest) = None
fields_behind (suc zero ∷ rest) = live_behind rest
fields_behind (suc (suc zero) ∷ rest) = name_behind rest
fields_behind (suc (suc (suc b)) ∷ rest) = None
