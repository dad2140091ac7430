-- The walk along the free chain of any file, sound or not.
use Rattle.std.specs.Prelude.{◌≡◌, ℕ, ◌≤◌, ◌⊎◌, List, [], ◌∷◌, Contains, Option, Some, None}
use Rattle.hb_frag.specs.declared.pages.Page.{Page}
use Rattle.hb_frag.specs.declared.pages.Page.TheVariants.{Free}
use Rattle.hb_ops.specs.Files.{FileState, page_of}

-- the least number of which something holds
pub record IsLeast (p : ℕ → Type 0) (n : ℕ) : Type 0 where
  pub here : p n
  pub least : (m : ℕ) → p m → n ≤ m

-- what follows a page in the chain, where it is free
abbrev pub if_free : Option Page → Option ℕ
if_free (Some (Free next)) = Some next
if_free other = None

abbrev pub next_free : FileState → ℕ → Option ℕ
next_free s id = if_free (page_of s id)

-- from the head on each number of the chain is that of a free page and leads to the next; the last leads to the end
abbrev pub LeadsAlong : (ℕ → Option ℕ) → ℕ → List ℕ → ℕ → Type 0
LeadsAlong next head [] end = head ≡ end
LeadsAlong next head (id ∷ rest) end = (head ≡ id) × (following : ℕ) × (next id ≡ Some following) × LeadsAlong next following rest end

-- no number stands in the list twice
abbrev pub IsOnce : List ℕ → Type 0
IsOnce [] = Unit {0}
IsOnce (id ∷ rest) = (¬ (Contains rest id)) × IsOnce rest

-- The walk goes on up to the first number that is 0, stands in the chain already, or isn't that of a free page. No
-- page has the number 0.
pub record IsChainWalk (next : ℕ → Option ℕ) (head : ℕ) (chain : List ℕ) (end : ℕ) : Type 0 where
  pub leads : LeadsAlong next head chain end
  pub once : IsOnce chain
  pub ended : Contains chain end ⊎ (next end ≡ None)

-- a free page that doesn't stand in the chain
abbrev pub IsLeftOut : (ℕ → Option ℕ) → List ℕ → ℕ → Type 0
IsLeftOut next chain id = ((following : ℕ) × (next id ≡ Some following)) × (¬ (Contains chain id))
