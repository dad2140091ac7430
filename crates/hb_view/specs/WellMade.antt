-- Bytes that spell a page that keeps all rules that speak of it alone, and what one walk over them goes past.
use Rattle.std.specs.Prelude.{◌≡◌, ℕ, ◌+◌, Bool, true, false, List, All, Option, Some, None, IfSome, IsSomeAnd}
use Rattle.hb_space.specs.Boxes.{Area}
use Rattle.hb_frag.specs.declared.leaves.Leaf.{Leaf}
use Rattle.hb_frag.specs.declared.pages.Page.{Page}
use Rattle.hb_frag.specs.declared.pages.Page.TheVariants.{Live, Free}
use Rattle.hb_frag.specs.Trees.{Tree, Tip, Cut}
use Rattle.hb_frag.specs.Leaves.{IsWellCut, leaves, leaves_of, weight_of}
use Rattle.hb_frag.specs.Rules.{BelongsAt, IsInOrder, IsNormal}
use Rattle.hb_layout.specs.declared.meta.Meta.{Meta}
use Rattle.hb_ops.specs.Sound.{FitsFile}
use Rattle.hb_lemmas.specs.Options.{◌>>=◌}
use Rattle.hb_page_codec.specs.Reading.{number_at}
use Rattle.hb_page_codec.specs.ReadingPages.{page_of_bytes}
use Rattle.hb_view.specs.Views.{leaf_view}
use Rattle.hb_view.specs.declared.leaves.LeafView.{LeafView}
use Rattle.hb_view.specs.declared.leaves.LeafView.TheVariants as views
use Rattle.hb_view.specs.declared.well_made.Passed.{Passed}

-- a page in use keeps the rules that speak of it alone; of a free one they ask nothing
abbrev pub KeepsRules : Meta → Page → Type 0
KeepsRules meta (Live page) = FitsFile meta page
KeepsRules meta (Free next) = Unit {0}

-- the bytes spell a page that keeps them
abbrev pub SpellWellMade : Meta → List ℕ → Type 0
SpellWellMade meta bytes = IsSomeAnd (page_of_bytes bytes) (KeepsRules meta)

-- What stands at the front of bytes is so, and the walk hands on the bytes behind it. Where the walk stops, nothing stands there, or
-- what isn't so.
abbrev pub GoesPast : {A : Type 0} → (A → Type 0) → Option (A × List ℕ) → Option (List ℕ) → Type 0
GoesPast {A} P read (Some rest) = (x : A) × (read ≡ Some (x, rest)) × P x
GoesPast {A} P read None = IfSome read (λ x. ¬ (P x.0))

-- a leaf that names a page, behind its tag
abbrev pub named_at : (ℕ → Leaf) → List ℕ → Option (Tree × List ℕ)
named_at leaf bytes = do
  page ← number_at 4 bytes
  Some (Tip (leaf page.0), page.1)

-- a free page, behind its tag
abbrev pub free_at : List ℕ → Option (Page × List ℕ)
free_at bytes = do
  next ← number_at 4 bytes
  Some (Free next.0, next.1)

-- a tree of this level in this box keeps the rules that speak of trees
pub record IsTreeWellMade (level : ℕ) (area : Area) (tree : Tree) : Type 0 where
  pub well_cut : IsWellCut tree area
  pub kinds : All (BelongsAt level) (leaves tree)
  pub in_order : All IsInOrder (leaves_of tree area)
  pub normal : IsNormal tree

-- the leaf that a tree is, where it has no cut
abbrev pub lone_leaf : Tree → Option LeafView
lone_leaf (Tip leaf) = Some (leaf_view leaf)
lone_leaf (Cut axis value left right) = None

-- two sides that should be one leaf, told from the leaves that they are
abbrev pub ShouldBeOne : Option LeafView → Option LeafView → Type 0
ShouldBeOne (Some views.Records) (Some views.Records) = Unit {0}
ShouldBeOne (Some (views.Child page)) (Some (views.Child other)) = page ≡ other
ShouldBeOne _ _ = ⊥

-- one sibling leaf and no more
abbrev pub IsLoneSibling : Option LeafView → Type 0
IsLoneSibling (Some (views.Sibling page)) = Unit {0}
IsLoneSibling _ = ⊥

-- What a walk went past: a tree that keeps the rules. The walk came to the bytes behind it, what was weighed weighs more by the tree,
-- and the walk knows the leaf that it is, where it has no cut.
pub record PassesOver (level : ℕ) (area : Area) (before : ℕ) (read : Option (Tree × List ℕ)) (passed : Passed) : Type 0 where
  pub tree : Tree
  pub there : read ≡ Some (tree, passed.rest.now)
  pub well_made : IsTreeWellMade level area tree
  pub weight : passed.weight ≡ before + weight_of tree
  pub leaf : passed.leaf ≡ lone_leaf tree

-- It goes past such a tree. Where it stops, no tree stands there, or one that breaks a rule.
abbrev pub GoesPastTree : ℕ → Area → ℕ → Option (Tree × List ℕ) → Passed → Bool → Type 0
GoesPastTree level area before read passed true = PassesOver level area before read passed
GoesPastTree level area before read passed false = IfSome read (λ x. ¬ (IsTreeWellMade level area x.0))
