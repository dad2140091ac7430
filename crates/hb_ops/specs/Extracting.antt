-- A page is split: a part of it becomes a page of its own, and a leaf that names that page stands in its place.
use Rattle.std.specs.Prelude.{◌≡◌, ◌≢◌, ℕ, List, [], ◌∷◌, Option, Some, None}
use Rattle.hb_space.specs.Boxes.{Area}
use Rattle.hb_layout.specs.declared.meta.Meta.{Meta}
use Rattle.hb_frag.specs.declared.leaves.Leaf.TheVariants.{Sibling}
use Rattle.hb_frag.specs.declared.pages.LivePage.{LivePage}
use Rattle.hb_frag.specs.declared.pages.Page.{Page}
use Rattle.hb_frag.specs.declared.pages.Page.TheVariants.{Live}
use Rattle.hb_frag.specs.declared.paths.Side.{Side}
use Rattle.hb_frag.specs.Paths.{part_at, with_part}
use Rattle.hb_frag.specs.Rules.{IsSiblingTip}
use Rattle.hb_frag.specs.Trees.{Tree, Tip}
use Rattle.hb_ops.specs.declared.leaf_cuts.LeafCut.{LeafCut}
use Rattle.hb_ops.specs.Sound.{FitsFile}
use Rattle.hb_ops.specs.Allocating.{Allocates}
use Rattle.hb_ops.specs.Cutting.{PartLeaves, cut_through, reached}

-- The path leads to a part of the page, which the cuts part further. What they reach is less than the whole page, and
-- isn't a lone sibling leaf.
pub record FitsPart (path : List Side) (cuts : List LeafCut) (page : LivePage) (part : Tree × Area) : Type 0 where
  pub there : part_at path page.frag page.area ≡ Some part
  pub parted : PartLeaves cuts part.0 part.1
  pub less : path ≡ [] → cuts ≢ []
  pub own : ¬ (IsSiblingTip (reached cuts part.0 part.1).0)

-- A well-made page may be split where a page number may be taken and the part may leave.
pub record FitsExtract (meta : Meta) (page : LivePage) (fresh : ℕ) (path : List Side) (cuts : List LeafCut) (free_after : ℕ) : Type 0 where
  pub allocates : Allocates meta fresh free_after
  pub made : FitsFile meta page
  pub part : Tree × Area
  pub fits : FitsPart path cuts page part

-- the page that is made: what the cuts reach of the part, with its box and the level of the page
abbrev pub fresh_page : List LeafCut → LivePage → Tree × Area → LivePage
fresh_page cuts page part = record { level = page.level; area = (reached cuts part.0 part.1).1; frag = (reached cuts part.0 part.1).0 }

-- the page that is split: the cuts are made, and where they lead a leaf names the page that is made
abbrev pub source_page : ℕ → List Side → List LeafCut → LivePage → Tree × Area → LivePage
source_page fresh path cuts page part = record { level = page.level; area = page.area; frag = with_part path page.frag (cut_through cuts part.0 (Tip (Sibling fresh))) }

-- both, under their numbers
abbrev pub split_pages : ℕ → ℕ → List Side → List LeafCut → LivePage → Option (Tree × Area) → List (ℕ × Page)
split_pages source fresh path cuts page None = []
split_pages source fresh path cuts page (Some part) = (source, Live (source_page fresh path cuts page part)) ∷ (fresh, Live (fresh_page cuts page part)) ∷ []
