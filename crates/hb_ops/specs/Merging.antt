-- Two pages of a level become one: a page takes over what a page has to which it gave a part of its box. (Lomet and Salzberg
-- 1997 consolidate a node with its container, which is where it was split off.)
use Rattle.std.specs.Prelude.{◌≡◌, ◌≢◌, ℕ, ◌-◌, ◌+◌, ◌≤◌, List, Contains, Option, Some, None, IsSome}
use Rattle.hb_layout.specs.declared.meta.Meta.{Meta}
use Rattle.hb_frag.specs.declared.leaves.Leaf.TheVariants.{Child}
use Rattle.hb_frag.specs.declared.pages.LivePage.{LivePage}
use Rattle.hb_frag.specs.declared.paths.Side.{Side}
use Rattle.hb_frag.specs.Leaves.{DirectlyCovers, first_named, leaves, siblings_of, weight_of}
use Rattle.hb_frag.specs.Normal.{normal}
use Rattle.hb_frag.specs.Paths.{sibling_way, with_part}
use Rattle.hb_frag.specs.Renaming.{renamed}
use Rattle.hb_frag.specs.Rules.{capacity_of, most_merged}
use Rattle.hb_frag.specs.Trees.{Tree}
use Rattle.hb_ops.specs.Sound.{FitsFile}

-- the page gave a part of its box to the page of this number
abbrev pub GaveTo : LivePage → ℕ → Type 0
GaveTo keep gone_id = IsSome (first_named gone_id (siblings_of keep))

-- what the page to keep weighs afterwards: one leaf of it goes, and the other page's leaves come
abbrev pub merged_weight : LivePage → LivePage → ℕ
merged_weight keep gone = weight_of keep.frag - 1 + weight_of gone.frag

-- The page to keep gave a part of its box to the page to go, all of whose box the parent directly holds, and together the two
-- are light enough for a page of this capacity.
pub record MayMerge (parent keep : LivePage) (gone_id : ℕ) (gone : LivePage) (cap : ℕ) : Type 0 where
  pub given : GaveTo keep gone_id
  pub whole : DirectlyCovers parent gone.area
  pub light : merged_weight keep gone ≤ most_merged cap

-- the parent is one level above the two pages, and names both
abbrev pub NamesBoth : LivePage → ℕ → LivePage → ℕ → LivePage → Type 0
NamesBoth above keep kept gone going = ((kept.level + 1 ≡ above.level) × (going.level + 1 ≡ above.level)) × (Contains (leaves above.frag) (Child keep) × Contains (leaves above.frag) (Child gone))

-- Three pages of different numbers, all well made, of which the parent is one level above the two others and names both.
pub record ArePagesToMerge (meta : Meta) (parent keep gone : ℕ) (above kept going : LivePage) : Type 0 where
  pub others : (parent ≢ keep) × (parent ≢ gone)
  pub two : keep ≢ gone
  pub above_made : FitsFile meta above
  pub kept_made : FitsFile meta kept
  pub gone_made : FitsFile meta going
  pub kept_level : kept.level + 1 ≡ above.level
  pub gone_level : going.level + 1 ≡ above.level
  pub names_kept : Contains (leaves above.frag) (Child keep)
  pub names_gone : Contains (leaves above.frag) (Child gone)

-- Such pages, of which the two others may become one.
pub record FitsMerge (meta : Meta) (parent keep gone : ℕ) (above kept going : LivePage) : Type 0 where
  pub pages : ArePagesToMerge meta parent keep gone above kept going
  pub some_live : 1 ≤ meta.live
  pub may : MayMerge above kept gone going (capacity_of kept.level meta.dcap meta.icap)

-- The page to keep afterwards: what the page to go has stands where its first sibling leaf to that page stood, without cuts
-- whose two sides should be one leaf.
abbrev pub taken_over : LivePage → LivePage → Option (List Side) → Tree
taken_over kept going None = kept.frag
taken_over kept going (Some way) = normal (with_part way kept.frag going.frag)

abbrev pub kept_page : ℕ → LivePage → LivePage → LivePage
kept_page gone kept going = record { level = kept.level; area = kept.area; frag = taken_over kept going (sibling_way gone kept.frag) }

-- the parent afterwards: each child leaf to the page to go names the page to keep
abbrev pub parent_page : ℕ → ℕ → LivePage → LivePage
parent_page keep gone above = record { level = above.level; area = above.area; frag = normal (renamed gone keep above.frag) }

-- what the file says of itself then: the page that goes is the first of the free chain
abbrev pub released : Meta → ℕ → Meta
released meta gone = record meta { live = meta.live - 1; free = gone }
