-- The plan of a merge.
use Rattle.std.specs.Prelude.{◌≡◌, ℕ, ◌<◌, None}
use Rattle.hb_frag.specs.declared.pages.LivePage.{LivePage}
use Rattle.hb_frag.specs.Leaves.{DirectlyCovers, first_named, siblings_of}
use Rattle.hb_frag.specs.Rules.{most_merged}
use Rattle.hb_ops.specs.Merging.{GaveTo, MayMerge, merged_weight}
use Rattle.hb_terms.specs.declared.merging.MergePlan.{MergePlan}
use Rattle.hb_terms.specs.declared.merging.MergePlan.TheVariants.{NotContained, ManyParents, TooHeavy, Merge}

-- It gave one, and a part of the other page's box lies with another parent.
pub record HasManyParents (parent keep : LivePage) (gone_id : ℕ) (gone : LivePage) : Type 0 where
  pub given : GaveTo keep gone_id
  pub elsewhere : ¬ (DirectlyCovers parent gone.area)

-- The parent directly holds all of it, and together the two are too heavy for a page of this capacity.
pub record AreTooHeavy (parent keep : LivePage) (gone_id : ℕ) (gone : LivePage) (cap : ℕ) : Type 0 where
  pub given : GaveTo keep gone_id
  pub whole : DirectlyCovers parent gone.area
  pub heavy : most_merged cap < merged_weight keep gone

-- The plan for a parent, the page to keep, the page to go with its number, and what a page of their level may weigh. That
-- the parent names both is no part of it.
abbrev pub IsMergePlan : LivePage → LivePage → ℕ → LivePage → ℕ → MergePlan → Type 0
IsMergePlan parent keep gone_id gone cap NotContained = first_named gone_id (siblings_of keep) ≡ None
IsMergePlan parent keep gone_id gone cap ManyParents = HasManyParents parent keep gone_id gone
IsMergePlan parent keep gone_id gone cap TooHeavy = AreTooHeavy parent keep gone_id gone cap
IsMergePlan parent keep gone_id gone cap Merge = MayMerge parent keep gone_id gone cap
