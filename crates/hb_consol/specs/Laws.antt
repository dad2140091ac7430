-- What follows of these rows.
use Rattle.std.specs.Prelude.{◌≡◌, ℕ, ◌≤◌, Some, IsTrue}
use Rattle.std.specs.List.{slice_get}
use Rattle.hb_frag.specs.declared.leaves.Leaf.TheVariants.{Sibling}
use Rattle.hb_frag.specs.declared.pages.LivePage.{LivePage}
use Rattle.hb_frag.specs.Leaves.{leaves}
use Rattle.hb_activity.specs.declared.jobs.Job.{Job}
use Rattle.hb_activity.specs.Deeds.{Deed}
use Rattle.hb_activity.specs.Sights.{Sight}
use Rattle.hb_ops.specs.Merging.{ArePagesToMerge}
use Rattle.hb_ops.specs.declared.operations.Op.{Op}
use Rattle.hb_ops.specs.Operations.{IsAllowedOn}
use Rattle.hb_consol.specs.ConsolidatorRows.{names_child, pair_from}
use Rattle.hb_consol.specs.MergeRows.{Decides}

-- The page that may go is one that the parent names, and the leaf at this place of the page to keep names it. None of the places
-- that were looked at before is looked at again.
pub record IsPair (parent keep : LivePage) (from gone place : ℕ) : Type 0 where
  pub named : IsTrue (names_child parent gone)
  pub leaf : slice_get (leaves keep.frag) place ≡ Some (Sibling gone)
  pub onward : from ≤ place

abbrev pub PairsAreNamed : Type 0
PairsAreNamed = (parent keep : LivePage) (from gone place : ℕ) → pair_from parent keep from ≡ Some (gone, place) → IsPair parent keep from gone place

-- A merge that is decided is allowed, where the row is given pages to merge.
abbrev pub MergesAreAllowed : Type 0
MergesAreAllowed = (s : Sight) (job : Job) (parent keep gone : ℕ) (page : LivePage) (deed : Deed) (op : Op) (row : Decides s job parent keep gone page deed) →
    ArePagesToMerge s.meta parent keep gone row.has.above row.has.kept page → deed.op ≡ Some op → IsAllowedOn op s.meta (Some row.has.above) (Some row.has.kept) (Some page)
