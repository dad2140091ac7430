-- What follows of these rows.
use Rattle.std.specs.Prelude.{◌≡◌, ℕ, [], Some, None, List, Contains}
use Rattle.hb_frag.specs.declared.pages.LivePage.{LivePage}
use Rattle.hb_ops.specs.declared.operations.Op.TheVariants as ops
use Rattle.hb_activity.specs.declared.jobs.Job.{Job}
use Rattle.hb_activity.specs.Deeds.{Deed}
use Rattle.hb_activity.specs.Sights.{Sight}
use Rattle.hb_frag.specs.Leaves.{siblings_of}
use Rattle.hb_space.specs.Boxes.{Area, IsArea}
use Rattle.hb_frag.specs.declared.paths.Side.{Side}
use Rattle.hb_ops.specs.declared.operations.Op.{Op}
use Rattle.hb_activity.specs.OneDeed.{IsAllowedAlone, NumbersAreGiven}
use Rattle.hb_layout.specs.Limits.{IsLayout}
use Rattle.hb_ops.specs.Operations.{IsAllowedOn, reads_of}
use Rattle.hb_ops.specs.Posting.{IsChildAt}
use Rattle.hb_ops.specs.Sound.{FitsFile}
use Rattle.hb_poster.specs.PosterRows.{GrowsFile, LooksAgain}

-- A file may grow as the row says. That reads no page.
abbrev pub GrowthIsAllowed : Type 0
GrowthIsAllowed = (s : Sight) (job : Job) (root : LivePage) (deed : Deed) (op : Op) → GrowsFile s job root deed → NumbersAreGiven s → deed.op ≡ Some op →
    (reads_of op ≡ []) × IsAllowedOn op s.meta None None None

-- What a row is given where the poster looks at the child again: both pages have boxes and keep the rules of a page alone, and
-- what the file says of itself is within its limits.
pub record ArePagesAtHand (s : Sight) (parent child : LivePage) : Type 0 where
  pub layout : IsLayout s.meta
  pub above : FitsFile s.meta parent
  pub above_area : IsArea parent.area
  pub below : FitsFile s.meta child
  pub below_area : IsArea child.area

-- The posting, or the split of the parent, is allowed.
abbrev pub PostingsAreAllowed : Type 0
PostingsAreAllowed = (s : Sight) (job : Job) (parent : ℕ) (child : LivePage) (deed : Deed) (op : Op) (row : LooksAgain s job parent child deed) → NumbersAreGiven s →
    ArePagesAtHand s row.page child → deed.op ≡ Some op → IsAllowedAlone s parent row.page op

-- A posting names a page, over a box, at a child leaf of the parent, and the child gave exactly this box to that page.
pub record IsOfChild (page child : LivePage) (way : List Side) (inner : ℕ) (area : Area) : Type 0 where
  pub outer : ℕ
  pub box : Area
  pub leaf : IsChildAt way page outer box
  pub gave : Contains (siblings_of child) (inner, area)

abbrev pub PostingsAreOfTheChild : Type 0
PostingsAreOfTheChild = (s : Sight) (job : Job) (parent : ℕ) (child : LivePage) (deed : Deed) (row : LooksAgain s job parent child deed) (id : ℕ) (way : List Side) (inner : ℕ) (area : Area) →
    ArePagesAtHand s row.page child → deed.op ≡ Some (ops.Post id way inner area) → IsOfChild row.page child way inner area
