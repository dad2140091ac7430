-- How a walk passes on: the row that all walks have in common.
use Rattle.std.specs.Prelude.{◌≡◌, ℕ, ◌+◌, ◌<◌, ◌≤◌, List, [], ◌∷◌, Some}
use Rattle.hb_space.specs.Boxes.{Area, Holds}
use Rattle.hb_frag.specs.declared.leaves.Leaf.{Leaf}
use Rattle.hb_frag.specs.declared.leaves.Leaf.TheVariants.{Child, Sibling}
use Rattle.hb_frag.specs.declared.pages.LivePage.{LivePage}
use Rattle.hb_frag.specs.declared.paths.Side.{Side}
use Rattle.hb_frag.specs.Leaves.{IsPointer, leaf_at}
use Rattle.hb_frag.specs.Paths.{part_at}
use Rattle.hb_ops.specs.Cutting.{reached}
use Rattle.hb_ops.specs.declared.leaf_cuts.LeafCut.{LeafCut}
use Rattle.hb_frag.specs.Trees.{Tree}
use Rattle.hb_activity.specs.declared.jobs.Job.{Job}
use Rattle.hb_activity.specs.declared.jobs.JobKind.TheVariants.{Post}
use Rattle.hb_activity.specs.declared.activities.Activity.{Activity}
use Rattle.hb_activity.specs.Deeds.{Deed, moves_to}
use Rattle.hb_activity.specs.Sights.{Sight}

-- A leaf that names a page leads on to that. A sibling leaf shows that the parent owes a posting.
abbrev pub posts_owed : LivePage → List ℕ → Leaf → List Job
posts_owed page p (Sibling name) = record { kind = Post; level = page.level + 1; point = p } ∷ []
posts_owed page p other = []

pub record PassesOn (page : LivePage) (p : List ℕ) (next : Activity) (deed : Deed) : Type 0 where
  pub leaf : Leaf
  pub area : Area
  pub at_point : leaf_at page p ≡ Some (record { leaf = leaf; area = area })
  pub names : IsPointer leaf
  pub deed_is : deed ≡ moves_to next (posts_owed page p leaf)

-- The page's leaf at the job's point is a child leaf: there a worker's walk is over, at its level.
abbrev pub LeadsBelow : LivePage → Job → Type 0
LeadsBelow page job = (child : ℕ) × (area : Area) × (leaf_at page job.point ≡ Some (record { leaf = Child child; area = area }))

-- The page of a walk is above the records, and its box has the job's point.
pub record WalksAbove (job : Job) (page : LivePage) : Type 0 where
  pub above : 1 ≤ page.level
  pub held : Holds page.area job.point

-- Splitting, where no page is free: another deed is done in its place.
pub record HasNoPage (s : Sight) (deed : Deed) (other : Deed) : Type 0 where
  pub none_free : s.meta.live ≡ s.meta.pages
  pub deed_is : deed ≡ other

-- The part of a page that leaves it, where it may be any of those of this choice; its box; and the number that it gets, with the
-- free head afterwards.
pub record PartLeavesTo (s : Sight) (choice : List Side → List LeafCut → Type 0) (page : LivePage) : Type 0 where
  pub path : List Side
  pub cuts : List LeafCut
  pub chosen : choice path cuts
  pub part : Tree × Area
  pub there : part_at path page.frag page.area ≡ Some part
  pub fresh : ℕ
  pub free_after : ℕ
  pub free : s.meta.live < s.meta.pages
  pub next : s.next ≡ Some (fresh, free_after)

-- the lower corner of its box
abbrev pub corner_of : {s : Sight} {choice : List Side → List LeafCut → Type 0} {page : LivePage} → PartLeavesTo s choice page → List ℕ
corner_of leaves = (reached leaves.cuts leaves.part.0 leaves.part.1).1.lo
