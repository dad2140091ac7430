-- What is owed to a parent at a point, and whether it has room for it: the conditions of a posting.
use Rattle.std.specs.Prelude.{◌≡◌, ◌≢◌, ℕ, ◌<◌, ◌≤◌, List, Some, length}
use Rattle.hb_space.specs.Boxes.{Area, IsArea, Meets}
use Rattle.hb_frag.specs.declared.leaves.Leaf.TheVariants.{Child, Sibling}
use Rattle.hb_frag.specs.declared.pages.LivePage.{LivePage}
use Rattle.hb_frag.specs.declared.paths.Side.{Side}
use Rattle.hb_frag.specs.Trees.{Tree, Tip}
use Rattle.hb_frag.specs.Leaves.{leaf_at, weight_of, siblings_of}
use Rattle.hb_frag.specs.Paths.{with_part, way_to, part_at}
use Rattle.hb_frag.specs.Carving.{carved}
use Rattle.hb_frag.specs.Normal.{normal}
use Rattle.std.specs.List.{Contains}

-- the page's leaf at the point is a child leaf
pub record NamesChildAt (page : LivePage) (p : List ℕ) : Type 0 where
  -- whom it names
  pub outer : ℕ
  -- its box
  pub leaf : Area
  pub at_point : leaf_at page p ≡ Some (record { leaf = Child outer; area = leaf })

-- `inner` is owed a leaf of the parent: at the point the parent's leaf names `outer` over the box `leaf`, and the
-- child has a sibling leaf over the box `area`, which names another page than that.
pub record IsOwed (parent child : LivePage) (p : List ℕ) (outer inner : ℕ) (leaf area : Area) : Type 0 where
  pub above : leaf_at parent p ≡ Some (record { leaf = Child outer; area = leaf })
  pub below : leaf_at child p ≡ Some (record { leaf = Sibling inner; area = area })
  pub other : inner ≢ outer

-- the parent's inside once its leaf at the point is carved, without cuts that part nothing
abbrev pub posted_parent : LivePage → List ℕ → ℕ → ℕ → Area → Area → Tree
posted_parent parent p outer inner leaf area = normal (with_part (way_to p parent.frag) parent.frag (carved leaf area outer inner))

-- no page is owed a leaf of the parent at the point
abbrev pub OwesNothing : LivePage → LivePage → List ℕ → Type 0
OwesNothing parent child p = (outer inner : ℕ) (leaf area : Area) → ¬ (IsOwed parent child p outer inner leaf area)

-- `inner` is, over the box `area`, and the parent has room for it where the way `at` leads
pub record Posts (parent child : LivePage) (p : List ℕ) (icap : ℕ) (at : List Side) (inner : ℕ) (area : Area) : Type 0 where
  -- whom the parent's leaf names, and its box
  pub outer : ℕ
  pub leaf : Area
  pub owed : IsOwed parent child p outer inner leaf area
  pub way : at ≡ way_to p parent.frag
  pub room : weight_of (posted_parent parent p outer inner leaf area) ≤ icap

-- some page is, and the parent has no room for it
pub record LacksRoom (parent child : LivePage) (p : List ℕ) (icap : ℕ) : Type 0 where
  -- whom the parent's leaf names, who is owed one, and the boxes of both leaves
  pub outer : ℕ
  pub inner : ℕ
  pub leaf : Area
  pub area : Area
  pub owed : IsOwed parent child p outer inner leaf area
  pub heavy : icap < weight_of (posted_parent parent p outer inner leaf area)

-- A posting that may be made: the way ends at a child leaf that names another page, over a box that meets the area;
-- the child gave exactly this area to the page `inner`; and the parent has room for what becomes of it.
pub record MayPost (parent child : LivePage) (icap : ℕ) (at : List Side) (inner : ℕ) (area : Area) : Type 0 where
  -- whom the leaf names, and its box
  pub outer : ℕ
  pub leaf : Area
  pub place : part_at at parent.frag parent.area ≡ Some (Tip (Child outer), leaf)
  pub other : inner ≢ outer
  pub leaf_area : IsArea leaf
  pub given_area : IsArea area
  pub attributes : length area.lo ≡ length leaf.lo
  pub meets : Meets leaf area
  pub given : Contains (siblings_of child) (inner, area)
  pub room : weight_of (normal (with_part at parent.frag (carved leaf area outer inner))) ≤ icap
