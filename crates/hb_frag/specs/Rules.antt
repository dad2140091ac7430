-- The rules that a live page keeps by itself. The number of each is the one that a refusal names.
use Rattle.std.specs.Prelude.{◌≡◌, ◌≢◌, ℕ, ◌*◌, ◌/◌, ◌<◌, ◌≤◌, ◌==◌, nat_le, Bool, if◌then◌else◌, List, length, All, AllPairs}
use Rattle.std.specs.declared.cmp.Ordering.TheVariants.{Less}
use Rattle.hb_space.specs.Points.{point_cmp}
use Rattle.hb_space.specs.Boxes.{Holds}
use Rattle.hb_space.specs.declared.records.Record.{Record}
use Rattle.hb_frag.specs.declared.leaves.Leaf.{Leaf}
use Rattle.hb_frag.specs.declared.leaves.Leaf.TheVariants.{Records, Child, Sibling}
use Rattle.hb_frag.specs.declared.pages.LivePage.{LivePage}
use Rattle.hb_frag.specs.Trees.{Tree, Tip, Cut}
use Rattle.hb_frag.specs.Leaves.{Placed, leaves, leaves_of, records_of, weight_of, WellCut}

-- what a page may weigh
abbrev pub capacity_of : ℕ → ℕ → ℕ → ℕ
capacity_of level dcap icap = if level == 0 then dcap else icap

-- a page is thin that weighs a quarter of that, or less: it is to be merged
abbrev pub is_thin : ℕ → ℕ → Bool
is_thin weight capacity = nat_le (4 * weight) capacity

-- what two pages may weigh that become one: three quarters of it
abbrev pub most_merged : ℕ → ℕ
most_merged capacity = 3 * capacity / 4

-- S3: the level is below the height, and the box has the file's number of attributes
pub record Fits (page : LivePage) (k height : ℕ) : Type 0 where
  pub level : page.level < height
  pub attributes : length page.area.lo ≡ k

-- records leaves stand at level 0 alone, and child leaves above it alone
abbrev pub BelongsAt : ℕ → Leaf → Type 0
BelongsAt level (Records records) = level ≡ 0
BelongsAt level (Child page) = 0 < level
BelongsAt level (Sibling page) = Unit {0}

abbrev pub IsSiblingTip : Tree → Type 0
IsSiblingTip (Tip (Records records)) = ⊥
IsSiblingTip (Tip (Child page)) = ⊥
IsSiblingTip (Tip (Sibling page)) = Unit {0}
IsSiblingTip (Cut axis value left right) = ⊥

-- S5: each leaf belongs at the level, the weight is at most the capacity, and the page isn't a lone sibling leaf
pub record IsFilledRight (page : LivePage) (dcap icap : ℕ) : Type 0 where
  pub kinds : All (BelongsAt page.level) (leaves page.frag)
  pub light : weight_of page.frag ≤ capacity_of page.level dcap icap
  pub own : ¬ (IsSiblingTip page.frag)

-- the point of a record
abbrev pub point_of : Record → List ℕ
point_of rec = rec.key

-- one record's point comes before another's
abbrev pub Precedes : Record → Record → Type 0
Precedes r s = point_cmp r.key s.key ≡ Less

-- a record of another point than that one
abbrev pub Differ : Record → Record → Type 0
Differ r s = s.key ≢ r.key

-- a leaf's records lie in its box, and their points rise
pub record IsInOrder (placed : Placed) : Type 0 where
  pub inside : All (λ r. Holds placed.area r.key) (records_of placed.leaf)
  pub rising : AllPairs Precedes (records_of placed.leaf)

-- S6: so in every leaf
abbrev pub AreInOrder : LivePage → Type 0
AreInOrder page = All IsInOrder (leaves_of page.frag page.area)

-- two sides that should be one leaf: two records leaves, or two child leaves of the same name
abbrev pub AreAlike : Tree → Tree → Type 0
AreAlike (Tip (Records records)) (Tip (Records others)) = Unit {0}
AreAlike (Tip (Child page)) (Tip (Child other)) = page ≡ other
AreAlike _ _ = ⊥

-- S10: no cut has such sides
abbrev pub IsNormal : Tree → Type 0
IsNormal (Tip leaf) = Unit {0}
IsNormal (Cut axis value left right) = (¬ (AreAlike left right)) × IsNormal left × IsNormal right

-- a page that keeps all rules that speak of it alone
pub record IsWellMade (page : LivePage) (k height dcap icap : ℕ) : Type 0 where
  pub fits : Fits page k height
  pub well_cut : WellCut page
  pub filled : IsFilledRight page dcap icap
  pub in_order : AreInOrder page
  pub normal : IsNormal page.frag
