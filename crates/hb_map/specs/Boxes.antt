-- The boxes that a map prints with records, and that each point lies in exactly one of them.
use Rattle.std.specs.Prelude.{◌≡◌, ℕ, ◌≤◌, List, [], ◌∷◌, flat_map, count_by}
use Rattle.hb_space.specs.Boxes.{Area, holds}
use Rattle.hb_space.specs.declared.form.TheConstants.{KMAX}
use Rattle.hb_frag.specs.declared.leaves.Leaf.{Leaf}
use Rattle.hb_frag.specs.declared.leaves.Leaf.TheVariants.{Records, Child, Sibling}
use Rattle.hb_frag.specs.declared.pages.Page.{Page}
use Rattle.hb_frag.specs.declared.pages.Page.TheVariants.{Live, Free}
use Rattle.hb_frag.specs.Leaves.{Placed, leaves_of}
use Rattle.hb_ops.specs.Files.{FileState}
use Rattle.hb_ops.specs.Sound.{IsSound}
use Rattle.hb_sound.specs.PointWalks.{IsPointOf}

-- the box of a leaf that has records
abbrev pub if_records : Leaf → Area → List Area
if_records (Records records) area = area ∷ []
if_records (Child page) area = []
if_records (Sibling page) area = []

abbrev pub record_boxes : Page → List Area
record_boxes (Live page) = flat_map (λ (placed : Placed). if_records placed.leaf placed.area) (leaves_of page.frag page.area)
record_boxes (Free next) = []

-- all boxes printed as `records`, in the order of the map
abbrev pub boxes_of_records : FileState → List Area
boxes_of_records s = flat_map record_boxes s.pages

-- Each point of the space lies in exactly one of them: no two have a point in common, and together they hold every point.
abbrev pub EachPointHasOneBox : Type 0
EachPointHasOneBox = (s : FileState) (p : List ℕ) → IsSound s → 1 ≤ s.meta.k → s.meta.k ≤ KMAX → IsPointOf s p → count_by (λ area. holds area p) (boxes_of_records s) ≡ 1
