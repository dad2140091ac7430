-- Whether cuts part a leaf, cut by cut, over the records that the cuts before let go on.
use Rattle.std.proofs.Common.{◌≡◌, ◌≢◌, ◌↔◌, IsTrue, ℕ, zero, suc, ◌+◌, ◌<◌, Bool, true, false, ◌&&◌, cond, List, [], ◌∷◌, length, get_or, take, drop, filter, Some, refl, sym, ap, subst, ◌∙◌, arith}
use Rattle.std.proofs.Math.Numerals.{add-one}
use Rattle.std.proofs.lemmas.Bool.{false≢true}
use Rattle.std.proofs.lemmas.List.{drop_more}
use Rattle.hb_space.specs.Boxes.{Area, Cuts, side_below, side_from}
use Rattle.hb_space.specs.declared.records.Record.{Record}
use Rattle.hb_frag.specs.declared.leaves.Leaf.TheVariants.{Records}
use Rattle.hb_frag.specs.declared.pages.LivePage.{LivePage}
use Rattle.hb_frag.specs.declared.paths.Side.{Side}
use Rattle.hb_frag.specs.declared.paths.Side.TheVariants.{Left, Right}
use Rattle.hb_frag.specs.Paths.{StaysInside, part_at}
use Rattle.hb_frag.specs.Rules.{IsSiblingTip}
use Rattle.hb_frag.specs.Trees.{Tree, Tip, Cut}
use Rattle.hb_ops.specs.declared.leaf_cuts.LeafCut.{LeafCut}
use Rattle.hb_ops.specs.Cutting.{PartLeaves, going, half_area, is_on, other_side, reached, PlanesCut, goes_on}
use Rattle.hb_ops.specs.Extracting.{FitsPart}

-- two filters are one
twice : (p q : Record → Bool) (rs : List Record) → filter (λ r. p r && q r) rs ≡ filter q (filter p rs)
twice p q [] = refl
twice p q (r ∷ rs) = elim (p r) as (λ b. cond (b && q r) (r ∷ filter (λ r. p r && q r) rs) (filter (λ r. p r && q r) rs) ≡ filter q (cond b (r ∷ filter p rs) (filter p rs))) [
  | true ↦ ap (λ (xs : List Record). cond (q r) (r ∷ xs) xs) (twice p q rs)
  | false ↦ twice p q rs
]

and_true : (b : Bool) → b && true ≡ b
and_true true = refl
and_true false = refl

and_last : (a b c d : Bool) → b ≡ c && d → a && b ≡ (a && c) && d
and_last true b c d e = e
and_last false b c d e = refl

abbrev is_on_at : LeafCut → Record → Bool
is_on_at cut r = is_on cut.side cut.axis cut.value r

next_test : (cuts : List LeafCut) (place : ℕ) (d : LeafCut) (r : Record) → place < length cuts → goes_on (take (suc place) cuts) r ≡ goes_on (take place cuts) r && is_on_at (get_or cuts place d) r
next_test [] place d r lt = absurd (omega arith)
next_test (cut ∷ cuts) zero d r lt = and_true (is_on_at cut r)
next_test (cut ∷ cuts) (suc place) d r lt =
    and_last (is_on_at cut r) (goes_on (take (suc place) cuts) r) (goes_on (take place cuts) r) (is_on_at (get_or cuts place d) r) (next_test cuts place d r (omega arith))

-- the records that go on at one cut more
next_records : (cuts : List LeafCut) (place : ℕ) (d : LeafCut) (rs : List Record) → place < length cuts → filter (goes_on (take (place + 1) cuts)) rs ≡ filter (is_on_at (get_or cuts place d)) (filter (goes_on (take place cuts)) rs)
next_records cuts place d rs lt =
    ap (λ (n : ℕ). filter (goes_on (take n cuts)) rs) (add-one place)
    ∙ (λ i. filter (λ r. next_test cuts place d r lt i) rs)
    ∙ twice (goes_on (take place cuts)) (is_on_at (get_or cuts place d)) rs

-- all records go on where there is no cut
all_go_on : (rs : List Record) → filter (goes_on []) rs ≡ rs
all_go_on [] = refl
all_go_on (r ∷ rs) = ap (λ (xs : List Record). r ∷ xs) (all_go_on rs)

pub from_first : (cuts : List LeafCut) (tree : Tree) (rs : List Record) (area : Area) (b : Bool) → tree ≡ Tip (Records rs) → IsTrue b ↔ PartLeaves cuts (Tip (Records (filter (goes_on []) rs))) area → IsTrue b ↔ PartLeaves cuts tree area
from_first cuts tree rs area b is h =
    subst (λ (t : Tree). IsTrue b ↔ PartLeaves cuts t area) (sym is) (subst (λ (xs : List Record). IsTrue b ↔ PartLeaves cuts (Tip (Records xs)) area) (all_go_on rs) h)

-- a cut that parts the records, and the ones behind it
pub one_more_cut : (cuts : List LeafCut) (place : ℕ) (d : LeafCut) (rs : List Record) (area : Area) → place < length cuts → Cuts area (get_or cuts place d).axis (get_or cuts place d).value →
    0 < length (filter (is_on_at (get_or cuts place d)) (filter (goes_on (take place cuts)) rs)) →
    0 < length (filter (is_on (other_side (get_or cuts place d).side) (get_or cuts place d).axis (get_or cuts place d).value) (filter (goes_on (take place cuts)) rs)) →
    PartLeaves (drop (place + 1) cuts) (Tip (Records (filter (goes_on (take (place + 1) cuts)) rs))) (half_area (get_or cuts place d) area) ↔ PartLeaves (drop place cuts) (Tip (Records (filter (goes_on (take place cuts)) rs))) area
one_more_cut cuts place d rs area lt plane on off =
    let cut = get_or cuts place d in
    let some = filter (goes_on (take place cuts)) rs in
    let same = next_records cuts place d rs lt in
    let rest = drop (place + 1) cuts in
    let both = drop_more cuts place d lt in (
      λ h. subst (λ (cs : List LeafCut). PartLeaves cs (Tip (Records some)) area) (sym both)
          (record { records = some; leaf = refl; plane = plane; on = on; off = off }, subst (λ (xs : List Record). PartLeaves rest (Tip (Records xs)) (half_area cut area)) same h),
      λ h. subst (λ (xs : List Record). PartLeaves rest (Tip (Records xs)) (half_area cut area)) (sym same)
          (subst (λ (cs : List LeafCut). PartLeaves cs (Tip (Records some)) area) both h).1,
    )

-- only a records leaf is cut
only_records : (cuts : List LeafCut) (tree : Tree) (area : Area) → 0 < length cuts → PartLeaves cuts tree area → (rs : List Record) × (tree ≡ Tip (Records rs))
only_records [] tree area some h = absurd (omega arith)
only_records (cut ∷ cuts) tree area some h = (h.0.records, h.0.leaf)

pub not_cut : (cuts : List LeafCut) (tree : Tree) (area : Area) → 0 < length cuts → ((rs : List Record) → tree ≡ Tip (Records rs) → ⊥) → IsTrue false ↔ PartLeaves cuts tree area
not_cut cuts tree area some none = (λ t. absurd (false≢true t), λ h. let w = only_records cuts tree area some h in absurd (none w.0 w.1))

-- what cuts reach is a lone sibling leaf only where the part is one
reached_lone : (cuts : List LeafCut) (tree : Tree) (area : Area) → PartLeaves cuts tree area → IsSiblingTip (reached cuts tree area).0 ↔ IsSiblingTip tree
reached_lone [] tree area h = (λ l. l, λ l. l)
reached_lone (cut ∷ cuts) tree area h =
    let rest = reached_lone cuts (going cut tree) (half_area cut area) h.1 in
    (λ l. absurd (rest.0 l), λ l. absurd (subst IsSiblingTip h.0.leaf l))

-- when a part may leave
pub leaves_so : (path : List Side) (cuts : List LeafCut) (page : LivePage) (tree : Tree) (area : Area) → part_at path page.frag page.area ≡ Some (tree, area) → (path ≡ [] → cuts ≢ []) → ¬ (IsSiblingTip tree) → PartLeaves cuts tree area ↔ FitsPart path cuts page (tree, area)
leaves_so path cuts page tree area there less own = (
  λ h. record { there = there; parted = h; less = less; own = λ l. own ((reached_lone cuts tree area h).0 l) },
  λ fits. fits.parted,
)

pub stays_whole : (path : List Side) (cuts : List LeafCut) (page : LivePage) (part : Tree × Area) → ¬ (path ≡ [] → cuts ≢ []) → ¬ (FitsPart path cuts page part)
stays_whole path cuts page part whole fits = whole fits.less

pub stays_lone : (path : List Side) (cuts : List LeafCut) (page : LivePage) (tree : Tree) (area : Area) → IsSiblingTip tree → ¬ (FitsPart path cuts page (tree, area))
stays_lone path cuts page tree area lone fits = fits.own ((reached_lone cuts tree area fits.parted).1 lone)

-- the planes of cuts that part a leaf part its box
pub planes_cut : (cuts : List LeafCut) (tree : Tree) (area : Area) → PartLeaves cuts tree area → PlanesCut cuts area
planes_cut [] tree area h = tt
planes_cut (cut ∷ cuts) tree area h = (h.0.plane, planes_cut cuts (going cut tree) (half_area cut area) h.1)

-- a path to a part stays inside
pub stays_inside : (path : List Side) (t : Tree) (area : Area) (w : Tree × Area) → part_at path t area ≡ Some w → StaysInside path t
stays_inside [] t area w e = tt
stays_inside (Left ∷ path) (Tip leaf) area w e = absurd (cc)
stays_inside (Right ∷ path) (Tip leaf) area w e = absurd (cc)
stays_inside (Left ∷ path) (Cut axis value left right) area w e = stays_inside path left (side_below area axis value) w e
stays_inside (Right ∷ path) (Cut axis value left right) area w e = stays_inside path right (side_from area axis value) w e
