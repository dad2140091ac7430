-- What a parent weighs.
use Rattle.std.proofs.Common.{◌≡◌, ℕ, ◌≤◌, Bool, true, false, cond, List, ◌∷◌, length, Some, refl, subst, ne_eqb, arith}
use Rattle.std.specs.Prelude.{nat_lt, slice_index}
use Rattle.hb_frag.proofs.Facts.CarvedKinds.{carved_light, some_weight}
use Rattle.hb_frag.proofs.Facts.Parts.{part_weighs}
use Rattle.hb_frag.proofs.Facts.SayingTheSame.{says_the_same}
use Rattle.hb_frag.proofs.Facts.Tiles.{tiles_attributes}
use Rattle.hb_frag.specs.Carving.{carved}
use Rattle.hb_frag.specs.Leaves.{Placed, leaves_of, weight_of}
use Rattle.hb_frag.specs.Paths.{part_at, way_to, with_part}
use Rattle.hb_frag.specs.Trees.{Tree, Tip, Cut}
use Rattle.hb_frag.specs.declared.leaves.Leaf.TheVariants.{Child}
use Rattle.hb_frag.specs.declared.pages.LivePage.{LivePage}
use Rattle.hb_frag.specs.declared.paths.Side.TheVariants.{Left, Right}
use Rattle.hb_layout.specs.Limits.{IsLayout}
use Rattle.hb_layout.specs.declared.meta.Meta.{Meta}
use Rattle.hb_ops.specs.Sound.{FitsFile}
use Rattle.hb_activity.specs.Passing.{LeadsBelow}
use Rattle.hb_activity.specs.declared.jobs.Job.{Job}
use Rattle.hb_activity.proofs.Facts.AllowedDeeds.{kind_at}
use Rattle.hb_ops.proofs.Facts.Opened.{first_has}
use Rattle.hb_space.specs.Boxes.{Area, common_area, side_below, side_from}
use Rattle.hb_terms.proofs.Facts.Owing.{one_plan}
use Rattle.hb_ops.specs.Owing.{LacksRoom}
use Rattle.hb_terms.specs.declared.plans.PostPlan.TheVariants.{Post, SplitFirst}
use Rattle.hb_poster.specs.Asks.{PlansPosting}

-- It is an index page, and weighs at most what such a page may.
pub light_parent : (meta : Meta) (job : Job) (over : LivePage) → FitsFile meta over → LeadsBelow over job → weight_of over.frag ≤ meta.icap
light_parent meta job over made leads =
    let above = kind_at meta over job.point (record { leaf = Child leads.0; area = leads.1 }) made leads.2 in
    subst (λ (b : Bool). weight_of over.frag ≤ cond b meta.dcap meta.icap) (ne_eqb over.level 0 (λ bottom. omega (arith, above, bottom))) made.filled.light

-- the way to a point leads to a part
way_ends_somewhere : (p : List ℕ) (t : Tree) (area : Area) → (w : Tree × Area) × (part_at (way_to p t) t area ≡ Some w)
way_ends_somewhere p (Tip leaf) area = ((Tip leaf, area), refl)
way_ends_somewhere p (Cut axis value left right) area = elim (nat_lt (slice_index p axis) value) as (λ b. (w : Tree × Area) × (part_at (cond b (Left ∷ way_to p left) (Right ∷ way_to p right)) (Cut axis value left right) area ≡ Some w)) [
  | true ↦ way_ends_somewhere p left (side_below area axis value)
  | false ↦ way_ends_somewhere p right (side_from area axis value)
]

-- One that has no room for a posting weighs enough to be split: a posting makes it heavier by two cuts for each attribute at most.
pub heavy_parent : (meta : Meta) (over child : LivePage) (p : List ℕ) → IsLayout meta → FitsFile meta over → LacksRoom over child p meta.icap → 6 ≤ weight_of over.frag
heavy_parent meta over child p layout made lacks =
    let c = carved lacks.leaf lacks.area lacks.outer lacks.inner in
    let attributes : length lacks.leaf.lo ≡ length over.area.lo = first_has (λ (l : Placed). length l.area.lo ≡ length over.area.lo) p (leaves_of over.frag over.area) _ lacks.owed.above (tiles_attributes over.frag over.area) in
    let few = carved_light lacks.leaf (common_area lacks.leaf lacks.area) lacks.outer lacks.inner (length lacks.leaf.lo) 0 in
    let ends = way_ends_somewhere p over.frag over.area in
    let whole = part_weighs (way_to p over.frag) over.frag over.area ends.0 c ends.1 in
    let some = some_weight ends.0.0 in
    let less = (says_the_same (with_part (way_to p over.frag) over.frag c)).weight in
    omega (arith, attributes, few, whole, some, less, lacks.heavy, made.fits.attributes, layout.few_attributes, layout.icap_least)

-- one for which a posting is planned has room
pub has_room : (meta : Meta) (job : Job) (over child : LivePage) → PlansPosting meta job over child → ¬ (LacksRoom over child job.point meta.icap)
has_room meta job over child (at, inner, area, posts) lacks = other (one_plan over child job.point meta.icap (Post at inner area) SplitFirst posts lacks)
  where
    other : Post at inner area ≡ SplitFirst → ⊥
    other same = cc
