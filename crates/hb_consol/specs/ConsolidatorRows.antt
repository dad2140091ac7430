-- The rows of the consolidator, up to the promotion of a parent and at a parent that it has for itself, and what follows of
-- them. The page of a row is the one that the step latches.
use Rattle.std.specs.Prelude.{◌≡◌, ◌⊎◌, ℕ, ◌+◌, ◌-◌, ◌==◌, ◌<◌, ◌≤◌, ◌&&◌, if◌then◌else◌, Bool, List, [], ◌∷◌, Option, Some, None, option_map}
use Rattle.std.specs.List.{list_any}
use Rattle.hb_frag.specs.declared.leaves.Leaf.{Leaf}
use Rattle.hb_frag.specs.declared.leaves.Leaf.TheVariants.{Records, Child, Sibling}
use Rattle.hb_frag.specs.declared.pages.LivePage.{LivePage}
use Rattle.hb_terms.specs.declared.merging.MergePlan.{MergePlan}
use Rattle.hb_terms.specs.declared.merging.MergePlan.TheVariants as plans
use Rattle.hb_activity.specs.declared.jobs.Job.{Job}
use Rattle.hb_activity.specs.declared.activities.Activity.{Activity}
use Rattle.hb_activity.specs.declared.activities.Activity.TheVariants.{ConsolidatorIdle, ConsolidatorWalk, ConsolidatorScan, ConsolidatorTry, ConsolidatorPromote}
use Rattle.hb_activity.specs.Deeds.{Deed, moves_to}
use Rattle.hb_activity.specs.Passing.{PassesOn, LeadsBelow}
use Rattle.hb_activity.specs.Sights.{Sight}
use Rattle.hb_frag.specs.Leaves.{child_names, firsts, leaves}
use Rattle.hb_frag.specs.Rules.{capacity_of}
use Rattle.hb_terms.specs.Merging.{IsMergePlan}

-- Idle: the consolidator takes the oldest job of its kind. One that isn't below the file's height is dropped.
abbrev pub IsMergingOf : Job → ℕ → Activity → Type 0
IsMergingOf job height next = ((height ≤ job.level) × (next ≡ ConsolidatorIdle)) ⊎ ((job.level < height) × (next ≡ ConsolidatorWalk job None))

-- the job ends, or is dropped
abbrev pub ends_merging : Deed
ends_merging = moves_to ConsolidatorIdle []

-- The pages that a parent names, each once and in their order; the first one, and the one behind another.
abbrev pub children_of : LivePage → List ℕ
children_of parent = firsts (child_names (leaves parent.frag))

abbrev pub first_one : List ℕ → Option ℕ
first_one [] = None
first_one (child ∷ rest) = Some child

abbrev pub one_behind : ℕ → List ℕ → Option ℕ
one_behind child [] = None
one_behind child (first ∷ rest) = if first == child then first_one rest else one_behind child rest

abbrev pub scans : Job → ℕ → Option ℕ → Deed
scans job parent None = ends_merging
scans job parent (Some child) = moves_to (ConsolidatorScan job parent child) []

-- Walking: as the poster's. At its end the first of the parent's children is scanned.
pub record ArrivesToMerge (job : Job) (id : ℕ) (page : LivePage) (deed : Deed) : Type 0 where
  pub level : page.level ≡ job.level
  pub leads : LeadsBelow page job
  pub deed_is : deed ≡ scans job id (first_one (children_of page))

pub record ConsolidatorPasses (job : Job) (id : ℕ) (page : LivePage) (deed : Deed) : Type 0 where
  pub farther : page.level ≡ job.level → ¬ (LeadsBelow page job)
  pub passes : PassesOn page job.point (ConsolidatorWalk job (Some id)) deed

-- a place one further on
abbrev pub one_on : Option (ℕ × ℕ) → Option (ℕ × ℕ)
one_on pair = option_map (λ (page, place). (page, place + 1)) pair

-- whether a child leaf names the page
abbrev pub names_child : LivePage → ℕ → Bool
names_child parent id = list_any (λ name. name == id) (child_names (leaves parent.frag))

-- The first of these leaves, `from` places on or later, that is a sibling leaf to a page that the parent names too: this page,
-- and the leaf's place.
abbrev pub pair_among : LivePage → ℕ → List Leaf → Option (ℕ × ℕ)
pair_among parent from [] = None
pair_among parent from (Sibling page ∷ rest) = if (from == 0) && names_child parent page then Some (page, 0) else one_on (pair_among parent (from - 1) rest)
pair_among parent from (Records records ∷ rest) = one_on (pair_among parent (from - 1) rest)
pair_among parent from (Child page ∷ rest) = one_on (pair_among parent (from - 1) rest)

abbrev pub pair_from : LivePage → LivePage → ℕ → Option (ℕ × ℕ)
pair_from parent keep from = pair_among parent from (leaves keep.frag)

-- Such a pair is tried. Where there is none the next child is scanned, and after the last one the job ends.
abbrev pub tries : Job → ℕ → LivePage → ℕ → Option (ℕ × ℕ) → Deed
tries job parent above keep None = scans job parent (one_behind keep (children_of above))
tries job parent above keep (Some (gone, leaf)) = moves_to (ConsolidatorTry job parent keep gone leaf) []

-- Scanning: all of the child's sibling leaves, from the left.
pub record Scans (s : Sight) (job : Job) (parent child : ℕ) (page : LivePage) (deed : Deed) : Type 0 where
  pub above : LivePage
  pub live : s.page_at parent ≡ Some above
  pub deed_is : deed ≡ tries job parent above child (pair_from above page 0)

-- Both pages beside the one that is to go, and what is planned.
pub record HasMergePlan (s : Sight) (parent keep gone : ℕ) (page : LivePage) : Type 0 where
  pub above : LivePage
  pub above_live : s.page_at parent ≡ Some above
  pub kept : LivePage
  pub kept_live : s.page_at keep ≡ Some kept
  pub plan : MergePlan
  pub planned : IsMergePlan above kept gone page (capacity_of page.level s.meta.dcap s.meta.icap) plan

-- Trying: where the two may become one, the parent is to be promoted. Else the sibling leaves behind this one are looked at.
abbrev pub after_try : Job → ℕ → ℕ → ℕ → ℕ → LivePage → LivePage → MergePlan → Deed
after_try job parent keep gone leaf above kept plans.Merge = moves_to (ConsolidatorPromote job parent keep gone) []
after_try job parent keep gone leaf above kept other = tries job parent above keep (pair_from above kept (leaf + 1))

pub record TriesPair (s : Sight) (job : Job) (parent keep gone leaf : ℕ) (page : LivePage) (deed : Deed) : Type 0 where
  pub has : HasMergePlan s parent keep gone page
  pub deed_is : deed ≡ after_try job parent keep gone leaf has.above has.kept has.plan
