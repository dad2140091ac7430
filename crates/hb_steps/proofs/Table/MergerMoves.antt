-- Each row of a consolidator that neither walks on nor merges moves it to its next page or its end, and does nothing to the file.
use Rattle.hb_steps.proofs.Table.Names.{◌≡◌, ◌⊎◌, inl, inr, ℕ, ◌<◌, [], Option, Some, None, refl, sym, ap, ◌∙◌, none-some, LivePage, MergePlan, Job, Activity, Wanted, Consolidators, Empty, HasJob, class_of, hand_of, line_in_hand, line_of, Deed, moves_to, walk_held, after_try, children_of, one_behind, scans, tries, DoesMerge, after_keep, Area}
use Rattle.std.proofs.Common.{option_map}
use Rattle.hb_ops.specs.declared.operations.Op.TheVariants as ops
use Rattle.hb_terms.specs.declared.merging.MergePlan.TheVariants as plans
use Rattle.hb_activity.specs.declared.activities.Activity.TheVariants as at
use Rattle.hb_latch.specs.declared.modes.Mode.{Mode}
use Rattle.hb_activity.specs.Sights.{Sight}
use Rattle.hb_activity.specs.Wanting.{wanted_page}
use Rattle.hb_consol.specs.ConsolidatorRows.{ends_merging}
use Rattle.hb_steps.specs.KeptFits.{walking_job}
use Rattle.hb_frag.specs.Rules.{capacity_of}
use Rattle.hb_ops.specs.Merging.{MayMerge}

-- what an actor waits for, where it does
abbrev pub Waits : Activity → Type 0
Waits (at.SessionAwait number reply place) = Unit {0}
Waits other = ⊥

-- a latch that is wanted on a page that the activity names
pub of_page : (id : ℕ) (level : LivePage → ℕ) (mode : Mode) (o : Option LivePage) (wanted : Wanted) → option_map (λ (page : LivePage). wanted_page id (level page) mode) o ≡ Some wanted → (wanted.page ≡ id) × (wanted.mode ≡ mode)
of_page id level mode None wanted is = cc
of_page id level mode (Some page) wanted is =
    let same : wanted_page id (level page) mode ≡ wanted = cc in
    (ap (λ (w : Wanted). w.page) (sym same), ap (λ (w : Wanted). w.mode) (sym same))

-- a consolidator with the job
pub record IsMergingFor (activity : Activity) (job : Job) : Type 0 where
  pub kind : class_of activity ≡ Consolidators
  pub hand : hand_of activity ≡ HasJob job

-- where it stands next: it doesn't walk, and has the job or none
pub record StandsNext (next : Activity) (job : Job) : Type 0 where
  pub kind : class_of next ≡ Consolidators
  pub hand : (hand_of next ≡ Empty) ⊎ (hand_of next ≡ HasJob job)
  pub walk : walk_held next ≡ None
  pub goal : walking_job next ≡ None
  pub awaits : Waits next → ⊥

-- so it has no line
pub no_line : (next : Activity) (job : Job) → StandsNext next job → line_in_hand next ≡ None
no_line next job stands = by stands.hand
  where
    by : (hand_of next ≡ Empty) ⊎ (hand_of next ≡ HasJob job) → line_in_hand next ≡ None
    by (inl empty) = ap line_of empty
    by (inr works) = ap line_of works

pub record StaysMerger (activity : Activity) (deed : Deed) : Type 0 where
  pub job : Job
  pub before : IsMergingFor activity job
  pub next : Activity
  pub after : StandsNext next job
  pub is : deed ≡ moves_to next []

module _ (activity : Activity) (job : Job) (before : IsMergingFor activity job) where
  pub ended : (deed : Deed) → deed ≡ ends_merging → StaysMerger activity deed
  ended deed is = record { job = job; before = before; next = at.ConsolidatorIdle; is = is; after = record { kind = refl; hand = inl refl; walk = refl; goal = refl; awaits = λ never. never } }

  pub scanned : (parent : ℕ) (child : Option ℕ) (deed : Deed) → deed ≡ scans job parent child → StaysMerger activity deed
  scanned parent None deed is = ended deed is
  scanned parent (Some child) deed is = record { job = job; before = before; next = at.ConsolidatorScan job parent child; is = is; after = record { kind = refl; hand = inr refl; walk = refl; goal = refl; awaits = λ never. never } }

  pub tried : (parent keep : ℕ) (above : LivePage) (pair : Option (ℕ × ℕ)) (deed : Deed) → deed ≡ tries job parent above keep pair → StaysMerger activity deed
  tried parent keep above None deed is = scanned parent (one_behind keep (children_of above)) deed is
  tried parent keep above (Some (gone, leaf)) deed is = record { job = job; before = before; next = at.ConsolidatorTry job parent keep gone leaf; is = is; after = record { kind = refl; hand = inr refl; walk = refl; goal = refl; awaits = λ never. never } }

  pub promoted : (parent keep gone : ℕ) (deed : Deed) → deed ≡ moves_to (at.ConsolidatorKeep job parent keep gone) [] → StaysMerger activity deed
  promoted parent keep gone deed is = record { job = job; before = before; next = at.ConsolidatorKeep job parent keep gone; is = is; after = record { kind = refl; hand = inr refl; walk = refl; goal = refl; awaits = λ never. never } }

  pub planned : (parent keep gone leaf : ℕ) (above kept : LivePage) (plan : MergePlan) (deed : Deed) → deed ≡ after_try job parent keep gone leaf above kept plan → StaysMerger activity deed
  planned parent keep gone leaf above kept plans.Merge deed is = record { job = job; before = before; next = at.ConsolidatorPromote job parent keep gone; is = is; after = record { kind = refl; hand = inr refl; walk = refl; goal = refl; awaits = λ never. never } }
  planned parent keep gone leaf above kept plans.NotContained deed is = tried parent keep above _ deed is
  planned parent keep gone leaf above kept plans.ManyParents deed is = tried parent keep above _ deed is
  planned parent keep gone leaf above kept plans.TooHeavy deed is = tried parent keep above _ deed is

  pub took : (parent keep gone : ℕ) (area : Option Area) (deed : Deed) → deed ≡ after_keep job parent keep gone area → StaysMerger activity deed
  took parent keep gone None deed is = ended deed is
  took parent keep gone (Some area) deed is = record { job = job; before = before; next = at.ConsolidatorDecide job parent keep gone; is = is; after = record { kind = refl; hand = inr refl; walk = refl; goal = refl; awaits = λ never. never } }

-- Three pages of which two may become one, beside the one that the step latched: the parent and the page to keep.
pub record MergesPair (s : Sight) (parent keep gone : ℕ) (page : LivePage) : Type 0 where
  pub live : 0 < s.meta.live
  pub above : LivePage
  pub above_live : s.page_at parent ≡ Some above
  pub kept : LivePage
  pub kept_live : s.page_at keep ≡ Some kept
  pub may : MayMerge above kept gone page (capacity_of page.level s.meta.dcap s.meta.icap)

-- a decision that does nothing to the file drops the job
pub decided : (s : Sight) (job : Job) (parent keep gone : ℕ) (above : LivePage) (plan : MergePlan) (deed : Deed) → deed.op ≡ None → DoesMerge s job parent keep gone above plan deed → deed ≡ ends_merging
decided s job parent keep gone above plans.Merge deed none (inl row) = absurd (none-some (ops.Merge parent keep gone) (sym none ∙ ap (λ (d : Deed). d.op) row.deed_is))
decided s job parent keep gone above plans.Merge deed none (inr row) = row.deed_is
decided s job parent keep gone above plans.NotContained deed none is = is
decided s job parent keep gone above plans.ManyParents deed none is = is
decided s job parent keep gone above plans.TooHeavy deed none is = is
