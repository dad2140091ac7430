-- The rows of the consolidator at a parent that it has for itself. The page of a row is the one that the step latches.
use Rattle.std.specs.Prelude.{◌≡◌, ◌⊎◌, ℕ, ◌+◌, ◌<◌, if◌then◌else◌, List, [], ◌∷◌, Option, Some, None}
use Rattle.hb_frag.specs.declared.pages.LivePage.{LivePage}
use Rattle.hb_terms.specs.declared.merging.MergePlan.{MergePlan}
use Rattle.hb_terms.specs.declared.merging.MergePlan.TheVariants as plans
use Rattle.hb_activity.specs.declared.jobs.Job.{Job}
use Rattle.hb_activity.specs.declared.activities.Activity.{Activity}
use Rattle.hb_activity.specs.declared.activities.Activity.TheVariants.{ConsolidatorIdle, ConsolidatorWalk, ConsolidatorScan, ConsolidatorTry, ConsolidatorPromote, ConsolidatorDecide}
use Rattle.hb_activity.specs.Deeds.{Deed, moves_to, does}
use Rattle.hb_activity.specs.Sights.{Sight}
use Rattle.hb_frag.specs.Leaves.{first_named, siblings_of, weight_of}
use Rattle.hb_frag.specs.Rules.{is_thin}
use Rattle.hb_ops.specs.declared.operations.Op.TheVariants as ops
use Rattle.hb_ops.specs.Merging.{parent_page}
use Rattle.hb_activity.specs.declared.activities.Activity.TheVariants as at
use Rattle.hb_activity.specs.declared.jobs.JobKind.TheVariants as kinds
use Rattle.hb_space.specs.Boxes.{Area}
use Rattle.hb_consol.specs.ConsolidatorRows.{ends_merging, ArrivesToMerge, ConsolidatorPasses, Scans, HasMergePlan, TriesPair}

-- Taking the page to keep: where it gave nothing to the page to go any more, the job is dropped.
abbrev pub after_keep : Job → ℕ → ℕ → ℕ → Option Area → Deed
after_keep job parent keep gone None = ends_merging
after_keep job parent keep gone (Some area) = moves_to (ConsolidatorDecide job parent keep gone) []

abbrev pub takes_keep : Job → ℕ → ℕ → ℕ → LivePage → Deed
takes_keep job parent keep gone page = after_keep job parent keep gone (first_named gone (siblings_of page))

-- Deciding, with all three alone: the plan is made anew. Where the two may become one they do, and the job waits again. So
-- does a job for the parent, where that is thin then.
abbrev pub merges_above : Job → LivePage → ℕ → List Job
merges_above job parent capacity = if is_thin (weight_of parent.frag) capacity then record { kind = kinds.Merge; level = job.level + 1; point = job.point } ∷ [] else []

-- The two become one.
pub record Merges (s : Sight) (job : Job) (parent keep gone : ℕ) (above : LivePage) (deed : Deed) : Type 0 where
  pub live : 0 < s.meta.live
  pub deed_is : deed ≡ does ConsolidatorIdle (ops.Merge parent keep gone) (job ∷ merges_above job (parent_page keep gone above) s.meta.icap)

-- no page is in use, by what the file says of itself
pub record MergesNot (s : Sight) (deed : Deed) : Type 0 where
  pub none_live : s.meta.live ≡ 0
  pub deed_is : deed ≡ ends_merging

abbrev pub DoesMerge : Sight → Job → ℕ → ℕ → ℕ → LivePage → MergePlan → Deed → Type 0
DoesMerge s job parent keep gone above plans.Merge deed = Merges s job parent keep gone above deed ⊎ MergesNot s deed
DoesMerge s job parent keep gone above other deed = deed ≡ ends_merging

pub record Decides (s : Sight) (job : Job) (parent keep gone : ℕ) (page : LivePage) (deed : Deed) : Type 0 where
  pub has : HasMergePlan s parent keep gone page
  pub does_it : DoesMerge s job parent keep gone has.above has.plan deed

-- the row of the consolidator, by where it stands, at the page that its step latched
abbrev pub ConsolidatorRow : Activity → Sight → ℕ → LivePage → Deed → Type 0
ConsolidatorRow (at.ConsolidatorWalk job held) s id page deed = ArrivesToMerge job id page deed ⊎ ConsolidatorPasses job id page deed
ConsolidatorRow (at.ConsolidatorScan job parent child) s id page deed = Scans s job parent child page deed
ConsolidatorRow (at.ConsolidatorTry job parent keep gone leaf) s id page deed = TriesPair s job parent keep gone leaf page deed
ConsolidatorRow (at.ConsolidatorPromote job parent keep gone) s id page deed = deed ≡ moves_to (at.ConsolidatorKeep job parent keep gone) []
ConsolidatorRow (at.ConsolidatorKeep job parent keep gone) s id page deed = deed ≡ takes_keep job parent keep gone page
ConsolidatorRow (at.ConsolidatorDecide job parent keep gone) s id page deed = Decides s job parent keep gone page deed
ConsolidatorRow other s id page deed = ⊥
