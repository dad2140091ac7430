-- What every machine keeps of a consolidator at a parent.
use Rattle.std.specs.Prelude.{◌≡◌, ℕ, ◌+◌, List, [], ◌∷◌, IsTrue, All, Option, Some, None, IfSome, slice_get}
use Rattle.hb_frag.specs.declared.leaves.Leaf.TheVariants.{Sibling}
use Rattle.hb_frag.specs.declared.pages.LivePage.{LivePage}
use Rattle.hb_activity.specs.declared.jobs.Job.{Job}
use Rattle.hb_activity.specs.declared.activities.Activity.{Activity}
use Rattle.hb_activity.specs.declared.activities.Activity.TheVariants as at
use Rattle.hb_consol.specs.ConsolidatorRows.{names_child}
use Rattle.hb_steps.specs.Machines.{live_here}
use Rattle.hb_frag.specs.Leaves.{leaves}
use Rattle.hb_store.specs.States.{StoreState}
use Rattle.hb_ops.specs.Merging.{GaveTo}

-- The page to keep, where a consolidator holds it, and the page to go. `leaf` is the place of the sibling leaf that names the
-- latter, while the pair is tried.
pub record PairHeld : Type 0 where
  pub keep : ℕ
  pub gone : ℕ
  pub leaf : Option ℕ

-- the parent at which a consolidator stands, with its job, the pages that it knows from there, and the pair that it holds
pub record AtParent : Type 0 where
  pub job : Job
  pub parent : ℕ
  pub known : List ℕ
  pub pair : Option PairHeld

abbrev pub at_parent : Job → ℕ → List ℕ → Option PairHeld → AtParent
at_parent job parent known pair = record { job = job; parent = parent; known = known; pair = pair }

abbrev pub knows : Job → ℕ → List ℕ → Option PairHeld → Option AtParent
knows job parent known pair = Some (at_parent job parent known pair)

abbrev pub merging_at : Activity → Option AtParent
merging_at (at.ConsolidatorScan job parent child) = knows job parent (child ∷ []) None
merging_at (at.ConsolidatorTry job parent keep gone leaf) = knows job parent (keep ∷ gone ∷ []) (Some (record { keep = keep; gone = gone; leaf = Some leaf }))
merging_at (at.ConsolidatorPromote job parent keep gone) = knows job parent (keep ∷ gone ∷ []) None
merging_at (at.ConsolidatorKeep job parent keep gone) = knows job parent (keep ∷ gone ∷ []) None
merging_at (at.ConsolidatorDecide job parent keep gone) = knows job parent (keep ∷ gone ∷ []) (Some (record { keep = keep; gone = gone; leaf = None }))
merging_at other = None

-- The page to keep has a sibling leaf to the page to go: at the place at which it is tried, and else somewhere.
abbrev pub HasLeafTo : LivePage → ℕ → Option ℕ → Type 0
HasLeafTo page gone None = GaveTo page gone
HasLeafTo page gone (Some leaf) = slice_get (leaves page.frag) leaf ≡ Some (Sibling gone)

-- The page to keep is one level below the parent, and has such a leaf.
pub record KeepsPair (st : StoreState) (above : LivePage) (pair : PairHeld) : Type 0 where
  pub page : LivePage
  pub live : live_here st pair.keep ≡ Some page
  pub level : page.level + 1 ≡ above.level
  pub gave : HasLeafTo page pair.gone pair.leaf

-- The parent is of the job's level, and names the pages that the consolidator knows from it.
pub record NamesKnown (st : StoreState) (place : AtParent) : Type 0 where
  pub page : LivePage
  pub live : live_here st place.parent ≡ Some page
  pub level : page.level ≡ place.job.level
  pub names : All (λ id. IsTrue (names_child page id)) place.known
  pub pair : IfSome place.pair (KeepsPair st page)

-- a consolidator at work
abbrev pub IsMerging : Activity → Type 0
IsMerging (at.ConsolidatorWalk job held) = Unit {0}
IsMerging (at.ConsolidatorScan job parent child) = Unit {0}
IsMerging (at.ConsolidatorTry job parent keep gone leaf) = Unit {0}
IsMerging (at.ConsolidatorPromote job parent keep gone) = Unit {0}
IsMerging (at.ConsolidatorKeep job parent keep gone) = Unit {0}
IsMerging (at.ConsolidatorDecide job parent keep gone) = Unit {0}
IsMerging other = ⊥
