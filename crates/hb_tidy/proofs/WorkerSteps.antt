-- A step of the worker for a kind of jobs, and a flush for a page, as the core tells them.
use Rattle.std.proofs.Common.{◌≡◌, ◌⊎◌, inl, inr, ℕ, ◌<◌, List, length, Option, None, refl, sym, ◌∙◌, subst}
use Rattle.hb_disk.specs.Model.{DiskModel, IsDisk}
use Rattle.hb_activity.specs.declared.jobs.JobKind.{JobKind}
use Rattle.hb_activity.specs.declared.jobs.JobKind.TheVariants.{Merge, Post}
use Rattle.hb_pool.specs.Frames.{Use}
use Rattle.hb_store.specs.Fetching.{IsCrowdedOut}
use Rattle.hb_store.specs.States.{StoreState}
use Rattle.hb_core.specs.Counting.{CountsFlush, CountsStep, DidOp}
use Rattle.hb_ops.specs.declared.operations.Op.{Op}
use Rattle.hb_steps.specs.Machines.{Machine}
use Rattle.hb_core.specs.Showing.{RunningCore, ShowsMachine}
use Rattle.hb_steps.specs.Steps.{StepsTo}
use Rattle.hb_steps.specs.ProgressLaws.{jobs_of}
use Rattle.hb_steps.specs.ProgressLaws.{worker_for}
use Rattle.hb_core.specs.Touching.{Touches}
use Rattle.hb_core.specs.Working.{MayStep}
use Rattle.hb_steps.specs.declared.outcomes.Outcome.{Outcome}
use Rattle.hb_tidy.proofs.CallsMade.{Stepped, runs_all}
use Rattle.hb_tidy.proofs.CountsOfSteps.{DidOnce, flush_did, one_taken, step_did}
use Rattle.hb_tidy.proofs.MergesOnly.{SplitsNone, merger_splits_none}
use Rattle.hb_tidy.proofs.Resting.{others_rest}
use Rattle.hb_tidy.proofs.ToDo.{has_cause}
use Rattle.hb_tidy.proofs.Workers.{IsWorker, is_worker}
use Rattle.hb_tidy.specs.Going.{MayTidy, RestsBut}
use Rattle.hb_tidy.specs.Working.{HasCause, Steps}

posts_or_merges : (kind : JobKind) → (worker_for kind ≡ 17) ⊎ (worker_for kind ≡ 18)
posts_or_merges Post = inl refl
posts_or_merges Merge = inr refl

pub is_actor_for : (kind : JobKind) (actor : ℕ) → actor ≡ worker_for kind → IsWorker actor
is_actor_for kind actor is = subst IsWorker (sym is) (is_worker (worker_for kind) (posts_or_merges kind))

module _ (d : DiskModel) (old : RunningCore) (kind : JobKind) (actor : ℕ) (outcome : Outcome) (e : DiskModel) (new : RunningCore) (is : actor ≡ worker_for kind) (may : MayTidy d old) (counts : CountsStep actor old new)
    (steps : (m : Machine) → MayStep d old m → (next : Machine) × StepsTo m actor outcome next × ShowsMachine e new next) where
  -- no part leaves a page but by who posts
  splits : (worker : ℕ) → actor ≡ worker → (worker ≡ 17) ⊎ (worker ≡ 18) → (op : Op) → DidOp op (length old.order) old.store new.store → (actor ≡ 17) ⊎ SplitsNone op
  splits worker who (inl posts) op did = inl (who ∙ posts)
  splits worker who (inr merges) op did =
      let m = may.runs.0 in
      let shows = may.runs.1 in
      let next = steps m shows in
      let step : StepsTo m 18 outcome next.0 = subst (λ (n : ℕ). StepsTo m n outcome next.0) (who ∙ merges) next.1 in
      let done : DidOp op (length old.order) m.store next.0.store =
      subst (λ (st : StoreState). DidOp op (length old.order) st next.0.store) (sym shows.shows.store) (subst (DidOp op (length old.order) old.store) (sym next.2.store) did) in
      inr (merger_splits_none m 18 outcome next.0 (shows.goes_on.kept.classes 18) step op (length old.order) done)

  did : (op : Option Op) × DidOnce (Steps actor outcome op) op old new
  did = step_did old new may.counts may.left actor outcome (splits (worker_for kind) is (posts_or_merges kind)) counts

  pub worker_took : IsDisk d → IsDisk e → Touches d old outcome e new → RestsBut (worker_for kind) old → ((m : Machine) → ShowsMachine d old m → 0 < jobs_of kind m) → Stepped d old actor outcome e new
  worker_took disk disk_next touches rests some = record {
    disk = disk;
    disk_next = disk_next;
    worker = is_actor_for kind actor is;
    steps = steps;
    touches = touches;
    cause = λ m shows. subst (λ (n : ℕ). HasCause m n) (sym is) (has_cause m shows.goes_on.kept kind (runs_all d old m may shows) (others_rest d old m shows.shows (worker_for kind) rests) (some m shows.shows));
    one = one_taken old.taken new.taken may.left counts.taken;
    op = did.0;
    once = did.1;
  }

pub flush_took : (d : DiskModel) (old : RunningCore) (outcome : Outcome) (e : DiskModel) (new : RunningCore) → IsDisk d → IsDisk e → MayTidy d old → ((m : Machine) → MayStep d old m → (next : Machine) × StepsTo m 19 outcome next × ShowsMachine e new next)
    → Touches d old outcome e new → CountsFlush old new → (id : ℕ) × IsCrowdedOut id old.store old.uses → Stepped d old 19 outcome e new
flush_took d old outcome e new disk disk_next may steps touches counts crowded = record {
  disk = disk;
  disk_next = disk_next;
  worker = inr (inr refl);
  steps = steps;
  touches = touches;
  cause = λ m shows. (runs_all d old m may shows, inr (refl, crowded.0, subst (λ (st : StoreState). IsCrowdedOut crowded.0 st m.uses) (sym shows.shows.store) (subst (λ (uses : List Use). IsCrowdedOut crowded.0 old.store uses) (sym shows.shows.uses) crowded.1)));
  one = one_taken old.taken new.taken may.left counts.taken;
  op = None;
  once = flush_did 19 outcome old new counts;
}
