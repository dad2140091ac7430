-- The root can't be read: each step of the chain.
use Rattle.hb_steps.proofs.Chains.Names.{◌≢◌, inl, inr, [], ◌∷◌, None, refl, arith, Job, Activity, Deed, ChangesQueue, gives_up, Scene, standing, untold_scene, taking, IsNoPage, All-from_recursion}
use Rattle.hb_activity.specs.declared.activities.Activity.TheVariants as at
use Rattle.hb_activity.specs.declared.dropping.DropWhy.TheVariants as drops
use Rattle.hb_activity.specs.declared.jobs.JobKind.TheVariants.{Post}
use Rattle.hb_activity.specs.Deeds.{takes_job}
use Rattle.hb_activity.specs.Queue.{LeavesFirst}
use Rattle.hb_steps.specs.ChainOfReadFault.{RootIsNotRead, posts_at_ten as job, raised_meta, seeks_twenty, unread_before}
use Rattle.hb_steps.specs.Steps.{TakesJob}
use Rattle.hb_steps.proofs.Chains.BuiltSteps.{after_as_it_is, only_looks, queued}
use Rattle.hb_steps.proofs.Chains.UntoldSteps.{performed_untold, reads_not, takes_line_untold}

-- the poster takes the job, the only one
abbrev takes : Activity → Deed
takes next = takes_job next job

leaves_first : LeavesFirst Post (job ∷ []) job []
leaves_first = record { front = []; behind = []; whole = refl; of_kind = refl; first = All-from_recursion (λ (other : Job). other.kind ≢ Post) [] tt; rest = refl }

it_leaves : (next : Activity) → ChangesQueue (takes next) (job ∷ []) []
it_leaves next = record { left = []; takes = leaves_first; adds = refl }

abbrev line_taken : Scene
line_taken = after_as_it_is 1 (taking seeks_twenty) (job ∷ []) unread_before

abbrev both_taken : Scene
both_taken = after_as_it_is 17 (takes (at.PosterWalk job None)) [] line_taken

abbrev line_given_up : Scene
line_given_up = after_as_it_is 1 (gives_up drops.ReadFault (standing both_taken.at_work 1)) [] both_taken

abbrev both_given_up : Scene
both_given_up = after_as_it_is 17 (gives_up drops.ReadFault (standing line_given_up.at_work 17)) [] line_given_up

takes_to_walk : TakesJob (untold_scene line_taken) (takes (at.PosterWalk job None))
takes_to_walk = record { job = job; kind = refl; next = at.PosterWalk job None; posting = inr (inr (omega arith, refl)); deed_is = refl }

-- the root is a page of the file
is_page : ¬ (IsNoPage raised_meta 3)
is_page (inl zero) = absurd (omega (arith, zero))
is_page (inr more) = absurd (omega (arith, more))

pub root_is_not_read : RootIsNotRead
root_is_not_read = (
  untold_scene line_taken,
  takes_line_untold unread_before 1 seeks_twenty (job ∷ []) (queued refl refl) tt (refl, refl, refl),
  (
    untold_scene both_taken,
    inr (takes (at.PosterWalk job None), takes_to_walk, performed_untold line_taken 17 (takes (at.PosterWalk job None)) [] (it_leaves _) tt (refl, refl, refl)),
    (
      untold_scene line_given_up,
      reads_not both_taken 1 3 [] (refl, (refl, tt)) (only_looks both_taken 1 refl refl) refl is_page refl (queued refl refl) tt (refl, refl, refl),
      (
        untold_scene both_given_up,
        reads_not line_given_up 17 3 [] (refl, (refl, tt)) (only_looks line_given_up 17 refl refl) refl is_page refl (queued refl refl) tt (refl, refl, refl),
        (
          untold_scene both_given_up,
          (refl, refl),
          (untold_scene both_given_up, inl (All-from_recursion (λ (one : Job). one.kind ≢ Post) [] tt, (refl, refl)), refl),
        ),
      ),
    ),
  ),
)
