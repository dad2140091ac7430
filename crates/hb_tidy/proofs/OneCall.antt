-- What one call comes to, from a machine that a core shows: a step of a worker, a flush, a job that waits, a look.
use Rattle.std.proofs.Common.{◌≡◌, ℕ, List, [], ◌∷◌, Some, None, Result, Ok, Err, refl, sym, ap, ◌∙◌, subst, arith, Option}
use Rattle.std.proofs.lemmas.List.Elements.{All-nil}
use Rattle.hb_disk.proofs.Facts.BecomesLaws.{Becomes-read}
use Rattle.hb_disk.proofs.Facts.RunLaws.{Leaves-read}
use Rattle.hb_disk.proofs.Facts.TornLaws.{Torn-itself}
use Rattle.hb_disk.specs.Calls.{Leaves, OnlyReads}
use Rattle.hb_disk.specs.Model.{DiskModel, IsDisk}
use Rattle.hb_frag.specs.declared.pages.Page.{Page}
use Rattle.hb_lemmas.proofs.Options.{not_none}
use Rattle.hb_layout.specs.Offsets.{file_size}
use Rattle.hb_activity.specs.declared.jobs.Job.{Job}
use Rattle.hb_set.specs.Machine.{RecordSet}
use Rattle.hb_set.specs.Order.{Entry, result_of}
use Rattle.hb_set.specs.declared.scripts.Answered.{Answered}
use Rattle.hb_store.specs.States.{StoreState}
use Rattle.hb_store.specs.declared.stops.StopWhy.TheVariants as whys
use Rattle.hb_store.specs.declared.stops.Why.{Why}
use Rattle.hb_store.specs.declared.stops.Why.TheVariants.{Rule, Level, Extent}
use Rattle.hb_steps.proofs.Facts.LogAndStop.{size_stands}
use Rattle.hb_core.proofs.Facts.RunFaults.{no_fault_in}
use Rattle.hb_core.proofs.Facts.RunSteps.{run_begins, run_of_step, steps_so}
use Rattle.hb_core.specs.Between.{CopiesPage, LetsWait, PageComes}
use Rattle.hb_core.specs.BetweenLaws.{LookingKeepsAll, WaitingKeepsAll}
use Rattle.hb_steps.specs.Fetching.{IsBadRead}
use Rattle.hb_steps.specs.KeptFits.{JobFits}
use Rattle.hb_steps.specs.KeptMachine.{CoreKeeps, MachineKeeps}
use Rattle.hb_steps.specs.Machines.{Files, Machine, stopped_for}
use Rattle.hb_steps.specs.Performing.{given_by}
use Rattle.hb_steps.specs.MomentLaws.{IsPrefixImage}
use Rattle.hb_core.specs.Runs.{ChangesFile, HasRun, HoldsSince, RunningLaws}
use Rattle.hb_core.specs.Showing.{RunningCore, ShowsMachine}
use Rattle.hb_steps.specs.Steps.{StepsInSequence, StepsTo}
use Rattle.hb_core.specs.Touching.{Touches}
use Rattle.hb_core.specs.Working.{MayStep}
use Rattle.hb_core.specs.declared.copies.CopyStop.{CopyStop}
use Rattle.hb_core.specs.declared.copies.CopyStop.TheVariants as copies
use Rattle.hb_steps.specs.declared.outcomes.Outcome.{Outcome}
use Rattle.hb_tidy.proofs.Workers.{IsWorker, LinesStand, is_actor, worker_stands}
use Rattle.hb_tidy.specs.Looking.{FileStays}
use Rattle.hb_tidy.specs.Tidying.{HasTidied, KeepsSet, file_now}

-- ---- a step

module _ (laws : RunningLaws) (d e : DiskModel) (m : Machine) (actor : ℕ) (answers : List Answered) (c : RunningCore) (run : HasRun d m (actor ∷ []) answers e c) (kept : MachineKeeps m) (worker : IsWorker actor) where
  stepped : (outcome : Outcome) × StepsTo m actor outcome run.new
  stepped = by run.steps
    where
      by : StepsInSequence (actor ∷ []) m run.new → (outcome : Outcome) × StepsTo m actor outcome run.new
      by (outcome, next, step, last) = (outcome, subst (λ (x : Machine). StepsTo m actor outcome x) (sym last) step)

  stand : LinesStand m run.new
  stand = let one = stepped in worker_stands m actor kept worker one.0 run.new one.1

  kept_set : (n : RecordSet) (files : Files) → CoreKeeps n m files → KeepsSet n d files e run.new
  kept_set n files keeps =
      let after = laws.changes n (actor ∷ []) m files run.new run.may keeps run.steps in
      record {
        after = after.0;
        keeps = after.1.keeps;
        contents = sym after.1.keeps.order_legal.result ∙ ap (result_of n) stand.order ∙ keeps.order_legal.result;
        crashes = record { each = (run.crashes n files keeps).each; since = All-nil (HoldsSince e n run.new.order) };
      }

  pub run_tidied : HasTidied d m e c
  run_tidied = record {
    new = run.new;
    shows = run.shows;
    goes_on = run.goes_on;
    lines = stand.lines;
    answered = stand.answered;
    order = stand.order;
    size = size_stands (actor ∷ []) m run.new run.steps;
    faults = record { reads = run.faults.reads; writes = run.faults.writes; read = λ has. absurd (no_fault_in has); write = run.faults.write };
    in_file = run.in_file;
    kept = kept_set;
  }

-- as a caller has it
pub step_runs : RunningLaws → (d e : DiskModel) (m : Machine) (actor : ℕ) (outcome : Outcome) (old new : RunningCore) → IsDisk d → IsDisk e → IsWorker actor → MayStep d old m
    → ((x : Machine) → MayStep d old x → (next : Machine) × StepsTo x actor outcome next × ShowsMachine e new next) → Touches d old outcome e new → HasRun d m (actor ∷ []) (given_by outcome e.clock) e new
step_runs laws d e m actor outcome old new disk disk_next worker may steps touches =
    run_of_step laws d m old actor outcome e.clock e new disk may disk_next (is_actor actor worker) steps touches (λ told. refl)

-- the step that the run took
pub step_taken : (laws : RunningLaws) (d e : DiskModel) (m : Machine) (actor : ℕ) (outcome : Outcome) (old new : RunningCore) (disk : IsDisk d) (disk_next : IsDisk e) (worker : IsWorker actor) (may : MayStep d old m)
    (steps : (x : Machine) → MayStep d old x → (next : Machine) × StepsTo x actor outcome next × ShowsMachine e new next) (touches : Touches d old outcome e new) (kept : MachineKeeps m)
    → StepsTo m actor outcome (run_tidied laws d e m actor (given_by outcome e.clock) new (step_runs laws d e m actor outcome old new disk disk_next worker may steps touches) kept worker).new
unfolding run_tidied step_runs
step_taken laws d e m actor outcome old new disk disk_next worker may steps touches kept = steps_so laws d m old actor outcome e.clock e new disk may disk_next (is_actor actor worker) steps touches (λ told. refl)

-- ---- a call that only reads the disk, and changes nothing of the file

pub record StandsStill (m new : Machine) : Type 0 where
  pub lines : LinesStand m new
  pub same : FileStays m new
  pub stop : new.stop ≡ Some whys.WriteFault → m.stop ≡ Some whys.WriteFault
  pub activity : new.activity ≡ m.activity
  pub keeps : (n : RecordSet) (files : Files) → CoreKeeps n m files → CoreKeeps n new files

module _ (laws : RunningLaws) (d e : DiskModel) (m new : Machine) (old c : RunningCore) (disk : IsDisk d) (may : MayStep d old m) (may_then : MayStep e c new) (reads : OnlyReads d e) (still : StandsStill m new) where
  begins : HasRun d m [] [] d old
  begins = run_begins laws d m old disk may

  -- what crashes leave of the beginning
  same_crashes : (n : RecordSet) (files : Files) → CoreKeeps n m files → Leaves d e (IsPrefixImage n new.order 0)
  same_crashes n files keeps =
      subst (λ (es : List Entry). Leaves d e (IsPrefixImage n es 0)) (ap (λ (x : Machine). x.order) begins.steps ∙ sym still.lines.order)
      (Leaves-read d d e (IsPrefixImage n begins.new.order 0) (begins.crashes n files keeps).each reads.stays)

  pub still_tidied : HasTidied d m e c
  still_tidied = record {
    new = new;
    shows = may_then.shows;
    goes_on = may_then.goes_on;
    lines = still.lines.lines;
    answered = still.lines.answered;
    order = still.lines.order;
    size = ap file_size still.same.meta;
    faults = record {
      reads = reads.later;
      writes = let same = reads.writes in omega (arith, same);
      read = λ has. absurd (no_fault_in has);
      write = λ stop begun. absurd (begun (still.stop stop));
    };
    in_file = Becomes-read (ChangesFile m.store) d e disk (λ b bytes. Torn-itself 0 (file_size m.store.meta) b bytes) reads.stays;
    kept = λ n files keeps. record {
      after = files;
      keeps = still.keeps n files keeps;
      contents = refl;
      crashes = record { each = same_crashes n files keeps; since = All-nil (HoldsSince e n new.order) };
    };
  }

  pub still_tidied_new : still_tidied.new ≡ new
  unfolding still_tidied
  still_tidied_new = refl

-- nothing happens
pub still_itself : (m : Machine) → StandsStill m m
still_itself m = record {
  lines = record { lines = refl; answered = refl; order = refl };
  same = record { file = refl; meta = refl };
  stop = λ stop. stop;
  activity = refl;
  keeps = λ n files keeps. keeps;
}

-- a job waits
pub still_waiting : WaitingKeepsAll → (m : Machine) (job : Job) (new : Machine) → JobFits m.store.meta.k job → LetsWait job m new → StandsStill m new
still_waiting keeps m job new fits waits = record {
  lines = record {
    lines = ap (λ (x : Machine). x.lines) waits.rest;
    answered = ap (λ (x : Machine). x.answered) waits.rest;
    order = ap (λ (x : Machine). x.order) waits.rest;
  };
  same = record { file = ap file_now waits.rest; meta = ap (λ (x : Machine). x.store.meta) waits.rest };
  stop = λ stop. sym (ap (λ (x : Machine). x.stop) waits.rest) ∙ stop;
  activity = ap (λ (x : Machine). x.activity) waits.rest;
  keeps = λ n files all. keeps n m files job new fits waits all;
}

-- a damaged page is there only over a disk that tells nothing
pub only_silent : (files : Option Files) (id : ℕ) (st : StoreState) (why : Why) → IsBadRead files st id why → files ≡ None
only_silent files id st (Rule rule) bad = bad.0
only_silent files id st (Level level found) bad = absurd bad
only_silent files id st (Extent area found) bad = absurd bad

-- a page is looked at
module _ (looking : LookingKeepsAll) (m : Machine) (id : ℕ) (new : Machine) where
  still_coming : PageComes id m new → StandsStill m new
  still_coming comes = record {
    lines = record {
      lines = ap (λ (x : Machine). x.lines) comes.rest;
      answered = ap (λ (x : Machine). x.answered) comes.rest;
      order = ap (λ (x : Machine). x.order) comes.rest;
    };
    same = record { file = ap file_now comes.rest; meta = ap (λ (s : StoreState). s.meta) comes.brings.rest };
    stop = λ stop. sym (ap (λ (x : Machine). x.stop) comes.rest) ∙ stop;
    activity = ap (λ (x : Machine). x.activity) comes.rest;
    keeps = λ n files all. looking n m files id new comes all;
  }

  still_same : new ≡ m → StandsStill m new
  still_same is = subst (λ (x : Machine). StandsStill m x) (sym is) (still_itself m)

  still_damaged : (page : ℕ) (why : Why) → new ≡ stopped_for (whys.Damaged page why) m → IsBadRead m.files m.store id why → StandsStill m new
  still_damaged page why is bad = record {
    lines = record { lines = ap (λ (x : Machine). x.lines) is; answered = ap (λ (x : Machine). x.answered) is; order = ap (λ (x : Machine). x.order) is };
    same = record { file = ap file_now is; meta = ap (λ (x : Machine). x.store.meta) is };
    stop = λ stop. let never : Some (whys.Damaged page why) ≡ Some whys.WriteFault = sym (ap (λ (x : Machine). x.stop) is) ∙ stop in cc;
    activity = ap (λ (x : Machine). x.activity) is;
    keeps = λ n files all. absurd (not_none m.files files all.told (only_silent m.files id m.store why bad));
  }

  pub still_looking : (result : Result Page CopyStop) → CopiesPage id result m new → StandsStill m new
  still_looking (Ok page) copied = still_coming copied.0
  still_looking (Err copies.NoMemory) copied = still_coming copied
  still_looking (Err copies.ReadFault) copied = still_same copied.0
  still_looking (Err copies.Crowded) copied = still_same copied.0
  still_looking (Err (copies.Damaged page why)) copied = still_damaged page why copied.0 copied.2
