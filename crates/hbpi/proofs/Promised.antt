-- What is promised of a run, from how it ends.
use Rattle.std.proofs.Common.{ℕ, subst}
use Rattle.hb_lemmas.proofs.Options.{some_value}
use Rattle.hbpi.proofs.AllAnswered.{run_answers_all, work_answers_all}
use Rattle.hbpi.proofs.CheckPromises.{check_keeps, check_whole}
use Rattle.hbpi.proofs.DriveGiven.{is_driven}
use Rattle.hbpi.proofs.DriveNames.{names_line}
use Rattle.hbpi.proofs.FileRefused.{check_refuses, map_refuses, refuses_file, tidy_refuses}
use Rattle.hbpi.proofs.MapPromises.{map_keeps, map_whole}
use Rattle.hbpi.proofs.Promises.{keeps_promise}
use Rattle.hbpi.proofs.TidyPromises.{tidy_crashes, tidy_keeps, tidy_late, tidy_whole}
use Rattle.hbpi.proofs.WorkPromises.{work_counts}
use Rattle.hbpi.specs.Checked.{CheckEnds}
use Rattle.hbpi.specs.Driven.{Manner, by_counting, by_threads}
use Rattle.hbpi.specs.Mapped.{MapEnds}
use Rattle.hbpi.specs.Promised.{KeepsCheck, KeepsMap, KeepsSteps, KeepsThreads, KeepsTidy, KeepsWork}
use Rattle.hbpi.specs.SeenRuns.{Run}
use Rattle.hbpi.specs.Starts.{StartLaws}
use Rattle.hbpi.specs.StepEnds.{StepsEnd}
use Rattle.hbpi.specs.TidyRuns.{TidyEnds}
use Rattle.hbpi.specs.declared.statuses.Status.{Status}

module _ (laws : StartLaws) (run : Run) (status : Status) where
  pub keeps_steps : (by : Manner) → StepsEnd by run status → KeepsSteps by.origin run status
  keeps_steps by ends = record {
    promise = λ b s told opens sound. keeps_promise laws by run status b s told opens sound ends;
    driven = is_driven by run status laws.one laws.good ends;
    named = names_line by run status ends;
    refused = refuses_file by run status laws.good laws.once ends;
  }

  pub keeps_run : StepsEnd by_threads run status → KeepsThreads by_threads.origin run status
  keeps_run ends = record {
    steps = keeps_steps by_threads ends;
    answers = λ is. run_answers_all run laws.further (subst (λ (x : Status). StepsEnd by_threads run x) is ends);
  }

  pub keeps_work : (state count : ℕ) → StepsEnd (by_counting state count) run status → KeepsWork state count run status
  keeps_work state count ends = record {
    threads = record {
      steps = keeps_steps (by_counting state count) ends;
      answers = λ is. work_answers_all state count run laws.further (subst (λ (x : Status). StepsEnd (by_counting state count) run x) is ends);
    };
    counts = λ tells is. let b = some_value run.before.told tells in work_counts laws.one laws.begun state count run b.0 b.1 (subst (λ (x : Status). StepsEnd (by_counting state count) run x) is ends);
  }

  pub keeps_check : CheckEnds run status → KeepsCheck run status
  keeps_check ends = record {
    done = λ b s told opens sound is. check_keeps laws.one s run b told opens (subst (λ (x : Status). CheckEnds run x) is ends);
    whole = λ s. check_whole laws.good s run status ends;
    refused = check_refuses run status laws.good laws.once ends;
  }

  pub keeps_map : MapEnds run status → KeepsMap run status
  keeps_map ends = record {
    done = λ b s told opens sound is. map_keeps laws.one s run b told opens (subst (λ (x : Status). MapEnds run x) is ends);
    whole = λ s. map_whole laws.good s run status ends;
    refused = map_refuses run status laws.good laws.once ends;
  }

  pub keeps_tidy : TidyEnds run status → KeepsTidy run status
  keeps_tidy ends = record {
    crashes = λ b s told opens sound. tidy_crashes laws s run status b told opens sound ends;
    late = λ b s told opens sound. tidy_late laws s run status b told opens sound ends;
    done = λ b s told opens sound is. tidy_keeps laws.one laws.short s run b told opens (subst (λ (x : Status). TidyEnds run x) is ends);
    whole = λ s. tidy_whole laws.good s run status ends;
    refused = tidy_refuses run status laws.good laws.once ends;
  }
