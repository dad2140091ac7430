-- A run of a core: it begins, and goes on by a step.
use Rattle.hb_core.proofs.Facts.Names.{◌≡◌, ℕ, ◌≤◌, List, [], ◌∷◌, ◌++◌, All, Option, Some, None, IfSome, IsSome, refl, sym, ap, ◌∙◌, subst, arith, append-nil, append_cancel_left, All-append, All-nil, prefix_less, settled_prefix, steps_go_on, answers_are_timed, order_grows, HasSoundFile, CoreKeeps, Files, Machine, settled_count, given_by, IsPrefixImage, AreAnswers, ChangesFile, CountsFaults, CrashesTo, HasRun, HoldsSince, RunningLaws, left_count, RunningCore, ShowsMachine, StepsTo, Touches, MayStep, Outcome, Becomes-read, Leaves-start, Torn-itself, Becomes, DiskModel, IsDisk, file_size, IsActor, All-alone, has_value, RecordSet, Answered, StoreKeeps, StoreState}
use Rattle.std.proofs.Common.{append_assoc}
use Rattle.std.proofs.lemmas.List.Elements.{All-weaker}
use Rattle.hb_core.proofs.Facts.AnswersGiven.{answers_more, given_at, given_now}
use Rattle.hb_core.proofs.Facts.LinesLeft.{left_after, left_more}
use Rattle.hb_steps.proofs.Facts.LogAndStop.{size_stands, step_tells}
use Rattle.hb_core.proofs.Facts.RunCrashes.{crashes_more}
use Rattle.hb_core.proofs.Facts.RunDisks.{file_more, file_touched, moments_touched, opens_kept, shows_them, told_before}
use Rattle.hb_core.proofs.Facts.RunFaults.{faults_more, no_fault_in}
use Rattle.hb_steps.proofs.Orders.PendingKept.{grown_by}
use Rattle.hb_steps.specs.Steps.{StepsInSequence}
use Rattle.hb_steps.specs.SteppingLaws.{IsBetween}
use Rattle.hb_core.specs.Going.{MayGoOn}
use Rattle.hb_disk.proofs.Facts.FaultLaws.{Stays-same}
use Rattle.hb_disk.proofs.Facts.RewriteLaws.{Becomes-tells}

-- ---- it begins

no_fault_yet : (d : DiskModel) (m : Machine) → CountsFaults d d [] m.stop m.stop
no_fault_yet d m = record { reads = omega arith; writes = omega arith; read = λ has. absurd (no_fault_in has); write = λ stop begun. absurd (begun stop) }

crashes_begin : RunningLaws → (d : DiskModel) (m : Machine) (c : RunningCore) → IsDisk d → ShowsMachine d c m → (n : RecordSet) (files : Files) → CoreKeeps n m files → CrashesTo n d d m []
crashes_begin laws d m c disk shows n files keeps =
    let them = shows_them d c m files shows keeps.told in
    record {
      each = Leaves-start d (IsPrefixImage n m.order 0) disk (λ bytes image. prefix_less n m.order 0 (settled_count m) bytes (omega arith) (settled_prefix laws.images n m files bytes keeps (opens_kept laws.opens d m.store files.durable files.later them.kept bytes image)));
      since = All-nil (HoldsSince d n m.order);
    }

pub run_begins : RunningLaws → (d : DiskModel) (m : Machine) (c : RunningCore) → IsDisk d → MayStep d c m → HasRun d m [] [] d c
run_begins laws d m c disk may = record {
  new = m;
  may = All-nil IsActor;
  steps = refl;
  shows = may.shows;
  goes_on = may.goes_on;
  came = [];
  answered = sym (append-nil m.answered);
  answers_are = record { alike = refl; same = λ tells. refl };
  left = omega arith;
  faults = no_fault_yet d m;
  in_file = Becomes-read (ChangesFile m.store) d d disk (λ b bytes. Torn-itself 0 (file_size m.store.meta) b bytes) (Stays-same d);
  crashes = crashes_begin laws d m c disk may.shows;
}

-- ---- a step more

pub one_more_step : (actors : List ℕ) (m mid next : Machine) (actor : ℕ) (outcome : Outcome) → StepsInSequence actors m mid → StepsTo mid actor outcome next → StepsInSequence (actors ++ actor ∷ []) m next
one_more_step [] m mid next actor outcome is step = (outcome, next, subst (λ (x : Machine). StepsTo x actor outcome next) is step, refl)
one_more_step (first ∷ rest) m mid next actor outcome (said, one, step, steps) last = (said, one, step, one_more_step rest one mid next actor outcome steps last)

module _ (laws : RunningLaws) (e f : DiskModel) (old new : RunningCore) (actor : ℕ) (outcome : Outcome) (mid next : Machine) (may : IsActor actor) (step : StepsTo mid actor outcome next) (shows : ShowsMachine e old mid) (shows_next : ShowsMachine f new next)
    (goes_on : MayGoOn mid) (became : Becomes (ChangesFile mid.store) e f) where
  -- files are told of exactly where they were, and are sound
  sound_next : IfSome next.files (HasSoundFile next)
  sound_next = by e.told refl
    where
      sound : (files : Files) → mid.files ≡ Some files → IfSome next.files (HasSoundFile next)
      sound files told =
          let has = subst (λ (o : Option Files). IfSome o (HasSoundFile mid)) told goes_on.sound in
          let after = laws.files mid files actor outcome next told goes_on.kept.lines_fit goes_on.kept.pages_of_file has step in
          subst (λ (o : Option Files). IfSome o (HasSoundFile next)) (sym after.1) after.2

      by : (o : Option (List ℕ)) → e.told ≡ o → IfSome next.files (HasSoundFile next)
      by None is = subst (λ (o : Option Files). IfSome o (HasSoundFile next)) (sym (shows_next.silent (became.silent is))) tt
      by (Some b) is = let them = shows.tells (has_value e.told b is) in sound them.files them.told

  pub goes_on_next : MayGoOn next
  goes_on_next = record {
    kept = laws.kept mid actor outcome next may goes_on.kept step;
    sound = sound_next;
  }

-- What a step of a core came to, with what its caller kept of the answer: `given` has the disk's clock after the step, where it tells.
pub record WentOn (e : DiskModel) (old : RunningCore) (mid : Machine) (actor : ℕ) (outcome : Outcome) (given : List Answered) (f : DiskModel) (new : RunningCore) : Type 0 where
  pub next : Machine
  pub may : IsActor actor
  pub step : StepsTo mid actor outcome next
  pub shows : ShowsMachine f new next
  pub touches : Touches e old outcome f new
  pub given_is : AreAnswers f.told given (given_by outcome f.clock)

module _ (laws : RunningLaws) (d : DiskModel) (m : Machine) (actors : List ℕ) (answers : List Answered) (e : DiskModel) (old : RunningCore) (run : HasRun d m actors answers e old) (actor : ℕ) (outcome : Outcome) (given : List Answered) (f : DiskModel) (new : RunningCore)
    (disk : IsDisk e) (disk_next : IsDisk f) (went : WentOn e old run.new actor outcome given f new) where
  abbrev mid : Machine
  mid = run.new

  abbrev next : Machine
  next = went.next

  all_may : All IsActor (actors ++ actor ∷ [])
  all_may = All-append IsActor actors (actor ∷ []) run.may (All-alone IsActor actor went.may)

  all_steps : StepsInSequence (actors ++ actor ∷ []) m next
  all_steps = one_more_step actors m mid next actor outcome run.steps went.step

  -- the core has the machine's store
  same_store : mid.store ≡ old.store
  same_store = run.shows.store

  became : Becomes (ChangesFile mid.store) e f
  became = file_touched e f old new outcome mid disk run.goes_on.kept same_store run.shows.uses went.touches

  in_file : Becomes (ChangesFile m.store) d f
  in_file = file_more d e f m mid (size_stands actors m mid run.steps) run.in_file became

  tells_first : IsSome f.told → IsSome d.told
  tells_first tells = told_before (ChangesFile m.store) d f in_file tells

  tells_last : IsSome d.told → IsSome f.told
  tells_last tells = Becomes-tells (ChangesFile m.store) d f in_file tells

  same_clock : IsSome d.told → next.clock ≡ f.clock
  same_clock tells = (went.shows.tells (tells_last tells)).clock

  came_next : next.answered ≡ m.answered ++ (run.came ++ given_by outcome next.clock)
  came_next =
      answers_are_timed mid actor outcome next went.step
      ∙ ap (λ (l : List Answered). l ++ given_by outcome next.clock) run.answered
      ∙ append_assoc m.answered run.came (given_by outcome next.clock)

  -- ---- crashes

  -- what was answered is no later than the disk's clock
  timed : IsSome d.told → mid.clock ≡ e.clock → All (λ (a : Answered). a.at ≤ e.clock) answers
  timed tells clock =
      let gone = steps_go_on actors m mid run.steps in
      let came : gone.answers ≡ answers = append_cancel_left m.answered gone.answers run.came (sym gone.answered ∙ run.answered) ∙ sym (run.answers_are.same tells) in
      subst (λ (l : List Answered). All (λ (a : Answered). a.at ≤ e.clock) l) came
      (All-weaker (IsBetween m.clock mid.clock) (λ (a : Answered). a.at ≤ e.clock) (λ a between. let high = between.1 in omega (arith, high, clock)) gone.answers gone.timed)

  crashes : (n : RecordSet) (files : Files) → CoreKeeps n m files → CrashesTo n d f next (answers ++ given)
  crashes n files keeps =
      let before = laws.changes n actors m files mid run.may keeps run.steps in
      let after = laws.changes n (actors ++ actor ∷ []) m files next all_may keeps all_steps in
      let shown = shows_them e old mid before.0 run.shows before.1.keeps.told in
      let shown_next = shows_them f new next after.0 went.shows after.1.keeps.told in
      let grown = grown_by mid next (order_grows mid actor outcome next went.step).1 in
      let tells = tells_first shown_next.tells in
      let exactly = went.given_is.same shown_next.tells in
      let same = run.answers_are.same tells in
      crashes_more laws n d e f mid next answers given disk_next
      (record {
        files = before.0;
        files_then = after.0;
        keeps = before.1.keeps;
        keeps_then = after.1.keeps;
        moments = moments_touched laws.opens e f old new outcome before.0.durable before.0.later disk (subst (λ (st : StoreState). StoreKeeps e st before.0.durable before.0.later) same_store shown.kept) went.touches;
        kept_then = shown_next.kept;
        more = grown.0;
        order = grown.1;
        first = m.answered;
        among = run.answered ∙ ap (λ (l : List Answered). m.answered ++ l) (sym same);
        among_then = answers_are_timed mid actor outcome next went.step ∙ ap (λ (t : ℕ). mid.answered ++ given_by outcome t) shown_next.clock ∙ ap (λ (l : List Answered). mid.answered ++ l) (sym exactly);
        timed = timed tells shown.clock;
        timed_then = subst (λ (l : List Answered). All (λ (a : Answered). a.at ≡ f.clock) l) (sym exactly) (given_now outcome f.clock);
      })
      (run.crashes n files keeps)

  pub run_goes_on : HasRun d m (actors ++ actor ∷ []) (answers ++ given) f new
  run_goes_on = record {
    new = next;
    may = all_may;
    steps = all_steps;
    shows = went.shows;
    goes_on = goes_on_next laws e f old new actor outcome mid next went.may went.step run.shows went.shows run.goes_on became;
    came = run.came ++ given_by outcome next.clock;
    answered = came_next;
    answers_are = answers_more d.told f.told answers run.came given outcome f.clock next.clock run.answers_are went.given_is tells_last same_clock;
    left = left_more run.came (given_by outcome next.clock) (left_count next) (left_count mid) (left_count m) run.left (left_after mid actor outcome next run.goes_on.kept.lines_in_sequence went.step);
    faults = faults_more d e f old new m mid next outcome answers given f.clock run.faults (step_tells mid actor outcome next went.step).stop run.shows.stop went.given_is.alike went.touches;
    in_file = in_file;
    crashes = crashes;
  }

-- ---- as a caller has it

-- what a core wants to take a step
pub may_go_on : (d : DiskModel) (m : Machine) (actors : List ℕ) (answers : List Answered) (e : DiskModel) (c : RunningCore) → (run : HasRun d m actors answers e c) → MayStep e c run.new
may_go_on d m actors answers e c run = record { shows = run.shows; goes_on = run.goes_on }

-- By the contract of the core's step, where the caller keeps each answer with what the core told of the clock.
pub run_by_step : RunningLaws → (d : DiskModel) (m : Machine) (actors : List ℕ) (answers : List Answered) (e : DiskModel) (old : RunningCore) (actor : ℕ) (outcome : Outcome) (clock : ℕ) (f : DiskModel) (new : RunningCore) → HasRun d m actors answers e old → IsDisk e → IsDisk f → IsActor actor
    → ((x : Machine) → MayStep e old x → (next : Machine) × StepsTo x actor outcome next × ShowsMachine f new next) → Touches e old outcome f new → (IsSome f.told → clock ≡ f.clock) → HasRun d m (actors ++ actor ∷ []) (answers ++ given_by outcome clock) f new
run_by_step laws d m actors answers e old actor outcome clock f new run disk disk_next may steps touches same =
    let took = steps run.new (may_go_on d m actors answers e old run) in
    run_goes_on laws d m actors answers e old run actor outcome (given_by outcome clock) f new disk disk_next
    (record { next = took.0; may = may; step = took.1; shows = took.2; touches = touches; given_is = given_at f.told outcome clock f.clock same })

-- From the beginning it comes to the machine to which the step came.
module _ (laws : RunningLaws) (d : DiskModel) (m : Machine) (old : RunningCore) (actor : ℕ) (outcome : Outcome) (clock : ℕ) (f : DiskModel) (new : RunningCore) (disk : IsDisk d) (begun : MayStep d old m) (disk_next : IsDisk f) (may : IsActor actor)
    (steps : (x : Machine) → MayStep d old x → (next : Machine) × StepsTo x actor outcome next × ShowsMachine f new next) (touches : Touches d old outcome f new) (same : IsSome f.told → clock ≡ f.clock) where
  pub run_of_step : HasRun d m (actor ∷ []) (given_by outcome clock) f new
  run_of_step = run_by_step laws d m [] [] d old actor outcome clock f new (run_begins laws d m old disk begun) disk disk_next may steps touches same

  pub steps_so : StepsTo m actor outcome run_of_step.new
  unfolding run_of_step run_by_step run_goes_on run_begins
  steps_so = (steps m (may_go_on d m [] [] d old (run_begins laws d m old disk begun))).1
