-- A run of threads begins, and goes on by a turn.
use Rattle.std.proofs.Common.{◌≡◌, ℕ, ◌+◌, ◌-◌, ◌≤◌, List, [], ◌∷◌, ◌++◌, length, IsSome, Ok, sym, ap, ◌∙◌, subst, arith, length-append}
use Rattle.std.specs.Coded.{le_prop}
use Rattle.std.proofs.Math.Logic.{∥∥₁_elim, ∥∥₁_map}
use Rattle.std.proofs.lemmas.List.{length-map}
use Rattle.std.proofs.lemmas.List.Sums.{count_by-le-length}
use Rattle.hb_disk.specs.Model.{DiskModel, IsDisk}
use Rattle.hb_set.specs.declared.scripts.Answered.{Answered}
use Rattle.hb_set.specs.declared.scripts.Line.{Line}
use Rattle.hb_space.specs.Actors.{IsActor}
use Rattle.hb_steps.specs.declared.outcomes.Outcome.{Outcome}
use Rattle.hb_steps.specs.Machines.{Machine}
use Rattle.hb_steps.specs.Performing.{given_by}
use Rattle.hb_core.specs.Runs.{HasRun, RunningLaws, has_none, left_count, without_clock}
use Rattle.hb_core.specs.Showing.{RunningCore, ShowsMachine}
use Rattle.hb_steps.specs.Steps.{StepsTo}
use Rattle.hb_core.specs.Touching.{Touches}
use Rattle.hb_core.specs.Relied.{MayTakeSteps}
use Rattle.hb_core.specs.Working.{MayStep}
use Rattle.hb_core.proofs.Facts.RunSteps.{may_go_on, run_begins, run_by_step, run_of_step}
use Rattle.hb_drive.proofs.Facts.AnswerTexts.{has_put_none, puts_given}
use Rattle.hb_run.specs.Beginnings.{Beginning}
use Rattle.hb_run.specs.Courses.{Course, KeepsRun, ShowsLeft, TakesTurn}

-- a machine from which the core goes on
pub may_turn : (b : Beginning) (c : Course) → KeepsRun b c → MayTakeSteps c.disk c.core
may_turn b c keeps =
    let run = keeps.runs keeps.begun.0 keeps.begun.1 in
    (run.new, may_go_on b.disk keeps.begun.0 keeps.actors c.answers c.disk c.core run)

-- What is known of a step that a core took.
pub record TookStep (actor : ℕ) (outcome : Outcome) (at : ℕ) (e : DiskModel) (old : RunningCore) (f : DiskModel) (new : RunningCore) : Type 0 where
  pub disk : IsDisk e
  pub disk_next : IsDisk f
  pub may : IsActor actor
  pub steps : (m : Machine) → MayStep e old m → (next : Machine) × StepsTo m actor outcome next × ShowsMachine f new next
  pub touches : Touches e old outcome f new
  pub clock : IsSome f.told → at ≡ f.clock

module _ (laws : RunningLaws) (b : Beginning) (c : Course) (actor : ℕ) (outcome : Outcome) (at : ℕ) (f : DiskModel) (new : RunningCore) (keeps : KeepsRun b c) (took : TookStep actor outcome at c.disk c.core f new) where
  pub run_on : (m : Machine) → MayStep b.disk b.core m → HasRun b.disk m (keeps.actors ++ actor ∷ []) (c.answers ++ given_by outcome at) f new
  run_on m may = run_by_step laws b.disk m keeps.actors c.answers c.disk c.core actor outcome at f new (keeps.runs m may) took.disk took.disk_next took.may took.steps took.touches took.clock

pub answers_are_as_many : (d e : DiskModel) (m : Machine) (actors : List ℕ) (answers : List Answered) (c : RunningCore) (run : HasRun d m actors answers e c) → length answers + left_count run.new ≡ left_count m
answers_are_as_many d e m actors answers c run =
    let same = sym (length-map answers without_clock) ∙ ap (λ (l : List Answered). length l) run.answers_are.alike ∙ length-map run.came without_clock in
    let left = run.left in
    omega (arith, same, left)

same_left : (given now count left : ℕ) → given + now ≡ left → given + count ≡ left → now ≡ count
same_left given now count left less has = omega (arith, less, has)

-- What a step leaves of the lines without an answer: its answer is one of a line that had none, and what is left shows on.
pub record LeavesLines (given : ℕ) (left : ℕ) (f : DiskModel) (new : RunningCore) : Type 0 where
  pub fits : given ≤ left
  pub shows : (now : ℕ) → given + now ≡ left → ∥ ShowsLeft f new now ∥₁

module _ (laws : RunningLaws) (actor : ℕ) (outcome : Outcome) (at : ℕ) (e : DiskModel) (old : RunningCore) (f : DiskModel) (new : RunningCore) (left : ℕ) (disk : IsDisk e) (disk_next : IsDisk f) (may : IsActor actor)
    (steps : (m : Machine) → MayStep e old m → (next : Machine) × StepsTo m actor outcome next × ShowsMachine f new next) (touches : Touches e old outcome f new) (clock : IsSome f.told → at ≡ f.clock) (shows : ∥ ShowsLeft e old left ∥₁) where
  one : (was : ShowsLeft e old left) → HasRun e was.machine (actor ∷ []) (given_by outcome at) f new
  one was = run_of_step laws e was.machine old actor outcome at f new disk was.may disk_next may steps touches clock

  has : (was : ShowsLeft e old left) → length (given_by outcome at) + left_count (one was).new ≡ left
  has was = answers_are_as_many e f was.machine (actor ∷ []) (given_by outcome at) new (one was) ∙ sym was.left_is

  pub leaves_lines : LeavesLines (length (given_by outcome at)) left f new
  leaves_lines = record {
    fits = ∥∥₁_elim shows le_prop (λ was. let all = has was in omega (arith, all));
    shows = λ now less. ∥∥₁_map shows (λ was. record {
      machine = (one was).new;
      may = may_go_on e was.machine (actor ∷ []) (given_by outcome at) f new (one was);
      left_is = same_left (length (given_by outcome at)) now (left_count (one was).new) left less (has was);
    });
  }

-- for what the code takes off, as many as were given
pub less_left : (given taken left : ℕ) → taken ≡ given → given ≤ left → given + (left - taken) ≡ left
less_left given taken left same fits = omega (arith, same, fits)

pub room_on : (was now : ℕ) (old given new : List Answered) (taken left room more : ℕ) → was ≡ length old → now ≡ length new → new ≡ old ++ given → taken ≡ length given → length given ≤ left → was + left ≤ room → room ≤ more → now + (left - taken) ≤ more
room_on was now old given new taken left room more was_is now_is new_is same fits has grown =
    let long = ap (λ (l : List Answered). length l) new_is ∙ length-append old given in
    omega (arith, was_is, now_is, long, same, fits, has, grown)

count_on : (before given all left now lines : ℕ) → all ≡ before + given → given + now ≡ left → before + left ≡ lines → all + now ≡ lines
count_on before given all left now lines is less kept = omega (arith, is, less, kept)

pub goes_on : (laws : RunningLaws) (b : Beginning) (actor : ℕ) (outcome : Outcome) (old new : Course) → IsActor actor → IsDisk old.disk → IsDisk new.disk → KeepsRun b old → TakesTurn actor outcome old new → KeepsRun b new
goes_on laws b actor outcome old new may disk disk_next keeps turn = record {
  begun = keeps.begun;
  actors = keeps.actors ++ actor ∷ [];
  runs = λ m begun. subst (λ (l : List Answered). HasRun b.disk m (keeps.actors ++ actor ∷ []) l new.disk new.core) (sym turn.answers) (run_on laws b old actor outcome turn.at new.disk new.core keeps took m begun);
  text = puts_given b.sink old.sink new.sink old.put new.put old.answers new.answers (given_by outcome turn.at) turn.answers keeps.text turn.written;
  left_is = λ m begun. count_on (length old.answers) (length (given_by outcome turn.at)) (length new.answers) old.left new.left (left_count m) many turn.left_is (keeps.left_is m begun);
}
  where
    took : TookStep actor outcome turn.at old.disk old.core new.disk new.core
    took = record { disk = disk; disk_next = disk_next; may = may; steps = turn.steps; touches = turn.touches; clock = turn.clock }

    many : length new.answers ≡ length old.answers + length (given_by outcome turn.at)
    many = ap (λ (l : List Answered). length l) turn.answers ∙ length-append old.answers (given_by outcome turn.at)

-- ---- it begins

pub begins : (laws : RunningLaws) (b : Beginning) (answers : List Answered) (room left : ℕ) → IsDisk b.disk → MayTakeSteps b.disk b.core → answers ≡ [] → ((m : Machine) → MayStep b.disk b.core m → left ≡ left_count m)
    → KeepsRun b (record { disk = b.disk; core = b.core; sink = b.sink; put = Ok (tt {0}); answers = answers; room = room; left = left })
begins laws b answers room left disk may none left_is = record {
  begun = may;
  actors = [];
  runs = λ m begun. subst (λ (l : List Answered). HasRun b.disk m [] l b.disk b.core) (sym none) (run_begins laws b.disk m b.core disk begun);
  text = has_put_none b.sink answers none;
  left_is = λ m begun. let same = left_is m begun in omega (arith, no_answer, same);
}
  where
    no_answer : length answers ≡ 0
    no_answer = ap (λ (l : List Answered). length l) none

fits_first : (given left count lines now room : ℕ) → given ≡ 0 → left ≡ count → count ≤ lines → lines ≡ now → now ≤ room → given + left ≤ room
fits_first given left count lines now room none is few same fits = omega (arith, none, is, few, same, fits)

pub room_first : (d : DiskModel) (c : RunningCore) (m : Machine) (given left room : ℕ) → MayStep d c m → given ≡ 0 → left ≡ left_count m → length c.lines ≤ room → given + left ≤ room
room_first d c m given left room may none is fits = fits_first given left (left_count m) (length m.lines) (length c.lines) room none is (count_by-le-length (has_none m) m.lines) (ap (λ (ls : List Line). length ls) may.shows.lines) fits
