-- A run goes on by the next step of a schedule, and the room that its answers take.
use Rattle.std.proofs.Common.{◌≡◌, ℕ, ◌+◌, ◌<◌, ◌≤◌, List, ◌∷◌, [], ◌++◌, length, take, get_or, IsSome, sym, ap, subst, ◌∙◌, arith}
use Rattle.std.proofs.lemmas.List.{length-map, take_more}
use Rattle.std.proofs.lemmas.List.Sums.{count_by-le-length}
use Rattle.hb_disk.specs.Model.{DiskModel, IsDisk}
use Rattle.hb_space.specs.Actors.{IsActor}
use Rattle.hb_set.specs.declared.scripts.Answered.{Answered}
use Rattle.hb_set.specs.declared.scripts.Line.{Line}
use Rattle.hb_steps.specs.declared.outcomes.Outcome.{Outcome}
use Rattle.hb_steps.specs.Machines.{Machine}
use Rattle.hb_steps.specs.Performing.{given_by}
use Rattle.hb_core.specs.Runs.{HasRun, RunningLaws, has_none, left_count, without_clock}
use Rattle.hb_core.specs.Showing.{RunningCore, ShowsMachine}
use Rattle.hb_steps.specs.Steps.{StepsTo}
use Rattle.hb_core.specs.Touching.{Touches}
use Rattle.hb_core.specs.Working.{MayStep}
use Rattle.hb_core.proofs.Facts.RunSteps.{run_begins, run_by_step}

-- ---- room

-- what was answered is no more than the lines
answers_are_as_many : (d e : DiskModel) (m : Machine) (actors : List ℕ) (answers : List Answered) (c : RunningCore) (run : HasRun d m actors answers e c) → length answers ≡ length run.came
answers_are_as_many d e m actors answers c run =
    sym (length-map answers without_clock) ∙ ap (λ (l : List Answered). length l) run.answers_are.alike ∙ length-map run.came without_clock

few_fit : (given came left all lines room : ℕ) → given ≡ came → came + left ≡ all → all ≤ lines → lines ≤ room → given ≤ room
few_fit given came left all lines room same parts few fits = omega (arith, same, parts, few, fits)

answers_fit : (d e : DiskModel) (m : Machine) (actors : List ℕ) (answers : List Answered) (first c : RunningCore) (room : ℕ) → ShowsMachine d first m → length first.lines ≤ room → HasRun d m actors answers e c → length answers ≤ room
answers_fit d e m actors answers first c room shows fits run =
    few_fit (length answers) (length run.came) (left_count run.new) (left_count m) (length m.lines) room
    (answers_are_as_many d e m actors answers c run) run.left (count_by-le-length (has_none m) m.lines)
    (subst (λ (ls : List Line). length ls ≤ room) (sym shows.lines) fits)

-- behind an empty list there is room for a number of each line
pub room_for_all : (lines : List Line) (left : List ℕ) (room : ℕ) → left ≡ [] → length lines ≤ room → length left + length lines ≤ room
room_for_all lines left room none fits = let empty = ap (λ (l : List ℕ). length l) none in omega (arith, empty, fits)

-- and where the lines stayed
pub room_stays : (given first now : List Line) (room : ℕ) → given ≡ first → now ≡ first → length given ≤ room → length now ≤ room
room_stays given first now room read kept fits =
    let same = ap (λ (ls : List Line). length ls) (kept ∙ sym read) in
    omega (arith, same, fits)

-- the order is no longer than the script
pub order_is_short : (d : DiskModel) (c : RunningCore) (m : Machine) (limit : ℕ) → MayStep d c m → length c.lines < limit → length c.order < limit
order_is_short d c m limit may few =
    let order : length c.order ≡ length m.order = ap (λ (l : List ℕ). length l) (sym may.shows.order) ∙ length-map m.order (λ e. e.line.number) in
    let lines : length m.lines ≡ length c.lines = ap (λ (ls : List Line). length ls) may.shows.lines in
    let short : length m.order ≤ length m.lines = may.goes_on.kept.order_short.few in
    omega (arith, order, lines, short, few)

-- ---- a step

-- what is known of a step that a core took
pub record TookStep (e : DiskModel) (old : RunningCore) (actor : ℕ) (outcome : Outcome) (at : ℕ) (f : DiskModel) (new : RunningCore) : Type 0 where
  pub disk : IsDisk e
  pub disk_next : IsDisk f
  pub may : IsActor actor
  pub steps : (m : Machine) → MayStep e old m → (next : Machine) × StepsTo m actor outcome next × ShowsMachine f new next
  pub touches : Touches e old outcome f new
  pub clock : IsSome f.told → at ≡ f.clock

run_more : (laws : RunningLaws) (d e f : DiskModel) (m : Machine) (actors : List ℕ) (answers : List Answered) (old new : RunningCore) (actor at : ℕ) (outcome : Outcome)
    → TookStep e old actor outcome at f new → HasRun d m actors answers e old → HasRun d m (actors ++ actor ∷ []) (answers ++ given_by outcome at) f new
run_more laws d e f m actors answers old new actor at outcome took run =
    run_by_step laws d m actors answers e old actor outcome at f new run took.disk took.disk_next took.may took.steps took.touches took.clock

-- the run is by the first steps of a schedule
pub run_starts : RunningLaws → (d : DiskModel) (m : Machine) (answers : List Answered) (c : RunningCore) → IsDisk d → answers ≡ [] → MayStep d c m → HasRun d m [] answers d c
run_starts laws d m answers c disk none may = subst (λ (l : List Answered). HasRun d m [] l d c) (sym none) (run_begins laws d m c disk may)

pub run_next : (laws : RunningLaws) (d e f : DiskModel) (m : Machine) (all : List ℕ) (i : ℕ) (answers answered : List Answered) (old new : RunningCore) (actor at : ℕ) (outcome : Outcome)
    → i < length all → actor ≡ get_or all i actor → TookStep e old actor outcome at f new → answered ≡ answers ++ given_by outcome at
    → HasRun d m (take i all) answers e old → HasRun d m (take (i + 1) all) answered f new
run_next laws d e f m all i answers answered old new actor at outcome lt is took kept run =
    let taken : take (i + 1) all ≡ take i all ++ actor ∷ [] = take_more all i actor lt ∙ ap (λ (n : ℕ). take i all ++ n ∷ []) (sym is) in
    let more = run_more laws d e f m (take i all) answers old new actor at outcome took run in
    subst (λ (l : List ℕ). HasRun d m l answered f new) (sym taken)
    (subst (λ (l : List Answered). HasRun d m (take i all ++ actor ∷ []) l f new) (sym kept) more)

-- so there is room for what the step gave
pub room_for_given : (laws : RunningLaws) (d e f : DiskModel) (m : Machine) (actors : List ℕ) (answers : List Answered) (first old new : RunningCore) (actor at : ℕ) (outcome : Outcome) (room : ℕ)
    → ShowsMachine d first m → length first.lines ≤ room → TookStep e old actor outcome at f new → HasRun d m actors answers e old → length (answers ++ given_by outcome at) ≤ room
room_for_given laws d e f m actors answers first old new actor at outcome room shows fits took run =
    answers_fit d f m (actors ++ actor ∷ []) (answers ++ given_by outcome at) first new room shows fits (run_more laws d e f m actors answers old new actor at outcome took run)
