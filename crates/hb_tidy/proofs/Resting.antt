-- Who is at rest, as a core has it, and as a machine that it shows.
use Rattle.std.proofs.Common.{◌≡◌, ◌≢◌, inl, inr, ℕ, ◌-◌, ◌+◌, List, [], ◌∷◌, All, length, replicate, Some, sym, ap, ◌∙◌, subst, arith}
use Rattle.std.specs.List.{slice_get}
use Rattle.std.specs.Prelude.{count_by}
use Rattle.std.proofs.lemmas.Bool.{cases_eq}
use Rattle.std.proofs.lemmas.List.Elements.{All-append, All-replicate}
use Rattle.hb_activity.specs.Classes.{class_of}
use Rattle.hb_activity.specs.Queue.{is_of}
use Rattle.hb_activity.specs.declared.activities.Activity.{Activity}
use Rattle.hb_activity.specs.declared.activities.Activity.TheVariants as at
use Rattle.hb_activity.specs.declared.jobs.JobKind.{JobKind}
use Rattle.hb_activity.specs.declared.jobs.JobKind.TheVariants.{Merge, Post}
use Rattle.hb_disk.specs.Model.{DiskModel}
use Rattle.hb_lemmas.proofs.Lists.{All-alone, at_place, place_within}
use Rattle.hb_space.specs.Actors.{IsActor}
use Rattle.hb_steps.proofs.Facts.StillThere.{may_or_not, others_stay}
use Rattle.hb_steps.specs.KeptFits.{class_for}
use Rattle.hb_steps.specs.Machines.{Machine}
use Rattle.hb_steps.specs.ProgressLaws.{jobs_of}
use Rattle.hb_core.specs.Showing.{RunningCore, ShowsMachine}
use Rattle.hb_steps.specs.SteppingLaws.{IsAtRest}
use Rattle.hb_steps.specs.Steps.{StepsTo}
use Rattle.hb_steps.specs.ProgressLaws.{jobs_in_work, worker_for}
use Rattle.hb_core.specs.Taking.{all_idle}
use Rattle.hb_core.specs.Working.{MayStep}
use Rattle.hb_steps.specs.declared.outcomes.Outcome.{Outcome}
use Rattle.hb_tidy.specs.Going.{AllRest, RestsBut}
use Rattle.hb_tidy.specs.Working.{OthersRest}

-- an actor is none of the other numbers
pub is_somebody : (actor : ℕ) → IsActor actor → actor ≢ 0
is_somebody actor may none = let first = may.from_1 in omega (arith, first, none)

-- ---- of a machine that a core shows

stands_so : (d : DiskModel) (c : RunningCore) (m : Machine) → ShowsMachine d c m → (actor : ℕ) → IsActor actor → (a : Activity) → slice_get c.activities (actor - 1) ≡ Some a → a ≡ m.activity actor
stands_so d c m shows actor may a is = let same : Some a ≡ Some (m.activity actor) = sym is ∙ shows.activities actor may in cc

pub others_rest : (d : DiskModel) (c : RunningCore) (m : Machine) → ShowsMachine d c m → (actor : ℕ) → RestsBut actor c → OthersRest m actor
others_rest d c m shows actor rests other another = elim (may_or_not other) [
  | inl may ↦ let one = rests other may another in subst IsAtRest (stands_so d c m shows other may one.0 one.1) one.2
  | inr nobody ↦ subst IsAtRest (sym (shows.nobody_else other nobody)) tt
]

-- and of the core, by what the machine comes to
module _ (d : DiskModel) (old : RunningCore) (m : Machine) (e : DiskModel) (new : RunningCore) (next : Machine) (actor : ℕ) (shows : ShowsMachine d old m) (shows_next : ShowsMachine e new next) where
  pub others_stand : ((other : ℕ) → other ≢ actor → next.activity other ≡ m.activity other) → RestsBut actor old → RestsBut actor new
  others_stand same rests other may another =
      (next.activity other, shows_next.activities other may, subst IsAtRest (sym (same other another)) (others_rest d old m shows actor rests other another))

pub step_rests : (d : DiskModel) (old : RunningCore) (m : Machine) (e : DiskModel) (new : RunningCore) (next : Machine) (actor : ℕ) (outcome : Outcome) → ShowsMachine d old m → ShowsMachine e new next → StepsTo m actor outcome next → RestsBut actor old → RestsBut actor new
step_rests d old m e new next actor outcome shows shows_next step rests = others_stand d old m e new next actor shows shows_next (λ other another. (others_stay m actor outcome next step other another).0) rests

pub still_rests : (d : DiskModel) (old : RunningCore) (m : Machine) (e : DiskModel) (new : RunningCore) (next : Machine) → ShowsMachine d old m → ShowsMachine e new next → next.activity ≡ m.activity → AllRest old → AllRest new
still_rests d old m e new next shows shows_next same rests = others_stand d old m e new next 0 shows shows_next (λ other another. ap (λ (a : ℕ → Activity). a other) same) rests

-- ---- a worker that has no job in work

none_in_work : (n k : ℕ) → n + k ≡ 0 → k ≡ 0
none_in_work n k none = omega (arith, none)

module _ (m : Machine) (kind : JobKind) (right : class_of (m.activity (worker_for kind)) ≡ class_for (worker_for kind)) (none : jobs_in_work (m.activity (worker_for kind)) ≡ 0) where
  pub worker_rests : IsAtRest (m.activity (worker_for kind))
  worker_rests = by kind (m.activity (worker_for kind)) right none
    where
      by : (kind : JobKind) (a : Activity) → class_of a ≡ class_for (worker_for kind) → jobs_in_work a ≡ 0 → IsAtRest a
      by kind at.SessionIdle is free = tt
      by kind at.PosterIdle is free = tt
      by kind at.ConsolidatorIdle is free = tt
      by kind at.Flusher is free = tt
      by Post (at.SessionWalk line held rest found) is free = cc (is)
      by Post (at.SessionSplit line held) is free = cc (is)
      by Post (at.SessionPut line source fresh) is free = cc (is)
      by Post (at.SessionAwait line reply place) is free = cc (is)
      by Merge (at.SessionWalk line held rest found) is free = cc (is)
      by Merge (at.SessionSplit line held) is free = cc (is)
      by Merge (at.SessionPut line source fresh) is free = cc (is)
      by Merge (at.SessionAwait line reply place) is free = cc (is)
      by kind other is free = absurd (omega (arith, free))

pub worked_off_rests : (d : DiskModel) (c : RunningCore) (m : Machine) → MayStep d c m → (kind : JobKind) → RestsBut (worker_for kind) c → jobs_of kind m ≡ 0 → AllRest c
worked_off_rests d c m shows kind rests none other may another =
    (m.activity other, shows.shows.activities other may, by)
  where
    by : IsAtRest (m.activity other)
    by = elim (cases_eq other (worker_for kind)) [
      | inl own ↦ subst (λ (n : ℕ). IsAtRest (m.activity n)) (sym own) (worker_rests m kind (shows.goes_on.kept.classes (worker_for kind)) (none_in_work (count_by (is_of kind) m.jobs) (jobs_in_work (m.activity (worker_for kind))) none))
      | inr ne ↦ others_rest d c m shows.shows (worker_for kind) rests other ne
    ]

-- ---- a core whose actors are all idle

idle_rest : All IsAtRest all_idle
idle_rest =
    All-append IsAtRest (replicate 16 at.SessionIdle) (at.PosterIdle ∷ at.ConsolidatorIdle ∷ at.Flusher ∷ []) (All-replicate IsAtRest 16 at.SessionIdle tt)
    (All-append IsAtRest (at.PosterIdle ∷ []) (at.ConsolidatorIdle ∷ at.Flusher ∷ []) (All-alone IsAtRest at.PosterIdle tt)
    (All-append IsAtRest (at.ConsolidatorIdle ∷ []) (at.Flusher ∷ []) (All-alone IsAtRest at.ConsolidatorIdle tt) (All-alone IsAtRest at.Flusher tt)))

pub idle_rests : (c : RunningCore) → c.activities ≡ all_idle → AllRest c
idle_rests c is other may another =
    let last = may.to_19 in
    let first = may.from_1 in
    let long : length c.activities ≡ 19 = ap (λ (all : List Activity). length all) is in
    let found = place_within c.activities (other - 1) (omega (arith, first, last, long)) in
    (found.0, found.1, at_place IsAtRest c.activities (other - 1) found.0 (subst (λ (all : List Activity). All IsAtRest all) (sym is) idle_rest) found.1)
