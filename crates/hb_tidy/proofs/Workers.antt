-- A step of a worker or of the flusher answers no line, and lets none join the order. One of the flusher leaves the file as it is, too.
use Rattle.std.proofs.Common.{◌≡◌, ◌⊎◌, inl, inr, ℕ, ◌≤◌, [], Option, None, Some, option_map, refl, sym, ap, ◌∙◌, subst, arith}
use Rattle.std.specs.Prelude.{MatchOption}
use Rattle.std.proofs.lemmas.List.Elements.{All-contains}
use Rattle.hb_activity.specs.Classes.{Sessions, class_of}
use Rattle.hb_activity.specs.declared.activities.Activity.{Activity}
use Rattle.hb_activity.specs.declared.activities.Activity.TheVariants as at
use Rattle.hb_set.specs.declared.commands.Reply.{Reply}
use Rattle.hb_set.specs.declared.scripts.Line.{Line}
use Rattle.hb_space.specs.Actors.{IsActor}
use Rattle.hb_point.specs.SessionRows.{next_line}
use Rattle.hb_pool.specs.Frames.{clean}
use Rattle.hb_pool.specs.Pools.{in_place}
use Rattle.hb_store.specs.Held.{oldest_dirty}
use Rattle.hb_store.specs.declared.stops.StopWhy.{StopWhy}
use Rattle.hb_steps.proofs.Facts.NextLines.{next_is}
use Rattle.hb_steps.proofs.Facts.StepLines.{LinesAfter, lines_after}
use Rattle.hb_steps.proofs.Facts.Ways.{order_grows}
use Rattle.hb_steps.specs.Forcing.{FailsToWrite, Flushes, FlushesRest, ForcesAll, StaysSo, forced_files}
use Rattle.hb_steps.specs.KeptFits.{LineFits, class_for}
use Rattle.hb_steps.specs.KeptMachine.{MachineKeeps}
use Rattle.hb_steps.specs.Machines.{Files, Machine, current_file}
use Rattle.hb_steps.specs.Steps.{StepsAs, StepsTo}
use Rattle.hb_steps.specs.declared.outcomes.Outcome.{Outcome}
use Rattle.hb_steps.specs.declared.outcomes.Outcome.TheVariants as outcomes
use Rattle.hb_tidy.specs.Looking.{FileStays}
use Rattle.hb_tidy.specs.Tidying.{file_now}

-- who posts, who merges and who flushes
abbrev pub IsWorker : ℕ → Type 0
IsWorker actor = (actor ≡ 17) ⊎ (actor ≡ 18) ⊎ (actor ≡ 19)

is_late : (actor : ℕ) → IsWorker actor → 17 ≤ actor
is_late actor (inl is) = omega (arith, is)
is_late actor (inr (inl is)) = omega (arith, is)
is_late actor (inr (inr is)) = omega (arith, is)

is_low : (actor : ℕ) → IsWorker actor → actor ≤ 19
is_low actor (inl is) = omega (arith, is)
is_low actor (inr (inl is)) = omega (arith, is)
is_low actor (inr (inr is)) = omega (arith, is)

pub is_actor : (actor : ℕ) → IsWorker actor → IsActor actor
is_actor actor worker =
    let late = is_late actor worker in
    record { from_1 = omega (arith, late); to_19 = is_low actor worker }

never_session : (actor : ℕ) → IsWorker actor → class_for actor ≡ Sessions → ⊥
never_session actor (inl is) same = let P : class_for 17 ≡ Sessions = subst (λ (n : ℕ). class_for n ≡ Sessions) is same in cc
never_session actor (inr (inl is)) same = let P : class_for 18 ≡ Sessions = subst (λ (n : ℕ). class_for n ≡ Sessions) is same in cc
never_session actor (inr (inr is)) same = let P : class_for 19 ≡ Sessions = subst (λ (n : ℕ). class_for n ≡ Sessions) is same in cc

-- ---- lines, answers and the order

pub record LinesStand (m new : Machine) : Type 0 where
  pub lines : new.lines ≡ m.lines
  pub answered : new.answered ≡ m.answered
  pub order : new.order ≡ m.order

late_line : (session actor : ℕ) → session ≤ 16 → session ≡ actor → 17 ≤ actor → ⊥
late_line session actor last own late = omega (arith, last, own, late)

module _ (m : Machine) (actor : ℕ) (kept : MachineKeeps m) (worker : IsWorker actor) where
  none_next : (line : Line) → next_line actor m.answered m.lines ≡ Some line → ⊥
  none_next line next =
      let own = next_is actor m.answered m.lines line next in
      let fits = All-contains (LineFits m.store.meta.k) m.lines line kept.attributes_fit.script own.among in
      late_line line.session actor fits.last_session own.own (is_late actor worker)

  none_awaited : (number place : ℕ) (reply : Reply) → m.activity actor ≡ at.SessionAwait number reply place → ⊥
  none_awaited number place reply is = never_session actor worker (sym (kept.classes actor) ∙ ap class_of is)

  pub worker_stands : (outcome : Outcome) (new : Machine) → StepsTo m actor outcome new → LinesStand m new
  worker_stands outcome new step = by (lines_after m actor outcome new kept.lines_in_sequence step)
    where
      by : LinesAfter m actor new → LinesStand m new
      by (inl stays) = record { lines = (order_grows m actor outcome new step).0; answered = stays.answered; order = stays.order }
      by (inr (inl joins)) = absurd (none_next joins.line joins.next)
      by (inr (inr (inl answers))) = absurd (none_next answers.line answers.next)
      by (inr (inr (inr settles))) = absurd (none_awaited settles.number settles.place settles.reply settles.waited)

-- ---- the file and the jobs, where the flusher takes the step

pub record FlushLeaves (m new : Machine) : Type 0 where
  pub same : FileStays m new
  pub jobs : new.jobs ≡ m.jobs
  pub activity : new.activity ≡ m.activity
  pub groups : (new.store.log.groups ≡ m.store.log.groups) ⊎ (new.store.log.groups ≡ [])
  pub uses : (new.uses ≡ m.uses) ⊎ ((page : ℕ) × (oldest_dirty m.uses ≡ Some page) × (new.uses ≡ in_place page clean m.uses))

forced_same : (files : Option Files) → option_map current_file (option_map forced_files files) ≡ option_map current_file files
forced_same None = refl
forced_same (Some files) = refl

module _ (m : Machine) (outcome : Outcome) (new : Machine) where
  leaves : (other : Machine) → new ≡ other → file_now other ≡ file_now m → other.store.meta ≡ m.store.meta → other.jobs ≡ m.jobs → other.activity ≡ m.activity → (other.store.log.groups ≡ m.store.log.groups) ⊎ (other.store.log.groups ≡ []) → (other.uses ≡ m.uses) ⊎ ((page : ℕ) × (oldest_dirty m.uses ≡ Some page) × (other.uses ≡ in_place page clean m.uses)) → FlushLeaves m new
  leaves other is file meta jobs activity groups uses = record {
    same = record { file = ap file_now is ∙ file; meta = ap (λ (x : Machine). x.store.meta) is ∙ meta };
    jobs = ap (λ (x : Machine). x.jobs) is ∙ jobs;
    activity = ap (λ (x : Machine). x.activity) is ∙ activity;
    groups = subst (λ (x : Machine). (x.store.log.groups ≡ m.store.log.groups) ⊎ (x.store.log.groups ≡ [])) (sym is) groups;
    uses = subst (λ (x : Machine). (x.uses ≡ m.uses) ⊎ ((page : ℕ) × (oldest_dirty m.uses ≡ Some page) × (x.uses ≡ in_place page clean m.uses))) (sym is) uses;
  }

  stays_file : (said : Outcome) → StaysSo m said outcome new → FlushLeaves m new
  stays_file said so = leaves m so.1 refl refl refl refl (inl refl) (inl refl)

  fails_file : {most : ℕ} → FailsToWrite m most outcome new → FlushLeaves m new
  fails_file fails = leaves _ fails.stops refl refl refl refl (inl refl) (inl refl)

  forces_file : ForcesAll m outcomes.Moved outcome new → FlushLeaves m new
  forces_file (inl (says, is)) = leaves _ is (forced_same m.files) refl refl refl (inr refl) (inl refl)
  forces_file (inr badly) = fails_file badly.1

  rest_file : FlushesRest m outcomes.Moved (StaysSo m outcomes.Idle outcome new) outcome new → FlushLeaves m new
  rest_file (inl (page, oldest, inl well)) = leaves _ well.leaves refl refl refl refl (inl refl) (inr (page, oldest, refl))
  rest_file (inl (page, oldest, inr fails)) = fails_file fails
  rest_file (inr (inl (old, inl turns))) = leaves _ turns.leaves refl refl refl refl (inr refl) (inl refl)
  rest_file (inr (inl (old, inr fails))) = fails_file fails
  rest_file (inr (inr (flushed, so))) = stays_file outcomes.Idle so

  flushes_file : Flushes m outcome new → FlushLeaves m new
  flushes_file (inl (waits, force)) = forces_file force
  flushes_file (inr (none, rest)) = rest_file rest

  pub flusher_leaves : m.activity 19 ≡ at.Flusher → StepsTo m 19 outcome new → FlushLeaves m new
  flusher_leaves stands step = by m.stop step
    where
      by : (stop : Option StopWhy) → MatchOption stop (StepsAs (m.activity 19) m 19 outcome new) (λ why. StaysSo m (outcomes.Stopped why) outcome new) → FlushLeaves m new
      by None one = flushes_file (subst (λ (activity : Activity). StepsAs activity m 19 outcome new) stands one)
      by (Some why) so = stays_file (outcomes.Stopped why) so

pub is_worker : (actor : ℕ) → (actor ≡ 17) ⊎ (actor ≡ 18) → IsWorker actor
is_worker actor (inl posts) = inl posts
is_worker actor (inr merges) = inr (inl merges)
