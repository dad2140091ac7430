-- What a worker does next fits its turn.
use Rattle.std.proofs.Common.{◌≡◌, ◌≢◌, ℕ, ◌==◌, Bool, true, false, not, ◌&&◌, List, Some, is_some, inr, refl, sym, ap, ◌∙◌, arith, ne_eqb}
use Rattle.std.proofs.lemmas.Bool.{eq-eqb}
use Rattle.hb_activity.specs.declared.jobs.JobKind.{JobKind}
use Rattle.hb_activity.specs.declared.jobs.JobKind.TheVariants.{Post, Merge}
use Rattle.hb_steps.specs.ProgressLaws.{worker_for}
use Rattle.hb_run.specs.Courses.{Course}
use Rattle.hb_run.specs.Turning.{is_done, jobs_left}
use Rattle.hb_run.specs.GoingOn.{GivesCause, MayGo}
use Rattle.hb_run.specs.Waiting.{signs_of, still_waits}
use Rattle.hb_run.specs.declared.turns.Pause.{Pause}
use Rattle.hb_run.specs.declared.turns.Pause.TheVariants as pauses
use Rattle.hb_run.specs.declared.turns.Turn.TheVariants as turns

module _ (free : Bool) (moves : List ℕ) (c : Course) (runs : is_some c.core.stop ≡ false) where
  -- in a core that runs one waits for a job just where none is left and not all is done
  waits_so : (kind : JobKind) → still_waits (pauses.NoJob kind) (signs_of moves true c) ≡ ((jobs_left kind c.core == 0) && not (is_done c))
  waits_so Post = ap (λ (b : Bool). not b && ((jobs_left Post c.core == 0) && not (is_done c))) runs
  waits_so Merge = ap (λ (b : Bool). not b && ((jobs_left Merge c.core == 0) && not (is_done c))) runs

  pub no_job : (kind : JobKind) (jobs : ℕ) (done : Bool) → jobs ≡ jobs_left kind c.core → done ≡ is_done c → jobs ≡ 0 → not done ≡ still_waits (pauses.NoJob kind) (signs_of moves true c)
  no_job kind jobs done jobs_is done_is none =
      ap not done_is ∙ sym (ap (λ (b : Bool). b && not (is_done c)) (eq-eqb (jobs_left kind c.core) 0 (sym jobs_is ∙ none))) ∙ sym (waits_so kind)

  some_left : (kind : JobKind) → jobs_left kind c.core ≢ 0 → still_waits (pauses.NoJob kind) (signs_of moves true c) ≡ false
  some_left kind some = waits_so kind ∙ ap (λ (b : Bool). b && not (is_done c)) (ne_eqb (jobs_left kind c.core) 0 some)

  pub some_job : (kind : JobKind) (jobs : ℕ) → jobs ≡ jobs_left kind c.core → jobs ≢ 0 → (jobs == 0) ≡ still_waits (pauses.NoJob kind) (signs_of moves true c)
  some_job kind jobs jobs_is some = ne_eqb jobs 0 some ∙ sym (some_left kind (λ none. some (jobs_is ∙ none)))

  pub worker_waits : (kind : JobKind) → jobs_left kind c.core ≡ 0 → is_done c ≡ false → still_waits (pauses.NoJob kind) (signs_of moves true c) ≡ true
  worker_waits kind none undone = waits_so kind ∙ ap (λ (b : Bool). b && not (is_done c)) (eq-eqb (jobs_left kind c.core) 0 none) ∙ ap not undone

  -- a worker waits for jobs of one kind
  own_kind : (kind other : JobKind) → worker_for kind ≡ worker_for other → jobs_left kind c.core ≢ 0 → still_waits (pauses.NoJob other) (signs_of moves true c) ≡ false
  own_kind Post Post same some = some_left Post some
  own_kind Post Merge same some = let apart : 17 ≡ 18 = same in absurd (omega (arith, apart))
  own_kind Merge Post same some = let apart : 18 ≡ 17 = same in absurd (omega (arith, apart))
  own_kind Merge Merge same some = some_left Merge some

  pub worker_goes : (kind : JobKind) (effects : ℕ) → jobs_left kind c.core ≢ 0 → MayGo (worker_for kind) effects free moves c (Some turns.Idle)
  worker_goes kind effects some = record { runs = runs; work = inr (kind, refl, some); come = come }
    where
      come : (pause : Pause) → GivesCause (worker_for kind) effects free moves c (Some turns.Idle) pause → still_waits pause (signs_of moves true c) ≡ false
      come (pauses.NoJob other) same = own_kind kind other same some
      come (pauses.Behind place count) never = absurd never
      come pauses.NotDue never = absurd never
      come (pauses.Unsettled place round) never = absurd never
