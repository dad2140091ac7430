-- Whoever waited for what a turn brought is rung.
use Rattle.std.proofs.Common.{◌≡◌, ℕ, ◌==◌, nat_lt, Bool, true, false, not, ◌||◌, ◌&&◌, List, is_some, refl, sym, ap, ◌∙◌}
use Rattle.std.specs.List.{slice_get}
use Rattle.std.proofs.lemmas.Bool.{false≢true, and_parts, or_right}
use Rattle.hb_activity.specs.declared.jobs.JobKind.TheVariants.{Post, Merge}
use Rattle.hb_lemmas.proofs.Booleans.{if_same}
use Rattle.hb_run.specs.Courses.{Course}
use Rattle.hb_run.specs.Ringing.{IsNews, rings}
use Rattle.hb_run.specs.Turning.{CountsMove, is_done, is_due, jobs_left, round_of, settled_of}
use Rattle.hb_run.specs.Waiting.{is_so, signs_of, still_waits}
use Rattle.hb_run.specs.declared.turns.News.{News}
use Rattle.hb_run.specs.declared.turns.Pause.{Pause}
use Rattle.hb_run.specs.declared.turns.Pause.TheVariants as pauses
use Rattle.std.proofs.Math.Bool.{and-true}

-- what waits for two things, of which one has come
come : (stopped none : Bool) → (not stopped && none) ≡ false → stopped ≡ false → none ≡ false
come true none is runs = absurd (false≢true (sym runs))
come false none is runs = is

-- it rings where the core is stopped, and else for what came
rung : (stopped bell : Bool) → (stopped ≡ false → bell ≡ true) → (stopped || bell) ≡ true
rung true bell else = refl
rung false bell else = else refl

-- no job is left and yet not all is done: of one of the two it has come
job_came : (none done : Bool) → (none && not done) ≡ false → (not none || done) ≡ true
job_came true true is = refl
job_came true false is = absurd (false≢true (sym is))
job_came false done is = refl

-- and so of flushing
due_came : (none due : Bool) → (not none && not due) ≡ false → (none || due) ≡ true
due_came true due is = refl
due_came false true is = refl
due_came false false is = absurd (false≢true (sym is))

-- and so of a place of the order: it was settled, or the round has ended, or nobody comes
place_came : (place round s t r q : ℕ) (was_coming coming : Bool) → ((not (nat_lt place s) && (r == round)) && was_coming) ≡ true → ((not (nat_lt place t) && (q == round)) && coming) ≡ false
    → (not ((s == t) && (r == q)) || not coming) ≡ true
place_came place round s t r q was_coming false was gone = or_right (not ((s == t) && (r == q))) true refl
place_came place round s t r q was_coming true was gone =
    if_same s t (λ b. (not (b && (r == q)) || false) ≡ true)
    (λ same. if_same r q (λ b. (not (true && b) || false) ≡ true)
    (λ also. absurd (false≢true (sym gone ∙ and-true (not (nat_lt place t) && (q == round)) ∙ ap (λ n. not (nat_lt place t) && (n == round)) (sym also) ∙ ap (λ n. not (nat_lt place n) && (r == round)) (sym same)
    ∙ (and_parts (not (nat_lt place s) && (r == round)) was_coming was).0)))
    (λ apart. refl))
    (λ apart. refl)

module _ (mover : ℕ) (moved : Bool) (before after : List ℕ) (coming_before coming : Bool) (old new : Course) (news : News) (tells : IsNews mover moved (settled_of old.core) (round_of old.core.taken) coming new news) (counts : CountsMove mover moved before after) where
  -- who waits behind an actor that changed something
  moved_on : (place count : ℕ) → is_so count (slice_get before place) ≡ true → is_so count (slice_get after place) ≡ false → (moved && (mover == place)) ≡ true
  moved_on place count was gone = by moved refl
    where
      same : (slice_get after place ≡ slice_get before place) → ⊥
      same is = false≢true (sym gone ∙ ap (is_so count) is ∙ was)

      by : (b : Bool) → moved ≡ b → (b && (mover == place)) ≡ true
      by false is = absurd (same (ap (λ (l : List ℕ). slice_get l place) (counts.still is)))
      by true is = if_same mover place (λ b. b ≡ true) (λ here. refl) (λ apart. absurd (same (counts.others place (λ here. apart (sym here)))))

  pub wakes_all : (pause : Pause) → still_waits pause (signs_of before coming_before old) ≡ true → still_waits pause (signs_of after coming new) ≡ false → rings news pause ≡ true
  wakes_all (pauses.Behind place count) was gone =
      rung news.stopped (news.moved && (news.place == place)) (λ runs.
      ap (λ (b : Bool). b && (news.place == place)) tells.moved_is
      ∙ ap (λ (n : ℕ). moved && (n == place)) tells.place_is
      ∙ moved_on place count (and_parts (not (is_some old.core.stop)) (is_so count (slice_get before place)) was).1 (come (is_some new.core.stop) (is_so count (slice_get after place)) gone (sym tells.stopped ∙ runs)))
  wakes_all (pauses.NoJob Post) was gone =
      rung news.stopped news.posts (λ runs. tells.posts ∙ job_came (jobs_left Post new.core == 0) (is_done new) (come (is_some new.core.stop) ((jobs_left Post new.core == 0) && not (is_done new)) gone (sym tells.stopped ∙ runs)))
  wakes_all (pauses.NoJob Merge) was gone =
      rung news.stopped news.merges (λ runs. tells.merges ∙ job_came (jobs_left Merge new.core == 0) (is_done new) (come (is_some new.core.stop) ((jobs_left Merge new.core == 0) && not (is_done new)) gone (sym tells.stopped ∙ runs)))
  wakes_all pauses.NotDue was gone =
      rung news.stopped news.flushes (λ runs. tells.flushes ∙ due_came (new.left == 0) (is_due new.core) (come (is_some new.core.stop) (not (new.left == 0) && not (is_due new.core)) gone (sym tells.stopped ∙ runs)))
  wakes_all (pauses.Unsettled place round) was gone =
      rung news.stopped news.settles (λ runs. tells.settles ∙ place_came place round (settled_of old.core) (settled_of new.core) (round_of old.core.taken) (round_of new.core.taken) coming_before coming
      (and_parts (not (is_some old.core.stop)) ((not (nat_lt place (settled_of old.core)) && (round_of old.core.taken == round)) && coming_before) was).1
      (come (is_some new.core.stop) ((not (nat_lt place (settled_of new.core)) && (round_of new.core.taken == round)) && coming) gone (sym tells.stopped ∙ runs)))
