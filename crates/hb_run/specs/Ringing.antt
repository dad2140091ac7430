-- For whom a turn is news, and whose bells ring.
use Rattle.std.specs.Prelude.{◌≡◌, ◌<◌, ◌≤◌, ℕ, ◌==◌, nat_lt, if◌then◌else◌, Bool, true, false, not, List, ◌||◌, ◌&&◌, Option, Some, None, is_some}
use Rattle.std.specs.List.{slice_get}
use Rattle.hb_space.specs.declared.actors.TheConstants.{ACTORS}
use Rattle.hb_activity.specs.declared.jobs.JobKind.TheVariants.{Post, Merge}
use Rattle.hb_run.specs.Courses.{Course}
use Rattle.hb_run.specs.Turning.{is_done, is_due, jobs_left, round_of, settled_of}
use Rattle.hb_run.specs.Waiting.{Signs, still_waits}
use Rattle.hb_run.specs.declared.turns.Pause.{Pause}
use Rattle.hb_run.specs.declared.turns.Pause.TheVariants as pauses
use Rattle.hb_run.specs.declared.turns.News.{News}
use Rattle.hb_run.specs.declared.ringing.TheConstants.{ANY, BELLS, POSTS, MERGES, FLUSHES, SETTLES}

-- What a turn tells, before which so many places were settled in a round, and whose bells ring for it.
pub record IsNews (place : ℕ) (moved : Bool) (settled round : ℕ) (coming : Bool) (c : Course) (news : News) : Type 0 where
  pub place_is : news.place ≡ place
  pub moved_is : news.moved ≡ moved
  pub stopped : news.stopped ≡ is_some c.core.stop
  pub posts : news.posts ≡ not (jobs_left Post c.core == 0) || is_done c
  pub merges : news.merges ≡ not (jobs_left Merge c.core == 0) || is_done c
  pub flushes : news.flushes ≡ (c.left == 0) || is_due c.core
  pub settles : news.settles ≡ not ((settled == settled_of c.core) && (round == round_of c.core.taken)) || not coming

abbrev pub rings : News → Pause → Bool
rings news (pauses.Behind place moves) = news.stopped || (news.moved && (news.place == place))
rings news (pauses.NoJob Post) = news.stopped || news.posts
rings news (pauses.NoJob Merge) = news.stopped || news.merges
rings news pauses.NotDue = news.stopped || news.flushes
rings news (pauses.Unsettled place round) = news.stopped || news.settles

-- No wake-up is lost: whoever waited for what a turn brought is rung.
abbrev pub WakesAll : News → Signs → Signs → Type 0
WakesAll news old new = (pause : Pause) → still_waits pause old ≡ true → still_waits pause new ≡ false → rings news pause ≡ true

-- The place of the bell of what is waited for. Behind nobody there is none.
abbrev pub bell_of : Pause → Option ℕ
bell_of (pauses.Behind place moves) = if nat_lt place ACTORS then Some place else None
bell_of (pauses.NoJob Post) = Some POSTS
bell_of (pauses.NoJob Merge) = Some MERGES
bell_of pauses.NotDue = Some FLUSHES
bell_of (pauses.Unsettled place round) = Some SETTLES

-- Of the bells below a place just those were rung that ring for the news: who waits by one is rung where the news is for it, and a thread
-- that does several actors' turns is. None of the others was.
pub record RingsBelow (last : ℕ) (news : News) (rung : List Bool) : Type 0 where
  pub pauses : (pause : Pause) (place : ℕ) → bell_of pause ≡ Some place → place < last → slice_get rung place ≡ Some (rings news pause)
  pub any : ANY < last → slice_get rung ANY ≡ Some true
  pub others : (place : ℕ) → last ≤ place → place < BELLS → slice_get rung place ≡ Some false

abbrev pub RingsFor : News → List Bool → Type 0
RingsFor news rung = RingsBelow BELLS news rung
