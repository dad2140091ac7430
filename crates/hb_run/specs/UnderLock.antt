-- What a turn does to what the lock has.
use Rattle.std.specs.Prelude.{◌≡◌, ◌≢◌, ◌⊎◌, ◌≤◌, ℕ, ◌-◌, ◌==◌, Bool, true, false, not, List, ◌||◌, ◌&&◌, Some}
use Rattle.std.specs.List.{slice_get}
use Rattle.hb_space.specs.declared.actors.TheConstants.{SESSIONS, FLUSHER}
use Rattle.hb_outside.specs.Memory.{next_count}
use Rattle.hb_run.specs.Courses.{Course}
use Rattle.hb_run.specs.Waiting.{Signs, signs_of, still_waits}
use Rattle.hb_run.specs.declared.turns.Next.{Next}
use Rattle.hb_run.specs.declared.turns.Next.TheVariants as nexts

-- What clauses see of what the lock has: what those who wait look at, and what each session does next, session 1 first.
pub record Board : Type 0 where
  pub signs : Signs
  pub nexts : List Next

abbrev pub board_of : List ℕ → Bool → List Next → Course → Board
board_of moves coming nexts c = record { signs = signs_of moves coming c; nexts = nexts }

-- it is time for who flushes
abbrev pub is_time : Signs → Bool
is_time s = s.stopped || (not (s.left == 0) && s.due)

-- What an actor may do then. It goes on where the core isn't stopped, waits for what hasn't come, as if somebody came, and ends where the
-- core is stopped; a session also where it has no line left, a worker where all is done, and who flushes where each line has an answer.
abbrev pub MaySay : ℕ → Signs → Next → Type 0
MaySay actor s nexts.Goes = s.stopped ≡ false
MaySay actor s (nexts.Waits pause) = still_waits pause (record s { coming = true }) ≡ true
MaySay actor s nexts.Ends = (s.stopped ≡ true) ⊎ (actor ≤ SESSIONS) ⊎ (s.done ≡ true) ⊎ ((actor ≡ FLUSHER) × (s.left ≡ 0))

-- One turn of the core was taken, or none: by who flushes, while it isn't time. It does what may be done then, and if it is a session, that
-- is noted there, and nothing else.
pub record TakesOneTurn (actor : ℕ) (next : Next) (old new : Board) : Type 0 where
  pub one : ((new ≡ old) × (actor ≡ FLUSHER) × (is_time old.signs ≡ false)) ⊎ (new.signs.taken ≡ next_count old.signs.taken)
  pub says : MaySay actor new.signs next
  pub noted : actor ≤ SESSIONS → slice_get new.nexts (actor - 1) ≡ Some next
  pub others : (other : ℕ) → other ≢ actor - 1 → slice_get new.nexts other ≡ slice_get old.nexts other
