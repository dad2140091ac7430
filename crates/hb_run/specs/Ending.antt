-- Who has ended.
use Rattle.std.specs.Prelude.{◌≡◌, ◌<◌, ℕ, Bool, true, List, length, slice_index_or, Option, Some, None}
use Rattle.hb_space.specs.declared.actors.TheConstants.{CONSOLIDATOR, FLUSHER, POSTER}
use Rattle.hb_run.specs.Waiting.{Signs, has_ended, takes_none}
use Rattle.hb_run.specs.declared.crews.Crew.{Crew}
use Rattle.hb_run.specs.declared.crews.Workers.{Workers}
use Rattle.hb_run.specs.declared.holds.Hand.{Hand}

-- The hand is this actor's, which has ended.
pub record HasEnded (actor : ℕ) (hand : Hand) : Type 0 where
  pub actor_is : hand.seat.actor ≡ actor
  pub ended : has_ended hand.next ≡ true

-- The same actors have ended, in their places.
pub record EachHasEnded (old new : List Hand) : Type 0 where
  pub long : length new ≡ length old
  pub each : (place : ℕ) (other : Hand) → place < length old → HasEnded (slice_index_or old place other).seat.actor (slice_index_or new place other)

-- So have the sessions, and the three workers.
pub record AllHaveEnded (sessions : List Hand) (all : Workers) : Type 0 where
  pub each : EachHasEnded sessions all.sessions.items
  pub posts : HasEnded POSTER all.poster
  pub merges : HasEnded CONSOLIDATOR all.consolidator
  pub flushes : HasEnded FLUSHER all.flusher

-- ---- of who is here, where no thread could be made for it

abbrev pub actor_here : Option Hand → Option ℕ
actor_here None = None
actor_here (Some hand) = Some hand.seat.actor

abbrev pub is_over : Option Hand → Bool
is_over None = true
is_over (Some hand) = has_ended hand.next

abbrev pub takes_none_here : Signs → Option Hand → Bool
takes_none_here s None = true
takes_none_here s (Some hand) = takes_none s hand.next

-- The same are here, for the same workers.
pub record IsSameCrew (old new : Crew) : Type 0 where
  pub posts : actor_here new.poster ≡ actor_here old.poster
  pub merges : actor_here new.consolidator ≡ actor_here old.consolidator
  pub flushes : actor_here new.flusher ≡ actor_here old.flusher

-- All of them have ended.
pub record IsOverFor (crew : Crew) : Type 0 where
  pub posts : is_over crew.poster ≡ true
  pub merges : is_over crew.consolidator ≡ true
  pub flushes : is_over crew.flusher ≡ true
