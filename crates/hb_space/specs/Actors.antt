-- Who takes steps.
use Rattle.std.specs.Prelude.{ℕ, ◌≤◌}
use Rattle.hb_space.specs.declared.actors.TheConstants.{FLUSHER}

-- a session or one of the workers behind them, the last of which flushes
pub record IsActor (actor : ℕ) : Type 0 where
  pub from_1 : 1 ≤ actor
  pub to_19 : actor ≤ FLUSHER
