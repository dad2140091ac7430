-- Who takes turns.
use Rattle.std.specs.Prelude.{◌≡◌, ℕ, ◌==◌, ◌<◌, ◌≤◌, Bool, if◌then◌else◌, List, count_by}
use Rattle.std.specs.List.{list_any}
use Rattle.hb_set.specs.declared.scripts.Line.{Line}

abbrev pub has_line : List Line → ℕ → Bool
has_line lines session = list_any (λ (line : Line). line.session == session) lines

-- Of the sessions up to this one each that has a line is there, once, and nobody behind them is.
pub record AreSessionsTo (last : ℕ) (lines : List Line) (actors : List ℕ) : Type 0 where
  pub sessions : (session : ℕ) → 1 ≤ session → session ≤ last → count_by (λ a. a == session) actors ≡ (if has_line lines session then 1 else 0)
  pub nobody_else : (actor : ℕ) → last < actor → count_by (λ a. a == actor) actors ≡ 0
