-- What a table keeps: its latches, by actor and then by page.
use Rattle.std.specs.Prelude.{ℕ, ◌≤◌, ◌==◌, Bool, not, ◌&&◌, List, map, count_by, IsTrue}
use Rattle.std.specs.List.{All}
use Rattle.std.specs.FinMap.{is_sorted}
use Rattle.hb_latch.specs.declared.latches.TheConstants.{LATCHES}
use Rattle.hb_latch.specs.declared.modes.Mode.{Mode}
use Rattle.hb_latch.specs.declared.entries.Held.{Held}
use Rattle.hb_latch.specs.Modes.{goes_beside}
use Rattle.hb_latch.specs.Tables.{latch_cmp}
use Rattle.hb_space.specs.Actors.{IsActor}

-- whose latch it is, and on which page
abbrev pub key_of : Held → ℕ × ℕ
key_of held = (held.actor, held.page)

-- whether it is another actor's on the page, and doesn't go beside the mode
abbrev pub conflicts : ℕ → ℕ → Mode → Held → Bool
conflicts actor page mode held = (held.page == page) && (not (held.actor == actor) && not (goes_beside mode held.mode))

-- the latches as entries of the table
abbrev pub table_entries : List Held → List ((ℕ × ℕ) × Mode)
table_entries latches = map (λ h. (key_of h, h.mode)) latches

-- their keys rise, their actors are actors, and none has more than it may
pub record IsKept (latches : List Held) : Type 0 where
  pub rising : IsTrue (is_sorted latch_cmp (table_entries latches))
  pub actors : All (λ h. IsActor h.actor) latches
  pub few : (actor : ℕ) → count_by (λ h. h.actor == actor) latches ≤ LATCHES
