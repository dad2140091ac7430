-- What it takes to do an operation in memory, and what is so once it was done.
use Rattle.std.specs.Prelude.{◌≡◌, ℕ, false, [], ◌∷◌, ◌++◌, All}
use Rattle.hb_ops.specs.declared.operations.Op.{Op}
use Rattle.hb_ops.specs.SetPages.{has_page}
use Rattle.hb_log_codec.specs.Groups.{group_bytes}
use Rattle.hb_wal.specs.Log.{IsMarkedTo}
use Rattle.hb_store.specs.Calls.{Commits, HasFrameFor, IsReady, StaysHere, change_here, numbers_changed, use_changed}
use Rattle.hb_store.specs.Held.{StoreHeld}
use Rattle.hb_store.specs.Making.{IsDoableHere, MakesWell, group_here}
use Rattle.hb_store.specs.States.{in_memory}

-- An operation may be committed: the store is ready, can do it, and has a place for the page that it makes; and no group
-- that waits has a later mark.
pub record CanCommit (op : Op) (mark : ℕ) (held : StoreHeld) : Type 0 where
  pub ready : IsReady held.state
  pub can : IsDoableHere op held.state
  pub place : HasFrameFor op held.state held.uses
  pub marks : All (IsMarkedTo mark) held.state.log.groups

-- An operation was committed.
pub record CommitsHere (op : Op) (mark : ℕ) (old new : StoreHeld) : Type 0 where
  pub commits : Commits op mark old.state new.state
  -- its group waits, with images of the pages as they were
  pub group : new.state.log.groups ≡ old.state.log.groups ++ record { bytes = group_bytes (group_here old.state op); mark = mark } ∷ []
  -- the pages that it changes are last in the order of use
  pub uses : new.uses ≡ use_changed (numbers_changed old.state op) old.uses
  -- a page that is dirty or pinned, and isn't changed, is there as it was
  pub stays : (id : ℕ) → has_page id (change_here old.state op).pages ≡ false → StaysHere old.uses id → in_memory new.state id ≡ in_memory old.state id
  -- what it makes is a good change, and its group fits the log
  pub well : MakesWell op old.state
