-- What a call makes of the counts of a core: of its steps, and of the operations that they did.
use Rattle.std.specs.Prelude.{◌≡◌, ◌⊎◌, ℕ, ◌-◌, ◌^◌, ◌≤◌, [], length}
use Rattle.hb_ops.specs.declared.operations.Op.{Op}
use Rattle.hb_store.specs.Calls.{KeepsAllButPages}
use Rattle.hb_store.specs.States.{StoreState}
use Rattle.hb_core.specs.Counts.{counted}
use Rattle.hb_outside.specs.Memory.{next_count}
use Rattle.hb_core.specs.CoreUpdates.{with_order_of_use, with_store}
use Rattle.hb_steps.specs.Performing.{DoesOp}
use Rattle.hb_core.specs.Showing.{RunningCore}

-- no count changed
pub record CountsStay (old new : RunningCore) : Type 0 where
  pub taken : new.taken ≡ old.taken
  pub done : new.done ≡ old.done

-- No operation was done: the file says of itself what it said, and no group more waits.
pub record DoesNoOp (old new : StoreState) : Type 0 where
  pub meta : new.meta ≡ old.meta
  pub groups : (new.log.groups ≡ old.log.groups) ⊎ (new.log.groups ≡ [])

-- Or this one was: on the pages in memory, once those that it needs had come, and its group waits with this mark.
pub record DidOp (op : Op) (mark : ℕ) (old new : StoreState) : Type 0 where
  pub came : StoreState
  pub rest : KeepsAllButPages old came
  pub does : DoesOp op mark came new

-- It is counted by its kind. Where none was done nothing is.
abbrev pub CountsOp : ℕ → RunningCore → RunningCore → Type 0
CountsOp actor old new = (DoesNoOp old.store new.store × (new.done ≡ old.done)) ⊎ ((op : Op) × DidOp op (length old.order) old.store new.store × (new.done ≡ counted actor op old.done))

-- A step is counted, too.
pub record CountsStep (actor : ℕ) (old new : RunningCore) : Type 0 where
  pub taken : new.taken ≡ next_count old.taken
  pub done : CountsOp actor old new

-- So is a flush that a caller asks for, which does no operation.
pub record CountsFlush (old new : RunningCore) : Type 0 where
  pub taken : new.taken ≡ next_count old.taken
  pub done : new.done ≡ old.done
  pub no_op : DoesNoOp old.store new.store

-- No more operations of a kind were counted than steps. A core that has taken no step begins so, and each call keeps it; so none of
-- these counts stands still before that of the steps does.
pub record CountsWithin (c : RunningCore) : Type 0 where
  pub last : c.taken ≤ 2 ^ 64 - 1
  pub grown : c.done.grown ≤ c.taken
  pub posted : c.done.posted ≤ c.taken
  pub split : c.done.split ≤ c.taken
  pub merged : c.done.merged ≤ c.taken

-- ---- what the private calls of a step make of them

-- a part of a step, and one that does no operation
pub record CountsPart (actor : ℕ) (old new : RunningCore) : Type 0 where
  pub taken : new.taken ≡ old.taken
  pub done : CountsOp actor old new

pub record CountsNoOp (old new : RunningCore) : Type 0 where
  pub stay : CountsStay old new
  pub no_op : DoesNoOp old.store new.store

-- Pages came at most, or left: all else is as it was.
pub record OnlyBrings (old new : RunningCore) : Type 0 where
  pub pages : KeepsAllButPages old.store new.store
  pub rest : new ≡ with_order_of_use new.uses (with_store new.store old)
