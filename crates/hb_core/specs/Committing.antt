-- When a core may commit an operation, and what becomes of the file then.
use Rattle.std.specs.Prelude.{◌≡◌, All, List, length, false, Option, Some, None}
use Rattle.hb_disk.specs.Model.{DiskModel}
use Rattle.hb_ops.specs.Files.{FileState, last_of}
use Rattle.hb_ops.specs.Operations.{BoxesMatch, IsLicensed, OpHas}
use Rattle.hb_ops.specs.declared.operations.Op.{Op}
use Rattle.hb_store.specs.Calls.{HasFrameFor, IsAllowedHere, IsReady, read_here, with_op}
use Rattle.hb_store.specs.Keeps.{StoreKeeps}
use Rattle.hb_store.specs.States.{StoreState}
use Rattle.hb_wal.specs.Log.{IsMarkedTo}
use Rattle.hb_core.specs.Showing.{RunningCore}

-- An operation may be committed for a line that joins the order at its end.
pub record MayCommit (d : DiskModel) (c : RunningCore) (op : Op) : Type 0 where
  pub running : c.store.stopped ≡ false
  pub ready : IsReady c.store
  pub points : OpHas c.store.meta.k op
  pub allowed : IsAllowedHere c.store op
  pub boxes : BoxesMatch op (read_here c.store op 0) (read_here c.store op 1) (read_here c.store op 2)
  pub place : HasFrameFor op c.store c.uses
  pub licensed : (durable : FileState) (later : List FileState) → StoreKeeps d c.store durable later → IsLicensed (last_of durable later) op
  pub marks : All (IsMarkedTo (length c.order)) c.store.log.groups

-- what the disk holds of the file goes on with it
abbrev pub later_with : Option Op → FileState → List FileState → List FileState
later_with None durable later = later
later_with (Some op) durable later = with_op durable later op

abbrev pub KeepsFilesBy : Option Op → DiskModel → StoreState → DiskModel → StoreState → Type 0
KeepsFilesBy op d old e new = (durable : FileState) (later : List FileState) → StoreKeeps d old durable later → StoreKeeps e new durable (later_with op durable later)
