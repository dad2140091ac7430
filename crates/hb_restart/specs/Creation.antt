-- What creation puts on a disk before the superblock, what it makes, and what it leaves of the disk.
use Rattle.std.specs.Prelude.{◌≡◌, ℕ, ◌≤◌, List, [], IsSome, replicate, get_or, IsNone}
use Rattle.hb_disk.specs.Model.{DiskModel}
use Rattle.hb_layout.specs.declared.meta.Meta.{Meta}
use Rattle.hb_store.specs.Keeps.{StoreKeeps, IsFresh}
use Rattle.hb_store.specs.Opening.{log_bytes, place_bytes}
use Rattle.hb_store.specs.States.{IsNew, StoreState}
use Rattle.hb_space.specs.declared.form.TheConstants.{PAGE}
use Rattle.hb_super.specs.Moments.{HasNoBody}
use Rattle.hb_outside.specs.Calls.{Counts}
use Rattle.hb_restart.specs.Layouts.{RefusesLayout, layout_fault, layout_size}
use Rattle.hb_restart.specs.NewFiles.{new_file, new_meta}
use Rattle.hb_restart.specs.declared.faults.CreateFault.{CreateFault}
use Rattle.hb_restart.specs.declared.faults.CreateFault.TheVariants.{NoMemory}
use Rattle.hb_restart.specs.declared.layout.Layout.{Layout}
use Rattle.hb_restart.specs.Beyond.{KeepsBeyond}

-- Both superblock places are closed, and that of turn 1 has no body of that turn.
pub record HasEmptyPlaces (c : List ℕ) : Type 0 where
  pub first : get_or c 0 0 ≡ 0
  pub second : get_or c PAGE 0 ≡ 0
  pub no_body : HasNoBody c 1

-- The superblock places are so, the log area of turn 0 is zeros, and the place of page 1 has these bytes.
pub record IsLaidOut (c : List ℕ) (meta : Meta) (page : List ℕ) : Type 0 where
  pub places : HasEmptyPlaces c
  pub log : log_bytes 0 meta c ≡ replicate meta.log 0
  pub there : place_bytes meta 1 c ≡ page

-- a new file of a good layout on a disk that has room for it, and the store over it
pub record MakesStore (layout : Layout) (old new : DiskModel) (store : StoreState) : Type 0 where
  pub good : IsNone (layout_fault layout)
  pub large : layout_size layout ≤ old.size
  pub keeps : IsSome old.told → StoreKeeps new store (new_file layout) []
  pub is_new : IsNew 0 (new_meta layout) store

-- Why there is no store. Memory is refused only once the file is made.
pub record RefusesMaking (layout : Layout) (old new : DiskModel) (fault : CreateFault) : Type 0 where
  pub why : RefusesLayout layout old.size fault
  pub made_anyway : fault ≡ NoMemory → IsSome old.told → IsFresh new 0 (new_meta layout) (new_file layout)

-- what is left of the disk: only the bytes of the file may be other ones, no call reads, and one that writes fails where it fails so
pub record LeavesMaking (layout : Layout) (failed : Type 0) (old new : DiskModel) : Type 0 where
  pub beyond : KeepsBeyond (layout_size layout) old new
  pub writes : Counts failed old.write_faults new.write_faults
  pub reads : new.read_faults ≡ old.read_faults
