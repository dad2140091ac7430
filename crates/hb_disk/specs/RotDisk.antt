-- A disk in which one byte goes bad, as its own contracts see it.
use Rattle.std.specs.Prelude.{length}
use Rattle.hb_disk.specs.Model.{DiskModel}
use Rattle.hb_disk.specs.MemDisk.{bytes_of, SetsByte}
use Rattle.hb_disk.specs.Untold.{untold_of}
use Rattle.hb_disk.specs.declared.mem_disk.MemDisk.{MemDisk}
use Rattle.hb_disk.specs.declared.rot_disk.RotDisk.{RotDisk}

-- the disk that it is: one that tells nothing
abbrev pub hidden : RotDisk → DiskModel
hidden d = untold_of (length (bytes_of d.inner)) d.inner.read_faults d.inner.write_faults

-- P holds of the inner disk as the call found it: with the byte set where its time had come
abbrev pub AfterRot : RotDisk → (MemDisk → Type 0) → Type 0
AfterRot d P = (found : MemDisk) × SetsByte d.before d.at d.byte d.inner found × P found
