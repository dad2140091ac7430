-- What a run leaves alone on a disk: what lies behind the end of a file.
use Rattle.std.specs.Prelude.{◌≡◌, ℕ, List, Some}
use Rattle.hb_disk.specs.Model.{DiskModel, Torn}
use Rattle.hb_disk.specs.Calls.{Becomes}
use Rattle.hb_layout.specs.declared.meta.Meta.{Meta}
use Rattle.hb_super.specs.Superblocks.{IsNewest}
use Rattle.hb_layout.specs.Offsets.{file_size}

-- Only the first n bytes may be other ones, of what a read gives and of each image.
abbrev pub KeepsBeyond : ℕ → DiskModel → DiskModel → Type 0
KeepsBeyond n old new = Becomes (Torn 0 n) old new

-- only the bytes of the file by the newest superblock may
abbrev pub KeepsBeyondFile : DiskModel → DiskModel → Type 0
KeepsBeyondFile old new = (b : List ℕ) (turn : ℕ) (said : Meta) → old.told ≡ Some b → IsNewest b turn said → KeepsBeyond (file_size said) old new
