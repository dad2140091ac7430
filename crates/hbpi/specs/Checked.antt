-- What a run of `check` leaves, by its status.
use Rattle.std.specs.Prelude.{◌≡◌, ◌⊎◌, ℕ, List, ◌++◌, codes, length}
use Rattle.std.specs.Fmt.{decimal}
use Rattle.hb_layout.specs.declared.meta.Meta.{Meta}
use Rattle.hb_ops.specs.Files.{FileState, file_records}
use Rattle.hb_outside.specs.Streams.{Appends}
use Rattle.hb_restart.specs.declared.faults.OpenFault.{OpenFault}
use Rattle.hb_store.specs.Opening.{IsEven}
use Rattle.hb_store.specs.States.{StoreState}
use Rattle.hbpi.specs.Codes.{status_of}
use Rattle.hbpi.specs.Driven.{IsShutOut, OnlyOpens}
use Rattle.hbpi.specs.Saying.{IsSaid}
use Rattle.hbpi.specs.SeenRuns.{Run}
use Rattle.hbpi.specs.declared.statuses.Status.{Status}

-- the line of a sound file: its height, its pages in use, and its records
abbrev pub sound_text : Meta → ℕ → List ℕ
sound_text meta records = codes "sound height " ++ decimal meta.height ++ codes " pages " ++ decimal meta.live ++ codes " records " ++ decimal records ++ codes "\n"

-- How a run of `check` ends: its file wasn't opened; or it was, and its line was said.
abbrev pub CheckEnds : Run → Status → Type 0
CheckEnds run status =
    ((fault : OpenFault) × (status ≡ status_of fault) × IsShutOut run fault)
    ⊎ ((store : StoreState) × (records : ℕ) × OnlyOpens ⊥ run store records × IsSaid (sound_text store.meta records) run.seen.sink_before run.seen.sink_after status)

-- What follows over a disk that tells and opens to this sound file: the line has its height, its pages in use and the number of its
-- records, and every image opens to it then, so no record was changed.
pub record KeepsChecked (s : FileState) (run : Run) : Type 0 where
  pub line : Appends run.seen.sink_before.written run.seen.sink_after.written (sound_text s.meta (length (file_records s)))
  pub even : IsEven run.after s
