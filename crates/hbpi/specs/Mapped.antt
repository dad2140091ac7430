-- What a run of `map` leaves, by its status.
use Rattle.std.specs.Prelude.{◌≡◌, ◌⊎◌, ℕ, ◌≤◌, List, ◌++◌, Option, None, IfSome, Result, Ok, Err}
use Rattle.hb_layout.specs.declared.meta.Meta.{Meta}
use Rattle.hb_map.specs.Map.{head_text, map_text}
use Rattle.hb_map.specs.declared.stops.MapStop.{MapStop}
use Rattle.hb_map.specs.declared.stops.MapStop.TheVariants as stops
use Rattle.hb_ops.specs.Files.{FileState}
use Rattle.hb_outside.specs.Streams.{Appends, AppendsFront, IsFront, Rose}
use Rattle.hb_restart.specs.declared.faults.OpenFault.{OpenFault}
use Rattle.hb_store.specs.Opening.{IsEven, OpensTo}
use Rattle.hb_store.specs.States.{StoreState}
use Rattle.hbpi.specs.Codes.{damage_of, status_of}
use Rattle.hbpi.specs.Driven.{IsShutOut, OnlyOpens}
use Rattle.hbpi.specs.StepEnds.{GetsOutput}
use Rattle.hbpi.specs.SeenRuns.{Run}
use Rattle.hbpi.specs.declared.statuses.Damage.TheVariants as damages
use Rattle.hbpi.specs.declared.statuses.Status.{Status}
use Rattle.hbpi.specs.declared.statuses.Status.TheVariants.{Done, Usage, BadText, SourceFault, SinkFault, DiskFault, Damaged, NoMemory, BadLayout, Small, Full, Spent}

-- the status of a run that put a map, or stopped in it
abbrev pub map_status : {T : Type 0} → Result T MapStop → Status
map_status (Ok done) = Done
map_status (Err stops.SinkFault) = SinkFault
map_status (Err stops.ReadFault) = DiskFault
map_status (Err (stops.Damaged page why)) = Damaged (damage_of page why)
map_status (Err stops.NoMemory) = NoMemory

-- A text is the map of the file that the bytes open to. Where the disk doesn't tell them, only its first line is known.
pub record IsMapText (told : Option (List ℕ)) (meta : Meta) (text : List ℕ) : Type 0 where
  pub first : (rest : List ℕ) × (text ≡ head_text meta ++ rest)
  pub whole : IfSome told (λ b. (s : FileState) × OpensTo b s × (text ≡ map_text s))

-- a front of the text, and behind it the fault line of the status, or a front of that
abbrev pub GetsFront : Run → List ℕ → Status → Type 0
GetsFront run text status = (front : List ℕ) × IsFront front text × GetsOutput run.seen.sink_before run.seen.sink_after front status

-- Why a map ends so, and what was put of it.
abbrev pub MapsWith : Status → Run → Meta → List ℕ → Type 0
MapsWith Done run meta text = Appends run.seen.sink_before.written run.seen.sink_after.written text × (run.seen.sink_after.faults ≡ run.seen.sink_before.faults)
MapsWith SinkFault run meta text = AppendsFront run.seen.sink_before.written run.seen.sink_after.written text × Rose run.seen.sink_before.faults run.seen.sink_after.faults × (run.seen.sink_before.faults ≤ run.seen.sink_after.faults)
MapsWith DiskFault run meta text = GetsFront run text DiskFault × Rose run.before.read_faults run.after.read_faults
MapsWith (Damaged (damages.Rule page rule)) run meta text = GetsFront run text (Damaged (damages.Rule page rule)) × (run.before.told ≡ None) × (1 ≤ page) × (page ≤ meta.high)
MapsWith (Damaged other) run meta text = ⊥
MapsWith NoMemory run meta text = GetsFront run text NoMemory
MapsWith Usage run meta text = ⊥
MapsWith (BadText bad) run meta text = ⊥
MapsWith SourceFault run meta text = ⊥
MapsWith (BadLayout field value) run meta text = ⊥
MapsWith (Small needed found) run meta text = ⊥
MapsWith Full run meta text = ⊥
MapsWith Spent run meta text = ⊥

-- How a run of `map` ends: its file wasn't opened; or it was, and its map was put or a front of it.
abbrev pub MapEnds : Run → Status → Type 0
MapEnds run status =
    ((fault : OpenFault) × (status ≡ status_of fault) × IsShutOut run fault)
    ⊎ ((store : StoreState) × (text : List ℕ) × ((records : ℕ) × OnlyOpens (status ≡ DiskFault) run store records) × IsMapText run.before.told store.meta text × MapsWith status run store.meta text)

-- What follows over a disk that tells and opens to this sound file: the map is that file's, and every image opens to it then.
pub record KeepsMapped (s : FileState) (run : Run) : Type 0 where
  pub text : Appends run.seen.sink_before.written run.seen.sink_after.written (map_text s)
  pub even : IsEven run.after s
