-- What each status says of a run of `create`.
use Rattle.std.specs.Prelude.{◌≡◌, ℕ, ◌<◌, ◌≤◌, ◌⊎◌, codes, Option, Some, None}
use Rattle.hb_outside.specs.Streams.{Rose, Appends, AppendsFront}
use Rattle.hbpi.specs.declared.forms.Form.{Form}
use Rattle.hbpi.specs.declared.forms.Form.TheVariants.{Create}
use Rattle.hbpi.specs.declared.statuses.Status.{Status}
use Rattle.hbpi.specs.declared.statuses.Status.TheVariants.{Done, Usage, BadText, SourceFault, SinkFault, DiskFault, Damaged, NoMemory, BadLayout, Small, Full, Spent}
use Rattle.hb_restart.specs.declared.faults.BadField.{BadField}
use Rattle.hb_restart.specs.Layouts.{first_fault, size_of}
use Rattle.hbpi.specs.SeenRuns.{HasNotFailed, IsAlone, IsRefused, IsUnread, Run}

-- a file was made: its layout is within the limits, and the disk has room for it
pub record EndsMaking (fault : Option BadField) (needed : ℕ) (run : Run) : Type 0 where
  pub good : fault ≡ None
  pub large : needed ≤ run.before.size
  pub faults : HasNotFailed run
  pub alone : IsAlone run.seen

-- making a file was refused behind the test of the layout
pub record IsNotMade (fault : Option BadField) (run : Run) (status : Status) : Type 0 where
  pub good : fault ≡ None
  pub refused : IsRefused run.seen status
  pub unread : IsUnread run.seen

-- a new file, whose layout has this bad field and wants so many bytes
abbrev pub CreateEnds : Option BadField → ℕ → Run → Status → Type 0
CreateEnds fault needed run Done = EndsMaking fault needed run × Appends run.seen.sink_before.written run.seen.sink_after.written (codes "created\n") × (run.seen.sink_after.faults ≡ run.seen.sink_before.faults)
CreateEnds fault needed run SinkFault = EndsMaking fault needed run × AppendsFront run.seen.sink_before.written run.seen.sink_after.written (codes "created\n") × Rose run.seen.sink_before.faults run.seen.sink_after.faults × (run.seen.sink_before.faults ≤ run.seen.sink_after.faults)
CreateEnds fault needed run (BadLayout field value) = (fault ≡ Some (record { field = field; value = value })) × IsRefused run.seen (BadLayout field value) × IsUnread run.seen × HasNotFailed run
CreateEnds fault needed run (Small wanted found) = (wanted ≡ needed) × (found ≡ run.before.size) × (run.before.size < needed) × IsNotMade fault run (Small wanted found) × HasNotFailed run
CreateEnds fault needed run DiskFault = (needed ≤ run.before.size) × Rose run.before.write_faults run.after.write_faults × IsNotMade fault run DiskFault × (run.after.read_faults ≡ run.before.read_faults) × (run.before.write_faults ≤ run.after.write_faults)
CreateEnds fault needed run NoMemory = (needed ≤ run.before.size) × IsNotMade fault run NoMemory × HasNotFailed run
CreateEnds fault needed run Usage = ⊥
CreateEnds fault needed run (BadText bad) = ⊥
CreateEnds fault needed run SourceFault = ⊥
CreateEnds fault needed run (Damaged damage) = ⊥
CreateEnds fault needed run Full = ⊥
CreateEnds fault needed run Spent = ⊥

-- A layout within its limits on a disk with room for it is made into a file, unless the disk or the sink failed or memory
-- was refused.
abbrev pub IsMadeWhole : Option Form → Run → Status → Type 0
IsMadeWhole form run status = (k pages log dcap icap : ℕ) → form ≡ Some (Create k pages log dcap icap) → first_fault k pages log dcap icap ≡ None → size_of pages log ≤ run.before.size →
    ¬ (Rose run.before.write_faults run.after.write_faults) → ¬ (Rose run.seen.sink_before.faults run.seen.sink_after.faults) → (status ≡ Done) ⊎ (status ≡ NoMemory)

-- after a status of a file that was made
abbrev pub HasMade : Status → Type 0
HasMade Done = Unit {0}
HasMade SinkFault = Unit {0}
HasMade _ = ⊥
