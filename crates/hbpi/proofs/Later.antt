-- No count of faults falls in a run, by how it ends.
use Rattle.std.proofs.Common.{◌≡◌, ℕ, ◌≤◌, inl, inr, List, Option, Some, None, Result, Ok, Err, refl, ap, subst, arith, ◌⊎◌}
use Rattle.hb_steps.specs.Machines.{Machine}
use Rattle.hb_core.specs.declared.counts.TidyCounts.{TidyCounts}
use Rattle.hb_disk.specs.Model.{DiskModel}
use Rattle.hb_gen.specs.Spelling.{generated_text}
use Rattle.hb_layout.specs.declared.meta.Meta.{Meta}
use Rattle.hb_outside.specs.Calls.{SinkModel, SourceModel}
use Rattle.hb_restart.specs.Layouts.{first_fault, size_of}
use Rattle.hb_restart.specs.declared.faults.BadField.{BadField}
use Rattle.hb_tidy.specs.declared.stops.TidyStop.{TidyStop}
use Rattle.hbpi.proofs.EndLaws.{check_source, ends_source, gen_source, map_source, tidy_source}
use Rattle.hbpi.specs.Checked.{CheckEnds, sound_text}
use Rattle.hbpi.specs.Driven.{Manner, by_counting, by_schedule, by_threads}
use Rattle.hbpi.specs.Ends.{DryEnds, GenEnds, LeavesDisk, UsageEnds}
use Rattle.hbpi.specs.MadeEnds.{CreateEnds}
use Rattle.hbpi.specs.Mapped.{MapEnds, MapsWith}
use Rattle.hbpi.specs.Runs.{RunEnds}
use Rattle.hbpi.specs.Saying.{IsSaid}
use Rattle.hbpi.specs.Schedules.{CameNot}
use Rattle.hbpi.specs.SeenRuns.{Run, Seen, run_of}
use Rattle.hbpi.specs.StepEnds.{GetsOutput, RanEnds, StepsEnd}
use Rattle.hbpi.specs.Tidied.{tidied_text}
use Rattle.hbpi.specs.TidyRuns.{SaysTidied, TidyEnds}
use Rattle.hbpi.specs.declared.forms.Form.{Form}
use Rattle.hbpi.specs.declared.forms.Form.TheVariants.{Check, Create, Drive, Dry, Gen, Map, Tidy, Work}
use Rattle.hbpi.specs.declared.forms.Form.TheVariants as forms
use Rattle.hbpi.specs.declared.origins.Origin.{Origin}
use Rattle.hbpi.specs.declared.origins.Origin.TheVariants.{Text, Drawn}
use Rattle.hbpi.specs.declared.statuses.Damage.TheVariants as damages
use Rattle.hbpi.specs.declared.statuses.Status.{Status}
use Rattle.hbpi.specs.declared.statuses.Status.TheVariants.{Done, Usage, BadText, SourceFault, SinkFault, DiskFault, Damaged, NoMemory, BadLayout, Small, Full, Spent}

-- a count that is as it was
same_later : (before after : ℕ) → after ≡ before → before ≤ after
same_later before after is = omega (arith, is)

-- ---- the source, where the status says that it failed

came_fault : (origin : Origin) (k : ℕ) (before after : SourceModel) → CameNot origin k before after SourceFault → before.faults ≤ after.faults
came_fault (Text step_lines) k before after why = why.1
came_fault (Drawn state count) k before after why = same_later before.faults after.faults (ap (λ (m : SourceModel). m.faults) why.1)

steps_fault : (by : Manner) (run : Run) → StepsEnd by run SourceFault → run.seen.source_before.faults ≤ run.seen.source_after.faults
steps_fault by run ends = elim ends [
  | inl shut ↦ same_later run.seen.source_before.faults run.seen.source_after.faults shut.2.unread.faults
  | inr opened ↦ elim opened [
    | inl away ↦ came_fault by.origin away.k run.seen.source_before run.seen.source_after away.why
    | inr ran ↦ same_later run.seen.source_before.faults run.seen.source_after.faults ran.1.source
  ]
]

ends_source_fault : (form : Option Form) (run : Run) → RunEnds form run SourceFault → run.seen.source_before.faults ≤ run.seen.source_after.faults
ends_source_fault None run ends = absurd ends
ends_source_fault (Some (Dry k)) run ends = ends.2
ends_source_fault (Some (Create k pages log dcap icap)) run ends = absurd ends
ends_source_fault (Some forms.Run) run ends = steps_fault by_threads run ends
ends_source_fault (Some Drive) run ends = steps_fault by_schedule run ends
ends_source_fault (Some (Work x n)) run ends = steps_fault (by_counting x n) run ends
ends_source_fault (Some Check) run ends = same_later run.seen.source_before.faults run.seen.source_after.faults (check_source run SourceFault ends)
ends_source_fault (Some Map) run ends = same_later run.seen.source_before.faults run.seen.source_after.faults (map_source run SourceFault ends)
ends_source_fault (Some Tidy) run ends = same_later run.seen.source_before.faults run.seen.source_after.faults (tidy_source run SourceFault ends)
ends_source_fault (Some (Gen x n k)) run ends = same_later run.seen.source_before.faults run.seen.source_after.faults (gen_source (generated_text x n k) run.seen SourceFault ends)

-- which it says, or not
is_source_fault : (status : Status) → (status ≡ SourceFault) ⊎ ¬ (status ≡ SourceFault)
is_source_fault SourceFault = inl refl
is_source_fault Done = inr (λ is. cc (is))
is_source_fault Usage = inr (λ is. cc (is))
is_source_fault (BadText bad) = inr (λ is. cc (is))
is_source_fault SinkFault = inr (λ is. cc (is))
is_source_fault DiskFault = inr (λ is. cc (is))
is_source_fault (Damaged damage) = inr (λ is. cc (is))
is_source_fault NoMemory = inr (λ is. cc (is))
is_source_fault (BadLayout field value) = inr (λ is. cc (is))
is_source_fault (Small needed found) = inr (λ is. cc (is))
is_source_fault Full = inr (λ is. cc (is))
is_source_fault Spent = inr (λ is. cc (is))

pub ends_source_later : (form : Option Form) (run : Run) (status : Status) → RunEnds form run status → run.seen.source_before.faults ≤ run.seen.source_after.faults
ends_source_later form run status ends = elim (is_source_fault status) [
  | inl is ↦ ends_source_fault form run (subst (λ (x : Status). RunEnds form run x) is ends)
  | inr other ↦ same_later run.seen.source_before.faults run.seen.source_after.faults (ends_source form run status ends other)
]

-- ---- the sink

said_later : (line : List ℕ) (before after : SinkModel) (status : Status) → IsSaid line before after status → before.faults ≤ after.faults
said_later line before after Done said = same_later before.faults after.faults said.1
said_later line before after SinkFault said = said.2
said_later line before after other said = absurd said

output_later : (before after : SinkModel) (text : List ℕ) (status : Status) → GetsOutput before after text status → before.faults ≤ after.faults
output_later before after text status output = omega (arith, output.same, output.line.put.counts.later)

usage_sink : (seen : Seen) (status : Status) → UsageEnds seen status → seen.sink_before.faults ≤ seen.sink_after.faults
usage_sink seen Usage ends = ends.0.line.put.counts.later
usage_sink seen other ends = absurd ends

dry_sink : (k : ℕ) (seen : Seen) (status : Status) → DryEnds k seen status → seen.sink_before.faults ≤ seen.sink_after.faults
dry_sink k seen Done ends = same_later seen.sink_before.faults seen.sink_after.faults ends.3
dry_sink k seen SinkFault ends = ends.4
dry_sink k seen (BadText bad) ends = ends.3.line.put.counts.later
dry_sink k seen SourceFault ends = ends.1.line.put.counts.later
dry_sink k seen NoMemory ends = ends.0.line.put.counts.later
dry_sink k seen other ends = absurd ends

create_sink : (fault : Option BadField) (needed : ℕ) (run : Run) (status : Status) → CreateEnds fault needed run status → run.seen.sink_before.faults ≤ run.seen.sink_after.faults
create_sink fault needed run Done ends = same_later run.seen.sink_before.faults run.seen.sink_after.faults ends.2
create_sink fault needed run SinkFault ends = ends.3
create_sink fault needed run (BadLayout field value) ends = ends.1.line.put.counts.later
create_sink fault needed run (Small wanted found) ends = ends.3.refused.line.put.counts.later
create_sink fault needed run DiskFault ends = ends.2.refused.line.put.counts.later
create_sink fault needed run NoMemory ends = ends.1.refused.line.put.counts.later
create_sink fault needed run other ends = absurd ends

ran_sink : (by : Manner) (status : Status) (run : Run) (m : Machine) → RanEnds by status run m → run.seen.sink_before.faults ≤ run.seen.sink_after.faults
ran_sink by Done run m ends = same_later run.seen.sink_before.faults run.seen.sink_after.faults ends.3
ran_sink by SinkFault run m ends = ends.4
ran_sink by DiskFault run m ends = output_later run.seen.sink_before run.seen.sink_after (by.in_front run m) DiskFault ends.0
ran_sink by (Damaged damage) run m ends = output_later run.seen.sink_before run.seen.sink_after (by.in_front run m) (Damaged damage) ends.0
ran_sink by other run m ends = absurd ends

steps_sink : (by : Manner) (run : Run) (status : Status) → StepsEnd by run status → run.seen.sink_before.faults ≤ run.seen.sink_after.faults
steps_sink by run status ends = elim ends [
  | inl shut ↦ shut.2.refused.line.put.counts.later
  | inr opened ↦ elim opened [ inl away ↦ away.refused.line.put.counts.later | inr ran ↦ ran_sink by status run ran.0 ran.2 ]
]

check_sink : (run : Run) (status : Status) → CheckEnds run status → run.seen.sink_before.faults ≤ run.seen.sink_after.faults
check_sink run status ends = elim ends [
  | inl shut ↦ shut.2.refused.line.put.counts.later
  | inr checked ↦ said_later (sound_text checked.0.meta checked.1) run.seen.sink_before run.seen.sink_after status checked.3
]

maps_sink : (status : Status) (run : Run) (meta : Meta) (text : List ℕ) → MapsWith status run meta text → run.seen.sink_before.faults ≤ run.seen.sink_after.faults
maps_sink Done run meta text ends = same_later run.seen.sink_before.faults run.seen.sink_after.faults ends.1
maps_sink SinkFault run meta text ends = ends.2
maps_sink DiskFault run meta text ends = output_later run.seen.sink_before run.seen.sink_after ends.0.0 DiskFault ends.0.2
maps_sink (Damaged (damages.Rule page rule)) run meta text ends = output_later run.seen.sink_before run.seen.sink_after ends.0.0 (Damaged (damages.Rule page rule)) ends.0.2
maps_sink (Damaged other) run meta text ends = absurd ends
maps_sink NoMemory run meta text ends = output_later run.seen.sink_before run.seen.sink_after ends.0 NoMemory ends.2
maps_sink other run meta text ends = absurd ends

map_sink : (run : Run) (status : Status) → MapEnds run status → run.seen.sink_before.faults ≤ run.seen.sink_after.faults
map_sink run status ends = elim ends [
  | inl shut ↦ shut.2.refused.line.put.counts.later
  | inr mapped ↦ maps_sink status run mapped.0.meta mapped.1 mapped.4
]

tidied_sink : (result : Result TidyCounts TidyStop) (before after : SinkModel) (status : Status) → SaysTidied result before after status → before.faults ≤ after.faults
tidied_sink (Ok counts) before after status said = said_later (tidied_text counts) before after status said
tidied_sink (Err stop) before after status said = said.1.put.counts.later

tidy_sink : (run : Run) (status : Status) → TidyEnds run status → run.seen.sink_before.faults ≤ run.seen.sink_after.faults
tidy_sink run status ends = elim ends [
  | inl shut ↦ shut.2.refused.line.put.counts.later
  | inr opened ↦ elim opened [
    | inl away ↦ away.refused.line.put.counts.later
    | inr tidied ↦ tidied_sink tidied.1 run.seen.sink_before run.seen.sink_after status tidied.3
  ]
]

gen_sink : (text : List ℕ) (seen : Seen) (status : Status) → GenEnds text seen status → seen.sink_before.faults ≤ seen.sink_after.faults
gen_sink text seen status ends = elim ends [ inl refused ↦ refused.1.line.put.counts.later | inr said ↦ said_later text seen.sink_before seen.sink_after status said.1 ]

pub ends_sink_later : (form : Option Form) (run : Run) (status : Status) → RunEnds form run status → run.seen.sink_before.faults ≤ run.seen.sink_after.faults
ends_sink_later None run status ends = usage_sink run.seen status ends
ends_sink_later (Some (Dry k)) run status ends = dry_sink k run.seen status ends
ends_sink_later (Some (Create k pages log dcap icap)) run status ends = create_sink (first_fault k pages log dcap icap) (size_of pages log) run status ends
ends_sink_later (Some forms.Run) run status ends = steps_sink by_threads run status ends
ends_sink_later (Some Drive) run status ends = steps_sink by_schedule run status ends
ends_sink_later (Some (Work x n)) run status ends = steps_sink (by_counting x n) run status ends
ends_sink_later (Some Check) run status ends = check_sink run status ends
ends_sink_later (Some Map) run status ends = map_sink run status ends
ends_sink_later (Some Tidy) run status ends = tidy_sink run status ends
ends_sink_later (Some (Gen x n k)) run status ends = gen_sink (generated_text x n k) run.seen status ends

-- ---- the disk

abbrev DiskLater : DiskModel → DiskModel → Type 0
DiskLater d e = (d.read_faults ≤ e.read_faults) × (d.write_faults ≤ e.write_faults)

create_disk : (fault : Option BadField) (needed : ℕ) (run : Run) (status : Status) → CreateEnds fault needed run status → DiskLater run.before run.after
create_disk fault needed run Done ends = (same_later run.before.read_faults run.after.read_faults ends.0.faults.reads, same_later run.before.write_faults run.after.write_faults ends.0.faults.writes)
create_disk fault needed run SinkFault ends = (same_later run.before.read_faults run.after.read_faults ends.0.faults.reads, same_later run.before.write_faults run.after.write_faults ends.0.faults.writes)
create_disk fault needed run (BadLayout field value) ends = (same_later run.before.read_faults run.after.read_faults ends.3.reads, same_later run.before.write_faults run.after.write_faults ends.3.writes)
create_disk fault needed run (Small wanted found) ends = (same_later run.before.read_faults run.after.read_faults ends.4.reads, same_later run.before.write_faults run.after.write_faults ends.4.writes)
create_disk fault needed run DiskFault ends = (same_later run.before.read_faults run.after.read_faults ends.3, ends.4)
create_disk fault needed run NoMemory ends = (same_later run.before.read_faults run.after.read_faults ends.2.reads, same_later run.before.write_faults run.after.write_faults ends.2.writes)
create_disk fault needed run other ends = absurd ends

steps_disk : (by : Manner) (run : Run) (status : Status) → StepsEnd by run status → DiskLater run.before run.after
steps_disk by run status ends = elim ends [
  | inl shut ↦ (shut.2.leaves.faults.reads, shut.2.leaves.faults.writes)
  | inr opened ↦ elim opened [
    | inl away ↦ (away.opened.leaves.faults.reads, away.opened.leaves.faults.writes)
    | inr ran ↦ (ran.1.takes.faults.reads, ran.1.takes.faults.writes)
  ]
]

check_disk : (run : Run) (status : Status) → CheckEnds run status → DiskLater run.before run.after
check_disk run status ends = elim ends [
  | inl shut ↦ (shut.2.leaves.faults.reads, shut.2.leaves.faults.writes)
  | inr checked ↦ (checked.2.leaves.faults.reads, checked.2.leaves.faults.writes)
]

map_disk : (run : Run) (status : Status) → MapEnds run status → DiskLater run.before run.after
map_disk run status ends = elim ends [
  | inl shut ↦ (shut.2.leaves.faults.reads, shut.2.leaves.faults.writes)
  | inr mapped ↦ (mapped.2.1.leaves.faults.reads, mapped.2.1.leaves.faults.writes)
]

tidy_disk : (run : Run) (status : Status) → TidyEnds run status → DiskLater run.before run.after
tidy_disk run status ends = elim ends [
  | inl shut ↦ (shut.2.leaves.faults.reads, shut.2.leaves.faults.writes)
  | inr opened ↦ elim opened [
    | inl away ↦ (away.opened.leaves.faults.reads, away.opened.leaves.faults.writes)
    | inr tidied ↦ (tidied.2.faults.reads, tidied.2.faults.writes)
  ]
]

module _ {X : Type 0} (M : X → DiskModel) (seen : Seen) (old new : X) (status : Status) where
  -- a disk that is as it was
  kept_disk : new ≡ old → DiskLater (M old) (M new)
  kept_disk is = (
    same_later (M old).read_faults (M new).read_faults (ap (λ (x : X). (M x).read_faults) is),
    same_later (M old).write_faults (M new).write_faults (ap (λ (x : X). (M x).write_faults) is),
  )

  pub ends_disk_later : (form : Option Form) → RunEnds form (run_of M seen (M old) (M new)) status → (LeavesDisk form status → new ≡ old) → DiskLater (M old) (M new)
  ends_disk_later None ends untouched = kept_disk (untouched tt)
  ends_disk_later (Some (Dry k)) ends untouched = kept_disk (untouched tt)
  ends_disk_later (Some (Create k pages log dcap icap)) ends untouched = create_disk (first_fault k pages log dcap icap) (size_of pages log) (run_of M seen (M old) (M new)) status ends
  ends_disk_later (Some forms.Run) ends untouched = steps_disk by_threads (run_of M seen (M old) (M new)) status ends
  ends_disk_later (Some Drive) ends untouched = steps_disk by_schedule (run_of M seen (M old) (M new)) status ends
  ends_disk_later (Some (Work x n)) ends untouched = steps_disk (by_counting x n) (run_of M seen (M old) (M new)) status ends
  ends_disk_later (Some Check) ends untouched = check_disk (run_of M seen (M old) (M new)) status ends
  ends_disk_later (Some Map) ends untouched = map_disk (run_of M seen (M old) (M new)) status ends
  ends_disk_later (Some Tidy) ends untouched = tidy_disk (run_of M seen (M old) (M new)) status ends
  ends_disk_later (Some (Gen x n k)) ends untouched = kept_disk (untouched tt)
