-- What `tidy` leaves of the file that the disk opens to.
use Rattle.std.proofs.Common.{◌≡◌, ◌⊎◌, inl, inr, ℕ, ◌+◌, ◌≤◌, List, [], Some, Result, Ok, Err, sym, subst}
use Rattle.hb_steps.specs.Machines.{Machine}
use Rattle.hb_core.specs.declared.counts.TidyCounts.{TidyCounts}
use Rattle.hb_lemmas.proofs.Options.{at_value, has_value}
use Rattle.hb_disk.proofs.Facts.RunLaws.{Leaves-weaker}
use Rattle.hb_disk.specs.Calls.{Leaves}
use Rattle.hb_ops.specs.Files.{FileState}
use Rattle.hb_ops.specs.Sound.{IsSound}
use Rattle.hb_outside.specs.Streams.{Rose}
use Rattle.hb_restart.specs.Refusals.{GoodIsNotRefused}
use Rattle.hb_sound.specs.Laws.{FullyPostedWalksAreShort}
use Rattle.hb_store.specs.Opening.{IsEven, OpensTo, OpensToOne}
use Rattle.hb_tidy.specs.declared.stops.TidyStop.{TidyStop}
use Rattle.hb_tidy.specs.declared.stops.TidyStop.TheVariants as tidies
use Rattle.hbpi.proofs.Promises.{not_done, opened_late, shut_late}
use Rattle.hbpi.proofs.Reopened.{no_line_yet, pages_of}
use Rattle.hbpi.proofs.SaidWhole.{said_whole, shut_for_memory}
use Rattle.hbpi.specs.Codes.{tidy_status}
use Rattle.hbpi.specs.Drives.{LeavesLate}
use Rattle.hbpi.specs.SeenRuns.{HasFailed, Run}
use Rattle.hbpi.specs.Starts.{StartLaws}
use Rattle.hbpi.specs.Tidied.{HasContents, IsTidied, IsTidiedWhole, KeepsTidied, LeavesTidied, tidied_text}
use Rattle.hbpi.specs.TidyRuns.{SaysTidied, TidiesFile, TidyEnds}
use Rattle.hbpi.specs.declared.statuses.Status.{Status}
use Rattle.hbpi.specs.declared.statuses.Status.TheVariants.{Done, Full, NoMemory, Spent}

-- a tidying that isn't done is no good end
stop_not_done : (stop : TidyStop) → tidy_status stop ≡ Done → ⊥
stop_not_done tidies.Full is = cc (is)
stop_not_done tidies.ReadFault is = cc (is)
stop_not_done tidies.WriteFault is = cc (is)
stop_not_done (tidies.Damaged page why) is = cc (is)
stop_not_done tidies.Spent is = cc (is)
stop_not_done tidies.NoMemory is = cc (is)

module _ (one : OpensToOne) (short : FullyPostedWalksAreShort) (s : FileState) (run : Run) (b : List ℕ) (told : run.before.told ≡ Some b) (opens : OpensTo b s) where
  keeps_by : (after : Machine) (result : Result TidyCounts TidyStop) → TidiesFile run after result → SaysTidied result run.seen.sink_before run.seen.sink_after Done → KeepsTidied s run
  keeps_by after (Ok counts) file said =
      let here = at_value run.before.told _ b told file.told in
      let same : here.0 ≡ s = one b here.0 s here.1 opens in
      let file = here.4.shows.files.durable in
      let ends = subst (λ (f : FileState). IsTidied f run.after here.4.shows.files (Ok counts)) same here.4.ends in
      record {
        counts = counts;
        line = said.0;
        file = file;
        same = ends.0;
        even = ends.1;
        tidy = ends.2;
        grew = ends.3;
        walks = λ lone p rest last point walk. short file p rest last ends.0.sound ends.2.settled lone point walk;
      }
  keeps_by after (Err stop) file said = absurd (stop_not_done stop (sym said.0))

  pub tidy_keeps : TidyEnds run Done → KeepsTidied s run
  tidy_keeps ends = elim ends [
    | inl shut ↦ absurd (not_done shut.0 (sym shut.1))
    | inr opened ↦ elim opened [
      | inl away ↦ cc (away.why.0)
      | inr tidied ↦ keeps_by tidied.0 tidied.1 tidied.2 tidied.3
    ]
  ]

-- ---- where no call failed

abbrev Ends : Status → Type 0
Ends status = (status ≡ Done) ⊎ (status ≡ NoMemory) ⊎ (status ≡ Full) ⊎ (status ≡ Spent)

module _ (s : FileState) (run : Run) (status : Status) (b : List ℕ) (told : run.before.told ≡ Some b) (calm : ¬ (HasFailed run)) (sink : ¬ (Rose run.seen.sink_before.faults run.seen.sink_after.faults)) where
  whole_by : (after : Machine) (result : Result TidyCounts TidyStop) → TidiesFile run after result → SaysTidied result run.seen.sink_before run.seen.sink_after status → Ends status
  whole_by after (Ok counts) file said = inl (said_whole run.seen.sink_before run.seen.sink_after status (tidied_text counts) sink said)
  whole_by after (Err tidies.Full) file said = inr (inr (inl said.0))
  whole_by after (Err tidies.ReadFault) file said = absurd (calm (inl file.why))
  whole_by after (Err tidies.WriteFault) file said = absurd (calm (inr file.why))
  whole_by after (Err (tidies.Damaged page why)) file said = absurd (file.why.0 (has_value run.before.told b told))
  whole_by after (Err tidies.Spent) file said = inr (inr (inr said.0))
  whole_by after (Err tidies.NoMemory) file said = inr (inl said.0)

pub tidy_whole : GoodIsNotRefused → (s : FileState) (run : Run) (status : Status) → TidyEnds run status → IsTidiedWhole s run status
tidy_whole good s run status ends b told opens sound calm sink = elim ends [
  | inl shut ↦ inr (inl (shut_for_memory good s run status b told opens sound calm shut.0 shut.1 shut.2))
  | inr opened ↦ elim opened [
    | inl away ↦ inr (inl away.why.0)
    | inr tidied ↦ whole_by s run status b told calm sink tidied.0 tidied.1 tidied.2 tidied.3
  ]
]

-- ---- what crashes leave

module _ (laws : StartLaws) (s : FileState) (run : Run) (status : Status) (b : List ℕ) (told : run.before.told ≡ Some b) (opens : OpensTo b s) (sound : IsSound s) where
  has_contents : (c : List ℕ) → OpensTo c s → HasContents s c
  has_contents c image = no_line_yet s [] c sound (pages_of laws.walks laws.alone s sound) image

  left_tidied : (after : Machine) (result : Result TidyCounts TidyStop) → TidiesFile run after result → LeavesTidied s run.before run.after after result
  left_tidied after result file =
      let here = at_value run.before.told _ b told file.told in
      subst (λ (f : FileState). LeavesTidied f run.before run.after after result) (laws.one b here.0 s here.1 opens) here.4

  opened_even : (IsEven run.before s → Leaves run.before run.after (λ c. OpensTo c s)) → IsEven run.before s → Leaves run.before run.after (HasContents s)
  opened_even leaves even = Leaves-weaker run.before run.after (λ c. OpensTo c s) (HasContents s) has_contents (leaves even)

  opened_since : LeavesLate run.before run.after (λ c. OpensTo c s) → LeavesLate run.before run.after (HasContents s)
  opened_since late = record { since = late.since; soon = late.soon; each = λ c left. has_contents c (late.each c left) }

  pub tidy_crashes : TidyEnds run status → IsEven run.before s → Leaves run.before run.after (HasContents s)
  tidy_crashes ends = elim ends [
    | inl shut ↦ opened_even (shut.2.leaves.even s)
    | inr opened ↦ elim opened [ inl away ↦ opened_even (away.opened.leaves.even s) | inr tidied ↦ (left_tidied tidied.0 tidied.1 tidied.2).even ]
  ]

  pub tidy_late : TidyEnds run status → run.before.clock + 2 ≤ run.after.clock → LeavesLate run.before run.after (HasContents s)
  tidy_late ends later = elim ends [
    | inl shut ↦ opened_since (shut_late run.before run.after b s told opens (λ c is. at_value run.before.told _ c is shut.2.leaves.late) later)
    | inr opened ↦ elim opened [ inl away ↦ opened_since (opened_late away.k run.before run.after b s away.opened told opens) | inr tidied ↦ (left_tidied tidied.0 tidied.1 tidied.2).late ]
  ]
