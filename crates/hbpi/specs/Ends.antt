-- What each status says of a run: its cause, and what it leaves.
use Rattle.std.specs.Prelude.{◌≡◌, ℕ, ◌≤◌, ◌⊎◌, false, List, [], length, Option, Some, None, Ok, Err}
use Rattle.hb_outside.specs.Streams.{Rose, Appends, AppendsFront}
use Rattle.hb_set.specs.declared.scripts.Line.{Line}
use Rattle.hb_text.specs.declared.rules.BadLine.{BadLine}
use Rattle.hb_text.specs.Grammar.{Reading, text_read}
use Rattle.hb_text.specs.Output.{output_text}
use Rattle.hbpi.specs.declared.forms.Form.{Form}
use Rattle.hbpi.specs.declared.forms.Form.TheVariants.{Check, Create, Drive, Dry, Map, Run, Tidy, Work}
use Rattle.hbpi.specs.declared.statuses.Status.{Status}
use Rattle.hbpi.specs.declared.statuses.Status.TheVariants.{Done, Usage, BadText, SourceFault, SinkFault, DiskFault, Damaged, NoMemory, BadLayout, Small, Full, Spent}
use Rattle.hbpi.specs.Created.{IsUnmade}
use Rattle.hbpi.specs.Outcome.{IsTextOf, IsWholeText, IsDryRun}
use Rattle.hbpi.specs.Saying.{IsSaid}
use Rattle.hbpi.specs.SeenRuns.{Seen, IsAlone, IsRefused, IsUnread}

-- the text was read whole and with no fault, says these lines, and they were answered
pub record IsAnswered (k : ℕ) (seen : Seen) (lines : List Line) : Type 0 where
  pub text : List ℕ
  pub whole : IsWholeText seen.source_before.left seen.source_after.left text
  pub says : text_read false k text ≡ Ok (record { lines = lines; steps = [] })
  pub run : IsDryRun lines seen.answered seen.order
  pub faults : seen.source_after.faults ≡ seen.source_before.faults

-- the output of a run in which every line has an answer, and every line of the order is settled
abbrev pub whole_output : Seen → List ℕ
whole_output seen = output_text seen.answered [] false seen.order (length seen.order)

-- the plain record set over k attributes
abbrev pub DryEnds : ℕ → Seen → Status → Type 0
DryEnds k seen Done = (lines : List Line) × IsAnswered k seen lines × Appends seen.sink_before.written seen.sink_after.written (whole_output seen) × (seen.sink_after.faults ≡ seen.sink_before.faults)
DryEnds k seen SinkFault = (lines : List Line) × IsAnswered k seen lines × AppendsFront seen.sink_before.written seen.sink_after.written (whole_output seen) × Rose seen.sink_before.faults seen.sink_after.faults × (seen.sink_before.faults ≤ seen.sink_after.faults)
DryEnds k seen (BadText bad) = (text : List ℕ) × IsTextOf seen.source_before.left seen.source_after.left text × (text_read false k text ≡ Err bad) × IsRefused seen (BadText bad) × (seen.source_after.faults ≡ seen.source_before.faults)
DryEnds k seen SourceFault = Rose seen.source_before.faults seen.source_after.faults × IsRefused seen SourceFault × (seen.source_before.faults ≤ seen.source_after.faults)
DryEnds k seen NoMemory = IsRefused seen NoMemory × (seen.source_after.faults ≡ seen.source_before.faults)
DryEnds k seen Usage = ⊥
DryEnds k seen DiskFault = ⊥
DryEnds k seen (Damaged damage) = ⊥
DryEnds k seen (BadLayout field value) = ⊥
DryEnds k seen (Small needed found) = ⊥
DryEnds k seen Full = ⊥
DryEnds k seen Spent = ⊥

-- words that are no form are refused before anything is read
abbrev pub UsageEnds : Seen → Status → Type 0
UsageEnds seen Usage = IsRefused seen Usage × IsUnread seen
UsageEnds seen _ = ⊥

-- A text was said, or a front of it where the sink failed; or memory for it was refused. Nothing was read.
abbrev pub GenEnds : List ℕ → Seen → Status → Type 0
GenEnds text seen status = ((status ≡ NoMemory) × IsRefused seen NoMemory × IsUnread seen) ⊎ (IsAlone seen × IsSaid text seen.sink_before seen.sink_after status)

-- The disk is as it was: `run`, `work`, `drive`, `check`, `map` and `tidy` may write it, which open its file, and `create` where it makes a file or tries to.
abbrev pub LeavesDisk : Option Form → Status → Type 0
LeavesDisk None status = Unit {0}
LeavesDisk (Some (Create k pages log dcap icap)) status = IsUnmade status
LeavesDisk (Some Run) status = ⊥
LeavesDisk (Some (Work x n)) status = ⊥
LeavesDisk (Some Drive) status = ⊥
LeavesDisk (Some Check) status = ⊥
LeavesDisk (Some Map) status = ⊥
LeavesDisk (Some Tidy) status = ⊥
LeavesDisk (Some form) status = Unit {0}

-- A good text is answered whole, unless the source or the sink failed or memory was refused.
abbrev pub IsComplete : Option Form → Seen → Status → Type 0
IsComplete form seen status = (k : ℕ) (left : List ℕ) (reading : Reading) → form ≡ Some (Dry k) → seen.source_before.left ≡ Some left → text_read false k left ≡ Ok reading → ¬ (Rose seen.source_before.faults seen.source_after.faults) → ¬ (Rose seen.sink_before.faults seen.sink_after.faults) → (status ≡ Done) ⊎ (status ≡ NoMemory)

-- A text that breaks a rule is refused with its first bad line, unless the source failed or memory was refused.
abbrev pub RefusesBadText : Option Form → Seen → Status → Type 0
RefusesBadText form seen status = (k : ℕ) (left : List ℕ) (bad : BadLine) → form ≡ Some (Dry k) → seen.source_before.left ≡ Some left → text_read false k left ≡ Err bad → ¬ (Rose seen.source_before.faults seen.source_after.faults) → (status ≡ BadText bad) ⊎ (status ≡ NoMemory)

-- The line and the rule that are named are the first bad line of all that the source had left, and its first rule.
abbrev pub NamesBadLine : Option Form → Seen → Status → Type 0
NamesBadLine form seen status = (k : ℕ) (left : List ℕ) (bad : BadLine) → form ≡ Some (Dry k) → seen.source_before.left ≡ Some left → status ≡ BadText bad → text_read false k left ≡ Err bad
