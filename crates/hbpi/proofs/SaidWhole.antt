-- Where a sink didn't fail a line is said whole, and a good file is opened where the disk didn't, unless memory is refused.
use Rattle.std.proofs.Common.{◌≡◌, inl, inr, ℕ, List, Some, refl, ap, ◌∙◌}
use Rattle.hb_lemmas.proofs.Options.{at_value}
use Rattle.hb_ops.specs.Files.{FileState}
use Rattle.hb_ops.specs.Sound.{IsSound}
use Rattle.hb_outside.specs.Calls.{SinkModel}
use Rattle.hb_outside.specs.Streams.{Rose}
use Rattle.hb_restart.specs.Refusals.{GoodIsNotRefused}
use Rattle.hb_restart.specs.declared.faults.OpenFault.{OpenFault}
use Rattle.hb_store.specs.Opening.{OpensTo}
use Rattle.hbpi.specs.Codes.{status_of}
use Rattle.hbpi.specs.Driven.{IsShutOut}
use Rattle.hbpi.specs.Saying.{IsSaid}
use Rattle.hbpi.specs.SeenRuns.{HasFailed, Run}
use Rattle.hbpi.specs.declared.statuses.Status.{Status}
use Rattle.hbpi.specs.declared.statuses.Status.TheVariants.{Done, Usage, BadText, SourceFault, SinkFault, DiskFault, Damaged, NoMemory, BadLayout, Small, Full, Spent}

pub said_whole : (before after : SinkModel) (status : Status) (line : List ℕ) → ¬ (Rose before.faults after.faults) → IsSaid line before after status → status ≡ Done
said_whole before after Done line sink said = refl
said_whole before after SinkFault line sink said = absurd (sink said.1)
said_whole before after Usage line sink said = absurd said
said_whole before after (BadText bad) line sink said = absurd said
said_whole before after SourceFault line sink said = absurd said
said_whole before after DiskFault line sink said = absurd said
said_whole before after (Damaged damage) line sink said = absurd said
said_whole before after NoMemory line sink said = absurd said
said_whole before after (BadLayout field value) line sink said = absurd said
said_whole before after (Small needed found) line sink said = absurd said
said_whole before after Full line sink said = absurd said
said_whole before after Spent line sink said = absurd said

pub shut_for_memory : GoodIsNotRefused → (s : FileState) (run : Run) (status : Status) (b : List ℕ) → run.before.told ≡ Some b → OpensTo b s → IsSound s → ¬ (HasFailed run)
    → (fault : OpenFault) → status ≡ status_of fault → IsShutOut run fault → status ≡ NoMemory
shut_for_memory good s run status b told opens sound calm fault is shut = elim (good fault b s opens sound (at_value run.before.told _ b told shut.why.why)) [
  | inl failed ↦ absurd (calm (shut.leaves.faults.cause failed))
  | inr none ↦ is ∙ ap status_of none
]
