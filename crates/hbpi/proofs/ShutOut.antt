-- A run whose file wasn't opened.
use Rattle.std.proofs.Common.{◌≡◌, sym, subst, ◌∙◌}
use Rattle.hb_disk.specs.Calls.{OnlyReads}
use Rattle.hb_disk.specs.Model.{DiskModel}
use Rattle.hb_restart.specs.Leaving.{LeavesOpening}
use Rattle.hb_restart.specs.Refusals.{IsRefusal, IsUnwritten}
use Rattle.hb_restart.specs.declared.faults.OpenFault.{OpenFault}
use Rattle.hb_restart.specs.declared.faults.OpenFault.TheVariants.{DiskFault}
use Rattle.hbpi.specs.Codes.{status_of}
use Rattle.hbpi.specs.Driven.{IsShutOut}
use Rattle.hbpi.specs.Handing.{HandsBack}
use Rattle.hbpi.specs.Outcome.{GetsLine, fault_line}
use Rattle.hbpi.specs.SeenRuns.{IsUnread, Seen, run_of}
use Rattle.hbpi.specs.declared.statuses.Status.{Status}

pub shut_out : {X : Type 0} (M : X → DiskModel) (old found last : X) (seen : Seen) (fault : OpenFault) (asked status : Status) → HandsBack asked status seen.sink_before seen.sink_after seen.answered seen.order found last → asked ≡ status_of fault → IsUnread seen
    → IsRefusal (M old) fault → (IsUnwritten fault → OnlyReads (M old) (M found)) → LeavesOpening (fault ≡ DiskFault) (M old) (M found)
    → (fault : OpenFault) × (status ≡ status_of fault) × IsShutOut (run_of M seen (M old) (M last)) fault
shut_out {X = X} M old found last seen fault asked status back of unread why unwritten leaves = (
  fault,
  back.status_is ∙ of,
  subst (λ (x : X). IsShutOut (run_of M seen (M old) (M x)) fault) (sym back.disk_is) (record {
    refused = record {
      line = subst (λ (x : Status). GetsLine seen.sink_before seen.sink_after (fault_line x)) of back.line;
      none_answered = back.none_answered;
      none_ordered = back.none_ordered;
    };
    unread = unread;
    why = why;
    unwritten = unwritten;
    leaves = leaves;
  }),
)
