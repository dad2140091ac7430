-- All that is said of a run, from its row and what it leaves of the disk.
use Rattle.std.proofs.Common.{◌≡◌, inl, inr, Option, Some, None, sym, subst}
use Rattle.hb_disk.specs.Model.{DiskModel}
use Rattle.hb_restart.specs.Beyond.{KeepsBeyondFile}
use Rattle.hbpi.proofs.EndLaws.{ends_complete, ends_made, ends_names, ends_refuses, ends_source, ends_usage}
use Rattle.hbpi.proofs.Later.{ends_disk_later, ends_sink_later, ends_source_later}
use Rattle.hbpi.proofs.Promised.{keeps_check, keeps_map}
use Rattle.hbpi.specs.Checked.{CheckEnds}
use Rattle.hbpi.specs.Ends.{LeavesDisk, UsageEnds}
use Rattle.hbpi.specs.Handing.{HandsBack}
use Rattle.hbpi.specs.Mapped.{MapEnds}
use Rattle.hbpi.specs.Promised.{KeepsForm}
use Rattle.hbpi.specs.Runs.{LeavesBeyond, LeavesFile, RunEnds, RunsForm}
use Rattle.hbpi.specs.SeenRuns.{IsUnread, Run, Seen, run_of}
use Rattle.hbpi.specs.Starts.{StartLaws}
use Rattle.hbpi.specs.declared.forms.Form.{Form}
use Rattle.hbpi.specs.declared.forms.Form.TheVariants.{Check, Map}
use Rattle.hbpi.specs.declared.statuses.Status.{Status}
use Rattle.hbpi.specs.declared.statuses.Status.TheVariants.{Usage}

pub runs_form : {X : Type 0} (M : X → DiskModel) (form : Option Form) (seen : Seen) (old new : X) (status : Status) → RunEnds form (run_of M seen (M old) (M new)) status → LeavesFile form (run_of M seen (M old) (M new)) status
    → LeavesBeyond form (run_of M seen (M old) (M new)) → (LeavesDisk form status → new ≡ old) → KeepsForm form (run_of M seen (M old) (M new)) status → RunsForm M form seen old new status
runs_form M form seen old new status ends file beyond untouched keeps =
    let run : Run = run_of M seen (M old) (M new) in
    let disk = ends_disk_later M seen old new status form ends untouched in
    record {
      ends = record {
        ends = ends;
        file = file;
        beyond = beyond;
        counts = record {
          exact = ends_source form run status ends;
          source = ends_source_later form run status ends;
          sink = ends_sink_later form run status ends;
          reads = disk.0;
          writes = disk.1;
        };
        usage = ends_usage form run status ends;
        complete = ends_complete form run status ends;
        refuses = ends_refuses form run status ends;
        names = ends_names form run status ends;
        made = ends_made form run status ends;
        keeps = keeps;
      };
      untouched = untouched;
    }

-- so of a form that is known to be another one
pub of_form : {X : Type 0} {M : X → DiskModel} {seen : Seen} {old new : X} {status : Status} {known form : Option Form} → known ≡ form → RunsForm M known seen old new status → RunsForm M form seen old new status
of_form {M = M} {seen = seen} {old = old} {new = new} {status = status} is runs = subst (λ (form : Option Form). RunsForm M form seen old new status) is runs

-- words that are no form
pub refused_words : {X : Type 0} (M : X → DiskModel) (seen : Seen) (old new : X) (status : Status) → HandsBack Usage status seen.sink_before seen.sink_after seen.answered seen.order old new → IsUnread seen → RunsForm M None seen old new status
refused_words M seen old new status back unread =
    let ends : UsageEnds seen Usage = (record { line = back.line; none_answered = back.none_answered; none_ordered = back.none_ordered }, unread) in
    runs_form M None seen old new status (subst (λ (x : Status). UsageEnds seen x) (sym back.status_is) ends) tt tt (λ leaves. back.disk_is) tt

-- what lies behind the file is as it was where nothing was done but open it
pub check_runs : StartLaws → {X : Type 0} (M : X → DiskModel) (seen : Seen) (old new : X) (status : Status) → CheckEnds (run_of M seen (M old) (M new)) status → RunsForm M (Some Check) seen old new status
check_runs laws M seen old new status ends =
    let beyond : KeepsBeyondFile (M old) (M new) = elim ends [ inl shut ↦ shut.2.leaves.beyond | inr checked ↦ checked.2.leaves.beyond ] in
    runs_form M (Some Check) seen old new status ends tt beyond (λ leaves. absurd leaves) (keeps_check laws (run_of M seen (M old) (M new)) status ends)

pub map_runs : StartLaws → {X : Type 0} (M : X → DiskModel) (seen : Seen) (old new : X) (status : Status) → MapEnds (run_of M seen (M old) (M new)) status → RunsForm M (Some Map) seen old new status
map_runs laws M seen old new status ends =
    let beyond : KeepsBeyondFile (M old) (M new) = elim ends [ inl shut ↦ shut.2.leaves.beyond | inr mapped ↦ mapped.2.1.leaves.beyond ] in
    runs_form M (Some Map) seen old new status ends tt beyond (λ leaves. absurd leaves) (keeps_map laws (run_of M seen (M old) (M new)) status ends)
