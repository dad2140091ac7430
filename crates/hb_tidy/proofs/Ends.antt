-- How a tidying ends.
use Rattle.std.proofs.Common.{◌≡◌, ◌-◌, ◌^◌, [], Option, None, Some, IfSome, Result, Ok, Err, refl, sym, ap, ◌∙◌, subst}
use Rattle.hb_lemmas.proofs.Options.{if_value}
use Rattle.hb_disk.proofs.Facts.RunLaws.{OnlyReads-none}
use Rattle.hb_disk.specs.Model.{DiskModel, IsDisk}
use Rattle.hb_ops.specs.Files.{FileState}
use Rattle.hb_steps.specs.Machines.{Machine}
use Rattle.hb_core.specs.Runs.{RunningLaws}
use Rattle.hb_core.specs.Showing.{RunningCore}
use Rattle.hb_core.specs.Working.{MayStep}
use Rattle.hb_core.specs.declared.counts.TidyCounts.{TidyCounts}
use Rattle.hb_tidy.proofs.CallsMade.{runs_all}
use Rattle.hb_tidy.proofs.Exits.{HandsOn, goes_exit}
use Rattle.hb_tidy.proofs.Facts.AddedCounts.{same_added}
use Rattle.hb_tidy.proofs.Facts.Joined.{may_then, tidied_then, tidied_then_new}
use Rattle.hb_tidy.proofs.OneCall.{still_itself, still_tidied, still_tidied_new}
use Rattle.hb_tidy.proofs.PassParts.{Clean}
use Rattle.hb_tidy.proofs.Worked.{worked_as, worked_none, worked_then}
use Rattle.hb_tidy.specs.declared.stops.TidyStop.{TidyStop}
use Rattle.hb_tidy.specs.declared.stops.TidyStop.TheVariants as stops
use Rattle.hb_tidy.specs.Counted.{added}
use Rattle.hb_tidy.specs.Finding.{IsTidy}
use Rattle.hb_tidy.specs.Going.{Goes, MayTidy}
use Rattle.hb_tidy.specs.Looking.{LooksOver, NothingOf}
use Rattle.hb_tidy.specs.Tidying.{EndsTidying, HasTidied, file_now}
use Rattle.hb_tidy.specs.Working.{HasWorked, operations_in}

-- what the caller of a tidying is told of a machine
abbrev pub Ended : Result TidyCounts TidyStop → DiskModel → RunningCore → DiskModel → RunningCore → Machine → Type 0
Ended r d old e new m = (t : HasTidied d m e new) × (w : HasWorked r old m new t.new) × EndsTidying d e new (operations_in w.events) t.new r

-- it ended before it took a step, since none was left
pub ends_at_once : RunningLaws → (d : DiskModel) (c : RunningCore) (m : Machine) → IsDisk d → MayStep d c m → c.taken ≡ 2 ^ 64 - 1 → Ended (Err stops.Spent) d c d c m
ends_at_once laws d c m disk may spent =
    let same = still_tidied_new laws d d m m c c disk may may (OnlyReads-none d) (still_itself m) in
    (still_tidied laws d d m m c c disk may may (OnlyReads-none d) (still_itself m), worked_none (Err stops.Spent) c c m (still_tidied laws d d m m c c disk may may (OnlyReads-none d) (still_itself m)).new (record { taken = refl; done = refl }) same, spent)

-- it ended by an error of a call
pub ends_by_err : {T : Type 0} (stop : TidyStop) (first : Result T TidyStop) (r : Result TidyCounts TidyStop) (d e : DiskModel) (old new : RunningCore) (m : Machine) → first ≡ Err stop → HandsOn stop r → Goes first d old e new → MayStep d old m → Ended r d old e new m
ends_by_err stop first r d e old new m is hands one may = by r hands (goes_exit stop first r d e old new is hands one)
  where
    by : (x : Result TidyCounts TidyStop) → HandsOn stop x → Goes x d old e new → Ended x d old e new m
    by (Ok v) h goes = absurd h
    by (Err other) h goes = let last = goes.does m may in (last.run, last.worked, last.err)

-- ---- it was done

clean_file : (o : Option FileState) (c : RunningCore) → c.jobs ≡ [] → IfSome o (Clean IsTidy c (tt {0})) → IfSome o IsTidy
clean_file None c none clean = tt
clean_file (Some s) c none clean = clean none

module _ (d e f : DiskModel) (old mid new : RunningCore) (counts : TidyCounts) (goes : Goes {T = Unit {0}} (Ok (tt {0})) d old e mid) (looks : LooksOver NothingOf (Ok (tt {0})) (Clean IsTidy new) e mid f new) (may : MayTidy f new) (none : new.jobs ≡ []) (is : new.done ≡ added old.done counts) where
  pub ends_well : (m : Machine) → MayStep d old m → Ended (Ok counts) d old f new m
  ends_well m shows =
      let first = goes.does m shows in
      let last = looks.looks first.run.new (may_then d e m mid first.run) (if_value (file_now first.run.new) NothingOf (λ s is. tt)) in
      let t = tidied_then d e f m mid new first.run last.does.run in
      let same = tidied_then_new d e f m mid new first.run last.does.run in
      let file = ap file_now same ∙ last.same.file in
      let worked = subst (λ (x : Machine). HasWorked (Ok counts) old m new x) (sym same) (worked_as (tt {0}) counts old new m last.does.run.new (worked_then (tt {0}) (Ok (tt {0})) old mid new m first.run.new last.does.run.new first.worked last.does.worked)) in
      (t, worked, (runs_all f new t.new may (may_then d f m new t), subst (λ (o : Option FileState). IfSome o IsTidy) (sym file) (clean_file (file_now first.run.new) new none last.ok), same_added old.done counts (operations_in worked.events) new.done is worked.did))
