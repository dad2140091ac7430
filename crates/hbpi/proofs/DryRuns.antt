-- How a run of `dry` ends, by how its script came and by how its lines were answered.
use Rattle.std.proofs.Common.{◌≡◌, ℕ, false, List, [], Ok, refl, ap, sym, subst, ◌∙◌}
use Rattle.hb_set.specs.declared.scripts.Line.{Line}
use Rattle.hb_text.proofs.Facts.StepLaws.{text_has_no_steps}
use Rattle.hbpi.specs.DryParts.{EndsRun}
use Rattle.hbpi.specs.Ends.{DryEnds, IsAnswered}
use Rattle.hbpi.specs.Handing.{HandsBack}
use Rattle.hbpi.specs.Outcome.{IsDryRun}
use Rattle.hbpi.specs.Schedules.{NotScheduled, ScriptCame}
use Rattle.hbpi.specs.SeenRuns.{IsRefused, Seen}
use Rattle.hbpi.specs.declared.origins.Origin.TheVariants.{Text}
use Rattle.hbpi.specs.declared.statuses.Status.{Status}
use Rattle.hbpi.specs.declared.statuses.Status.TheVariants.{Done, BadText, SourceFault, SinkFault, NoMemory}

-- a text without step lines says no step
answered_so : (k : ℕ) (seen : Seen) (lines : List Line) (steps : List ℕ) → ScriptCame (Text false) k seen.source_before seen.source_after lines steps → IsDryRun lines seen.answered seen.order → IsAnswered k seen lines
answered_so k seen lines steps came run =
    let scheduled = came.came in
    let none : steps ≡ [] = text_has_no_steps false k scheduled.text (record { lines = lines; steps = steps }) scheduled.says refl in
    record {
      text = scheduled.text;
      whole = scheduled.whole;
      says = scheduled.says ∙ ap (λ (s : List ℕ). Ok (record { lines = lines; steps = s })) none;
      run = run;
      faults = came.source;
    }

pub dry_ran : (k : ℕ) (seen : Seen) (lines : List Line) (steps : List ℕ) (status : Status) → ScriptCame (Text false) k seen.source_before seen.source_after lines steps
    → EndsRun seen.sink_before seen.sink_after lines seen.answered seen.order status → DryEnds k seen status
dry_ran k seen lines steps Done came ends = (lines, answered_so k seen lines steps came ends.0, ends.1, ends.2)
dry_ran k seen lines steps SinkFault came ends = (lines, answered_so k seen lines steps came ends.0, ends.1, ends.2, ends.3)
dry_ran k seen lines steps NoMemory came ends = (record { line = ends.0; none_answered = ends.1; none_ordered = ends.2 }, came.source)
dry_ran k seen lines steps other came ends = absurd ends

not_read : (k : ℕ) (seen : Seen) (status : Status) → NotScheduled false k seen.source_before seen.source_after status → IsRefused seen status → DryEnds k seen status
not_read k seen (BadText bad) why refused = (why.0, why.1, why.2, refused, why.3)
not_read k seen SourceFault why refused = (why.0, refused, why.1)
not_read k seen NoMemory why refused = (refused, why)
not_read k seen other why refused = absurd why

-- so of a run that was refused
pub dry_refused : {X : Type 0} (k : ℕ) (seen : Seen) (asked status : Status) (old new : X) → NotScheduled false k seen.source_before seen.source_after asked → HandsBack asked status seen.sink_before seen.sink_after seen.answered seen.order old new → DryEnds k seen status
dry_refused k seen asked status old new why back =
    subst (λ (x : Status). DryEnds k seen x) (sym back.status_is) (not_read k seen asked why (record { line = back.line; none_answered = back.none_answered; none_ordered = back.none_ordered }))
