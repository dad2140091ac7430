-- The bad line that a run over a file names.
use Rattle.std.proofs.Common.{◌≡◌, inl, inr, ℕ, Bool, List, Option, Some, Err, sym, ap, subst, ◌∙◌}
use Rattle.hb_lemmas.proofs.Options.{at_value}
use Rattle.hb_disk.specs.Model.{DiskModel}
use Rattle.hb_layout.specs.declared.meta.Meta.{Meta}
use Rattle.hb_ops.specs.Files.{FileState}
use Rattle.hb_restart.specs.declared.faults.OpenFault.{OpenFault}
use Rattle.hb_store.specs.Opening.{OpensTo}
use Rattle.hb_text.specs.Grammar.{text_read}
use Rattle.hb_text.specs.declared.rules.BadLine.{BadLine}
use Rattle.hbpi.proofs.EndLaws.{front_reads, of_closed}
use Rattle.hbpi.specs.Codes.{status_of}
use Rattle.hbpi.specs.Driven.{IsOpened, IsTurnedAway, Manner}
use Rattle.hbpi.specs.StepEnds.{RanEnds, StepsEnd}
use Rattle.hbpi.specs.Outcome.{IsTextOf}
use Rattle.hbpi.specs.Promises.{NamesScheduleLine}
use Rattle.hbpi.specs.Schedules.{NotScheduled, read_from}
use Rattle.hbpi.specs.SeenRuns.{Run}
use Rattle.hbpi.specs.declared.origins.Origin.{Origin}
use Rattle.hbpi.specs.declared.origins.Origin.TheVariants.{Text, Drawn}
use Rattle.hbpi.specs.declared.statuses.Status.{Status}
use Rattle.hbpi.specs.declared.statuses.Status.TheVariants.{BadText}

-- no refusal of a file names a line
no_line : (fault : OpenFault) (bad : BadLine) → status_of fault ≡ BadText bad → ⊥
no_line fault bad = of_closed fault (λ x. x ≡ BadText bad → ⊥) (λ needed found is. cc (is)) (λ damage is. cc (is)) (λ is. cc (is)) (λ is. cc (is))

-- the file that was opened is the one that the bytes open to
pub opened_k : (k : ℕ) (d e : DiskModel) (b : List ℕ) (s : FileState) → IsOpened k d e → d.told ≡ Some b → OpensTo b s → k ≡ s.meta.k
opened_k k d e b s opened told opens =
    sym (ap (λ (m : Meta). m.k) (at_value d.told _ b told opened.opens.meta s opens) ∙ opened.attributes)

-- the text that was read says what is left
pub reads_left : (step_lines : Bool) (k n : ℕ) (left text : List ℕ) (before : Option (List ℕ)) (after : Option (List ℕ)) → n ≡ k → before ≡ Some left → IsTextOf before after text → text_read step_lines k left ≡ text_read step_lines n text
reads_left step_lines k n left text before after same told read =
    let here = subst (λ (o : Option (List ℕ)). IsTextOf o after text) told read in
    ap (λ (m : ℕ). text_read step_lines m left) (sym same) ∙ sym (front_reads step_lines n left) ∙ ap (text_read step_lines n) (sym here.0)

away_names : (origin : Origin) (run : Run) (status : Status) (b : List ℕ) (s : FileState) (left : List ℕ) (bad : BadLine) → IsTurnedAway origin run status → run.before.told ≡ Some b → OpensTo b s → run.seen.source_before.left ≡ Some left → status ≡ BadText bad → read_from origin s.meta.k left ≡ Err bad
away_names (Text step_lines) run status b s left bad away told opens text is =
    let why = subst (λ (x : Status). NotScheduled step_lines away.k run.seen.source_before run.seen.source_after x) is away.why in
    reads_left step_lines s.meta.k away.k left why.0 run.seen.source_before.left run.seen.source_after.left (opened_k away.k run.before run.after b s away.opened told opens) text why.1 ∙ why.2
away_names (Drawn state count) run status b s left bad away told opens text is = let none = away.why.0 in cc (none, is)

pub names_line : (by : Manner) (run : Run) (status : Status) → StepsEnd by run status → NamesScheduleLine by.origin run status
names_line by run status ends b s left bad told opens text is = elim ends [
  | inl shut ↦ absurd (no_line shut.0 bad (sym shut.1 ∙ is))
  | inr opened ↦ elim opened [
    | inl away ↦ away_names by.origin run status b s left bad away told opens text is
    | inr ran ↦ absurd (subst (λ (x : Status). RanEnds by x run ran.0) is ran.2)
  ]
]
