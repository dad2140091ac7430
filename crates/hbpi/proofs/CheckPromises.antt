-- What `check` tells of the file that the disk opens to.
use Rattle.std.proofs.Common.{◌≡◌, inl, inr, ℕ, List, [], Some, length, sym, ap, subst, ◌∙◌}
use Rattle.hb_layout.specs.declared.meta.Meta.{Meta}
use Rattle.hb_lemmas.proofs.Options.{at_value}
use Rattle.hb_ops.specs.Files.{FileState, file_records}
use Rattle.hb_outside.specs.Streams.{Appends}
use Rattle.hb_restart.specs.Refusals.{GoodIsNotRefused}
use Rattle.hb_store.specs.Opening.{IsEven, OpensTo, OpensToOne}
use Rattle.hbpi.proofs.Opened.{even_store}
use Rattle.hbpi.proofs.Promises.{not_done}
use Rattle.hbpi.proofs.SaidWhole.{said_whole, shut_for_memory}
use Rattle.hbpi.specs.Checked.{CheckEnds, KeepsChecked, sound_text}
use Rattle.hbpi.specs.Driven.{IsSaidWhole}
use Rattle.hbpi.specs.SeenRuns.{Run}
use Rattle.hbpi.specs.declared.statuses.Status.{Status}
use Rattle.hbpi.specs.declared.statuses.Status.TheVariants.{Done}

pub check_keeps : OpensToOne → (s : FileState) (run : Run) (b : List ℕ) → run.before.told ≡ Some b → OpensTo b s → CheckEnds run Done → KeepsChecked s run
check_keeps one s run b told opens ends = elim ends [
  | inl shut ↦ absurd (not_done shut.0 (sym shut.1))
  | inr done ↦
      let store = done.0 in
      let found = at_value run.before.told _ b told done.2.opens.file in
      let same : found.0 ≡ s = one b found.0 s found.1 opens in
      let meta : s.meta ≡ store.meta = at_value run.before.told _ b told done.2.opens.meta s opens in
      let count : done.1 ≡ length (file_records s) = found.3 ∙ ap (λ (t : FileState). length (file_records t)) same in
      record {
        line = subst (λ (n : ℕ). Appends run.seen.sink_before.written run.seen.sink_after.written (sound_text s.meta n)) count
            (subst (λ (m : Meta). Appends run.seen.sink_before.written run.seen.sink_after.written (sound_text m done.1)) (sym meta) done.3.0);
        even = subst (λ (t : FileState). IsEven run.after t) same (even_store run.after store found.0 [] found.4 done.2.opens.is_new.running);
      }
]

pub check_whole : GoodIsNotRefused → (s : FileState) (run : Run) (status : Status) → CheckEnds run status → IsSaidWhole s run status
check_whole good s run status ends b told opens sound calm sink = elim ends [
  | inl shut ↦ inr (shut_for_memory good s run status b told opens sound calm shut.0 shut.1 shut.2)
  | inr done ↦ inl (said_whole run.seen.sink_before run.seen.sink_after status (sound_text done.0.meta done.1) sink done.3)
]
