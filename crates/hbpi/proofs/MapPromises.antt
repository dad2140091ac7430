-- What `map` tells of the file that the disk opens to.
use Rattle.std.proofs.Common.{◌≡◌, ◌⊎◌, inl, inr, ℕ, List, [], Some, refl, sym, ap, subst, ◌∙◌}
use Rattle.hb_layout.specs.declared.meta.Meta.{Meta}
use Rattle.hb_lemmas.proofs.Options.{at_value}
use Rattle.hb_map.specs.Map.{map_text}
use Rattle.hb_ops.specs.Files.{FileState}
use Rattle.hb_outside.specs.Streams.{Appends, Rose}
use Rattle.hb_restart.specs.Refusals.{GoodIsNotRefused}
use Rattle.hb_store.specs.Opening.{IsEven, OpensTo, OpensToOne}
use Rattle.hbpi.proofs.Opened.{even_store}
use Rattle.hbpi.proofs.Promises.{not_done}
use Rattle.hbpi.proofs.SaidWhole.{shut_for_memory}
use Rattle.hbpi.specs.Driven.{IsSaidWhole}
use Rattle.hbpi.specs.Mapped.{KeepsMapped, MapEnds, MapsWith}
use Rattle.hbpi.specs.SeenRuns.{HasFailed, Run}
use Rattle.hbpi.specs.declared.statuses.Status.{Status}
use Rattle.hbpi.specs.declared.statuses.Damage.TheVariants as damages
use Rattle.hbpi.specs.declared.statuses.Status.TheVariants.{Done, Usage, BadText, SourceFault, SinkFault, DiskFault, Damaged, NoMemory, BadLayout, Small, Full, Spent}

pub map_keeps : OpensToOne → (s : FileState) (run : Run) (b : List ℕ) → run.before.told ≡ Some b → OpensTo b s → MapEnds run Done → KeepsMapped s run
map_keeps one s run b told opens ends = elim ends [
  | inl shut ↦ absurd (not_done shut.0 (sym shut.1))
  | inr done ↦
      let store = done.0 in
      let found = at_value run.before.told _ b told done.2.1.opens.file in
      let same : found.0 ≡ s = one b found.0 s found.1 opens in
      let mapped = at_value run.before.told _ b told done.3.whole in
      let here : mapped.0 ≡ s = one b mapped.0 s mapped.1 opens in
      record {
        text = subst (Appends run.seen.sink_before.written run.seen.sink_after.written) (mapped.2 ∙ ap map_text here) done.4.0;
        even = subst (λ (t : FileState). IsEven run.after t) same (even_store run.after store found.0 [] found.4 done.2.1.opens.is_new.running);
      }
]

-- a map is whole where nothing failed
maps_whole : (run : Run) (meta : Meta) (text : List ℕ) (status : Status) (b : List ℕ) → run.before.told ≡ Some b → ¬ (HasFailed run) → ¬ (Rose run.seen.sink_before.faults run.seen.sink_after.faults) → MapsWith status run meta text → (status ≡ Done) ⊎ (status ≡ NoMemory)
maps_whole run meta text Done b told calm sink ends = inl refl
maps_whole run meta text NoMemory b told calm sink ends = inr refl
maps_whole run meta text SinkFault b told calm sink ends = absurd (sink ends.1)
maps_whole run meta text DiskFault b told calm sink ends = absurd (calm (inl ends.1))
maps_whole run meta text (Damaged (damages.Rule page rule)) b told calm sink ends = cc (told, ends.1)
maps_whole run meta text (Damaged damages.NoSuper) b told calm sink ends = absurd ends
maps_whole run meta text (Damaged (damages.BadGroup frame)) b told calm sink ends = absurd ends
maps_whole run meta text (Damaged (damages.Level page)) b told calm sink ends = absurd ends
maps_whole run meta text (Damaged (damages.Extent page)) b told calm sink ends = absurd ends
maps_whole run meta text Usage b told calm sink ends = absurd ends
maps_whole run meta text (BadText bad) b told calm sink ends = absurd ends
maps_whole run meta text SourceFault b told calm sink ends = absurd ends
maps_whole run meta text (BadLayout field value) b told calm sink ends = absurd ends
maps_whole run meta text (Small needed found) b told calm sink ends = absurd ends
maps_whole run meta text Full b told calm sink ends = absurd ends
maps_whole run meta text Spent b told calm sink ends = absurd ends

pub map_whole : GoodIsNotRefused → (s : FileState) (run : Run) (status : Status) → MapEnds run status → IsSaidWhole s run status
map_whole good s run status ends b told opens sound calm sink = elim ends [
  | inl shut ↦ inr (shut_for_memory good s run status b told opens sound calm shut.0 shut.1 shut.2)
  | inr mapped ↦ maps_whole run mapped.0.meta mapped.1 status b told calm sink mapped.4
]
