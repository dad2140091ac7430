-- What `work` says over a disk that tells: the records of the one file to which every image opens then.
use Rattle.std.proofs.Common.{◌≡◌, inl, inr, ℕ, ◌≤◌, List, [], ◌∷◌, length, Some, None, refl, sym, ap, subst, ◌∙◌, arith}
use Rattle.std.specs.List.{slice_get}
use Rattle.std.specs.FinMap as finite
use Rattle.std.proofs.lemmas.List.{take_all}
use Rattle.hb_steps.specs.KeepingLaws.{BegunKeepsAll}
use Rattle.hb_steps.specs.KeptMachine.{CoreKeeps}
use Rattle.hb_steps.specs.KeptOrder.{IsSettledIn, StandsInOrder}
use Rattle.hb_steps.specs.Machines.{Files, Machine, settled_count}
use Rattle.hb_core.specs.Runs.{left_count}
use Rattle.hb_lemmas.proofs.Options.{at_value}
use Rattle.hb_ops.specs.Files.{FileState, contents_of}
use Rattle.hb_outside.specs.Streams.{Appends}
use Rattle.hb_set.specs.Machine.{RecordSet}
use Rattle.hb_set.specs.Order.{Entry, result_of}
use Rattle.hb_store.specs.Opening.{OpensToOne}
use Rattle.hb_wal.proofs.Facts.Marks.{mark_inside}
use Rattle.hbpi.proofs.RecordsLeft.{entry_answer, in_order}
use Rattle.hbpi.proofs.EndLaws.{no_done}
use Rattle.hbpi.proofs.Promises.{not_done}
use Rattle.hbpi.proofs.Tallies.{each_in}
use Rattle.hbpi.specs.Counted.{counts_text}
use Rattle.hbpi.specs.Driven.{by_counting}
use Rattle.hbpi.specs.StepEnds.{Drove, RanEnds, StepsEnd}
use Rattle.hbpi.specs.Promises.{KeepsCounts}
use Rattle.hbpi.specs.SeenRuns.{Run}
use Rattle.hbpi.specs.declared.statuses.Status.TheVariants.{Done}

-- the last entry of an order
last_entry : (x : Entry) (rest : List Entry) → (e : Entry) × (slice_get (x ∷ rest) (length rest) ≡ Some e)
last_entry x [] = (x, refl)
last_entry x (y ∷ rest) = last_entry y rest

-- Where each line has an answer, all places of the order are settled.
module _ (n : RecordSet) (m : Machine) (files : Files) (keeps : CoreKeeps n m files) (none : left_count m ≡ 0) where
  inside : settled_count m ≤ length m.order
  inside = mark_inside m.store.log.groups (length m.order) keeps.kept.marks_rise.inside

  last_settled : (order : List Entry) → m.order ≡ order → length order ≤ settled_count m
  last_settled [] is = omega arith
  last_settled (x ∷ rest) is =
      let last = last_entry x rest in
      let there : slice_get m.order (length rest) ≡ Some last.0 = ap (λ (o : List Entry). slice_get o (length rest)) is ∙ last.1 in
      let a = entry_answer m keeps.kept none last.0 (in_order m.order (length rest) last.0 there) in
      let stands : StandsInOrder m.order a.0.line a.0.reply (length rest) = record { entry = last.0; there = there; number_is = sym a.2; reply_is = sym a.3 } in
      let below = each_in (IsSettledIn m) m.answered keeps.pending_prefix.settled a.0 a.1 (length rest) stands in
      omega (arith, below)

  pub all_settled : length m.order ≤ settled_count m
  all_settled = last_settled m.order refl

-- so the one file that every image opens to has the records that were said
counts_kept : (one : OpensToOne) (begun : BegunKeepsAll) (state count : ℕ) (run : Run) (b : List ℕ) (after : Machine) → run.before.told ≡ Some b → Drove (by_counting state count) run after → RanEnds (by_counting state count) Done run after → KeepsCounts run
counts_kept one begun state count run b after told drove ends =
    let takes = drove.takes in
    let here = at_value run.before.told _ b told takes.told in
    let s = here.0 in
    let kept = begun s drove.actors takes.before after here.3 takes.actors takes.reached in
    let going : after.stop ≡ None = ends.4 in
    let left = (drove.goes going).answered in
    let file = here.4.shows.files.durable in
    let even = here.4.settled going in
    let whole = take_all (settled_count after) after.order (all_settled (contents_of s) after kept.0 kept.1.keeps left) in
    let said = ends.1 in
    let has = at_value run.before.told _ b told said.1 in
    let same : has.0 ≡ s = one b has.0 s has.1 here.1 in
    let records : said.0 ≡ finite.len (contents_of file) =
    has.2 ∙ ap (λ (f : FileState). finite.len (result_of (contents_of f) after.order)) same ∙ ap (λ (o : List Entry). finite.len (result_of (contents_of s) o)) (sym whole) ∙ ap (λ (c : RecordSet). finite.len c) (sym even.2) in
    let line : ends.0 ≡ counts_text run.seen.answered (finite.len (contents_of file)) = said.2 ∙ ap (counts_text run.seen.answered) records in
    record {
      file = file;
      even = even.0;
      sound = even.1;
      line = subst (λ (t : List ℕ). Appends run.seen.sink_before.written run.seen.sink_after.written t) line ends.2;
    }

pub work_counts : (one : OpensToOne) (begun : BegunKeepsAll) (state count : ℕ) (run : Run) (b : List ℕ) → run.before.told ≡ Some b → StepsEnd (by_counting state count) run Done → KeepsCounts run
work_counts one begun state count run b told ends = elim ends [
  | inl shut ↦ absurd (not_done shut.0 (sym shut.1))
  | inr opened ↦ elim opened [
    | inl away ↦ absurd (no_done (by_counting state count).origin away.k run.seen.source_before run.seen.source_after away.why)
    | inr ran ↦ counts_kept one begun state count run b ran.0 told ran.1 ran.2
  ]
]
