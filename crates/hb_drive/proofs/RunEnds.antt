-- How a run ended, by what was put.
use Rattle.std.proofs.Common.{◌≡◌, ℕ, Bool, true, false, List, ◌++◌, length, map, Option, Result, Ok, Err, is_some, refl, sym, ap, ◌∙◌, subst, append_assoc}
use Rattle.std.specs.List.{flat_map}
use Rattle.std.specs.Prelude.{IsErr, OnErr}
use Rattle.std.specs.Result.{is_err}
use Rattle.std.proofs.lemmas.Bool.{false≢true}
use Rattle.hb_disk.specs.Model.{DiskModel}
use Rattle.hb_outside.specs.Calls.{Puts, PutsOn, SinkModel}
use Rattle.hb_outside.specs.Streams.{Rose, Appends, AppendsFront}
use Rattle.hb_outside.proofs.Facts.PutLaws.{has_put_more}
use Rattle.hb_set.specs.declared.scripts.Answered.{Answered}
use Rattle.hb_store.specs.declared.stops.StopWhy.{StopWhy}
use Rattle.hb_text.specs.Output.{answer_text, left_text, order_text}
use Rattle.hb_wal.specs.Log.{mark_of}
use Rattle.hb_core.specs.declared.endings.End.{End}
use Rattle.hb_core.specs.declared.endings.End.TheVariants as ends
use Rattle.hb_steps.specs.Machines.{Machine, settled_count}
use Rattle.hb_core.specs.Runs.{left_numbers}
use Rattle.hb_core.specs.Showing.{RunningCore, ShowsMachine}
use Rattle.hb_drive.specs.Driving.{EndsWith, IsEndOf, LeavesEnd, run_text}
use Rattle.hb_core.proofs.Facts.SettledPlaces.{same_settled}

-- what follows the replies
abbrev rest_text : List ℕ → Bool → List ℕ → ℕ → List ℕ
rest_text left stopped order settled = flat_map (left_text stopped) left ++ order_text order settled

abbrev numbers : Machine → List ℕ
numbers m = map (λ e. e.line.number) m.order

-- by the machine that the core shows
rest_is : (m : Machine) (left order : List ℕ) (stopped : Bool) (settled : ℕ) → left ≡ left_numbers m → stopped ≡ is_some m.stop → order ≡ numbers m → settled ≡ settled_count m
    → rest_text left stopped order settled ≡ rest_text (left_numbers m) (is_some m.stop) (numbers m) (settled_count m)
rest_is m left order stopped settled left_is stop order_is count =
    ap (λ (l : List ℕ). rest_text l stopped order settled) left_is
    ∙ ap (λ (b : Bool). rest_text (left_numbers m) b order settled) stop
    ∙ ap (λ (l : List ℕ). rest_text (left_numbers m) (is_some m.stop) l settled) order_is
    ∙ ap (λ (n : ℕ). rest_text (left_numbers m) (is_some m.stop) (numbers m) n) count

-- what is known of a put that failed, and of one that didn't
failed_put : {T E : Type 0} (result : Result T E) (a b : SinkModel) (text : List ℕ) → Puts text result a b → is_err result ≡ true → AppendsFront a.written b.written text × Rose a.faults b.faults
failed_put (Ok x) a b text put bad = absurd (false≢true bad)
failed_put (Err e) a b text put bad = (put.tried, put.counts.cause refl)

whole_put : {T E : Type 0} (result : Result T E) (a b : SinkModel) (text : List ℕ) → Puts text result a b → is_err result ≡ false → Appends a.written b.written text × (b.faults ≡ a.faults)
whole_put (Ok x) a b text put good = (put.done, put.counts.no_fault (λ e. false≢true e))
whole_put (Err e) a b text put good = absurd (false≢true (sym good))

-- an end is one of its cause
ends_with : {T E : Type 0} (before after : SinkModel) (last : Result T E) (failed : Bool) (stop : Option StopWhy) (text : List ℕ) (answers : List Answered) (end : End) → Puts text last before after → failed ≡ is_err last
    → IsEndOf end failed stop answers → EndsWith end before after text answers stop
ends_with before after last failed stop text answers ends.NoMemory put fails is = is
ends_with before after last failed stop text answers ends.SinkFault put fails is = failed_put last before after text put (sym fails ∙ is)
ends_with before after last failed stop text answers (ends.Stopped why) put fails is = let good = whole_put last before after text put (sym fails ∙ is.0) in (good.0, good.1, is.1)
ends_with before after last failed stop text answers ends.ReadFault put fails is = let good = whole_put last before after text put (sym fails ∙ is.0) in (good.0, good.1, is.1, is.2)
ends_with before after last failed stop text answers ends.Finished put fails is = let good = whole_put last before after text put (sym fails ∙ is.0) in (good.0, good.1, is.1, is.2)

-- What was put behind the answers, as the caller had it, and which end it named.
pub record PutRest {T E : Type 0} (early last : Result T E) (mid after : SinkModel) (c : RunningCore) (left : List ℕ) (failed : Bool) (answers : List Answered) (end : End) : Type 0 where
  pub stopped : Bool
  pub order : List ℕ
  pub settled : ℕ
  pub stop_is : stopped ≡ is_some c.stop
  pub order_is : order ≡ c.order
  pub settled_is : settled ≡ mark_of c.store.log.groups (length c.order)
  pub put : PutsOn early (flat_map (left_text stopped) left ++ order_text order settled) last mid after
  pub fails : failed ≡ is_err last
  pub ended : IsEndOf end failed c.stop answers

-- an end that was named is not want of memory
not_unbegun : (end : End) (failed : Bool) (stop : Option StopWhy) (answers : List Answered) → IsEndOf end failed stop answers → end ≡ ends.NoMemory → ⊥
not_unbegun end failed stop answers is same = subst (λ (x : End). IsEndOf x failed stop answers) same is

-- what failed before leaves the sink
unmoved : {T E : Type 0} (P Q : Type 0) (early : Result T E) → OnErr early (P × Q) → OnErr early P
unmoved P Q (Ok x) left = tt
unmoved P Q (Err e) left = left.0

module _ {T E : Type 0} (d : DiskModel) (c : RunningCore) (m : Machine) (shows : ShowsMachine d c m) (answers : List Answered) (mid after : SinkModel) (early last : Result T E) (left : List ℕ) (failed : Bool) (end : End)
    (left_is : left ≡ left_numbers m) (more : PutRest early last mid after c left failed answers end) where
  same_rest : rest_text left more.stopped more.order more.settled ≡ rest_text (left_numbers m) (is_some m.stop) (numbers m) (settled_count m)
  same_rest = rest_is m left more.order more.stopped more.settled left_is
      (more.stop_is ∙ ap (λ (o : Option StopWhy). is_some o) (sym shows.stop)) (more.order_is ∙ sym shows.order) (more.settled_is ∙ sym (same_settled d c m shows))

  all_put : (before : SinkModel) → Puts (flat_map answer_text answers) early before mid → Puts (run_text answers m) last before after
  all_put before put =
      let P : List ℕ → Type 0 = λ t. Puts t last before after in
      let lefts = flat_map (left_text (is_some m.stop)) (left_numbers m) in
      let order = order_text (numbers m) (settled_count m) in
      subst P (ap (λ (t : List ℕ). flat_map answer_text answers ++ t) same_rest ∙ sym (append_assoc (flat_map answer_text answers) lefts order))
      (has_put_more before mid after early last (flat_map answer_text answers) (rest_text left more.stopped more.order more.settled) put more.put)

  pub leaves_end : LeavesEnd m early answers end mid after
  leaves_end = record {
    text = λ before put. ends_with before after last failed m.stop (run_text answers m) answers end (all_put before put) more.fails (subst (λ (o : Option StopWhy). IsEndOf end failed o answers) (sym shows.stop) more.ended);
    silent = unmoved (after ≡ mid) (IsErr last) early more.put.left;
    begun = not_unbegun end failed c.stop answers more.ended;
    later = more.put.later;
  }
