-- One call after another: what they come to together.
use Rattle.std.proofs.Common.{◌≡◌, ℕ, ◌+◌, ◌≤◌, List, [], Option, Some, None, IfSome, Result, Ok, Err, refl, sym, ◌∙◌, subst, arith}
use Rattle.std.specs.Result.{IfErr, IfOk}
use Rattle.std.proofs.lemmas.List.Elements.{All-nil}
use Rattle.hb_lemmas.proofs.Options.{if_value}
use Rattle.hb_disk.proofs.Facts.RewriteLaws.{Becomes-tells}
use Rattle.hb_disk.proofs.Facts.RunLaws.{Leaves-then}
use Rattle.hb_disk.specs.Calls.{Leaves}
use Rattle.hb_disk.specs.Model.{DiskModel}
use Rattle.hb_ops.specs.Files.{FileState}
use Rattle.hb_outside.proofs.Facts.CountLaws.{Rose-later}
use Rattle.hb_outside.specs.Streams.{Rose}
use Rattle.hb_set.specs.Machine.{RecordSet}
use Rattle.hb_set.specs.Order.{Entry}
use Rattle.hb_store.specs.declared.stops.StopWhy.{StopWhy}
use Rattle.hb_store.specs.declared.stops.StopWhy.TheVariants as whys
use Rattle.hb_core.proofs.Facts.RunDisks.{file_more}
use Rattle.hb_core.proofs.Facts.RunFaults.{rose_longer}
use Rattle.hb_steps.specs.KeptMachine.{CoreKeeps}
use Rattle.hb_steps.specs.Machines.{Files, Machine}
use Rattle.hb_steps.specs.MomentLaws.{IsPrefixImage}
use Rattle.hb_core.specs.Runs.{ChangesFile, CountsFaults, HoldsSince}
use Rattle.hb_core.specs.Showing.{RunningCore}
use Rattle.hb_core.specs.Relied.{MayRun}
use Rattle.hb_core.specs.Working.{MayStep}
use Rattle.hb_core.specs.declared.counts.TidyCounts.{TidyCounts}
use Rattle.hb_tidy.specs.declared.stops.TidyStop.{TidyStop}
use Rattle.hb_tidy.specs.declared.stops.TidyStop.TheVariants as stops
use Rattle.hb_core.proofs.Facts.RunFaults.{no_fault_in}
use Rattle.hb_tidy.proofs.Facts.AddedCounts.{at_most_added}
use Rattle.hb_tidy.proofs.Worked.{worked_as, worked_err, worked_then}
use Rattle.hb_tidy.specs.Counted.{AreAtMost}
use Rattle.hb_tidy.specs.Going.{Does, Goes}
use Rattle.hb_tidy.specs.Looking.{FileStays, Looks, LooksOver, NothingOf}
use Rattle.hb_tidy.specs.Tidying.{HasTidied, KeepsSet, StopsTidying, file_now}
use Rattle.hb_tidy.specs.Working.{HasWorked, operations_in, steps_in}

-- ---- what becomes of machines

-- counts of faults: a failed write stopped the machine in the first call or in the second
faults_then : (d e f : DiskModel) (first mid last : Option StopWhy) → CountsFaults d e [] first mid → CountsFaults e f [] mid last → CountsFaults d f [] first last
faults_then d e f first mid last one two =
    let reads = one.reads in
    let reads_then = two.reads in
    let writes = one.writes in
    let writes_then = two.writes in
    record {
      reads = omega (arith, reads, reads_then);
      writes = omega (arith, writes, writes_then);
      read = λ has. absurd (no_fault_in has);
      write = λ stop begun. by mid refl stop begun;
    }
  where
    early : mid ≡ Some whys.WriteFault → (first ≡ Some whys.WriteFault → ⊥) → Rose d.write_faults f.write_faults
    early is begun = rose_longer d.write_faults e.write_faults f.write_faults one.writes two.writes (one.write is begun)

    late : last ≡ Some whys.WriteFault → (mid ≡ Some whys.WriteFault → ⊥) → Rose d.write_faults f.write_faults
    late stop running = Rose-later d.write_faults e.write_faults f.write_faults one.writes (two.write stop running)

    by : (o : Option StopWhy) → mid ≡ o → last ≡ Some whys.WriteFault → (first ≡ Some whys.WriteFault → ⊥) → Rose d.write_faults f.write_faults
    by None is stop begun = late stop (λ other. let never : None ≡ Some whys.WriteFault = sym is ∙ other in cc)
    by (Some whys.WriteFault) is stop begun = early is begun
    by (Some (whys.Damaged page why)) is stop begun = late stop (λ other. let never : Some (whys.Damaged page why) ≡ Some whys.WriteFault = sym is ∙ other in cc)

module _ (d e f : DiskModel) (m : Machine) (mid c : RunningCore) (one : HasTidied d m e mid) (two : HasTidied e one.new f c) where
  sets_then : (n : RecordSet) (files : Files) → CoreKeeps n m files → KeepsSet n d files f two.new
  sets_then n files keeps =
      let first = one.kept n files keeps in
      let second = two.kept n first.after first.keeps in
      record {
        after = second.after;
        keeps = second.keeps;
        contents = second.contents ∙ first.contents;
        crashes = record {
          each = Leaves-then d e f (IsPrefixImage n two.new.order 0) (subst (λ (es : List Entry). Leaves d e (IsPrefixImage n es 0)) (sym two.order) first.crashes.each) second.crashes.each;
          since = All-nil (HoldsSince f n two.new.order);
        };
      }

  pub tidied_then : HasTidied d m f c
  tidied_then = record {
    new = two.new;
    shows = two.shows;
    goes_on = two.goes_on;
    lines = two.lines ∙ one.lines;
    answered = two.answered ∙ one.answered;
    order = two.order ∙ one.order;
    size = two.size ∙ one.size;
    faults = faults_then d e f m.stop one.new.stop two.new.stop one.faults two.faults;
    in_file = file_more d e f m one.new one.size one.in_file two.in_file;
    kept = sets_then;
  }

  pub tidied_then_new : tidied_then.new ≡ two.new
  unfolding tidied_then
  tidied_then_new = refl

-- why a call ended is why both did
pub stops_then : (d e f : DiskModel) (m : Machine) (mid c : RunningCore) (new : Machine) → HasTidied d m e mid → (stop : TidyStop) → StopsTidying stop e f c new → StopsTidying stop d f c new
stops_then d e f m mid c new one stops.Full cause = cause
stops_then d e f m mid c new one stops.ReadFault cause = Rose-later d.read_faults e.read_faults f.read_faults one.faults.reads cause
stops_then d e f m mid c new one stops.WriteFault cause = (Rose-later d.write_faults e.write_faults f.write_faults one.faults.writes cause.0, cause.1)
stops_then d e f m mid c new one (stops.Damaged page why) cause = (λ tells. cause.0 (Becomes-tells (ChangesFile m.store) d e one.in_file tells), cause.1)
stops_then d e f m mid c new one stops.Spent cause = cause
stops_then d e f m mid c new one stops.NoMemory cause = cause

pub may_then : (d e : DiskModel) (m : Machine) (c : RunningCore) (t : HasTidied d m e c) → MayStep e c t.new
may_then d e m c t = record { shows = t.shows; goes_on = t.goes_on }

pub err_weaker : {T : Type 0} (P Q : TidyStop → Type 0) (r : Result T TidyStop) → ((stop : TidyStop) → P stop → Q stop) → IfErr r P → IfErr r Q
err_weaker P Q (Ok v) imp err = tt
err_weaker P Q (Err stop) imp err = imp stop err

module _ {T U : Type 0} (v : T) (r : Result U TidyStop) (d e f : DiskModel) (old : RunningCore) (m : Machine) (mid c : RunningCore) (one : Does (Ok v) d old m e mid) (two : Does r e mid one.run.new f c) where
  ends_then : IfErr r (λ stop. StopsTidying stop d f c (tidied_then d e f m mid c one.run two.run).new)
  unfolding tidied_then
  ends_then = err_weaker (λ stop. StopsTidying stop e f c two.run.new) (λ stop. StopsTidying stop d f c two.run.new) r (stops_then d e f m mid c two.run.new one.run) two.err

  steps_then : HasWorked r old m c (tidied_then d e f m mid c one.run two.run).new
  unfolding tidied_then
  steps_then = worked_then v r old mid c m one.run.new two.run.new one.worked two.worked

  pub does_then : Does r d old m f c
  does_then = record { run = tidied_then d e f m mid c one.run two.run; worked = steps_then; err = ends_then }

-- ---- what becomes of calls

pub goes_then : {T U : Type 0} (v : T) (r : Result U TidyStop) (d e f : DiskModel) (old mid new : RunningCore) → Goes (Ok v) d old e mid → Goes r e mid f new → Goes r d old f new
goes_then v r d e f old mid new one two = record {
  does = λ m may. let first = one.does m may in does_then v r d e f old m mid new first (two.does first.run.new (may_then d e m mid first.run));
  spent = two.spent;
  may = two.may;
}

-- an error goes on to the caller
pub goes_err : {T U : Type 0} (stop : TidyStop) (d e : DiskModel) (old new : RunningCore) → Goes {T = T} (Err stop) d old e new → Goes {T = U} (Err stop) d old e new
goes_err {T = T} {U = U} stop d e old new one = record {
  does = λ m may. let first = one.does m may in record { run = first.run; worked = worked_err {T = T} {U = U} stop old new m first.run.new first.worked; err = first.err };
  spent = one.spent;
  may = tt;
}

-- ---- what becomes of what was seen

if_both : (o : Option FileState) (P Q R : FileState → Type 0) → ((s : FileState) → P s → Q s → R s) → IfSome o P → IfSome o Q → IfSome o R
if_both None P Q R imp p q = tt
if_both (Some s) P Q R imp p q = imp s p q

pub ok_weaker : {T : Type 0} (o : Option FileState) (P : FileState → Type 0) (Q R : T → FileState → Type 0) (r : Result T TidyStop) → ((s : FileState) (v : T) → P s → Q v s → R v s) → IfSome o P → IfOk r (λ v. IfSome o (Q v)) → IfOk r (λ v. IfSome o (R v))
ok_weaker o P Q R (Ok v) imp p ok = if_both o P (Q v) (R v) (λ s a b. imp s v a b) p ok
ok_weaker o P Q R (Err stop) imp p ok = tt

same_stays : (m mid new : Machine) → FileStays m mid → FileStays mid new → FileStays m new
same_stays m mid new one two = record { file = two.file ∙ one.file; meta = two.meta ∙ one.meta }

module _ {T U : Type 0} (v : T) (says : T → FileState → Type 0) (r : Result U TidyStop) (more final : U → FileState → Type 0) (knows : FileState → Type 0) (imp : (s : FileState) (w : U) → knows s → says v s → more w s → final w s)
    (d e f : DiskModel) (old : RunningCore) (m : Machine) (mid c : RunningCore) (known : IfSome (file_now m) knows) (one : Looks (Ok v) says d old m e mid) (two : Looks r more e mid one.does.run.new f c) where
  both_known : IfSome (file_now m) (λ s. knows s × says v s)
  both_known = if_both (file_now m) knows (says v) (λ s. knows s × says v s) (λ s a b. (a, b)) known one.ok

  then_seen : IfOk r (λ w. IfSome (file_now m) (more w))
  then_seen = subst (λ (o : Option FileState). IfOk r (λ w. IfSome o (more w))) one.same.file two.ok

  stay : FileStays m (does_then v r d e f old m mid c one.does two.does).run.new
  unfolding does_then tidied_then
  stay = same_stays m one.does.run.new two.does.run.new one.same two.same

  pub looks_then : Looks r final d old m f c
  looks_then = record {
    does = does_then v r d e f old m mid c one.does two.does;
    same = stay;
    ok = ok_weaker (file_now m) (λ s. knows s × says v s) more final r (λ s w both after. imp s w both.0 both.1 after) both_known then_seen;
  }

pub over_then : {T U : Type 0} (knows : FileState → Type 0) (v : T) (says : T → FileState → Type 0) (then_knows : FileState → Type 0) (r : Result U TidyStop) (more final : U → FileState → Type 0) (d e f : DiskModel) (old mid new : RunningCore)
    → LooksOver knows (Ok v) says d old e mid → ((s : FileState) → knows s → says v s → then_knows s) → LooksOver then_knows r more e mid f new → ((s : FileState) (w : U) → knows s → says v s → more w s → final w s)
    → LooksOver knows r final d old f new
over_then knows v says then_knows r more final d e f old mid new one known two imp = record {
  looks = λ m may its.
      let first = one.looks m may its in
      let both = if_both (file_now m) knows (says v) then_knows known its first.ok in
      let second = two.looks first.does.run.new (may_then d e m mid first.does.run) (subst (λ (o : Option FileState). IfSome o then_knows) (sym first.same.file) both) in
      looks_then v says r more final knows imp d e f old m mid new its first second;
  spent = two.spent;
  may = two.may;
  meta = two.meta ∙ one.meta;
  waiting = λ none. one.waiting (two.waiting none);
  rests = λ rests. two.rests (one.rests rests);
}

pub over_err : {T U : Type 0} (knows : FileState → Type 0) (stop : TidyStop) (says : T → FileState → Type 0) (other : U → FileState → Type 0) (d e : DiskModel) (old new : RunningCore) → LooksOver {T = T} knows (Err stop) says d old e new → LooksOver {T = U} knows (Err stop) other d old e new
over_err {T = T} {U = U} knows stop says other d e old new one = record {
  looks = λ m may its. let first = one.looks m may its in record { does = record { run = first.does.run; worked = worked_err {T = T} {U = U} stop old new m first.does.run.new first.does.worked; err = first.does.err }; same = first.same; ok = tt };
  spent = one.spent;
  may = tt;
  meta = one.meta;
  waiting = one.waiting;
  rests = one.rests;
}

-- of the same answer less is said, or of another one, with more that is known
pub over_weaker : {T : Type 0} (knows less : FileState → Type 0) (r : Result T TidyStop) (says other : T → FileState → Type 0) (d e : DiskModel) (old new : RunningCore) → ((s : FileState) → less s → knows s) → ((s : FileState) (v : T) → less s → says v s → other v s)
    → LooksOver knows r says d old e new → LooksOver less r other d old e new
over_weaker knows less r says other d e old new known imp one = record {
  looks = λ m may its.
      let first = one.looks m may (if_both (file_now m) less less knows (λ s a b. known s a) its its) in
      record { does = first.does; same = first.same; ok = ok_weaker (file_now m) less says other r imp its first.ok };
  spent = one.spent;
  may = one.may;
  meta = one.meta;
  waiting = one.waiting;
  rests = one.rests;
}

pub over_ok : {T U : Type 0} (knows : FileState → Type 0) (v : T) (w : U) (says : T → FileState → Type 0) (other : U → FileState → Type 0) (d e : DiskModel) (old new : RunningCore) → ((s : FileState) → knows s → says v s → other w s) → LooksOver knows (Ok v) says d old e new → LooksOver knows (Ok w) other d old e new
over_ok knows v w says other d e old new imp one = record {
  looks = λ m may its.
      let first = one.looks m may its in
      record { does = record { run = first.does.run; worked = worked_as v w old new m first.does.run.new first.does.worked; err = tt }; same = first.same; ok = if_both (file_now m) knows (says v) (other w) imp its first.ok };
  spent = one.spent;
  may = one.may;
  meta = one.meta;
  waiting = one.waiting;
  rests = one.rests;
}

-- what was known before a call that wants none of it
pub over_known : {T : Type 0} (knows : FileState → Type 0) (r : Result T TidyStop) (says : T → FileState → Type 0) (d e : DiskModel) (old new : RunningCore) → LooksOver NothingOf r says d old e new → LooksOver knows r says d old e new
over_known knows r says d e old new one = over_weaker NothingOf knows r says says d e old new (λ s known. tt) (λ s v known said. said) one

-- no count falls
later : (first last count : ℕ) → last ≡ first + count → first ≤ last
later first last count is = omega (arith, is)

pub goes_later : {T : Type 0} (r : Result T TidyStop) (d e : DiskModel) (old new : RunningCore) → Goes r d old e new → MayRun d old → old.taken ≤ new.taken
goes_later r d e old new goes may = let one = goes.does may.0 may.1 in later old.taken new.taken (steps_in one.worked.events) one.worked.counted

pub goes_rises : {T : Type 0} (r : Result T TidyStop) (d e : DiskModel) (old new : RunningCore) → Goes r d old e new → MayRun d old → AreAtMost old.done new.done
goes_rises r d e old new goes may = let one = goes.does may.0 may.1 in subst (λ (c : TidyCounts). AreAtMost old.done c) (sym one.worked.did) (at_most_added old.done (operations_in one.worked.events))

-- a look is a call
pub over_goes : {T : Type 0} (r : Result T TidyStop) (says : T → FileState → Type 0) (d e : DiskModel) (old new : RunningCore) → LooksOver NothingOf r says d old e new → Goes r d old e new
over_goes r says d e old new one = record {
  does = λ m may. (one.looks m may (if_value (file_now m) NothingOf (λ s is. tt))).does;
  spent = one.spent;
  may = one.may;
}

-- a call that ended well goes on
pub goes_next : (v : Unit {0}) (r : Result (Unit {0}) TidyStop) (d e f : DiskModel) (old mid new : RunningCore) → Goes (Ok v) d old e mid → Goes r e mid f new → r ≡ Ok v → Goes (Ok v) d old f new
goes_next v r d e f old mid new one two is = subst (λ (x : Result (Unit {0}) TidyStop). Goes x d old f new) is (goes_then v r d e f old mid new one two)
