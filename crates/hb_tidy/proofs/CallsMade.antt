-- A step of a worker, a flush, a look and a job that waits, as the calls of this crate have them.
use Rattle.std.proofs.Common.{◌≡◌, ◌≢◌, ◌⊎◌, ◌↔◌, inl, inr, ℕ, ◌+◌, ◌-◌, ◌^◌, ◌≤◌, ◌<◌, List, [], length, Option, Some, None, IfSome, IsSome, Result, Ok, Err, OnOk, refl, sym, ap, ◌∙◌, subst, arith}
use Rattle.std.specs.Result.{IfErr, IfOk}
use Rattle.std.proofs.Math.Nat.{eq-or-lt_of_le}
use Rattle.std.proofs.lemmas.List.{length-map}
use Rattle.hb_disk.proofs.Facts.RunLaws.{OnlyReads-none}
use Rattle.hb_disk.specs.Model.{DiskModel, IsDisk}
use Rattle.hb_lemmas.proofs.Options.{at_value, not_none}
use Rattle.hb_activity.specs.declared.dropping.DropWhy.TheVariants as drops
use Rattle.hb_activity.specs.declared.jobs.Job.{Job}
use Rattle.hb_layout.specs.Limits.{IsLayout}
use Rattle.hb_ops.specs.declared.operations.Op.{Op}
use Rattle.hb_ops.specs.Files.{FileState}
use Rattle.hb_outside.specs.Streams.{Rose}
use Rattle.hb_set.specs.Order.{Entry}
use Rattle.hb_store.specs.States.{StoreState}
use Rattle.hb_store.specs.declared.stops.Flushed.{Flushed}
use Rattle.hb_store.specs.declared.stops.Flushed.TheVariants as flushes
use Rattle.hb_store.specs.declared.stops.WriteFault.{WriteFault}
use Rattle.hb_store.specs.declared.stops.StopWhy.{StopWhy}
use Rattle.hb_store.specs.declared.stops.StopWhy.TheVariants as whys
use Rattle.hb_store.specs.declared.stops.Why.{Why}
use Rattle.hb_steps.proofs.Facts.NoDamage.{stays_undamaged}
use Rattle.hb_core.proofs.Facts.BetweenCalls.{flusher_stands}
use Rattle.hb_core.specs.Between.{LetsWait, said_of_flush}
use Rattle.hb_core.specs.Counting.{CountsStay, CountsWithin}
use Rattle.hb_steps.specs.Keeps.{HasSoundFile}
use Rattle.hb_steps.specs.KeptFits.{JobFits}
use Rattle.hb_steps.specs.Machines.{Machine}
use Rattle.hb_core.specs.Showing.{RunningCore, ShowsMachine}
use Rattle.hb_steps.specs.Steps.{StepsTo}
use Rattle.hb_core.specs.Touching.{EndsByRead, Touches}
use Rattle.hb_core.specs.Working.{MayStep}
use Rattle.hb_steps.specs.declared.outcomes.Outcome.{Outcome}
use Rattle.hb_steps.specs.declared.outcomes.Outcome.TheVariants as outcomes
use Rattle.hb_tidy.proofs.CountsOfSteps.{DidOnce}
use Rattle.hb_tidy.proofs.Facts.Joined.{may_then}
use Rattle.hb_tidy.proofs.OneCall.{StandsStill, run_tidied, step_runs, step_taken, still_itself, still_tidied, still_tidied_new, still_waiting}
use Rattle.hb_tidy.proofs.Resting.{still_rests}
use Rattle.hb_tidy.proofs.Worked.{none_dropped, worked_none, worked_once, worked_still}
use Rattle.hb_tidy.proofs.Workers.{FlushLeaves, IsWorker, flusher_leaves, is_actor}
use Rattle.hb_tidy.specs.declared.stops.TidyStop.{TidyStop}
use Rattle.hb_tidy.specs.declared.stops.TidyStop.TheVariants as stops
use Rattle.hb_tidy.specs.Counted.{EndsSpent}
use Rattle.hb_tidy.specs.Going.{Goes, MayTidy}
use Rattle.hb_tidy.specs.Looking.{FileStays, LooksOver, NothingOf}
use Rattle.hb_tidy.specs.Stepping.{EndsCall, EndsStep, stop_by}
use Rattle.hb_tidy.specs.Tidying.{HasTidied, StopsTidying, file_now}
use Rattle.hb_tidy.specs.Owed.{IsJobOwed}
use Rattle.hb_tidy.specs.Working.{DidInStep, DropsNone, HasCause, HasWorked}
use Rattle.hb_tidy.specs.Working.{Steps, Waits}

-- ---- what is known of a core that may go on

-- no machine that it shows is stopped
pub runs_all : (d : DiskModel) (c : RunningCore) (m : Machine) → MayTidy d c → MayStep d c m → m.stop ≡ None
runs_all d c m may shows = shows.shows.stop ∙ sym may.runs.1.shows.stop ∙ may.runs.2

-- what the file says of itself is within its limits
pub layout_of : (d : DiskModel) (c : RunningCore) → MayTidy d c → IsLayout c.store.meta
layout_of d c may = subst (λ (st : StoreState). IsLayout st.meta) may.runs.1.shows.store may.runs.1.goes_on.kept.meta_within_limits.layout

below_last : (taken : ℕ) → taken ≤ 2 ^ 64 - 1 → (taken ≡ 2 ^ 64 - 1 → ⊥) → taken < 2 ^ 64 - 1
below_last taken last ne = elim (eq-or-lt_of_le last) [ inl same ↦ absurd (ne same) | inr less ↦ less ]

not_last : (taken : ℕ) → taken < 2 ^ 64 - 1 → taken ≡ 2 ^ 64 - 1 → ⊥
not_last taken less is = omega (arith, less, is)

-- an error that isn't want of steps, where some are left
pub other_stop : (stop : TidyStop) (c : RunningCore) → c.taken < 2 ^ 64 - 1 → (stop ≡ stops.Spent → ⊥) → (stop ≡ stops.Spent) ↔ (c.taken ≡ 2 ^ 64 - 1)
other_stop stop c left other = (λ is. absurd (other is), λ is. absurd (not_last c.taken left is))

never_spent : (stop : TidyStop) (why : StopWhy) → stop ≡ stop_by why → stop ≡ stops.Spent → ⊥
never_spent stop whys.WriteFault is other = let never : stops.WriteFault ≡ stops.Spent = sym is ∙ other in cc
never_spent stop (whys.Damaged page why) is other = let never : stops.Damaged page why ≡ stops.Spent = sym is ∙ other in cc

-- ---- a step

-- What a core told of a step of a worker, or of the flusher.
pub record Stepped (d : DiskModel) (old : RunningCore) (actor : ℕ) (outcome : Outcome) (e : DiskModel) (new : RunningCore) : Type 0 where
  pub disk : IsDisk d
  pub disk_next : IsDisk e
  pub worker : IsWorker actor
  pub steps : (m : Machine) → MayStep d old m → (next : Machine) × StepsTo m actor outcome next × ShowsMachine e new next
  pub touches : Touches d old outcome e new
  pub cause : (m : Machine) → MayStep d old m → HasCause m actor
  pub one : new.taken ≡ old.taken + 1
  pub op : Option Op
  pub once : DidOnce (Steps actor outcome op) op old new

module _ (d : DiskModel) (old : RunningCore) (actor : ℕ) (outcome : Outcome) (e : DiskModel) (new : RunningCore) (took : Stepped d old actor outcome e new) (may : MayTidy d old) where
  pub tidied : (m : Machine) → MayStep d old m → HasTidied d m e new
  tidied m shows = run_tidied may.laws.runs d e m actor _ new (step_runs may.laws.runs d e m actor outcome old new took.disk took.disk_next took.worker shows took.steps took.touches) shows.goes_on.kept took.worker

  pub step_made : (m : Machine) (shows : MayStep d old m) → StepsTo m actor outcome (tidied m shows).new
  unfolding tidied
  step_made m shows = step_taken may.laws.runs d e m actor outcome old new took.disk took.disk_next took.worker shows took.steps took.touches shows.goes_on.kept

  -- the operation that the core tells is that of the machines
  did_made : (m : Machine) (shows : MayStep d old m) → DidInStep took.op (length m.order) m.store (tidied m shows).new.store
  did_made m shows =
      let places : length m.order ≡ length old.order = sym (length-map m.order (λ (e : Entry). e.line.number)) ∙ ap (λ (numbers : List ℕ). length numbers) shows.shows.order in
      subst (λ (n : ℕ). DidInStep took.op n m.store (tidied m shows).new.store) (sym places)
      (subst (λ (st : StoreState). DidInStep took.op (length old.order) st (tidied m shows).new.store) (sym shows.shows.store)
      (subst (λ (st : StoreState). DidInStep took.op (length old.order) old.store st) (sym (tidied m shows).shows.store) took.once.did))

  pub worked : {T : Type 0} (r : Result T TidyStop) → IfOk r (λ v. DropsNone (Steps actor outcome took.op)) → (m : Machine) (shows : MayStep d old m) → HasWorked r old m new (tidied m shows).new
  worked r none m shows = worked_once r old new m (tidied m shows).new (Steps actor outcome took.op) took.one took.once.counts (took.cause m shows, step_made m shows, did_made m shows) none

  -- nothing but a failed write stops it over a disk that tells
  never_damaged : (m : Machine) → MayStep d old m → (page : ℕ) (why : Why) → new.stop ≡ Some (whys.Damaged page why) → IsSome d.told → ⊥
  never_damaged m shows page why stop tells =
      let them = shows.shows.tells tells in
      let next = took.steps m shows in
      let has = at_value m.files (HasSoundFile m) them.files them.told shows.goes_on.sound in
      let well = stays_undamaged m them.files actor outcome next.0 (is_actor actor took.worker) them.told shows.goes_on.kept.latches_fit has shows.goes_on.kept.walk_in_space next.1 (inl (runs_all d old m may shows)) in
      by well (next.2.stop ∙ stop)
    where
      by : {o : Option StopWhy} → (o ≡ None) ⊎ (o ≡ Some whys.WriteFault) → o ≡ Some (whys.Damaged page why) → ⊥
      by (inl none) is = let never : None ≡ Some (whys.Damaged page why) = sym none ∙ is in cc
      by (inr fault) is = let never : Some whys.WriteFault ≡ Some (whys.Damaged page why) = sym fault ∙ is in cc

  module _ (result : Result (Unit {0}) TidyStop) (went : EndsCall new result) where
    stopped_cause : (m : Machine) (shows : MayStep d old m) (t : HasTidied d m e new) (why : StopWhy) → new.stop ≡ Some why → StopsTidying (stop_by why) d e new t.new
    stopped_cause m shows t whys.WriteFault is = (t.faults.write (t.shows.stop ∙ is) (λ stopped. not_none m.stop whys.WriteFault stopped (runs_all d old m may shows)), t.shows.stop ∙ is)
    stopped_cause m shows t (whys.Damaged page why) is = (never_damaged m shows page why is, t.shows.stop ∙ is)

    pub cause : (m : Machine) (shows : MayStep d old m) (t : HasTidied d m e new) → IfErr result (λ stop. StopsTidying stop d e new t.new)
    cause m shows t = by result went
      where
        by : (r : Result (Unit {0}) TidyStop) → EndsCall new r → IfErr r (λ stop. StopsTidying stop d e new t.new)
        by (Ok v) is = tt
        by (Err stop) (inl spent) = subst (λ (x : TidyStop). StopsTidying x d e new t.new) (sym spent.0) spent.1
        by (Err stop) (inr stopped) = subst (λ (x : TidyStop). StopsTidying x d e new t.new) (sym stopped.says) (stopped_cause m shows t stopped.why stopped.stopped)

    module _ (within : CountsWithin new) where
      pub left_by : new.taken ≢ 2 ^ 64 - 1 → new.taken < 2 ^ 64 - 1
      left_by ne = below_last new.taken within.last ne

      pub spent : EndsSpent result new
      spent = by result went
        where
          by : (r : Result (Unit {0}) TidyStop) → EndsCall new r → EndsSpent r new
          by (Ok v) is = left_by is.0
          by (Err stop) (inl none) = (λ same. none.1, λ same. none.0)
          by (Err stop) (inr stopped) = other_stop stop new (left_by stopped.left) (never_spent stop stopped.why stopped.says)

      pub step_may : OnOk result (MayTidy e new)
      step_may = by result went
        where
          by : (r : Result (Unit {0}) TidyStop) → EndsCall new r → OnOk r (MayTidy e new)
          by (Ok v) is =
              let t = tidied may.runs.0 may.runs.1 in
              record { laws = may.laws; runs = (t.new, may_then d e may.runs.0 new t, t.shows.stop ∙ is.1); counts = within; left = left_by is.0 }
          by (Err stop) is = tt

      pub step_goes : IfOk result (λ v. DropsNone (Steps actor outcome took.op)) → Goes result d old e new
      step_goes none = record {
        does = λ m shows. let t = tidied m shows in record { run = t; worked = worked result none m shows; err = cause m shows t };
        spent = spent;
        may = step_may;
      }

-- a step of a worker that dropped its job ends the call, though the core may go on
read_rose : (d : DiskModel) (old : RunningCore) (outcome : Outcome) (e : DiskModel) (new : RunningCore) → Touches d old outcome e new → EndsByRead outcome → Rose d.read_faults e.read_faults
read_rose d old outcome e new (inl reads) ends = reads.only.reads.cause ends
read_rose d old outcome e new (inr (inl force)) ends = absurd (force.no_read ends)
read_rose d old outcome e new (inr (inr (inl home))) ends = absurd (home.no_read ends)
read_rose d old outcome e new (inr (inr (inr turn))) ends = absurd (turn.no_read ends)

pub ended_goes : (d : DiskModel) (old : RunningCore) (actor : ℕ) (outcome : Outcome) (e : DiskModel) (new : RunningCore) (result : Result (Unit {0}) TidyStop) → Stepped d old actor outcome e new → MayTidy d old → CountsWithin new → EndsCall new (Ok (tt {0})) → EndsStep outcome result → Goes result d old e new
ended_goes d old actor outcome e new result took may within went ends = by outcome took ends
  where
    so : (r : Result (Unit {0}) TidyStop) → result ≡ r → Goes r d old e new → Goes result d old e new
    so r is goes = subst (λ (x : Result (Unit {0}) TidyStop). Goes x d old e new) (sym is) goes

    fails : (stop : TidyStop) (o : Outcome) → Stepped d old actor o e new → result ≡ Err stop → (stop ≡ stops.Spent → ⊥) → ((m : Machine) → StopsTidying stop d e new m) → Goes result d old e new
    fails stop o made is other why = so (Err stop) is (record {
      does = λ m shows. let t = tidied d old actor o e new made may m shows in record { run = t; worked = worked d old actor o e new made may (Err stop) tt m shows; err = why t.new };
      spent = other_stop stop new (below_last new.taken within.last went.0) other;
      may = tt;
    })

    goes : (o : Outcome) (made : Stepped d old actor o e new) → DropsNone (Steps actor o made.op) → result ≡ Ok (tt {0}) → Goes result d old e new
    goes o made none is = so (Ok (tt {0})) is (step_goes d old actor o e new made may (Ok (tt {0})) went within none)

    by : (o : Outcome) → Stepped d old actor o e new → EndsStep o result → Goes result d old e new
    by (outcomes.Dropped drops.NoMemory) made is = fails stops.NoMemory (outcomes.Dropped drops.NoMemory) made is (λ same. cc) (λ m. tt)
    by (outcomes.Dropped drops.ReadFault) made is = fails stops.ReadFault (outcomes.Dropped drops.ReadFault) made is (λ same. cc) (λ m. read_rose d old (outcomes.Dropped drops.ReadFault) e new made.touches refl)
    by (outcomes.Stopped why) made is = goes (outcomes.Stopped why) made tt is
    by outcomes.Idle made is = goes outcomes.Idle made tt is
    by (outcomes.Blocked other) made is = goes (outcomes.Blocked other) made tt is
    by outcomes.Helped made is = goes outcomes.Helped made tt is
    by (outcomes.Answered line reply) made is = goes (outcomes.Answered line reply) made tt is
    by outcomes.Moved made is = goes outcomes.Moved made tt is

-- ---- a flush

module _ (d : DiskModel) (old : RunningCore) (outcome : Outcome) (e : DiskModel) (new : RunningCore) (took : Stepped d old 19 outcome e new) (may : MayTidy d old) where
  -- it leaves the file and the jobs
  pub flush_stays : (m : Machine) (shows : MayStep d old m) → FlushLeaves m (tidied d old 19 outcome e new took may m shows).new
  flush_stays m shows = flusher_leaves m outcome (tidied d old 19 outcome e new took may m shows).new (flusher_stands (m.activity 19) (shows.goes_on.kept.classes 19)) (step_made d old 19 outcome e new took may m shows)

  flush_waits : new.jobs ≡ old.jobs
  flush_waits = let m = may.runs.0 in let shows = may.runs.1 in sym (tidied d old 19 outcome e new took may m shows).shows.jobs ∙ (flush_stays m shows).jobs ∙ shows.shows.jobs

nothing_said : {T : Type 0} (o : Option FileState) (r : Result T TidyStop) → IfOk r (λ v. IfSome o NothingOf)
nothing_said None (Ok v) = tt
nothing_said (Some s) (Ok v) = tt
nothing_said o (Err stop) = tt

pub flush_looks : (d : DiskModel) (old : RunningCore) (outcome : Outcome) (e : DiskModel) (new : RunningCore) (took : Stepped d old 19 outcome e new) (may : MayTidy d old) (result : Result (Unit {0}) TidyStop) (went : EndsCall new result) (within : CountsWithin new) → new.store.meta ≡ old.store.meta → DropsNone (Steps 19 outcome took.op)
    → LooksOver NothingOf result (λ v. NothingOf) d old e new
flush_looks d old outcome e new took may result went within meta none = record {
  looks = λ m shows known.
      let t = tidied d old 19 outcome e new took may m shows in
      record {
        does = record { run = t; worked = worked d old 19 outcome e new took may result (none_dropped result (Steps 19 outcome took.op) none) m shows; err = cause d old 19 outcome e new took may result went m shows t };
        same = (flush_stays d old outcome e new took may m shows).same;
        ok = nothing_said (file_now m) result;
      };
  spent = spent d old 19 outcome e new took may result went within;
  may = step_may d old 19 outcome e new took may result went within;
  meta = meta;
  waiting = λ empty. sym (flush_waits d old outcome e new took may) ∙ empty;
  rests =
      let m = may.runs.0 in
      let shows = may.runs.1 in
      let t = tidied d old 19 outcome e new took may m shows in
      still_rests d old m e new t.new shows.shows t.shows (flush_stays d old outcome e new took may m shows).activity;
}

pub flush_drops : (flushed : Result Flushed WriteFault) (op : Option Op) → DropsNone (Steps 19 (said_of_flush flushed) op)
flush_drops (Ok flushes.Forced) op = tt
flush_drops (Ok (flushes.Written page)) op = tt
flush_drops (Ok flushes.Switched) op = tt
flush_drops (Ok flushes.Nothing) op = tt
flush_drops (Err fault) op = tt

-- ---- a call that only reads

pub if_known : (o : Option FileState) (P Q : FileState → Type 0) → ((s : FileState) → P s → Q s) → IfSome o P → IfSome o Q
if_known None P Q imp k = tt
if_known (Some s) P Q imp k = imp s k

module _ (d : DiskModel) (c : RunningCore) (disk : IsDisk d) (may : MayTidy d c) where
  nothing_done : (m : Machine) → MayStep d c m → HasTidied d m d c
  nothing_done m shows = still_tidied may.laws.runs d d m m c c disk shows shows (OnlyReads-none d) (still_itself m)

  nothing_new : (m : Machine) (shows : MayStep d c m) → (nothing_done m shows).new ≡ m
  unfolding nothing_done
  nothing_new m shows = still_tidied_new may.laws.runs d d m m c c disk shows shows (OnlyReads-none d) (still_itself m)

  nothing_worked : {T : Type 0} (r : Result T TidyStop) (m : Machine) (shows : MayStep d c m) → HasWorked r c m c (nothing_done m shows).new
  nothing_worked r m shows = worked_none r c c m (nothing_done m shows).new (record { taken = refl; done = refl }) (nothing_new m shows)

  nothing_stays : (m : Machine) (shows : MayStep d c m) → FileStays m (nothing_done m shows).new
  nothing_stays m shows = subst (λ (x : Machine). FileStays m x) (sym (nothing_new m shows)) (record { file = refl; meta = refl })

  nothing_ends : (stop : TidyStop) (m : Machine) (shows : MayStep d c m) → StopsTidying stop d d c m → StopsTidying stop d d c (nothing_done m shows).new
  nothing_ends stop m shows why = subst (λ (x : Machine). StopsTidying stop d d c x) (sym (nothing_new m shows)) why

  -- nothing was done yet
  pub nothing_looked : {T : Type 0} (v : T) (knows : FileState → Type 0) (says : T → FileState → Type 0) → ((s : FileState) → knows s → says v s) → LooksOver {T = T} knows (Ok v) says d c d c
  nothing_looked {T = T} v knows says imp = record {
    looks = λ m shows known. record {
      does = record { run = nothing_done m shows; worked = nothing_worked {T = T} (Ok v) m shows; err = tt };
      same = nothing_stays m shows;
      ok = if_known (file_now m) knows (says v) imp known;
    };
    spent = may.left;
    may = may;
    meta = refl;
    waiting = λ none. none;
    rests = λ rests. rests;
  }

  -- a call that ends before it does anything
  pub nothing_more : {T : Type 0} (knows : FileState → Type 0) (says : T → FileState → Type 0) (stop : TidyStop) → (stop ≡ stops.Spent → ⊥) → ((m : Machine) → MayStep d c m → IfSome (file_now m) knows → StopsTidying stop d d c m)
      → LooksOver {T = T} knows (Err stop) says d c d c
  nothing_more {T = T} knows says stop other why = record {
    looks = λ m shows known. record {
      does = record { run = nothing_done m shows; worked = nothing_worked {T = T} (Err stop) m shows; err = nothing_ends stop m shows (why m shows known) };
      same = nothing_stays m shows;
      ok = tt;
    };
    spent = other_stop stop c may.left other;
    may = tt;
    meta = refl;
    waiting = λ none. none;
    rests = λ rests. rests;
  }

-- a job waits
module _ (d : DiskModel) (old new : RunningCore) (job : Job) (disk : IsDisk d) (may : MayTidy d old) (fits : JobFits old.store.meta.k job)
    (goes_on : (m : Machine) → MayStep d old m → (next : Machine) × LetsWait job m next × MayStep d new next) where
  still : (m : Machine) (shows : MayStep d old m) → StandsStill m (goes_on m shows).0
  still m shows = still_waiting may.laws.waiting m job (goes_on m shows).0 (subst (λ (st : StoreState). JobFits st.meta.k job) (sym shows.shows.store) fits) (goes_on m shows).1

  waited : (m : Machine) → MayStep d old m → HasTidied d m d new
  waited m shows = still_tidied may.laws.runs d d m (goes_on m shows).0 old new disk shows (goes_on m shows).2 (OnlyReads-none d) (still m shows)

  waited_new : (m : Machine) (shows : MayStep d old m) → (waited m shows).new ≡ (goes_on m shows).0
  unfolding waited
  waited_new m shows = still_tidied_new may.laws.runs d d m (goes_on m shows).0 old new disk shows (goes_on m shows).2 (OnlyReads-none d) (still m shows)

  stays_waiting : (m : Machine) (shows : MayStep d old m) → FileStays m (waited m shows).new
  stays_waiting m shows = subst (λ (x : Machine). FileStays m x) (sym (waited_new m shows)) (still m shows).same

  waited_worked : {T : Type 0} (v : T) → CountsStay old new → (m : Machine) (shows : MayStep d old m) → IfSome (file_now m) (λ s. IsJobOwed s job) → HasWorked (Ok v) old m new (waited m shows).new
  waited_worked v stay m shows owed =
      worked_still (Ok v) old new m (waited m shows).new (Waits job) stay refl refl
      (subst (λ (x : Machine). LetsWait job m x) (sym (waited_new m shows)) (goes_on m shows).1, owed) tt

  wait_may : CountsWithin new → new.taken ≡ old.taken → MayTidy d new
  wait_may within taken =
      let m = may.runs.0 in
      let next = goes_on m may.runs.1 in
      record {
        laws = may.laws;
        runs = (next.0, next.2, ap (λ (x : Machine). x.stop) next.1.rest ∙ may.runs.2);
        counts = within;
        left = let left = may.left in omega (arith, left, taken);
      }

  pub wait_looks : CountsStay old new → CountsWithin new → new.store.meta ≡ old.store.meta → (new.jobs ≡ [] → ⊥) → LooksOver {T = Unit {0}} (λ s. IsJobOwed s job) (Ok (tt {0})) (λ v. NothingOf) d old d new
  wait_looks stay within meta some = record {
    looks = λ m shows known. record { does = record { run = waited m shows; worked = waited_worked (tt {0}) stay m shows known; err = tt }; same = stays_waiting m shows; ok = nothing_said {T = Unit {0}} (file_now m) (Ok (tt {0})) };
    spent = let left = may.left in let taken = stay.taken in omega (arith, left, taken);
    may = wait_may within stay.taken;
    meta = meta;
    waiting = λ none. absurd (some none);
    rests = let one = goes_on may.runs.0 may.runs.1 in still_rests d old may.runs.0 d new one.0 may.runs.1.shows one.2.shows (still may.runs.0 may.runs.1).activity;
  }
