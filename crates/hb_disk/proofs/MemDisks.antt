-- What a disk in memory answers, from what its history did.
use Rattle.std.proofs.Common.{◌≡◌, ◌↔◌, inl, inr, ℕ, ◌≤◌, Bool, List, Result, Ok, Err, IsTrue, IsErr, IfErr, OnOk, OnErr, refl, sym, subst}
use Rattle.hb_outside.specs.Streams.{Rose}
use Rattle.hb_outside.specs.Calls.{Counts}
use Rattle.hb_outside.specs.Memory.{next_count}
use Rattle.hb_disk.specs.Model.{DiskModel, last_value}
use Rattle.hb_disk.specs.Calls.{Ticks, Writes, Syncs}
use Rattle.hb_disk.proofs.Facts.FaultLaws.{WriteFaults-as}
use Rattle.hb_disk.specs.NotedCalls.{Refuses, starved_after}
use Rattle.hb_disk.specs.MemDisk.{bytes_of, IsListed, CalledExactly, FailsFor, HasSameRecord}
use Rattle.hb_disk.specs.declared.event.Refused.{Refused}
use Rattle.hb_disk.specs.declared.event.Refused.TheVariants.{Listed, Over, NoMemory}
use Rattle.hb_disk.specs.declared.mem_disk.MemDisk.{MemDisk}
use Rattle.hb_outside.proofs.Facts.CountLaws.{Rose-next_count}

-- two results are both a success, or both a failure
abbrev pub Alike : {T E F : Type 0} → Result T E → Result T F → Type 0
Alike (Ok v) (Ok w) = Unit {0}
Alike (Ok v) (Err f) = ⊥
Alike (Err e) (Ok w) = ⊥
Alike (Err e) (Err f) = Unit {0}

pub alike : {T E F : Type 0} (done : Result T E) (r : Result T F) → (IsErr done ↔ IsErr r) → Alike done r
alike (Ok v) (Ok w) same = tt
alike (Ok v) (Err f) same = cc (same.1 refl)
alike (Err e) (Ok w) same = cc (same.0 refl)
alike (Err e) (Err f) same = tt

-- What is said of one result holds of another that is alike.
told_err : {T E F : Type 0} (done : Result T E) (r : Result T F) → Alike done r → IsErr done → IsErr r
told_err (Ok v) (Ok w) alike err = cc
told_err (Ok v) (Err f) alike err = refl
told_err (Err e) (Ok w) alike err = absurd alike
told_err (Err e) (Err f) alike err = refl

told_ticks : {T E F : Type 0} (done : Result T E) (r : Result T F) (old new : DiskModel) → Alike done r → Ticks done old new → Ticks r old new
told_ticks done r old new alike ticks = record {
  tick = ticks.tick;
  later = ticks.later;
  ended = λ tells at_end. let was = ticks.ended tells at_end in (told_err done r alike was.0, was.1);
  time = ticks.time;
  size = ticks.size;
}

pub told_writes : {T E F : Type 0} (done : Result T E) (r : Result T F) (at : ℕ) (piece : List ℕ) (old new : DiskModel) → Alike done r → Writes at piece done old new → Writes at piece r old new
told_writes (Ok v) (Ok w) at piece old new alike writes = record { written = writes.written; tried = tt; silent = writes.silent; crash = writes.crash; opened = writes.opened; opened_or_not = tt; ticks = told_ticks (Ok v) (Ok w) old new alike writes.ticks; faults = WriteFaults-as old new (λ e. cc) (λ e. cc) writes.faults }
told_writes (Ok v) (Err f) at piece old new alike writes = absurd alike
told_writes (Err e) (Ok w) at piece old new alike writes = absurd alike
told_writes (Err e) (Err f) at piece old new alike writes = record { written = tt; tried = writes.tried; silent = writes.silent; crash = writes.crash; opened = tt; opened_or_not = writes.opened_or_not; ticks = told_ticks (Err e) (Err f) old new alike writes.ticks; faults = WriteFaults-as old new (λ e. refl) (λ e. refl) writes.faults }

pub told_syncs : {T E F : Type 0} (done : Result T E) (r : Result T F) (old new : DiskModel) → Alike done r → Syncs done old new → Syncs r old new
told_syncs (Ok v) (Ok w) old new alike syncs = record { same = syncs.same; durable = syncs.durable; crash = syncs.crash; left_open = tt; ticks = told_ticks (Ok v) (Ok w) old new alike syncs.ticks; faults = WriteFaults-as old new (λ e. cc) (λ e. cc) syncs.faults }
told_syncs (Ok v) (Err f) old new alike syncs = absurd alike
told_syncs (Err e) (Ok w) old new alike syncs = absurd alike
told_syncs (Err e) (Err f) old new alike syncs = record { same = syncs.same; durable = tt; crash = syncs.crash; left_open = syncs.left_open; ticks = told_ticks (Err e) (Err f) old new alike syncs.ticks; faults = WriteFaults-as old new (λ e. refl) (λ e. refl) syncs.faults }

-- the count of faults after a call, by its history's answer
pub counts_after : {T : Type 0} (done : Result T Refused) (before after : ℕ) (P : Type 0) → OnOk done ((after ≡ before) × P) → OnErr done (after ≡ next_count before) → before ≤ after → Counts (IsErr done) before after
counts_after (Ok v) before after P good bad later = record { cause = λ failed. cc; no_fault = λ _. good.0; later = later }
counts_after (Err e) before after P good bad later = record { cause = λ failed. subst (λ n. Rose before n) (sym bad) (Rose-next_count before (next_count before) refl); no_fault = λ not. absurd (not refl); later = later }

-- why a call failed, from what its history says
blame_of : (old new : MemDisk) (listed : Bool) (Tried : Type 0) (e : Refused) → (IsTrue listed ↔ IsListed old) → Refuses Tried (HasSameRecord old new) listed old.history.clock e
    → new.starved ≡ starved_after e old.starved → FailsFor Tried old new
blame_of old new listed OnRecord Listed listing why starved = inl (listing.0 why.0, why.1, why.2, starved)
blame_of old new listed OnRecord Over listing why starved = inr (inl (why.0, why.1, starved))
blame_of old new listed OnRecord NoMemory listing why starved = inr (inr (why.0, why.1, starved))

-- exactly when a call fails, and what it counts
module _ (old new : MemDisk) (listed : Bool) (listing : IsTrue listed ↔ IsListed old) (calls : new.calls ≡ next_count old.calls) (failing : new.failing ≡ old.failing)
    (reads : new.read_faults ≡ old.read_faults) (Tried : Type 0) {T F : Type 0} where
  pub called_exactly : (done : Result T Refused) (r : Result T F) → Alike done r → (IsTrue listed → IsErr done) → (old.history.clock ≡ last_value → IsErr done)
      → IfErr done (Refuses Tried (HasSameRecord old new) listed old.history.clock) → OnErr done (bytes_of new ≡ bytes_of old)
      → OnOk done ((new.write_faults ≡ old.write_faults) × (new.starved ≡ old.starved)) → OnErr done (new.write_faults ≡ next_count old.write_faults)
      → IfErr done (λ e. new.starved ≡ starved_after e old.starved) → CalledExactly Tried r old new
  called_exactly (Ok v) (Ok w) alike must over why same good bad starved = record {
    listed = λ l. cc (must (listing.1 l));
    ended = λ at_end. cc (over at_end);
    blame = tt;
    unchanged = tt;
    calls = calls;
    failing = failing;
    fault = tt;
    no_fault = good;
    read_faults = reads;
  }
  called_exactly (Ok v) (Err f) alike must over why same good bad starved = absurd alike
  called_exactly (Err e) (Ok w) alike must over why same good bad starved = absurd alike
  called_exactly (Err e) (Err f) alike must over why same good bad starved = record {
    listed = λ l. refl;
    ended = λ at_end. refl;
    blame = blame_of old new listed Tried e listing why starved;
    unchanged = same;
    calls = calls;
    failing = failing;
    fault = bad;
    no_fault = tt;
    read_faults = reads;
  }

-- what a success, or a failure, says of one holds of the other
pub told_on_ok : {T E F : Type 0} (done : Result T E) (r : Result T F) (P : Type 0) → Alike done r → OnOk done P → OnOk r P
told_on_ok (Ok v) (Ok w) P alike h = h
told_on_ok (Ok v) (Err f) P alike h = tt
told_on_ok (Err e) (Ok w) P alike h = absurd alike
told_on_ok (Err e) (Err f) P alike h = tt
