-- How a run of calls that write goes on, and how it ends.
use Rattle.std.proofs.Common.{◌≡◌, ℕ, ◌+◌, ◌≤◌, List, length, Option, Some, IfSome, IsSome, Result, Ok, Err, IsErr, refl, ap, ◌∙◌, sym, subst, arith}
use Rattle.hb_disk.specs.Model.{DiskModel, IsDisk, Torn}
use Rattle.hb_disk.specs.Calls.{Writes, Syncs, ReadsOnly, Becomes, Then}
use Rattle.hb_disk.specs.Runs.{Rewrites, WritesThrough}
use Rattle.hb_lemmas.proofs.Options.{some_value, at_value, if_value, has_value}
use Rattle.hb_disk.proofs.Facts.TornLaws.{Torn-itself, Torn-twice}
use Rattle.hb_disk.proofs.Facts.RunLaws.{one_tick}
use Rattle.hb_disk.proofs.Facts.BecomesLaws.{Becomes-read, Becomes-then, Becomes-weaker, Becomes-torn_write, Becomes-torn_sync}
use Rattle.hb_disk.proofs.Facts.FaultLaws.{not_failed, Stays-same, WriteFaults-none, WriteFaults-as, WriteFaults-then, WriteFaults-after}

-- a disk that tells goes on to tell
pub Becomes-tells : (R : List ℕ → List ℕ → Type 0) (old new : DiskModel) → Becomes R old new → IsSome old.told → IsSome new.told
Becomes-tells R old new run tells =
    let b = some_value old.told tells in
    let c = at_value old.told (λ b. (c : List ℕ) × (new.told ≡ Some c) × R b c) b.0 b.1 run.told in
    has_value new.told c.0 c.1

-- no call
pub Rewrites-none : {T E : Type 0} (r : Result T E) (at n k : ℕ) (d : DiskModel) → IsDisk d → (IsErr r → ⊥) → Rewrites (Torn at n) k r d d
Rewrites-none r at n k d is_disk good = record {
  became = Becomes-read (Torn at n) d d is_disk (Torn-itself at n) (Stays-same d);
  later = omega arith;
  few = λ tells. omega arith;
  faults = WriteFaults-none d good;
}

-- a write within the range, and a sync
pub Rewrites-write : {T E : Type 0} (r : Result T E) (from : ℕ) (piece : List ℕ) (at n : ℕ) (old new : DiskModel) → IsDisk old → IsDisk new
    → from + length piece ≤ old.size → at ≤ from → from + length piece ≤ at + n → Writes from piece r old new → Rewrites (Torn at n) 1 r old new
Rewrites-write r from piece at n old new is_old is_new fits low high writes = record {
  became = Becomes-torn_write r from piece at n old new is_old is_new fits low high writes;
  later = writes.ticks.later;
  few = one_tick r old new is_old writes.ticks;
  faults = writes.faults;
}

pub Rewrites-sync : {T E : Type 0} (r : Result T E) (at n : ℕ) (old new : DiskModel) → IsDisk old → Syncs r old new → Rewrites (Torn at n) 1 r old new
Rewrites-sync r at n old new is_old syncs = record {
  became = Becomes-torn_sync r at n old new is_old syncs;
  later = syncs.ticks.later;
  few = one_tick r old new is_old syncs.ticks;
  faults = syncs.faults;
}

-- a run after one that didn't fail
pub Rewrites-then : {T E U F : Type 0} (r : Result T E) (s : Result U F) (R S : List ℕ → List ℕ → Type 0) (k m : ℕ) (old mid new : DiskModel) (v : T) → r ≡ Ok v
    → Rewrites R k r old mid → Rewrites S m s mid new → Rewrites (Then R S) (k + m) s old new
Rewrites-then r s R S k m old mid new v ok first second = record {
  became = Becomes-then R S old mid new first.became second.became;
  later = omega (arith, first.later, second.later);
  few = λ tells. omega (arith, first.few tells, second.few (Becomes-tells R old mid first.became tells));
  faults = WriteFaults-then old mid new (not_failed r v ok) first.faults second.faults;
}

-- a relation that says less
pub Rewrites-weaker : {T E : Type 0} (r : Result T E) (R S : List ℕ → List ℕ → Type 0) (k : ℕ) (old new : DiskModel) → ((b c : List ℕ) → R b c → S b c) → Rewrites R k r old new → Rewrites S k r old new
Rewrites-weaker r R S k old new weaker run = record { became = Becomes-weaker R S old new weaker run.became; later = run.later; few = run.few; faults = run.faults }

-- two runs that are torn in one range
pub Rewrites-torn : {T E U F : Type 0} (r : Result T E) (s : Result U F) (at n k m : ℕ) (old mid new : DiskModel) (v : T) → r ≡ Ok v
    → Rewrites (Torn at n) k r old mid → Rewrites (Torn at n) m s mid new → Rewrites (Torn at n) (k + m) s old new
Rewrites-torn r s at n k m old mid new v ok first second =
    Rewrites-weaker s (Then (Torn at n) (Torn at n)) (Torn at n) (k + m) old new (λ b c both. Torn-twice at n b both.0 c both.1 both.2)
    (Rewrites-then r s (Torn at n) (Torn at n) k m old mid new v ok first second)

-- the same of an answer that is alike, and of more calls
pub Rewrites-as : {T E U F : Type 0} (r : Result T E) (q : Result U F) (R : List ℕ → List ℕ → Type 0) (k m : ℕ) (old new : DiskModel) → (IsErr r → IsErr q) → (IsErr q → IsErr r) → k ≤ m
    → Rewrites R k r old new → Rewrites R m q old new
Rewrites-as r q R k m old new to from less run = record {
  became = run.became;
  later = run.later;
  few = λ tells. omega (arith, run.few tells, less);
  faults = WriteFaults-as old new to from run.faults;
}

-- a run after reads that didn't fail
pub Rewrites-after_reads : {F T E : Type 0} (q : Result T E) (R : List ℕ → List ℕ → Type 0) (k : ℕ) (old mid new : DiskModel) → (F → ⊥) → ReadsOnly F old mid → Rewrites R k q mid new → Rewrites R k q old new
Rewrites-after_reads q R k old mid new good reads run = record {
  became = record {
    size = run.became.size ∙ reads.stays.size;
    silent = λ none. run.became.silent (reads.stays.told ∙ none);
    told =
        let Told : Option (List ℕ) → Type 0 = λ o. IfSome o (λ b. (c : List ℕ) × (new.told ≡ Some c) × R b c) in
        subst Told reads.stays.told run.became.told;
    crash = λ c image. let was = run.became.crash c image in (was.0, reads.stays.image was.0 was.1, was.2);
  };
  later = omega (arith, run.later, reads.stays.clock);
  few = λ tells. omega (arith, run.few (subst (λ (o : Option (List ℕ)). IsSome o) (sym reads.stays.told) tells), reads.stays.clock);
  faults = WriteFaults-after old mid new good reads run.faults;
}

-- A run that was given up on its way, after fewer calls.
pub WritesThrough-failed : {T E U F : Type 0} (r : Result T E) (q : Result U F) (done : List ℕ → List ℕ) (R : List ℕ → List ℕ → Type 0) (k m : ℕ) (old new : DiskModel) → IsErr r → IsErr q → k ≤ m
    → Rewrites R k r old new → WritesThrough done R m q old new
WritesThrough-failed r (Ok v) done R k m old new r_failed q_failed less run = cc
WritesThrough-failed {U = U} {F = F} r (Err e) done R k m old new r_failed q_failed less run = record {
  run = let q : Result U F = Err e in Rewrites-as r q R k m old new (λ f. q_failed) (λ f. r_failed) less run;
  written = tt;
  lasts = tt;
}

-- A run whose last call is a sync.
pub WritesThrough-synced : {T E : Type 0} (r : Result T E) (done : List ℕ → List ℕ) (R : List ℕ → List ℕ → Type 0) (k : ℕ) (old mid new : DiskModel)
    → Syncs r mid new → ((b : List ℕ) → old.told ≡ Some b → mid.told ≡ Some (done b)) → Rewrites R k r old new → WritesThrough done R k r old new
WritesThrough-synced (Ok v) done R k old mid new syncs written run = record {
  run = run;
  written = if_value old.told (λ b. new.told ≡ Some (done b)) (λ b told. syncs.same ∙ written b told);
  lasts =
      let Only : Option (List ℕ) → Type 0 = λ o. IfSome o (λ b. (c : List ℕ) → new.Image c → c ≡ b) in
      subst Only (sym syncs.same) syncs.durable;
}
WritesThrough-synced (Err e) done R k old mid new syncs written run = record { run = run; written = tt; lasts = tt }

-- The same of an answer that is alike.
pub WritesThrough-as : {T E U F : Type 0} (r : Result T E) (q : Result U F) (done : List ℕ → List ℕ) (R : List ℕ → List ℕ → Type 0) (k : ℕ) (old new : DiskModel) → (IsErr r → IsErr q) → (IsErr q → IsErr r)
    → WritesThrough done R k r old new → WritesThrough done R k q old new
WritesThrough-as {T = T} {E = E} {U = U} {F = F} (Ok v) (Ok w) done R k old new to from wrote = record {
  run = let r : Result T E = Ok v in let q : Result U F = Ok w in Rewrites-as r q R k k old new to from (omega arith) wrote.run;
  written = wrote.written;
  lasts = wrote.lasts;
}
WritesThrough-as (Ok v) (Err f) done R k old new to from wrote = cc (from refl)
WritesThrough-as (Err e) (Ok w) done R k old new to from wrote = cc (to refl)
WritesThrough-as {T = T} {E = E} {U = U} {F = F} (Err e) (Err f) done R k old new to from wrote = record {
  run = let r : Result T E = Err e in let q : Result U F = Err f in Rewrites-as r q R k k old new to from (omega arith) wrote.run;
  written = tt;
  lasts = tt;
}

-- Such a run after another one that didn't fail, in one range.
pub WritesThrough-after : {T E U F : Type 0} (r : Result T E) (v : T) (q : Result U F) (first second done : List ℕ → List ℕ) (at n k m : ℕ) (old mid new : DiskModel) → r ≡ Ok v
    → Rewrites (Torn at n) k r old mid → ((b : List ℕ) → old.told ≡ Some b → mid.told ≡ Some (first b)) → ((b : List ℕ) → old.told ≡ Some b → second (first b) ≡ done b)
    → WritesThrough second (Torn at n) m q mid new → WritesThrough done (Torn at n) (k + m) q old new
WritesThrough-after {U = U} {F = F} r v (Ok w) first second done at n k m old mid new ok run told same wrote = record {
  run = let q : Result U F = Ok w in Rewrites-torn r q at n k m old mid new v ok run wrote.run;
  written = if_value old.told (λ b. new.told ≡ Some (done b)) (λ b was.
      at_value mid.told (λ c. new.told ≡ Some (second c)) (first b) (told b was) wrote.written ∙ ap Some (same b was));
  lasts = wrote.lasts;
}
WritesThrough-after {U = U} {F = F} r v (Err e) first second done at n k m old mid new ok run told same wrote = record {
  run = let q : Result U F = Err e in Rewrites-torn r q at n k m old mid new v ok run wrote.run;
  written = tt;
  lasts = tt;
}

-- Such a run after reads that didn't fail.
pub WritesThrough-after_reads : {F T E : Type 0} (q : Result T E) (done : List ℕ → List ℕ) (R : List ℕ → List ℕ → Type 0) (k : ℕ) (old mid new : DiskModel) → (F → ⊥) → ReadsOnly F old mid
    → WritesThrough done R k q mid new → WritesThrough done R k q old new
WritesThrough-after_reads {F = F} {T = T} {E = E} (Ok v) done R k old mid new good reads wrote = record {
  run = let q : Result T E = Ok v in Rewrites-after_reads {F = F} q R k old mid new good reads wrote.run;
  written =
      let Told : Option (List ℕ) → Type 0 = λ o. IfSome o (λ b. new.told ≡ Some (done b)) in
      subst Told reads.stays.told wrote.written;
  lasts = wrote.lasts;
}
WritesThrough-after_reads {F = F} {T = T} {E = E} (Err e) done R k old mid new good reads wrote = record {
  run = let q : Result T E = Err e in Rewrites-after_reads {F = F} q R k old mid new good reads wrote.run;
  written = tt;
  lasts = tt;
}
