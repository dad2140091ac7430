-- Runs of calls that write, one after another, and their faults.
use Rattle.std.proofs.Common.{◌≡◌, ◌⊎◌, inl, inr, ℕ, ◌+◌, ◌≤◌, IsErr, Result, Ok, Err, refl, ◌∙◌, subst, arith}
use Rattle.hb_outside.specs.Streams.{Rose}
use Rattle.hb_disk.specs.Model.{DiskModel, IsDisk, Torn}
use Rattle.hb_disk.specs.Calls.{IsSynced, ReadsOnly, Syncs, WriteFaults}
use Rattle.hb_disk.specs.Runs.{Rewrites}
use Rattle.hb_disk.proofs.Facts.RewriteLaws.{Becomes-tells, Rewrites-sync, Rewrites-weaker}
use Rattle.hb_layout.specs.Offsets.{page_offset, slot_offset}
use Rattle.hb_layout.specs.declared.meta.Meta.{Meta}
use Rattle.hb_super.specs.Moments.{Clears}
use Rattle.hb_super.proofs.Facts.ClearLaws.{cleared_cause, cleared_faults_later, cleared_few, cleared_no_fault, cleared_place, cleared_synced}
use Rattle.hb_store.specs.Switching.{TornSwitch}
use Rattle.hb_restart.specs.Renewing.{DiskFaults, Runs}
use Rattle.hb_restart.proofs.Facts.Beyond.{beyond_none, beyond_then, beyond_wider}
use Rattle.hb_store.proofs.Facts.PlaceWrites.{switch_within}

-- no call failed
pub faults_none : {F : Type 0} (d : DiskModel) → (F → ⊥) → DiskFaults F d d
faults_none d fine = record { cause = λ f. absurd (fine f); no_fault = λ ok. (refl, refl); reads = omega arith; writes = omega arith }

-- what failed is said in other words
pub faults_as : {F G : Type 0} (old new : DiskModel) → (F → G) → (G → F) → DiskFaults F old new → DiskFaults G old new
faults_as old new to from faults = record {
  cause = λ g. faults.cause (from g);
  no_fault = λ fine. faults.no_fault (λ f. fine (to f));
  reads = faults.reads;
  writes = faults.writes;
}

-- calls behind others of which none failed
pub faults_then : {F G : Type 0} (old mid new : DiskModel) → (F → ⊥) → DiskFaults F old mid → DiskFaults G mid new → DiskFaults G old new
faults_then old mid new fine first second =
    let same = first.no_fault fine in
    let R : ℕ → Type 0 = λ n. Rose n new.read_faults in
    let W : ℕ → Type 0 = λ n. Rose n new.write_faults in
    record {
      cause = λ g. elim (second.cause g) as (λ _. Rose old.read_faults new.read_faults ⊎ Rose old.write_faults new.write_faults) [
        | inl reads ↦ inl (subst R same.0 reads)
        | inr writes ↦ inr (subst W same.1 writes)
      ];
      no_fault = λ ok. ((second.no_fault ok).0 ∙ same.0, (second.no_fault ok).1 ∙ same.1);
      reads = omega (arith, first.reads, second.reads);
      writes = omega (arith, first.writes, second.writes);
    }

-- those of reads alone, and of writes alone
pub faults_read : {F : Type 0} (old new : DiskModel) → ReadsOnly F old new → DiskFaults F old new
faults_read old new only = record {
  cause = λ f. inl (only.reads.cause f);
  no_fault = λ fine. (only.reads.no_fault fine, only.writes);
  reads = only.reads.later;
  writes = omega (arith, only.writes);
}

pub faults_write : {F : Type 0} (old new : DiskModel) → WriteFaults F old new → DiskFaults F old new
faults_write old new faults = record {
  cause = λ f. inr (faults.writes.cause f);
  no_fault = λ fine. (faults.reads, faults.writes.no_fault fine);
  reads = omega (arith, faults.reads);
  writes = faults.writes.later;
}

-- no call
pub runs_none : {F : Type 0} (m within : ℕ) (d : DiskModel) → IsDisk d → (F → ⊥) → Runs m within F d d
runs_none m within d is_d fine = record { beyond = beyond_none within d is_d; few = λ tells. omega arith; faults = faults_none d fine }

-- a run that writes in a range within the first bytes
pub runs_rewrite : {T E : Type 0} (r : Result T E) (at n m within : ℕ) (old new : DiskModel) → at + n ≤ within → Rewrites (Torn at n) m r old new → Runs m within (IsErr r) old new
runs_rewrite r at n m within old new fits run = record {
  beyond = beyond_wider at n within old new fits run.became;
  few = run.few;
  faults = faults_write old new run.faults;
}

-- A run of more calls, within more bytes, that failed by other words.
pub runs_as : {F G : Type 0} (m n within wider : ℕ) (old new : DiskModel) → m ≤ n → within ≤ wider → (F → G) → (G → F) → Runs m within F old new → Runs n wider G old new
runs_as m n within wider old new more far to from run = record {
  beyond = beyond_wider 0 within wider old new (omega (arith, far)) run.beyond;
  few = λ tells. omega (arith, more, run.few tells);
  faults = faults_as old new to from run.faults;
}

-- a run behind one that didn't fail
pub runs_then : {F G : Type 0} (m n within : ℕ) (old mid new : DiskModel) → (F → ⊥) → Runs m within F old mid → Runs n within G mid new → Runs (m + n) within G old new
runs_then m n within old mid new fine first second = record {
  beyond = beyond_then within old mid new first.beyond second.beyond;
  few = λ tells. omega (arith, first.few tells, second.few (Becomes-tells (Torn 0 within) old mid first.beyond tells));
  faults = faults_then old mid new fine first.faults second.faults;
}

-- a run that was given up on its way
pub runs_given_up : {T E U V : Type 0} (r : Result T E) (q : Result U V) (m n within wider : ℕ) (old new : DiskModel) → IsErr r → IsErr q → m ≤ n → within ≤ wider → Runs m within (IsErr r) old new → Runs n wider (IsErr q) old new
runs_given_up r q m n within wider old new failed given_up more far run = runs_as m n within wider old new more far (λ f. given_up) (λ f. failed) run

-- a sync
pub runs_sync : {T E : Type 0} (r : Result T E) (within : ℕ) (old new : DiskModel) → IsDisk old → Syncs r old new → Runs 1 within (IsErr r) old new
runs_sync r within old new is_old syncs = runs_rewrite r 0 within 1 within old new (omega arith) (Rewrites-sync r 0 within old new is_old syncs)

-- a hidden body cleared
pub runs_clear : {T E : Type 0} (r : Result T E) (turn within : ℕ) (old new : DiskModel) → IsDisk old → slot_offset turn + 1 + 40 ≤ within → Clears turn r old new → Runs 2 within (IsErr r) old new
runs_clear r turn within old new is_old fits did = record {
  beyond = beyond_wider (slot_offset turn + 1) 40 within old new fits (cleared_place turn old new r is_old did);
  few = cleared_few turn old new r did;
  faults = record {
    cause = λ failed. cleared_cause turn old new r failed did;
    no_fault = λ fine. cleared_no_fault turn old new r fine did;
    reads = (cleared_faults_later turn old new r did).0;
    writes = (cleared_faults_later turn old new r did).1;
  };
}

-- what it leaves synced once it is done
pub clear_synced : {T E : Type 0} (r : Result T E) (v : T) (turn at n : ℕ) (old new : DiskModel) → r ≡ Ok v → Clears turn r old new → IsSynced old at n → IsSynced new at n
clear_synced (Ok v) w turn at n old new ok did was = cleared_synced turn old new v at n did was
clear_synced (Err e) w turn at n old new ok did was = absurd (let never : ⊥ = cc ok in never)

-- the next turn begun
pub runs_switch : {T E : Type 0} (r : Result T E) (turn : ℕ) (meta : Meta) (old new : DiskModel) → Rewrites (TornSwitch turn meta) 9 r old new → Runs 9 (page_offset meta 1) (IsErr r) old new
runs_switch r turn meta old new run =
    let n = page_offset meta 1 in
    runs_rewrite r 0 n 9 n old new (omega arith) (Rewrites-weaker r (TornSwitch turn meta) (Torn 0 n) 9 old new (switch_within turn meta) run)
