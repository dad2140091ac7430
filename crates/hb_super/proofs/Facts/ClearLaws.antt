-- What follows of what a clearing did.
use Rattle.std.proofs.Common.{◌≡◌, ◌⊎◌, inl, inr, ℕ, ◌+◌, ◌≤◌, IsSome, Result, Ok, IsErr, sym, ◌∙◌, arith}
use Rattle.hb_outside.specs.Streams.{Rose}
use Rattle.hb_disk.specs.Model.{DiskModel, IsDisk, Torn}
use Rattle.hb_disk.specs.Calls.{OnlyReads, IsSynced, Becomes}
use Rattle.hb_disk.proofs.Facts.TornLaws.{Torn-itself}
use Rattle.hb_disk.proofs.Facts.BecomesLaws.{Becomes-read}
use Rattle.hb_disk.proofs.Facts.RunLaws.{OnlyReads-read}
use Rattle.hb_disk.proofs.Facts.SyncedLaws.{IsSynced-durable}
use Rattle.hb_layout.specs.Offsets.{slot_offset}
use Rattle.hb_super.specs.Moments.{Clears}

-- reads keep a range synced
pub IsSynced-reads : (old new : DiskModel) (at n : ℕ) → OnlyReads old new → IsSynced old at n → IsSynced new at n
IsSynced-reads old new at n reads was = record {
  each = λ b c told image. was.each b c (sym reads.stays.told ∙ told) (reads.stays.image c image);
}

module _ (turn : ℕ) {T E : Type 0} (old new : DiskModel) where
  -- what it touched
  pub cleared_place : (r : Result T E) → IsDisk old → Clears turn r old new → Becomes (Torn (slot_offset turn + 1) 40) old new
  cleared_place r is_disk (inl only) = Becomes-read (Torn (slot_offset turn + 1) 40) old new is_disk (Torn-itself (slot_offset turn + 1) 40) only.stays
  cleared_place r is_disk (inr wrote) = wrote.run.became

  pub cleared_few : (r : Result T E) → Clears turn r old new → IsSome old.told → new.clock ≤ old.clock + 2
  cleared_few r (inl only) tells = omega (arith, only.stays.clock)
  cleared_few r (inr wrote) tells = wrote.run.few tells

  pub cleared_synced : (v : T) (at n : ℕ) → (let r : Result T E = Ok v in Clears turn r old new) → IsSynced old at n → IsSynced new at n
  cleared_synced v at n (inl only) was = IsSynced-reads old new at n (OnlyReads-read _ old new only) was
  cleared_synced v at n (inr wrote) was = IsSynced-durable new at n wrote.lasts

  -- which counts of faults rose
  pub cleared_cause : (r : Result T E) → IsErr r → Clears turn r old new → Rose old.read_faults new.read_faults ⊎ Rose old.write_faults new.write_faults
  cleared_cause r failed (inl only) = inl (only.reads.cause failed)
  cleared_cause r failed (inr wrote) = inr (wrote.run.faults.writes.cause failed)

  pub cleared_no_fault : (r : Result T E) → (IsErr r → ⊥) → Clears turn r old new → (new.read_faults ≡ old.read_faults) × (new.write_faults ≡ old.write_faults)
  cleared_no_fault r good (inl only) = (only.reads.no_fault good, only.writes)
  cleared_no_fault r good (inr wrote) = (wrote.run.faults.reads, wrote.run.faults.writes.no_fault good)

  pub cleared_faults_later : (r : Result T E) → Clears turn r old new → (old.read_faults ≤ new.read_faults) × (old.write_faults ≤ new.write_faults)
  cleared_faults_later r (inl only) = (only.reads.later, omega (arith, only.writes))
  cleared_faults_later r (inr wrote) = (omega (arith, wrote.run.faults.reads), wrote.run.faults.writes.later)
