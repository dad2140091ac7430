-- What a run of calls makes of the bytes that a disk tells, and of what a crash leaves.
use Rattle.std.proofs.Common.{◌≡◌, ℕ, ◌+◌, ◌^◌, ◌<◌, ◌≤◌, List, length, Some, Result, Ok, Err, ◌∙◌, subst, arith}
use Rattle.std.specs.List.{All}
use Rattle.hb_disk.specs.Model.{DiskModel, IsDisk, overwritten, Torn, Stays}
use Rattle.hb_disk.specs.Calls.{Writes, Syncs, Becomes, Then}
use Rattle.hb_disk.proofs.Facts.TornLaws.{Torn-from, Torn-itself, Torn-wider, Torn-twice}
use Rattle.hb_disk.proofs.Facts.OverwrittenLaws.{length-overwritten, overwritten-outside}
use Rattle.hb_lemmas.proofs.Options.{at_value, if_value}

-- The told bytes after a write of a piece that fits are those before it, torn in the range.
pub told_torn : {T E : Type 0} (r : Result T E) (at : ℕ) (piece : List ℕ) (old new : DiskModel) (b : List ℕ) → IsDisk new
    → old.told ≡ Some b → at + length piece ≤ length b → Writes at piece r old new → (c : List ℕ) × (new.told ≡ Some c) × Torn at (length piece) b c
told_torn (Err e) at piece old new b is_new told fits writes =
    at_value old.told (λ b. (c : List ℕ) × (new.told ≡ Some c) × Torn at (length piece) b c) b told writes.tried
told_torn (Ok v) at piece old new b is_new told fits writes =
    let written = at_value old.told (λ b. new.told ≡ Some (overwritten b at piece)) b told writes.written in
    let bytes = is_new.bytes (overwritten b at piece) (is_new.as_read (overwritten b at piece) written) in
    (overwritten b at piece, written, Torn-from at (length piece) b (overwritten b at piece) (length-overwritten b at piece fits) bytes (λ i h. overwritten-outside b at piece fits i))

-- what a write that succeeds makes of the told bytes
pub told_written : {T E : Type 0} (r : Result T E) (v : T) (at : ℕ) (piece : List ℕ) (old new : DiskModel) (b : List ℕ)
    → r ≡ Ok v → old.told ≡ Some b → Writes at piece r old new → new.told ≡ Some (overwritten b at piece)
told_written {T = T} {E = E} r v at piece old new b ok told writes =
    let W : Result T E → Type 0 = λ q. Writes at piece q old new in
    let here = subst W ok writes in
    at_value old.told (λ b. new.told ≡ Some (overwritten b at piece)) b told here.written

-- A write makes the disk torn in its range, whether it fails or not.
pub Becomes-write : {T E : Type 0} (r : Result T E) (at : ℕ) (piece : List ℕ) (old new : DiskModel) → IsDisk old → IsDisk new → at + length piece ≤ old.size
    → Writes at piece r old new → Becomes (Torn at (length piece)) old new
Becomes-write r at piece old new is_old is_new fits writes = record {
  size = writes.ticks.size;
  silent = writes.silent;
  told = if_value old.told (λ b. (c : List ℕ) × (new.told ≡ Some c) × Torn at (length piece) b c) (λ b told.
      told_torn r at piece old new b is_new told (omega (arith, fits, is_old.long b (is_old.as_read b told))) writes);
  crash = writes.crash;
}

-- A sync makes nothing other: by each relation that allows a list of bytes to stay.
pub Becomes-sync : {T E : Type 0} (r : Result T E) (R : List ℕ → List ℕ → Type 0) (old new : DiskModel) → IsDisk old
    → ((b : List ℕ) → All (λ x. x < 2 ^ 8) b → R b b) → Syncs r old new → Becomes R old new
Becomes-sync r R old new is_old stay syncs = record {
  size = syncs.ticks.size;
  silent = λ none. syncs.same ∙ none;
  told = if_value old.told (λ b. (c : List ℕ) × (new.told ≡ Some c) × R b c) (λ b told.
      (b, syncs.same ∙ told, stay b (is_old.bytes b (is_old.as_read b told))));
  crash = λ c image. let was = syncs.crash c image in (c, was, stay c (is_old.bytes c was));
}

-- Nor does a read.
pub Becomes-read : (R : List ℕ → List ℕ → Type 0) (old new : DiskModel) → IsDisk old → ((b : List ℕ) → All (λ x. x < 2 ^ 8) b → R b b) → Stays old new → Becomes R old new
Becomes-read R old new is_old stay stays = record {
  size = stays.size;
  silent = λ none. stays.told ∙ none;
  told = if_value old.told (λ b. (c : List ℕ) × (new.told ≡ Some c) × R b c) (λ b told.
      (b, stays.told ∙ told, stay b (is_old.bytes b (is_old.as_read b told))));
  crash = λ c image. let was = stays.image c image in (c, was, stay c (is_old.bytes c was));
}

-- one run after another
pub Becomes-then : (R S : List ℕ → List ℕ → Type 0) (old mid new : DiskModel) → Becomes R old mid → Becomes S mid new → Becomes (Then R S) old new
Becomes-then R S old mid new first second = record {
  size = second.size ∙ first.size;
  silent = λ none. second.silent (first.silent none);
  told = if_value old.told (λ b. (c : List ℕ) × (new.told ≡ Some c) × Then R S b c) (λ b told.
      let one = at_value old.told (λ b. (c : List ℕ) × (mid.told ≡ Some c) × R b c) b told first.told in
      let two = at_value mid.told (λ b. (c : List ℕ) × (new.told ≡ Some c) × S b c) one.0 one.1 second.told in
      (two.0, two.1, (one.0, one.2, two.2)));
  crash = λ c image.
      let two = second.crash c image in
      let one = first.crash two.0 two.1 in
      (one.0, one.1, (two.0, one.2, two.2));
}

-- a relation that says less
pub Becomes-weaker : (R S : List ℕ → List ℕ → Type 0) (old new : DiskModel) → ((b c : List ℕ) → R b c → S b c) → Becomes R old new → Becomes S old new
Becomes-weaker R S old new weaker run = record {
  size = run.size;
  silent = run.silent;
  told = if_value old.told (λ b. (c : List ℕ) × (new.told ≡ Some c) × S b c) (λ b told.
      let one = at_value old.told (λ b. (c : List ℕ) × (new.told ≡ Some c) × R b c) b told run.told in
      (one.0, one.1, weaker b one.0 one.2));
  crash = λ c image. let one = run.crash c image in (one.0, one.1, weaker one.0 c one.2);
}

-- Two runs that are torn in one range are one.
pub Becomes-torn : (at n : ℕ) (old mid new : DiskModel) → Becomes (Torn at n) old mid → Becomes (Torn at n) mid new → Becomes (Torn at n) old new
Becomes-torn at n old mid new first second =
    Becomes-weaker (Then (Torn at n) (Torn at n)) (Torn at n) old new (λ b c both. Torn-twice at n b both.0 c both.1 both.2)
    (Becomes-then (Torn at n) (Torn at n) old mid new first second)

-- A write within a wider range, and a sync, after what was torn in it.
pub Becomes-torn_write : {T E : Type 0} (r : Result T E) (from : ℕ) (piece : List ℕ) (at n : ℕ) (old new : DiskModel) → IsDisk old → IsDisk new → from + length piece ≤ old.size
    → at ≤ from → from + length piece ≤ at + n → Writes from piece r old new → Becomes (Torn at n) old new
Becomes-torn_write r from piece at n old new is_old is_new fits low high writes =
    Becomes-weaker (Torn from (length piece)) (Torn at n) old new (λ b c torn. Torn-wider from (length piece) at n b c low high torn)
    (Becomes-write r from piece old new is_old is_new fits writes)

pub Becomes-torn_sync : {T E : Type 0} (r : Result T E) (at n : ℕ) (old new : DiskModel) → IsDisk old → Syncs r old new → Becomes (Torn at n) old new
Becomes-torn_sync r at n old new is_old syncs = Becomes-sync r (Torn at n) old new is_old (λ b fit. Torn-itself at n b fit) syncs
