-- An area that was zeroed and synced has the log without a frame.
use Rattle.std.proofs.Common.{◌≡◌, ◌+◌, ◌-◌, ◌≤◌, ℕ, List, [], Option, Some, None, Result, Ok, length, replicate, take, drop, refl, sym, ap, ◌∙◌, subst, arith}
use Rattle.std.proofs.lemmas.List.{length-replicate}
use Rattle.hb_disk.specs.Model.{DiskModel, IsDisk, Torn, overwritten}
use Rattle.hb_disk.specs.Calls.{Leaves, Syncs, Writes}
use Rattle.hb_disk.specs.Runs.{Rewrites, WritesThrough}
use Rattle.hb_disk.proofs.Facts.TornLaws.{Torn-itself}
use Rattle.hb_disk.proofs.Facts.RunLaws.{Leaves-start, Leaves-call}
use Rattle.hb_disk.proofs.Facts.SyncedLaws.{IsSynced-sync}
use Rattle.hb_lemmas.proofs.Options.{if_value}
use Rattle.std.proofs.lemmas.Option.{same_Some}
use Rattle.hb_disk.proofs.Facts.BecomesLaws.{told_written}
use Rattle.hb_disk.proofs.Facts.RewriteLaws.{Rewrites-write, Rewrites-sync, Rewrites-torn, WritesThrough-synced}
use Rattle.hb_disk.proofs.Facts.OverwrittenLaws.{overwritten-reads}
use Rattle.hb_wal.specs.Frames.{range}
use Rattle.hb_wal.specs.Forces.{HasLog}

-- what a read of the area gives then
zeros_read : (b : List ℕ) (area len : ℕ) → area + len ≤ length b → range area len (overwritten b area (replicate len 0)) ≡ replicate len 0
zeros_read b area len fits =
    let zeros : length {A = ℕ} (replicate len 0) ≡ len = length-replicate len 0 in
    ap (λ (n : ℕ). take n (drop area (overwritten b area (replicate len 0)))) (sym zeros)
    ∙ overwritten-reads b area (replicate len 0) (omega (arith, zeros, fits))

module _ (old mid new : DiskModel) (area len : ℕ) (is_old : IsDisk old) (inside : area + len ≤ old.size) {T E F G : Type 0}
    (zeroed : Result T E) (v : T) (zero_ok : zeroed ≡ Ok v) (writes : Writes area (replicate len 0) zeroed old mid)
    (synced : Result F G) (w : F) (sync_ok : synced ≡ Ok w) (syncs : Syncs synced mid new) where
  zeros_told : (o : Option (List ℕ)) → old.told ≡ o → (b : List ℕ) → new.told ≡ Some b → range area len b ≡ replicate (len - 0) 0
  zeros_told None none b told = cc (writes.silent none, syncs.same)
  zeros_told (Some a) is b told =
      let after : mid.told ≡ Some (overwritten a area (replicate len 0)) = told_written zeroed v area (replicate len 0) old mid a zero_ok is writes in
      let same : b ≡ overwritten a area (replicate len 0) = same_Some b (overwritten a area (replicate len 0)) (sym told ∙ syncs.same ∙ after) in
      let long : length a ≡ old.size = is_old.long a (is_old.as_read a is) in
      ap (λ (l : List ℕ). range area len l) same ∙ zeros_read a area len (omega (arith, long, inside)) ∙ ap (λ (n : ℕ). replicate n 0) (omega arith)

  pub zeroed_log : HasLog new (record { area = area; len = len; written = 0; groups = [] }) []
  zeroed_log = record {
    synced = IsSynced-sync synced w mid new area len sync_ok syncs;
    payloads_fit = λ k d below. absurd (omega (arith, below));
    count = refl;
    reads = if_value new.told (λ b. range area len b ≡ replicate (len - 0) 0) (λ b told. zeros_told old.told refl b told);
  }

-- what two calls, the zeroing and the sync, touched and left
module _ (old mid : DiskModel) (area len : ℕ) (is_old : IsDisk old) {T E : Type 0} (zeroed : Result T E) (writes : Writes area (replicate len 0) zeroed old mid) where
  -- an image of before, torn in the area
  abbrev pub InArea : List ℕ → Type 0
  InArea c = (b : List ℕ) × old.Image b × Torn area len b c

  zeros : length {A = ℕ} (replicate len 0) ≡ len
  zeros = length-replicate len 0

  torn_image : (c : List ℕ) → mid.Image c → InArea c
  torn_image c image = let from = writes.crash c image in (from.0, from.1, subst (λ (n : ℕ). Torn area n from.0 c) zeros from.2)

  pub zero_moments : Leaves old mid InArea
  zero_moments = Leaves-call zeroed old old mid InArea (Leaves-start old InArea is_old (λ c image. (c, image, Torn-itself area len c (is_old.bytes c image)))) writes.ticks torn_image

  pub sync_moments : {F G : Type 0} (synced : Result F G) (new : DiskModel) → Syncs synced mid new → Leaves old new InArea
  sync_moments synced new syncs = Leaves-call synced old mid new InArea zero_moments syncs.ticks (λ c image. torn_image c (syncs.crash c image))

  module _ (is_mid : IsDisk mid) (inside : area + len ≤ old.size) where
    pub zero_wrote : Rewrites (Torn area len) 1 zeroed old mid
    zero_wrote = Rewrites-write zeroed area (replicate len 0) area len old mid is_old is_mid (omega (arith, zeros, inside)) (omega arith) (omega (arith, zeros)) writes

    module _ (v : T) (zero_ok : zeroed ≡ Ok v) {F G : Type 0} (synced : Result F G) (new : DiskModel) (syncs : Syncs synced mid new) where
      pub sync_wrote : Rewrites (Torn area len) 2 synced old new
      sync_wrote = Rewrites-torn zeroed synced area len 1 1 old mid new v zero_ok zero_wrote (Rewrites-sync synced area len mid new is_mid syncs)

      pub sync_done : WritesThrough (λ b. overwritten b area (replicate len 0)) (Torn area len) 2 synced old new
      sync_done = WritesThrough-synced synced (λ b. overwritten b area (replicate len 0)) (Torn area len) 2 old mid new syncs
          (λ b told. told_written zeroed v area (replicate len 0) old mid b zero_ok told writes) sync_wrote
