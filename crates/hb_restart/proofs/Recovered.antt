-- What an opening leaves: reads, then a run that began with a sync.
use Rattle.std.proofs.Common.{◌≡◌, ℕ, ◌+◌, ◌≤◌, List, length, Option, Some, None, IsSome, IfSome, sym, ◌∙◌, subst, arith}
use Rattle.hb_disk.specs.Model.{DiskModel, IsDisk}
use Rattle.hb_disk.specs.Calls.{Leaves, OnlyReads}
use Rattle.hb_disk.proofs.Facts.RunLaws.{Leaves-start, Leaves-read, Leaves-then}
use Rattle.hb_lemmas.proofs.Options.{some_value, at_value, if_value, has_value, was_some}
use Rattle.hb_super.specs.Superblocks.{next_turn}
use Rattle.hb_frag.specs.declared.pages.Page.{Page}
use Rattle.hb_layout.specs.declared.meta.Meta.{Meta}
use Rattle.hb_ops.specs.Files.{FileState, file_records}
use Rattle.hb_ops.specs.Sound.{IsSound}
use Rattle.hb_store.specs.Opening.{OpensTo, IsEven}
use Rattle.hb_store.specs.Keeps.{IsFresh}
use Rattle.hb_restart.specs.Found.{IsFoundIn}
use Rattle.hb_restart.specs.Renewing.{WritesAll}
use Rattle.hb_restart.proofs.SyncedRuns.{found_to}

module _ (old mid new : DiskModel) (reads : OnlyReads old mid) (turn : ℕ) (meta : Meta) (touched : ℕ → Option Page) (count : ℕ)
    (found : IfSome old.told (λ b. IsFoundIn b turn meta touched count)) where
  found_at : (b : List ℕ) → old.told ≡ Some b → IsFoundIn b turn meta touched count
  found_at b told = at_value old.told (λ b. IsFoundIn b turn meta touched count) b told found

  -- over an even disk
  pub recovered_even : IsDisk old → IfSome mid.told (λ b. IsFoundIn b turn meta touched count → (s : FileState) → IsEven mid s → Leaves mid new (λ c. OpensTo c s))
      → (s : FileState) → IsEven old s → Leaves old new (λ c. OpensTo c s)
  recovered_even is_old run s is_even =
      let b = some_value old.told is_even.told in
      let stays = reads.stays in
      let still : IsEven mid s = record { told = has_value mid.told b.0 (stays.told ∙ b.1); images = λ c image. is_even.images c (stays.image c image) } in
      Leaves-then old mid new (λ c. OpensTo c s) (Leaves-read old old mid (λ c. OpensTo c s) (Leaves-start old (λ c. OpensTo c s) is_old is_even.images) stays)
      (at_value mid.told (λ b. IsFoundIn b turn meta touched count → (s : FileState) → IsEven mid s → Leaves mid new (λ c. OpensTo c s)) b.0 (stays.told ∙ b.1) run (found_at b.0 b.1) s still)

  -- over any other disk, once the first sync was done
  pub recovered_late_on : IfSome mid.told (λ b. IsFoundIn b turn meta touched count → (s : FileState) → OpensTo b s → mid.clock + 2 ≤ new.clock → (c : List ℕ) → new.ImageSince (mid.clock + 1) c → OpensTo c s)
      → IfSome old.told (λ b. (s : FileState) → OpensTo b s → old.clock + 2 ≤ new.clock → (c : List ℕ) → new.ImageSince (old.clock + 1) c → OpensTo c s)
  recovered_late_on run = if_value old.told (λ b. (s : FileState) → OpensTo b s → old.clock + 2 ≤ new.clock → (c : List ℕ) → new.ImageSince (old.clock + 1) c → OpensTo c s) (λ b told s opens later c left.
      let N : ℕ → Type 0 = λ n. new.ImageSince (n + 1) c in
      at_value mid.told (λ b. IsFoundIn b turn meta touched count → (s : FileState) → OpensTo b s → mid.clock + 2 ≤ new.clock → (c : List ℕ) → new.ImageSince (mid.clock + 1) c → OpensTo c s)
      b (reads.stays.told ∙ told) run (found_at b told) s opens (omega (arith, reads.stays.clock, later)) c (subst N (sym reads.stays.clock) left))

  -- at least the first sync has moved the clock
  pub recovered_time : IfSome mid.told (λ b. IsFoundIn b turn meta touched count → WritesAll (mid.clock + 1) b meta touched new) → IsSome old.told → old.clock + 1 ≤ new.clock
  recovered_time run tells =
      let b = some_value old.told tells in
      let all : WritesAll (mid.clock + 1) b.0 meta touched new =
      at_value mid.told (λ b. IsFoundIn b turn meta touched count → WritesAll (mid.clock + 1) b meta touched new) b.0 (reads.stays.told ∙ b.1) run (found_at b.0 b.1) in
      let least = all.least in
      omega (arith, reads.stays.clock, least)

  -- once the next turn has begun
  module _ (next : ℕ) (is : next ≡ next_turn turn) (renewed : IfSome mid.told (λ b. IsFoundIn b turn meta touched count → (s : FileState) → OpensTo b s → IsFresh new (next_turn turn) meta s
      × ((c : List ℕ) → new.ImageSince (mid.clock + 1) c → OpensTo c s))) where
    renewed_at : (b : List ℕ) → old.told ≡ Some b → (s : FileState) → OpensTo b s → IsFresh new (next_turn turn) meta s × ((c : List ℕ) → new.ImageSince (mid.clock + 1) c → OpensTo c s)
    renewed_at b told = at_value mid.told (λ b. IsFoundIn b turn meta touched count → (s : FileState) → OpensTo b s → IsFresh new (next_turn turn) meta s
        × ((c : List ℕ) → new.ImageSince (mid.clock + 1) c → OpensTo c s)) b (reads.stays.told ∙ told) renewed (found_at b told)

    fresh_at : (b : List ℕ) (told : old.told ≡ Some b) → IsFresh new next meta (found_at b told).file
    fresh_at b told =
        let here = found_at b told in
        let N : ℕ → Type 0 = λ n. IsFresh new n meta here.file in
        subst N (sym is) (renewed_at b told here.file (found_to b turn meta touched count here)).0

    pub recovered_fresh : (mid.told ≡ None → new.told ≡ None) → IsSome new.told → (s : FileState) × IsFresh new next meta s
    recovered_fresh silent tells =
        let b = some_value mid.told (was_some mid.told new.told silent tells) in
        let told : old.told ≡ Some b.0 = sym reads.stays.told ∙ b.1 in
        ((found_at b.0 told).file, fresh_at b.0 told)

    pub recovered_opened : (K : FileState → Type 0) → ((s : FileState) → IsFresh new next meta s → K s)
        → IfSome old.told (λ b. (s : FileState) × OpensTo b s × IsSound s × (count ≡ length (file_records s)) × K s)
    recovered_opened K keeps = if_value old.told (λ b. (s : FileState) × OpensTo b s × IsSound s × (count ≡ length (file_records s)) × K s) (λ b told.
        let here = found_at b told in
        (here.file, found_to b turn meta touched count here, here.sound, here.counted, keeps here.file (fresh_at b told)))

    -- the bytes open to no file that says anything else of itself
    pub recovered_meta : (said : Meta) → said ≡ meta → IfSome old.told (λ b. (s : FileState) → OpensTo b s → s.meta ≡ said)
    recovered_meta said same = if_value old.told (λ b. (s : FileState) → OpensTo b s → s.meta ≡ said) (λ b told s opens.
        (renewed_at b told s opens).0.meta_is ∙ sym same)

    pub recovered_late : IfSome old.told (λ b. (s : FileState) → OpensTo b s → (c : List ℕ) → new.ImageSince (old.clock + 1) c → OpensTo c s)
    recovered_late = if_value old.told (λ b. (s : FileState) → OpensTo b s → (c : List ℕ) → new.ImageSince (old.clock + 1) c → OpensTo c s) (λ b told s opens c left.
        let N : ℕ → Type 0 = λ n. new.ImageSince (n + 1) c in
        (renewed_at b told s opens).1 c (subst N (sym reads.stays.clock) left))
