-- What a run leaves that began with a sync: to a disk whose file was found.
use Rattle.std.proofs.Common.{◌≡◌, ℕ, ◌+◌, ◌≤◌, List, Option, Some, IfSome, Result, Ok, sym, ◌∙◌, subst}
use Rattle.hb_disk.specs.Model.{DiskModel, IsDisk}
use Rattle.hb_disk.specs.Calls.{Ticks, Syncs, Leaves}
use Rattle.hb_disk.proofs.Facts.RunLaws.{Leaves-start, Leaves-call, Leaves-then}
use Rattle.hb_lemmas.proofs.Options.{if_value, has_value}
use Rattle.hb_disk.proofs.Facts.SyncedLaws.{only_told, IsSynced-sync}
use Rattle.hb_super.specs.Superblocks.{next_turn}
use Rattle.hb_frag.specs.declared.pages.Page.{Page}
use Rattle.hb_layout.specs.declared.meta.Meta.{Meta}
use Rattle.hb_ops.specs.Files.{FileState}
use Rattle.hb_store.specs.Opening.{OpensTo, IsEven, OpensToOne}
use Rattle.hb_store.specs.Keeps.{IsFresh}
use Rattle.hb_store.specs.Turning.{StillOpens, IsHere}
use Rattle.hb_store.proofs.Facts.Turned.{still_to}
use Rattle.hb_restart.specs.Found.{IsFoundIn}
use Rattle.hb_store.proofs.Facts.PlaceWrites.{ok_tick}

-- bytes in which a file was found open to it
found_opens : (b : List ℕ) (turn : ℕ) (meta : Meta) (touched : ℕ → Option Page) (count : ℕ) (found : IsFoundIn b turn meta touched count) → StillOpens turn found.said meta touched found.file b
found_opens b turn meta touched count found = found.opens

pub found_to : (b : List ℕ) (turn : ℕ) (meta : Meta) (touched : ℕ → Option Page) (count : ℕ) (found : IsFoundIn b turn meta touched count) → OpensTo b (found.file)
found_to b turn meta touched count found = still_to turn found.said meta touched found.file b (found_opens b turn meta touched count found)

module _ {T E : Type 0} (q : Result T E) (v : T) (ok : q ≡ Ok v) (old mid new : DiskModel) (is_old : IsDisk old) (syncs : Syncs q old mid) (ticks : Ticks q old mid)
    (turn : ℕ) (meta : Meta) (touched : ℕ → Option Page) (count : ℕ) (one : OpensToOne) (moments : (said : Meta) (s : FileState) → IsHere mid turn said meta touched s → Leaves mid new (λ c. OpensTo c s)) where
  module _ (b : List ℕ) (told : old.told ≡ Some b) (found : IsFoundIn b turn meta touched count) where
    here : IsHere mid turn found.said meta touched found.file
    here = record {
      told = has_value mid.told b (syncs.same ∙ told);
      images = λ c image. let Q : List ℕ → Type 0 = λ l. StillOpens turn found.said meta touched found.file l in subst Q (sym (only_told q v old mid b ok told syncs c image)) (found_opens b turn meta touched count found);
      places = IsSynced-sync q v old mid 0 8192 ok syncs;
    }

    is_file : (s : FileState) → OpensTo b s → found.file ≡ s
    is_file s opens = one b (found.file) s (found_to b turn meta touched count found) opens

    since_sync : (s : FileState) → OpensTo b s → Leaves mid new (λ c. OpensTo c s)
    since_sync s opens =
        let Q : FileState → Type 0 = λ x. Leaves mid new (λ c. OpensTo c x) in
        subst Q (is_file s opens) (moments found.said found.file here)

    even : (s : FileState) → IsEven old s → Leaves old new (λ c. OpensTo c s)
    even s is_even =
        Leaves-then old mid new (λ c. OpensTo c s)
        (Leaves-call q old old mid (λ c. OpensTo c s) (Leaves-start old (λ c. OpensTo c s) is_old is_even.images) ticks (λ c image. is_even.images c (syncs.crash c image)))
        (since_sync s (is_even.images b (is_old.as_read b told)))

    late : (s : FileState) → OpensTo b s → (c : List ℕ) → new.ImageSince (old.clock + 1) c → OpensTo c s
    late s opens c left =
        let N : ℕ → Type 0 = λ n. new.ImageSince n c in
        (since_sync s opens).each c (subst N (sym (ok_tick q v old mid ok is_old (has_value old.told b told) ticks)) left)

  pub synced_even : IfSome old.told (λ b. IsFoundIn b turn meta touched count → (s : FileState) → IsEven old s → Leaves old new (λ c. OpensTo c s))
  synced_even = if_value old.told (λ b. IsFoundIn b turn meta touched count → (s : FileState) → IsEven old s → Leaves old new (λ c. OpensTo c s)) (λ b told found. even b told found)

  pub synced_late : IfSome old.told (λ b. IsFoundIn b turn meta touched count → (s : FileState) → OpensTo b s → old.clock + 2 ≤ new.clock → (c : List ℕ) → new.ImageSince (old.clock + 1) c → OpensTo c s)
  synced_late = if_value old.told (λ b. IsFoundIn b turn meta touched count → (s : FileState) → OpensTo b s → old.clock + 2 ≤ new.clock → (c : List ℕ) → new.ImageSince (old.clock + 1) c → OpensTo c s)
      (λ b told found s opens later. late b told found s opens)

  pub synced_renewed : ((said : Meta) (s : FileState) → IsHere mid turn said meta touched s → IsFresh new (next_turn turn) meta s)
      → IfSome old.told (λ b. IsFoundIn b turn meta touched count → (s : FileState) → OpensTo b s → IsFresh new (next_turn turn) meta s
      × ((c : List ℕ) → new.ImageSince (old.clock + 1) c → OpensTo c s))
  synced_renewed fresh = if_value old.told (λ b. IsFoundIn b turn meta touched count → (s : FileState) → OpensTo b s → IsFresh new (next_turn turn) meta s
      × ((c : List ℕ) → new.ImageSince (old.clock + 1) c → OpensTo c s)) (λ b told found s opens.
      let Q : FileState → Type 0 = λ x. IsFresh new (next_turn turn) meta x in
      (subst Q (is_file b told found s opens) (fresh found.said found.file (here b told found)), late b told found s opens))

  -- what is said of a run behind the sync, by the clock there and the bytes as they read
  pub synced_counted : (W : ℕ → List ℕ → Type 0) → ((said : Meta) (s : FileState) (b : List ℕ) → IsHere mid turn said meta touched s → mid.told ≡ Some b → W mid.clock b)
      → IfSome old.told (λ b. IsFoundIn b turn meta touched count → W (old.clock + 1) b)
  synced_counted W run = if_value old.told (λ b. IsFoundIn b turn meta touched count → W (old.clock + 1) b) (λ b told found.
      subst (λ (n : ℕ). W n b) (ok_tick q v old mid ok is_old (has_value old.told b told) ticks) (run found.said found.file b (here b told found) (syncs.same ∙ told)))
