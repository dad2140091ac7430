-- From what bytes a store may start.
use Rattle.std.proofs.Common.{◌≡◌, inl, ℕ, ◌+◌, ◌-◌, ◌≤◌, List, [], length, take, drop, replicate, Some, IsSome, sym, ap, ◌∙◌, arith}
use Rattle.hb_disk.specs.Model.{DiskModel, IsDisk, Torn}
use Rattle.hb_disk.specs.Calls.{IsSynced}
use Rattle.hb_disk.proofs.Facts.SyncedLaws.{part_of}
use Rattle.hb_disk.proofs.Facts.TornLaws.{Torn-elsewhere}
use Rattle.hb_lemmas.proofs.Options.{some_value, at_value}
use Rattle.hb_wal.specs.Frames.{range}
use Rattle.hb_wal.specs.Forces.{HasLog}
use Rattle.hb_layout.specs.Offsets.{slot_offset, log_start, file_size}
use Rattle.hb_super.specs.Superblocks.{IsNewest, next_turn}
use Rattle.hb_super.specs.Moments.{HasNoBody, HidesNoOther}
use Rattle.hb_super.proofs.Facts.Gates.{gate_part}
use Rattle.hb_layout.specs.declared.meta.Meta.{Meta}
use Rattle.hb_ops.specs.Files.{FileState, page_of}
use Rattle.hb_frag.specs.declared.pages.Page.{Page}
use Rattle.hb_frag.specs.Grammar.{SpellsPage}
use Rattle.hb_store.specs.Opening.{OpensBy, place_bytes}
use Rattle.hb_store.specs.Keeps.{IsFresh}
use Rattle.hb_store.proofs.Facts.ReplayLaws.{opens_fresh}

-- what is torn behind both superblock places leaves them
pub places_kept : (from m : ℕ) (b c : List ℕ) → 8192 ≤ from → Torn from m b c → take 8192 (drop 0 c) ≡ take 8192 (drop 0 b)
places_kept from m b c low torn = Torn-elsewhere from m 0 8192 b c (inl low) torn

-- and bytes that are the same in both hide no other body behind a closed gate
pub HidesNoOther-elsewhere : (b c : List ℕ) → take 8192 (drop 0 c) ≡ take 8192 (drop 0 b) → (turn : ℕ) (meta : Meta) → HidesNoOther b turn meta → HidesNoOther c turn meta
HidesNoOther-elsewhere b c same turn meta hides closed said legal body =
    hides (λ opened. closed (gate_part c b same turn ∙ opened)) said legal (part_of 0 8192 (slot_offset turn + 1) 40 b c (omega arith) (omega arith) (sym same) ∙ body)

-- A store may start from a disk of such a size whose images all have this superblock, a log of zeros and these pages.
pub IsFresh-from : (d : DiskModel) → IsDisk d → IsSome d.told → (turn : ℕ) (meta : Meta) (s : FileState) → file_size meta ≤ d.size → s.meta ≡ meta → length s.pages ≡ meta.high
    → ((c : List ℕ) → d.Image c → IsNewest c turn meta) → IsSynced d 0 8192 → ((b : List ℕ) → d.told ≡ Some b → HasNoBody b (next_turn turn)) → HasLog d (record { area = log_start turn meta; len = meta.log; written = 0; groups = [] }) []
    → ((id : ℕ) (page : Page) → page_of s id ≡ Some page → (c : List ℕ) → d.Image c → SpellsPage (place_bytes meta id c) page) → IsFresh d turn meta s
IsFresh-from d is_disk tells turn meta s room meta_is count newest places no_body logged pages = record {
  told = tells;
  meta_is = meta_is;
  newest = newest;
  images = λ c image. record { turn = turn; said = meta; payloads = []; groups = []; by = fresh_image c image };
  running = record { places = places; no_body = no_body; logged = logged };
  pages = pages;
}
  where
    fresh_image : (c : List ℕ) → d.Image c → OpensBy c turn meta [] [] s
    fresh_image c image =
        let told = some_value d.told tells in
        opens_fresh c turn meta s (newest c image) (omega (arith, is_disk.long c image, room))
        (logged.synced.each told.0 c told.1 image ∙ at_value d.told (λ b. range (log_start turn meta) meta.log b ≡ replicate (meta.log - 0) 0) told.0 told.1 logged.reads
        ∙ ap (λ (k : ℕ). replicate k 0) (let e : meta.log - 0 ≡ meta.log = omega arith in e))
        meta_is count (λ id page is. pages id page is c image)
