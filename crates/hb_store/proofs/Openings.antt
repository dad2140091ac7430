-- A store over a disk on which a file stands whole.
use Rattle.std.proofs.Common.{◌≡◌, inl, ℕ, ◌-◌, ◌≤◌, true, false, List, [], length, replicate, Some, None, refl, sym, ap, ◌∙◌, arith}
use Rattle.std.specs.Ordering.{nat_cmp}
use Rattle.std.specs.FinMap as map
use Rattle.std.specs.FinSet as set
use Rattle.std.proofs.lemmas.List.Elements.{All-nil}
use Rattle.hb_disk.specs.Model.{DiskModel, IsDisk}
use Rattle.hb_lemmas.proofs.Options.{at_value}
use Rattle.hb_disk.proofs.Facts.SyncedLaws.{IsSynced-part}
use Rattle.hb_wal.specs.Frames.{range}
use Rattle.hb_layout.specs.declared.meta.Meta.{Meta}
use Rattle.hb_ops.specs.Files.{FileState}
use Rattle.hb_log_codec.specs.Groups.{FitsGroup}
use Rattle.hb_layout.specs.Offsets.{log_start, file_size}
use Rattle.hb_store.specs.Opening.{OpensBy}
use Rattle.hb_store.specs.States.{IsMemory, IsNew, IsStanding, new_state}
use Rattle.hb_store.specs.Keeps.{StoreKeeps, IsFresh}
use Rattle.hb_store.proofs.Facts.ReplayLaws.{opens_fresh}

-- no page is in memory, none is in the log, and none is dirty
none_in_log : (id : ℕ) → set.contains (set.empty {R = nat_cmp}) id ≡ false
none_in_log id = set.contains-empty nat_cmp id

pub is_new : (turn : ℕ) (meta : Meta) → IsNew turn meta (new_state turn meta)
is_new turn meta = record { turn_is = refl; meta_is = refl; log_is = refl; no_page = λ id. map.get-empty nat_cmp id; none_in_log = none_in_log; none_dirty = none_in_log; running = refl }

pub new_memory : (turn : ℕ) (meta : Meta) → IsStanding turn meta → IsMemory (new_state turn meta)
new_memory turn meta stands = record {
  stands = stands;
  area = refl;
  len = refl;
  good = λ id page is. let never : None ≡ Some page = sym (map.get-empty nat_cmp id) ∙ is in cc never;
  in_file = λ id on. let never : false ≡ true = sym (none_in_log id) ∙ on in cc never;
  logged = λ id on. on;
}

module _ (d : DiskModel) (is_disk : IsDisk d) (turn : ℕ) (meta : Meta) (s : FileState) (fresh : IsFresh d turn meta s) (room : file_size meta ≤ d.size) where
  -- every image opens by the superblock, no payload and no group
  fresh_image : (b : List ℕ) → d.told ≡ Some b → (c : List ℕ) → d.Image c → OpensBy c turn meta [] [] s
  fresh_image b told c image =
      let opens = fresh.images c image in
      let counted : length s.pages ≡ meta.high = opens.by.shows.count ∙ ap (λ (m : Meta). m.high) (sym opens.by.shows.meta ∙ fresh.meta_is) in
      opens_fresh c turn meta s (fresh.newest c image) (omega (arith, is_disk.long c image, room))
      (fresh.running.logged.synced.each b c told image ∙ at_value d.told (λ b. range (log_start turn meta) meta.log b ≡ replicate (meta.log - 0) 0) b told fresh.running.logged.reads
      ∙ ap (λ (k : ℕ). replicate k 0) (let e : meta.log - 0 ≡ meta.log = omega arith in e))
      fresh.meta_is counted (λ id page is. fresh.pages id page is c image)

  pub fresh_keeps : (b : List ℕ) → d.told ≡ Some b → StoreKeeps d (new_state turn meta) s []
  fresh_keeps b told = record {
    parts = record { said = meta; payloads = []; written = []; waiting = [] };
    disk = record {
      told = fresh.told;
      count = refl;
      images = λ c image. inl (fresh_image b told c image);
      shows = λ c image. (fresh_image b told c image).shows;
      running = λ going. fresh.running;
      kept = (
        IsSynced-part d 0 8192 _ _ (omega arith) (omega arith) fresh.running.places,
        IsSynced-part d (log_start turn meta) meta.log (log_start turn meta) 0 (omega arith) (omega arith) fresh.running.logged.synced,
      );
    };
    waits = record { spelled = refl; fits = All-nil (FitsGroup meta.k); leads = refl };
    in_log = record { touched = λ id. none_in_log id; synced = λ id page off is c image. fresh.pages id page is c image };
    memory = record {
      layout = record { k = refl; pages = refl; log = refl; dcap = refl; icap = refl };
      meta_is = fresh.meta_is;
      cached = λ id page is. let never : None ≡ Some page = sym (map.get-empty nat_cmp id) ∙ is in cc never;
      placed = λ id page e none is tells. fresh.pages id page is e (is_disk.as_read e tells);
    };
  }
