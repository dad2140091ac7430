use Rattle.std.proofs.Common.{◌≡◌, ℕ, ◌+◌, ◌<◌, ◌≤◌, length, get_or, drop}
use Rattle.hb_ops.specs.Files.{FileState}
use Rattle.hb_store.specs.Seen.{disk_of, held_by}
use Rattle.hb_map.specs.Map.{parents_of}
use Rattle.hb_map.specs.Mapping.{LooksThrough, OfSoundFile}
use Rattle.hb_map.proofs.parents.count_pages.Given as goal

abbrev pub invariant-loop-place : goal.invariant-loop-place
invariant-loop-place g l = record {
  through : LooksThrough ⊥ (g.D.Device.model (disk_of l.fn.store)) (g.D.Device.model (disk_of l.store)) (held_by l.fn.store) (held_by l.store);
  high : l.high ≡ (held_by l.fn.store).state.meta.high;
  few : l.high ≤ 65536;
  long : length l.parents ≡ l.high;
  low : (place : ℕ) → get_or l.parents place 0 ≤ l.place;
  counted : OfSoundFile (g.D.Device.model (disk_of l.fn.store)) (held_by l.fn.store) (λ (s : FileState). (place : ℕ) → place < l.high → get_or l.parents place 0 + parents_of (place + 1) (drop l.place s.pages) ≡ parents_of (place + 1) s.pages);
}
