use Rattle.std.proofs.Common.{◌≡◌, ℕ, ◌+◌, ◌≤◌, List, ◌++◌, drop}
use Rattle.hb_ops.specs.Files.{FileState}
use Rattle.hb_outside.specs.Streams.{Appends}
use Rattle.hb_store.specs.Seen.{disk_of, held_by}
use Rattle.hb_map.specs.Map.{pages_text}
use Rattle.hb_map.specs.Mapping.{AreParents, LooksThrough, OfSoundFile}
use Rattle.hb_map.proofs.mapping.put_pages.Given as goal

abbrev pub invariant-loop-place : goal.invariant-loop-place
invariant-loop-place g l = record {
  through : LooksThrough ⊥ (g.D.Device.model (disk_of l.fn.store)) (g.D.Device.model (disk_of l.store)) (held_by l.fn.store) (held_by l.store);
  high : l.place-end ≡ (held_by l.fn.store).state.meta.high;
  few : l.place-end ≤ 65536;
  faults : (g.K.Sink.model l.sink).faults ≡ (g.K.Sink.model l.fn.sink).faults;
  so_far : (text : List ℕ) × Appends (g.K.Sink.model l.fn.sink).written (g.K.Sink.model l.sink).written text
      × OfSoundFile (g.D.Device.model (disk_of l.fn.store)) (held_by l.fn.store) (λ (s : FileState). AreParents s l.parents → text ++ pages_text s.pages (l.place + 1) (drop l.place s.pages) ≡ pages_text s.pages 1 s.pages);
}
