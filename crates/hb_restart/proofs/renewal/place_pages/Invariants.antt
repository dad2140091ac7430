use Rattle.std.proofs.Common.{◌≡◌, ℕ, List, Some}
use Rattle.std.specs.Ordering.{nat_cmp}
use Rattle.std.specs.BTreeMap.{get}
use Rattle.hb_disk.specs.Calls.{Leaves}
use Rattle.hb_layout.specs.Offsets.{file_size}
use Rattle.hb_layout.specs.declared.meta.Meta.{Meta}
use Rattle.hb_ops.specs.Files.{FileState}
use Rattle.hb_store.specs.Turning.{StillOpens, IsHere, IsPlacedTo}
use Rattle.hb_restart.specs.Renewing.{Runs, IsWrittenTo}
use Rattle.hb_restart.proofs.renewal.place_pages.Given as goal

-- the pages up to this one stand in their places, and no call failed
abbrev pub invariant-loop-place : goal.invariant-loop-place
invariant-loop-place g l = record {
  run : Runs l.place (file_size l.found.meta) ⊥ (g.D.Device.model l.fn.disk) (g.D.Device.model l.disk);
  moments : (said : Meta) (s : FileState) → IsHere (g.D.Device.model l.fn.disk) l.found.turn said l.found.meta (get nat_cmp l.found.touched) s →
      Leaves (g.D.Device.model l.fn.disk) (g.D.Device.model l.disk) (StillOpens l.found.turn said l.found.meta (get nat_cmp l.found.touched) s);
  placed : (said : Meta) (s : FileState) → IsHere (g.D.Device.model l.fn.disk) l.found.turn said l.found.meta (get nat_cmp l.found.touched) s →
      IsPlacedTo l.place (g.D.Device.model l.disk) l.found.turn said l.found.meta (get nat_cmp l.found.touched) s;
  written : (b : List ℕ) → (g.D.Device.model l.fn.disk).told ≡ Some b →
      IsWrittenTo l.place (g.D.Device.model l.fn.disk).clock b l.found.meta (get nat_cmp l.found.touched) (g.D.Device.model l.disk);
}
