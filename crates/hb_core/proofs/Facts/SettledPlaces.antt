-- The places that are settled are those of the machine that a core shows.
use Rattle.hb_core.proofs.Facts.Names.{◌≡◌, length, ap, ◌∙◌, Machine, settled_count, RunningCore, ShowsMachine, DiskModel, StoreState}
use Rattle.hb_core.proofs.Running.StandsElsewhere.{shown_length}
use Rattle.hb_wal.specs.Log.{mark_of}

pub same_settled : (d : DiskModel) (c : RunningCore) (m : Machine) → ShowsMachine d c m → settled_count m ≡ mark_of c.store.log.groups (length c.order)
same_settled d c m shows = ap (λ (s : StoreState). mark_of s.log.groups (length m.order)) shows.store ∙ ap (mark_of c.store.log.groups) (shown_length d c m shows)
