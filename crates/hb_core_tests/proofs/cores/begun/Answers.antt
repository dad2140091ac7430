use Rattle.hb_core.proofs.Facts.RunDisks.{told_before}
use Rattle.hb_core_tests.proofs.Begun.{new_sound}
use Rattle.hb_disk.specs.Model.{DiskModel, Torn}
use Rattle.hb_restart.specs.Layouts.{layout_size}
use Rattle.hb_restart.specs.declared.layout.Layout.{Layout}
use Rattle.hb_store.specs.Seen.{disk_of, seen_as}
use Rattle.hb_core_tests.proofs.cores.begun.Goals as goal

pub begun_over-requires-clause-sound : goal.begun_over-requires-clause-sound
begun_over-requires-clause-sound g c =
    let M : g.row.D.Denot → DiskModel = g.D.Device.model in
    let l : Layout = record { k = 1; pages = 64; log = 65536; dcap = 6; icap = 32 } in
    let made = c.in-Ok.ensures.made in
    new_sound l (M c.args.disk) (M (disk_of c.in-Ok.store)) (seen_as c.in-Ok.store) (c.a_new_file_is_sound.ensures.sound l made.good) made (told_before (Torn 0 (layout_size l)) (M c.args.disk) (M (disk_of c.in-Ok.store)) c.in-Ok.ensures.leaves.beyond)
