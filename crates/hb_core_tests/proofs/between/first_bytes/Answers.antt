use Rattle.hb_core.specs.CoreSeen.{core_disk, core_seen}
use Rattle.hb_core_tests.proofs.Begun.{copied_spelling}
use Rattle.hb_core_tests.proofs.between.first_bytes.Goals as goal

pub encode-requires : goal.encode-requires
encode-requires g c =
    copied_spelling 1 c.in-Ok.page (g.D.Device.model (core_disk c.args.core.now)) (g.D.Device.model (core_disk c.page_copy.new.self)) (core_seen c.args.core.now) (core_seen c.page_copy.new.self) c.requires c.in-Ok.ensures.copies
