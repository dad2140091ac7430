use Rattle.hb_file_tests.proofs.Untold.{new_driven}
use Rattle.hb_file_tests.proofs.drives.opened.Goals as goal

pub returns-in-Ok : goal.returns-in-Ok
returns-in-Ok c = new_driven _ _ _ _ c.in-Ok.ensures.opened.is_new c.stands_well.ensures.tied
