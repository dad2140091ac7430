use Rattle.hb_file_tests.proofs.Untold.{forced}
use Rattle.hb_file_tests.proofs.stores.forced.Goals as goal

pub returns-in-Ok : goal.returns-in-Ok
returns-in-Ok c = λ _. forced _ _ _ _ c.in-Ok.ensures.writes.forced c.in-Ok.ensures.uses c.requires
