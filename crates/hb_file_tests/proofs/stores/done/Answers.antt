use Rattle.hb_file_tests.proofs.Untold.{committed}
use Rattle.hb_file_tests.proofs.stores.done.Goals as goal

pub returns-in-Ok : goal.returns-in-Ok
returns-in-Ok c = committed c.in_ok-op.op _ _ _ _ c.in-Ok.ensures.commits c.in-Ok.ensures.uses c.requires
