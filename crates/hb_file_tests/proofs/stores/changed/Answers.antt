use Rattle.std.proofs.Common.{refl}
use Rattle.hb_file_tests.proofs.FirstPage.{first_changed, first_has_place}
use Rattle.hb_file_tests.proofs.stores.changed.Goals as goal

pub commit-requires-clause-place : goal.commit-requires-clause-place
commit-requires-clause-place c = first_has_place c.in_ok-op.op _ _ (c.if-not-reads_first.ensures refl) c.requires (c.if-not-ready.ensures.0 refl).1

pub returns-in-Ok : goal.returns-in-Ok
returns-in-Ok c = first_changed c.in_ok-op.op _ _ _ _ c.in-Ok.ensures.commits c.in-Ok.ensures.uses c.requires
