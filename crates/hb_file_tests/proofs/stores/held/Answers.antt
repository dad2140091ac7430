use Rattle.std.proofs.Common.{sym, ◌∙◌}
use Rattle.hb_lemmas.proofs.Options.{none_so}
use Rattle.hb_file_tests.proofs.Untold.{held_driven}
use Rattle.hb_file_tests.proofs.stores.held.Goals as goal

pub returns-clause-driven : goal.returns-clause-driven
returns-clause-driven c =
    held_driven c.args.id _ _ _ _ _ _ c.get.ensures.tied (sym c.get.ensures.page ∙ none_so c.get.result (sym c.if-is_some.ensures)) c.in_ok-fetch.ensures.fetched c.pin.ensures.seen c.in_ok-fetch.ensures.uses c.pin.ensures.uses c.requires
