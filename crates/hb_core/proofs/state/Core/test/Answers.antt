use Rattle.hb_store.specs.Seen.{seen_as}
use Rattle.hb_core.proofs.Running.Boxes.{as_many_in}
use Rattle.hb_core.proofs.state.Core.test.Goals as goal

pub test_view-requires : goal.test_view-requires
test_view-requires g c = record {
  many = as_many_in (seen_as c.args.self.now.store) c.in-Some.ensures.store.memory c.args.wanted.page c.in-Some.view c.args.aim.now.asked c.requires.many c.in-Some.ensures.page;
}
