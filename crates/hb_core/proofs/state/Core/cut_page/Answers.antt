use Rattle.hb_store.specs.Seen.{seen_as}
use Rattle.hb_core.proofs.Running.Boxes.{cut_well}
use Rattle.hb_core.proofs.state.Core.cut_page.Goals as goal

pub returns-then-is_live-clause-cut : goal.returns-then-is_live-clause-cut
returns-then-is_live-clause-cut g c = cut_well (seen_as c.args.self.now.store) c.in_ok-view.ensures.store.memory c.args.id c.in_ok-view.view c.in_ok-view.ensures.page (c.is_live.ensures.0 c.if-is_live.true)
