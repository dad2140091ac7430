use Rattle.hb_view.proofs.Limited.{by_parts}
use Rattle.hb_view.proofs.views.PageView.broken.Goals as goal

pub returns-clause-first : goal.returns-clause-first
returns-clause-first c = by_parts c.args.self.now c.inside.result c.level.result _ c.inside.ensures c.level.ensures c.first_broken.ensures.first
