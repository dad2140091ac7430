use Rattle.std.proofs.Common.{ap, ◌∙◌}
use Rattle.hb_activity.specs.declared.activities.Activity.TheVariants.{ConsolidatorWalk}
use Rattle.hb_consol.specs.ConsolidatorRows.{scans}
use Rattle.hb_consol.proofs.walking.scan_first.Goals as goal

pub returns : goal.returns
returns c held = c.scans.ensures (ConsolidatorWalk c.args.job held) ∙ ap (λ child. scans c.args.job c.args.id child) c.first_child.ensures
