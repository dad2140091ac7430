use Rattle.std.proofs.Common.{ℕ, ap, ◌∙◌}
use Rattle.hb_frag.specs.Rules.{is_thin}
use Rattle.hb_point.proofs.ViewedRows.{many_thin, one_thin}
use Rattle.hb_point.proofs.descending.is_thin_without.Goals as goal

pub returns-then-count_at-gt1 : goal.returns-then-count_at-gt1
returns-then-count_at-gt1 c =
    many_thin c.args.view.now c.args.meta.now c.args.point.now c.count_at.result c.weight-weight.result c.is_thin.result c.requires.given c.requires.there c.count_at.ensures c.weight-weight.ensures c.if-count_at-gt1.true
    (c.is_thin.ensures ∙ ap (λ (n : ℕ). is_thin n c.args.meta.now.dcap) c.saturating_sub.ensures)

pub returns-else-count_at-gt1 : goal.returns-else-count_at-gt1
returns-else-count_at-gt1 c =
    one_thin c.args.view.now c.args.meta.now c.args.point.now c.count_at.result c.weight-weight.result c.is_thin-else-count_at-gt1.result c.requires.given c.requires.there c.count_at.ensures c.weight-weight.ensures c.if-count_at-gt1.false
    c.is_thin-else-count_at-gt1.ensures
