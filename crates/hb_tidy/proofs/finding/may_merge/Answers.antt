use Rattle.std.proofs.Common.{refl, sym, ◌∙◌}
use Rattle.std.proofs.lemmas.Bool.{false≢true}
use Rattle.hb_tidy.proofs.OwedRoom.{fit_three, three_fit}
use Rattle.hb_tidy.proofs.finding.may_merge.Goals as goal

pub plans_merge-requires : goal.plans_merge-requires
plans_merge-requires c = let stands = c.requires.1.stands in record { layout = c.requires.1.layout; parent_made = stands.above.made; keep_made = stands.below_made; going_made = c.requires.1.made }

pub returns-then-may_be_three : goal.returns-then-may_be_three
returns-then-may_be_three c = (
  λ yes. three_fit c.args.meta.now c.args.parent.now.id c.args.keep.now.id c.args.going.now.id c.args.parent.now.page c.args.keep.now.page c.args.going.now.page c.requires.0 c.requires.1.stands c.requires.1.made c.requires.1.named (c.if-may_be_three.ensures.0 refl) (c.plans_merge.ensures.0 yes),
  λ fits. c.plans_merge.ensures.1 fits.may,
)

pub returns-else-may_be_three : goal.returns-else-may_be_three
returns-else-may_be_three c = (
  λ yes. absurd (false≢true (sym c.if-may_be_three.false ∙ yes)),
  λ fits. absurd (false≢true (c.if-may_be_three.ensures.1 (fit_three c.args.meta.now c.args.parent.now.id c.args.keep.now.id c.args.going.now.id c.args.parent.now.page c.args.keep.now.page c.args.going.now.page fits))),
)
