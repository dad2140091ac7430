use Rattle.std.proofs.Common.{refl}
use Rattle.hb_point.proofs.DescendedRows.{finds_nothing, takes_record}
use Rattle.hb_point.proofs.ViewedRows.{is_there}
use Rattle.hb_point.proofs.descending.delete.Goals as goal

pub is_thin_without-thin-requires-clause-there : goal.is_thin_without-thin-requires-clause-there
is_thin_without-thin-requires-clause-there c = is_there c.args.view.now c.args.point _ _ refl c.in-Some.ensures.stands

pub returns-in-Some : goal.returns-in-Some
returns-in-Some c = λ session. takes_record c.args.view.now c.args.meta.now c.args.number session c.args.id c.taken.result c.args.point c.is_thin_without-thin.result (is_there c.args.view.now c.args.point _ _ refl c.in-Some.ensures.stands) c.is_thin_without-thin.ensures c.taken.ensures

pub returns-in-None : goal.returns-in-None
returns-in-None c = λ session. finds_nothing c.args.view.now c.args.meta.now c.args.number session c.args.id c.takes_effect.result c.args.point _ refl c.in-None.ensures.stands c.takes_effect.ensures
