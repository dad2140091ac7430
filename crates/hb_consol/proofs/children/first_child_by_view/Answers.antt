use Rattle.std.proofs.Common.{arith}
use Rattle.hb_consol.proofs.ViewedParents.{found_there, from_start, none_at_all, none_behind, passed_there}
use Rattle.hb_consol.proofs.children.first_child_by_view.Goals as goal

pub loop-place-init : goal.loop-place-init
loop-place-init c = from_start c.args.view.now c.requires.few

pub returns-in_default : goal.returns-in_default
returns-in_default c = none_behind c.args.view.now c.loop-place.place c.loop-place.invariant c.in_default.ensures

pub returns-in-Some-name_seen : goal.returns-in-Some-name_seen
returns-in-Some-name_seen c = found_there c.args.view.now c.loop-place.place c.in-Some-name_seen.name c.in-Some.leaf c.in-Some._area c.name_seen.result c.in-Some-name_seen.is c.name_seen.ensures c.loop-place.invariant c.in-Some.ensures

pub loop-place-preserved : goal.loop-place-preserved
loop-place-preserved c = passed_there c.args.view.now c.loop-place.place c.in-Some.leaf c.in-Some._area c.name_seen.result c.in_default-name_seen.is c.name_seen.ensures c.loop-place.invariant c.in-Some.ensures

pub returns : goal.returns
returns c = let past = c.loop-place-test.false in none_at_all c.args.view.now c.loop-place.place (omega (arith, past)) c.requires.few c.loop-place.invariant
