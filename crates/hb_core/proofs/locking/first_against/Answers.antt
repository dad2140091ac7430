use Rattle.std.proofs.Common.{◌∙◌, ◌+◌, length, refl, sym, arith}
use Rattle.std.proofs.lemmas.Bool.{false≢true}
use Rattle.hb_core.proofs.Running.AgainstPlaces.{against_there, boxes_there, excludes_there, none_and_this, none_at_all, none_at_first}
use Rattle.hb_core.proofs.locking.first_against.Goals as goal
use Rattle.std.proofs.lemmas.Option.{slice_get_read}

pub loop-place-init : goal.loop-place-init
loop-place-init c = none_at_first c.args.activities.now c.args.actor c.args.lock.now

pub is_against-requires : goal.is_against-requires
is_against-requires c = boxes_there (length c.args.lock.now.area.lo) c.args.activities.now c.loop-place.place c.index-activities-place.result c.requires.boxes c.index-activities-place.is c.loop-place-test.true

pub returns-then-is_against-clause-least : goal.returns-then-is_against-clause-least
returns-then-is_against-clause-least c =
    let there = slice_get_read c.args.activities.now (length c.args.activities.now) c.loop-place.place c.index-activities-place.result refl c.loop-place-test.true c.index-activities-place.is in
    let against = c.is_against.ensures.0 c.if-is_against.true in
    record {
      place = c.loop-place.place;
      by_is = refl;
      against = against_there c.args.activities.now c.args.actor (c.loop-place.place + 1) c.args.lock.now c.loop-place.place c.index-activities-place.result there refl against.0 against.1;
      least = c.loop-place.invariant;
    }

pub loop-place-preserved : goal.loop-place-preserved
loop-place-preserved c = none_and_this c.args.activities.now c.args.actor c.args.lock.now c.loop-place.place c.loop-place.invariant (λ against.
    let there = slice_get_read c.args.activities.now (length c.args.activities.now) c.loop-place.place c.index-activities-place.result refl c.loop-place-test.true c.index-activities-place.is in
    let excluded = excludes_there c.args.activities.now c.args.actor c.args.lock.now c.loop-place.place c.index-activities-place.result there against in
    false≢true (sym c.if-is_against.false ∙ c.is_against.ensures.1 (against.another, excluded)))

pub returns-clause-free : goal.returns-clause-free
returns-clause-free c = λ _. none_at_all c.args.activities.now c.args.actor c.args.lock.now c.loop-place.place (omega (arith, c.loop-place-test.false)) c.loop-place.invariant
