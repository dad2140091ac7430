use Rattle.std.proofs.Common.{◌≡◌, ◌+◌, Option, refl, sym, subst, ◌∙◌, arith, IfSome, length}
use Rattle.std.proofs.lemmas.Bool.{false≢true}
use Rattle.hb_boxlock.specs.declared.locks.BoxLock.{BoxLock}
use Rattle.hb_boxlock.proofs.Keeping.{ThereExcludes, against_there, attributes_there, keeps_there, least_there, nobody_and_this, nobody_at_all, nobody_at_first, read_there}
use Rattle.hb_boxlock.proofs.tables.first_against.Goals as goal

pub loop-place-init : goal.loop-place-init
loop-place-init c = nobody_at_first c.args.places.now c.args.actor c.args.lock.now

pub is_against-requires : goal.is_against-requires
is_against-requires c =
    subst (λ (o : Option BoxLock). IfSome o (λ held. length held.area.lo ≡ length c.args.lock.now.area.lo)) (read_there c.args.places.now c.loop-place.place c.index-places-place.result c.index-places-place.is c.loop-place-test.true)
    (attributes_there c.args.places.now c.loop-place.place (length c.args.lock.now.area.lo) c.requires.attributes)

pub returns-then-is_against-clause-free : goal.returns-then-is_against-clause-free
returns-then-is_against-clause-free c =
    let against = c.is_against.ensures.0 c.if-is_against.true in
    let there = subst (ThereExcludes c.args.lock.now) (sym (read_there c.args.places.now c.loop-place.place c.index-places-place.result c.index-places-place.is c.loop-place-test.true)) against.1 in
    let keeps = keeps_there c.args.places.now c.loop-place.place (c.loop-place.place + 1) c.args.actor c.args.lock.now refl against.0 there in
    (λ none. cc, λ may. absurd (may (c.loop-place.place + 1) keeps))

pub returns-then-is_against-clause-least : goal.returns-then-is_against-clause-least
returns-then-is_against-clause-least c =
    let against = c.is_against.ensures.0 c.if-is_against.true in
    let there = subst (ThereExcludes c.args.lock.now) (sym (read_there c.args.places.now c.loop-place.place c.index-places-place.result c.index-places-place.is c.loop-place-test.true)) against.1 in
    let keeps = keeps_there c.args.places.now c.loop-place.place (c.loop-place.place + 1) c.args.actor c.args.lock.now refl against.0 there in
    least_there c.args.places.now c.args.actor c.args.lock.now c.loop-place.place (c.loop-place.place + 1) c.loop-place.invariant refl keeps

pub loop-place-preserved : goal.loop-place-preserved
loop-place-preserved c = nobody_and_this c.args.places.now c.args.actor c.args.lock.now c.loop-place.place c.loop-place.invariant (λ keeps.
    let there = against_there c.args.places.now c.loop-place.place (c.loop-place.place + 1) c.args.actor c.args.lock.now refl keeps in
    let against = subst (ThereExcludes c.args.lock.now) (read_there c.args.places.now c.loop-place.place c.index-places-place.result c.index-places-place.is c.loop-place-test.true) there in
    false≢true (sym c.if-is_against.false ∙ c.is_against.ensures.1 (keeps.another, against)))

pub returns-clause-free : goal.returns-clause-free
returns-clause-free c = (λ none. nobody_at_all c.args.places.now c.args.actor c.args.lock.now c.loop-place.place (omega (arith, c.loop-place-test.false)) c.loop-place.invariant, λ may. refl)
