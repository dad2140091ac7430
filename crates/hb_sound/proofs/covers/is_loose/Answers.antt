use Rattle.std.proofs.Common.{◌∙◌, sym}
use Rattle.hb_sound.proofs.Levels.{apart, loose_is_not_first, not_first_is_loose, tells_apart}
use Rattle.hb_sound.proofs.covers.is_loose.Goals as goal

pub returns-in-Some : goal.returns-in-Some
returns-in-Some c facts are below at =
    let there = sym c.first_of.ensures ∙ c.in-Some.is in
    let boxed = c.has_area.ensures.0 c.if-not-has_area.false in (
      λ t. not_first_is_loose facts c.args.whole.now c.args.firsts.now c.args.id c.in-Some.first c.args.seen.now c.args.times are there at boxed (apart c.in-Some.first c.args.id t),
      λ loose. tells_apart c.in-Some.first c.args.id (loose_is_not_first facts c.args.whole.now c.args.firsts.now c.args.id c.in-Some.first c.args.seen.now c.args.times are there at boxed loose),
    )
