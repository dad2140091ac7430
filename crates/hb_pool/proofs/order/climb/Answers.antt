use Rattle.std.proofs.Common.{◌+◌, refl, sym, ap, ◌∙◌, arith}
use Rattle.std.specs.List.{swap}
use Rattle.hb_lemmas.proofs.Lists.{place_within}
use Rattle.hb_pool.proofs.Facts.Moves.{moves_nowhere, one_further}
use Rattle.hb_pool.proofs.order.climb.Goals as goal

pub loop-at-init : goal.loop-at-init
loop-at-init c =
    let e = place_within c.args.pages.now.entries c.args.place (omega (arith, c.requires.within, c.requires.last)) in
    record {
      entries = sym (moves_nowhere c.args.pages.now.entries c.args.place e.0 e.1);
      len = refl;
      room = omega arith;
    }

pub loop-at-preserved : goal.loop-at-preserved
loop-at-preserved c =
    let e = place_within c.args.pages.now.entries c.args.place (omega (arith, c.requires.within, c.requires.last)) in
    let same = c.swap_indices.ensures.reordered.1 in
    let more = c.swap_indices.ensures.room.0 in
    let invariant = c.loop-at.invariant in
    record {
      entries = c.swap_indices.ensures.entries ∙ ap (λ es. swap es c.loop-at.at (c.loop-at.at + 1)) c.loop-at.invariant.entries
          ∙ one_further c.args.pages.now.entries c.args.place c.loop-at.at e.0 e.1 (omega (arith, c.requires.last, c.loop-at-test.true));
      len = same ∙ c.loop-at.invariant.len;
      room = omega (arith, more, c.loop-at.invariant.room);
    }
