use Rattle.std.proofs.Common.{arith}
use Rattle.hb_latch.proofs.TableViews.{held_in, mode_of}
use Rattle.hb_latch.proofs.KeptEdits.{kept_remove}
use Rattle.hb_latch.proofs.latches.Latches.release.Goals as goal
use Rattle.hb_lemmas.proofs.SortedEntries.{map_remove}
use Rattle.hb_latch.proofs.Facts.KeyOrder.{latch_order, exact_keys}
use Rattle.hb_latch.specs.Entries.{key_of}

pub remove-requires : goal.remove-requires
remove-requires c =
    let at = held_in _ _ _ (c.args.actor, c.args.page) _ c.as_slice.ensures.value c.self.view_is c.self.invariant.rising c.place_of-place.ensures.found c.requires in
    (omega arith, at.in_range)

pub invariant_of-self : goal.invariant_of-self
invariant_of-self c =
    let at = held_in _ _ _ (c.args.actor, c.args.page) _ c.as_slice.ensures.value c.self.view_is c.self.invariant.rising c.place_of-place.ensures.found c.requires in
    rw c.remove.ensures.items (kept_remove _ (c.args.actor, c.args.page) _ c.remove.result c.self.invariant at)

pub returns : goal.returns
returns c =
    let at = held_in _ _ _ (c.args.actor, c.args.page) _ c.as_slice.ensures.value c.self.view_is c.self.invariant.rising c.place_of-place.ensures.found c.requires in
    rw (c.remove.ensures.items, ← c.self.view_is) (map_remove latch_order key_of mode_of exact_keys _ (c.args.actor, c.args.page) _ c.self.invariant.rising at)
