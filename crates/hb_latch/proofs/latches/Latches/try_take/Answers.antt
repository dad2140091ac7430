use Rattle.std.proofs.Common.{refl, arith, sym, ◌∙◌}
use Rattle.std.proofs.lemmas.Bool.{false≢true}
use Rattle.hb_latch.specs.declared.entries.Held.{Held}
use Rattle.hb_latch.proofs.TableViews.{gap_in, share_in, mode_of}
use Rattle.hb_latch.proofs.Shares.{has_room}
use Rattle.hb_latch.proofs.KeptEdits.{kept_insert}
use Rattle.hb_latch.proofs.Conflicts.{named_least, named_refused, none_named}
use Rattle.hb_latch.proofs.latches.Latches.try_take.Goals as goal
use Rattle.hb_lemmas.proofs.Options.{none_unless}
use Rattle.hb_lemmas.proofs.SortedEntries.{map_insert}
use Rattle.hb_latch.proofs.Facts.KeyOrder.{latch_order}
use Rattle.hb_latch.specs.Entries.{key_of}

pub returns-in-Some-clause-granted : goal.returns-in-Some-clause-granted
returns-in-Some-clause-granted c =
    let named = rw c.as_slice.ensures.value at c.in-Some.ensures in
    (λ no. absurd (false≢true no), λ grantable. absurd (named_refused _ _ _ _ _ c.self.invariant.rising named (rw (← c.self.view_is) at grantable)))

pub returns-in-Some-clause-refused : goal.returns-in-Some-clause-refused
returns-in-Some-clause-refused c = rw (← c.self.view_is) (named_least _ _ _ _ _ c.self.invariant.rising (rw c.as_slice.ensures.value at c.in-Some.ensures))

pub insert-requires : goal.insert-requires
insert-requires c =
    let gap = gap_in _ _ _ (c.args.actor, c.args.page) _ c.as_slice-2.ensures.value c.self.view_is c.self.invariant.rising c.place_of-place.ensures.absent c.requires.absent in
    let share = share_in _ _ c.args.actor c.self.view_is c.self.invariant.rising in
    (omega arith, (gap.in_range, has_room c.args.actor _ c.self.invariant.actors c.self.invariant.few c.requires.actor (omega (arith, share, c.requires.few))))

pub invariant_of-self : goal.invariant_of-self
invariant_of-self c =
    let gap = gap_in _ _ _ (c.args.actor, c.args.page) _ c.as_slice-2.ensures.value c.self.view_is c.self.invariant.rising c.place_of-place.ensures.absent c.requires.absent in
    let share = share_in _ _ c.args.actor c.self.view_is c.self.invariant.rising in
    let latch : Held = record { actor = c.args.actor; page = c.args.page; mode = c.args.mode } in
    rw c.insert.ensures.items (kept_insert _ latch _ c.self.invariant gap c.requires.actor (omega (arith, share, c.requires.few)))

pub returns-clause-granted : goal.returns-clause-granted
returns-clause-granted c =
    let free = none_named c.self.inside.held.items c.args.actor c.args.page c.args.mode c.self.invariant.rising (rw c.as_slice.ensures.value at (sym (none_unless _ c.in_default.not-Some) ∙ c.in_the_way.ensures)) in
    (λ yes. rw (← c.self.view_is) free, λ grantable. refl)

pub returns-clause-taken : goal.returns-clause-taken
returns-clause-taken c =
    let gap = gap_in _ _ _ (c.args.actor, c.args.page) _ c.as_slice-2.ensures.value c.self.view_is c.self.invariant.rising c.place_of-place.ensures.absent c.requires.absent in
    let latch : Held = record { actor = c.args.actor; page = c.args.page; mode = c.args.mode } in
    rw (c.insert.ensures.items, ← c.self.view_is) (map_insert latch_order key_of mode_of _ latch _ c.self.invariant.rising gap)
