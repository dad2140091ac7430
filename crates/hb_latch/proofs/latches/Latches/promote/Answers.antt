use Rattle.std.proofs.Common.{refl, sym, ◌∙◌}
use Rattle.std.proofs.lemmas.Bool.{false≢true}
use Rattle.hb_latch.specs.declared.entries.Held.{Held}
use Rattle.hb_latch.specs.declared.modes.Mode.TheVariants.{Exclusive}
use Rattle.hb_latch.proofs.TableViews.{held_in, mode_of}
use Rattle.hb_latch.proofs.KeptEdits.{kept_set}
use Rattle.hb_latch.proofs.Conflicts.{named_least, named_refused, none_named}
use Rattle.hb_latch.proofs.latches.Latches.promote.Goals as goal
use Rattle.hb_lemmas.proofs.Options.{has_value, none_unless}
use Rattle.hb_lemmas.proofs.SortedEntries.{map_set}
use Rattle.hb_latch.proofs.Facts.KeyOrder.{latch_order}
use Rattle.hb_latch.specs.Entries.{key_of}

pub returns-in-Some-clause-granted : goal.returns-in-Some-clause-granted
returns-in-Some-clause-granted c =
    let named = rw c.as_slice.ensures.value at c.in-Some.ensures in
    (λ no. absurd (false≢true no), λ grantable. absurd (named_refused _ _ _ Exclusive _ c.self.invariant.rising named (rw (← c.self.view_is) at grantable)))

pub returns-in-Some-clause-refused : goal.returns-in-Some-clause-refused
returns-in-Some-clause-refused c = rw (← c.self.view_is) (named_least _ _ _ Exclusive _ c.self.invariant.rising (rw c.as_slice.ensures.value at c.in-Some.ensures))

pub replace-requires : goal.replace-requires
replace-requires c =
    let at = held_in _ _ _ (c.args.actor, c.args.page) _ c.as_slice-2.ensures.value c.self.view_is c.self.invariant.rising c.place_of-place.ensures.found (has_value _ _ c.requires) in
    at.in_range

pub invariant_of-self : goal.invariant_of-self
invariant_of-self c =
    let at = held_in _ _ _ (c.args.actor, c.args.page) _ c.as_slice-2.ensures.value c.self.view_is c.self.invariant.rising c.place_of-place.ensures.found (has_value _ _ c.requires) in
    let latch : Held = record { actor = c.args.actor; page = c.args.page; mode = Exclusive } in
    rw c.replace.ensures (kept_set _ latch _ c.self.invariant at)

pub returns-clause-granted : goal.returns-clause-granted
returns-clause-granted c =
    let free = none_named c.self.inside.held.items c.args.actor c.args.page Exclusive c.self.invariant.rising (rw c.as_slice.ensures.value at (sym (none_unless _ c.in_default.not-Some) ∙ c.in_the_way.ensures)) in
    (λ yes. rw (← c.self.view_is) free, λ grantable. refl)

pub returns-clause-taken : goal.returns-clause-taken
returns-clause-taken c =
    let at = held_in _ _ _ (c.args.actor, c.args.page) _ c.as_slice-2.ensures.value c.self.view_is c.self.invariant.rising c.place_of-place.ensures.found (has_value _ _ c.requires) in
    let latch : Held = record { actor = c.args.actor; page = c.args.page; mode = Exclusive } in
    rw (c.replace.ensures, ← c.self.view_is) (map_set latch_order key_of mode_of _ latch _ c.self.invariant.rising at)
