use Rattle.std.proofs.Common.{ℕ, sym, ap, subst}
use Rattle.hb_latch.specs.declared.entries.Held.{Held}
use Rattle.hb_latch.specs.declared.modes.Mode.TheVariants.{Shared}
use Rattle.hb_space.specs.Actors.{IsActor}
use Rattle.hb_latch.proofs.latches.Latches.mode_of.Goals as goal
use Rattle.hb_lemmas.proofs.SortedEntries.{get_at, get_gap}
use Rattle.hb_latch.proofs.Facts.KeyOrder.{latch_order}
use Rattle.hb_latch.specs.Entries.{key_of}
use Rattle.hb_latch.proofs.TableViews.{mode_of}
use Rattle.hb_lemmas.specs.Places.{IsPlaceOf}

pub returns-in-Ok-clause-value : goal.returns-in-Ok-clause-value
returns-in-Ok-clause-value c =
    rw (c.as_slice-in-Ok.ensures.value, ← c.self.view_is) (sym (get_at latch_order key_of mode_of _ _ _ _ c.self.invariant.rising (rw c.as_slice.ensures.value at c.in-Ok.ensures.found)))

pub returns-in-Ok-clause-actor : goal.returns-in-Ok-clause-actor
returns-in-Ok-clause-actor c _ =
    let held : IsPlaceOf key_of c.self.inside.held.items (c.args.actor, c.args.page) c.in-Ok.place = rw c.as_slice.ensures.value at c.in-Ok.ensures.found in
    let any : Held = record { actor = 0; page = 0; mode = Shared } in
    subst IsActor (ap (λ (k : ℕ × ℕ). k.0) (held.same_key any)) (c.self.invariant.actors c.in-Ok.place any held.in_range)

pub returns-in-Err-clause-value : goal.returns-in-Err-clause-value
returns-in-Err-clause-value c = rw (← c.self.view_is) (sym (get_gap latch_order key_of mode_of _ _ _ c.self.invariant.rising (rw c.as_slice.ensures.value at c.in-Err.ensures.absent)))
