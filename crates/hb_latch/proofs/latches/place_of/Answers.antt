use Rattle.std.proofs.Common.{Option, IsSome, subst}
use Rattle.hb_latch.specs.declared.modes.Mode.{Mode}
use Rattle.hb_latch.specs.declared.modes.Mode.TheVariants.{Shared}
use Rattle.hb_latch.specs.declared.entries.Held.{Held}
use Rattle.hb_latch.proofs.latches.place_of.Goals as goal
use Rattle.hb_lemmas.proofs.SortedEntries.{find_at, find_gap}
use Rattle.hb_latch.proofs.Facts.KeyOrder.{latch_order}
use Rattle.hb_latch.specs.Entries.{key_of}
use Rattle.hb_latch.proofs.TableViews.{mode_of}

-- the search tells which of the two it is
pub returns-in-Ok-clause-absent : goal.returns-in-Ok-clause-absent
returns-in-Ok-clause-absent c none =
    let any : Held = record { actor = c.args.actor; page = c.args.page; mode = Shared } in
    let found = find_at latch_order key_of mode_of c.args.latches.now (c.args.actor, c.args.page) c.in-Ok.place any c.requires.rising c.in-Ok.ensures.found in
    cc

pub returns-in-Ok-2-clause-found : goal.returns-in-Ok-2-clause-found
returns-in-Ok-2-clause-found c some =
    let none = find_gap latch_order key_of mode_of c.args.latches.now (c.args.actor, c.args.page) c.in-Ok.place c.in-Ok.ensures.absent in
    cc (subst (λ (o : Option Mode). IsSome o) none some)
