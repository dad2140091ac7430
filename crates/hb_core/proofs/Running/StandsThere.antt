-- Where a row's deed is done, its actor may stand as the deed says: nobody is in the way of its latches, and they are on different pages.
use Rattle.hb_core.proofs.Running.Names.{ℕ, length, Option, IsSome, IsTrue, refl, sym, ap, subst, option_and_then, Mode, IsActor, if_live, Deed, walk_held, StoreState, has_value, if_value, some_value, every_row_backed, AnyPage, wanted_by, Brings, MachineKeeps, Machine, live_here, with_disk, modes, MayStand, MayDo, Row, MayWork, latches_differ}
use Rattle.hb_latch.specs.Modes.{goes_beside}
use Rattle.hb_steps.proofs.Latches.Beside.{beside_from}
use Rattle.hb_steps.proofs.Table.NextPlaces.{place_after}
use Rattle.hb_steps.proofs.Machines.LatchesApart.{puts_apart}
use Rattle.hb_steps.proofs.Walks.WalksKept.{placed_in_space}

module _ (m : Machine) (actor : ℕ) (fetched st : StoreState) (deed : Deed) (latches : IsActor actor) (work : MayWork m actor) (brings : Brings m AnyPage fetched) (row : Row (m.activity actor) (wanted_by m actor) (with_disk fetched m.files m.clock m) deed) where
  keeps : MachineKeeps m
  keeps = work.goes_on.kept

  pub may_stand : MayDo deed.op (length m.order) fetched st → MayStand actor (modes m) st deed.next
  may_stand done =
      let place = place_after m actor fetched (wanted_by m actor) deed refl row in
      let backed = every_row_backed m actor AnyPage fetched st latches keeps.latches_fit keeps.pages_of_file work.free brings (wanted_by m actor) deed refl done row in
      record {
        latches = latches;
        walks = λ walks.
            let held = some_value (walk_held deed.next) walks in
            let there = backed.walk held.0 held.1 in
            subst (λ (o : Option ℕ). IsSome (option_and_then (live_here st) o)) (sym held.1) (has_value (live_here st held.0) there.0 (ap if_live there.1));
        apart = (latches_differ st deed.next (placed_in_space m actor AnyPage fetched latches keeps.latches_fit keeps.pages_of_file keeps.walk_in_space brings deed st done place).merging
            (puts_apart m actor AnyPage fetched latches keeps.latches_fit keeps.pages_of_file brings deed place)).apart;
        free = λ page mode among other another. if_value (modes m other page) (λ (held : Mode). IsTrue (goes_beside mode held)) (λ held holds. beside_from m keeps.latches_fit actor other page mode held another (backed.latches page mode among).from holds);
      }
