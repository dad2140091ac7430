-- Every step keeps that the frames are those of the pages in memory, and that a page is pinned as many times as actors have latched it.
use Rattle.hb_steps.proofs.Machines.Names.{◌≡◌, inl, inr, ℕ, ◌≤◌, List, [], ◌++◌, Some, None, refl, sym, ap, subst, ◌∙◌, arith, count_by, none-some, has_value, Mode, Latch, Activity, Deed, has_id, frame_of, StoreState, in_memory, Outcome, DoesRow, FailsToWrite, ForcesAll, StaysSo, MachineKeeps, Machine, modes, HeldModes, class_for, Performs, latches_held, mode_among, StepsTo, Works, IsBegun, holders, page_wanted, pages_of, use_done, use_held, FlushesMore, ready_kind, IsActor}
use Rattle.std.proofs.Common.{IsSome}
use Rattle.hb_steps.proofs.Memory.BroughtPages.{same_held}
use Rattle.std.specs.Option.{is_some}
use Rattle.hb_lemmas.proofs.Options.{some_value}
use Rattle.hb_store.specs.Forced.{forced_state, stopped_state}
use Rattle.hb_store.specs.Switching.{switched_state}
use Rattle.hb_steps.specs.declared.outcomes.Outcome.TheVariants as outcomes
use Rattle.hb_steps.specs.Acting.{Abandons, MeetsBadPage}
use Rattle.hb_steps.specs.Asking.{HasWayFree, wanted_by}
use Rattle.hb_steps.specs.Forcing.{BeginsTurn, HasDirtyPage, HasOldTurn, WritesOldest}
use Rattle.hb_steps.proofs.Facts.StillThere.{other_modes}
use Rattle.hb_steps.proofs.Table.GivenUp.{idle_latches}
use Rattle.hb_steps.specs.Performing.{PerformsAsItIs}
use Rattle.hb_steps.specs.Using.{FramesFit}
use Rattle.hb_steps.proofs.Latches.MergerBacked.{every_row_backed}
use Rattle.hb_steps.proofs.Machines.FlushedFrames.{cleaned_tied, tied_again}
use Rattle.hb_steps.proofs.Machines.HoldersMoved.{IsLatched, holders_moved, none_holds}
use Rattle.hb_steps.proofs.Machines.LatchesApart.{AreOnce, known_apart, latches_differ, none_different, puts_apart}
use Rattle.hb_steps.proofs.Machines.PinCounts.{IsSingle, cleaned_pins, one_if}
use Rattle.hb_steps.proofs.Machines.PinsFollow.{AreThere, PinsMore, came_stays, deed_pins, found_counted, more_number, none_more, times}
use Rattle.hb_steps.proofs.Table.NextPlaces.{nothing_given_up, place_after}
use Rattle.hb_steps.proofs.Facts.StepKinds.{each_kind_so}
use Rattle.hb_steps.proofs.Walks.WalksKept.{placed_in_space}
use Rattle.hb_steps.proofs.Facts.Ways.{own_next}

abbrev FitsNow : Machine → Type 0
FitsNow m = FramesFit m.store m.uses (modes m)

module _ (m : Machine) (actor : ℕ) (outcome : Outcome) (new : Machine) (may : IsActor actor) (keeps : MachineKeeps m) (step : StepsTo m actor outcome new) where
  fit : FramesFit m.store m.uses (modes m)
  fit = keeps.frames_fit

  single : IsSingle m.uses
  single = fit.tied.pool.distinct

  -- the latches that the actor has before the step
  abbrev held : List Latch
  held = latches_held m.store (m.activity actor)

  held_once : (q : ℕ) → times q (pages_of held) ≡ one_if (IsLatched (modes m) actor q)
  held_once q = (latches_differ m.store (m.activity actor) (keeps.walk_in_space.merging actor) (known_apart m keeps.room_known actor)).once q

  -- ---- what leaves pins and latches

  as_before : (other : Machine) → new ≡ other → FitsNow other → FitsNow new
  as_before other is fits = subst FitsNow (sym is) fits

  stays_so : (said : Outcome) → StaysSo m said outcome new → FitsNow new
  stays_so said so = as_before m so.1 fit

  fails_so : {most : ℕ} → FailsToWrite m most outcome new → FitsNow new
  fails_so fails = as_before _ fails.stops (record { tied = tied_again m.store (stopped_state m.store) m.uses (λ id. refl) (λ id. refl) fit.tied; pins = fit.pins })

  forces_so : (said : Outcome) → ForcesAll m said outcome new → FitsNow new
  forces_so said (inl (says, is)) = as_before _ is (record { tied = tied_again m.store (forced_state m.store) m.uses (λ id. refl) (λ id. refl) fit.tied; pins = fit.pins })
  forces_so said (inr badly) = fails_so badly.1

  flushes_so : (page : ℕ) {due : Outcome} → HasDirtyPage m page → WritesOldest m page due outcome new → FitsNow new
  flushes_so page oldest well = as_before _ well.leaves (record {
    tied = cleaned_tied m.store m.uses fit.tied page oldest;
    pins = λ q. cleaned_pins page q m.uses single ∙ fit.pins q;
  })

  turns_so : {due : Outcome} → HasOldTurn m → BeginsTurn m due outcome new → FitsNow new
  turns_so old turns = as_before _ turns.leaves (record {
    tied = tied_again m.store (switched_state m.store) m.uses (λ id. refl) (λ id. refl) fit.tied;
    pins = fit.pins;
  })

  more_so : FlushesMore m outcome new → FitsNow new
  more_so (none, inl (page, oldest, due, plain, well)) = flushes_so page oldest well
  more_so (none, inr (inl (old, due, plain, turns))) = turns_so old turns
  more_so (none, inr (inr (calls, left, fails))) = fails_so fails

  meets_so : MeetsBadPage m actor outcome new → FitsNow new
  meets_so meets = as_before _ meets.stops (record {
    tied = meets.tied;
    pins = λ q. (came_stays (wanted_by m actor) m.store.meta m.uses meets.came single meets.came_is).pins q ∙ fit.pins q
        ∙ ap (λ (held : HeldModes). holders held q) (sym (same_held m _ meets.fetched meets.brings keeps.latches_fit));
  })

  -- ---- a deed

  module _ (fetched : StoreState) (deed : Deed) (performs : Performs m fetched actor deed outcome new) where
    abbrev after : List Latch
    after = latches_held new.store deed.next

    -- The pages of its latches afterwards are in memory, and so in frames.
    are_there : AreOnce after → ((page : ℕ) (mode : Mode) → mode_among page after ≡ Some mode → IsSome (in_memory new.store page)) → AreThere (pages_of after) new.uses
    are_there once live id some =
        elim (mode_among id after) as (λ o. mode_among id after ≡ o → times id (pages_of after) ≡ one_if (is_some o) → 1 ≤ count_by (has_id id) new.uses) [
          | None ↦ λ _ none. absurd (omega (arith, some, none))
          | Some mode ↦ λ is _.
              let framed : IsSome (frame_of new.uses id) = sym (performs.tied.there id) ∙ live id mode is in
              let frame = some_value (frame_of new.uses id) framed in
              found_counted id new.uses frame.0 frame.1
        ] refl (once id)

    deed_so : (extra : List ℕ) → performs.pins ≡ extra ++ pages_of held → PinsMore extra m.uses performs.came → AreOnce after → ((page : ℕ) (mode : Mode) → mode_among page after ≡ Some mode → IsSome (in_memory new.store page)) → FitsNow new
    deed_so extra pins more once live = record {
      tied = performs.tied;
      pins = λ q.
          let is : new.uses ≡ use_held (extra ++ pages_of held) (pages_of after) (use_done deed.op fetched performs.came) = performs.uses ∙ ap (λ (ids : List ℕ). use_held ids (pages_of after) (use_done deed.op fetched performs.came)) pins in
          let moved = deed_pins deed.op fetched extra (pages_of held) (pages_of after) m.uses performs.came new.uses more is (are_there once live) q in
          let was = fit.pins q in
          let before = held_once q in
          let now : times q (pages_of after) ≡ one_if (IsLatched (modes new) actor q) = once q ∙ ap (λ (a : Activity). one_if (is_some (mode_among q (latches_held new.store a)))) (sym (own_next actor deed.next m.activity new.activity performs.activity)) in
          let holding = holders_moved actor (modes m) (modes new) may (λ other page apart. other_modes m actor outcome new may keeps.latches_fit keeps.pages_of_file step other apart page) q in
          let changes = holding.0 in
          let least = holding.1 in
          omega (arith, moved, was, before, now, changes, least);
    }

    -- one after which the actor holds nothing
    leaves_all : (latches_held new.store deed.next ≡ []) → performs.pins ≡ pages_of held → PinsMore [] m.uses performs.came → FitsNow new
    leaves_all none pins more = deed_so [] pins more (none_different after none).once (λ page mode is. absurd (none-some mode (sym (ap (mode_among page) none) ∙ is)))

  as_it_is : (deed : Deed) → ((st : StoreState) → latches_held st deed.next ≡ []) → PerformsAsItIs m actor deed outcome new → FitsNow new
  as_it_is deed none (performs, came, pins) = leaves_all m.store deed performs (none new.store) pins (subst (PinsMore [] m.uses) (sym came) (none_more m.uses single))

  gives_so : Abandons m actor outcome new → FitsNow new
  gives_so gives =
      let stay = came_stays (wanted_by m actor) m.store.meta m.uses gives.performs.came single gives.came in
      leaves_all gives.fetched _ gives.performs ((nothing_given_up gives.why (m.activity actor)).latches new.store) gives.pins (record { single = stay.single; pins = λ q. let same = stay.pins q in omega (arith, same) })

  does_so : HasWayFree m actor → DoesRow m actor outcome new → FitsNow new
  does_so free acts =
      let deed = acts.deed in
      let place = place_after m actor acts.fetched (wanted_by m actor) deed refl acts.row in
      let stands = placed_in_space m actor _ acts.fetched may keeps.latches_fit keeps.pages_of_file keeps.walk_in_space acts.brings deed new.store acts.performs.store place in
      let backed = every_row_backed m actor _ acts.fetched new.store may keeps.latches_fit keeps.pages_of_file free acts.brings (wanted_by m actor) deed refl acts.performs.store acts.row in
      deed_so acts.fetched deed acts.performs (page_wanted (wanted_by m actor)) acts.pins
      (subst (PinsMore (page_wanted (wanted_by m actor)) m.uses) (sym acts.came) (more_number _ m.store.meta (wanted_by m actor) m.uses single))
      (latches_differ new.store deed.next stands.merging (puts_apart m actor _ acts.fetched may keeps.latches_fit keeps.pages_of_file acts.brings deed place)).once
      (λ page mode is. let its = backed.latches page mode is in has_value (in_memory new.store page) _ its.there)

  worked : Works m actor outcome new → FitsNow new
  worked (inl (by, way, so)) = stays_so (outcomes.Blocked by) so
  worked (inr (inl (free, unready, inl (waits, force)))) = forces_so outcomes.Helped force
  worked (inr (inl (free, unready, inr (none, rest)))) = ready_kind m outcome new (FitsNow new) none more_so rest
  worked (inr (inr (free, ready, inl acts))) = does_so free acts
  worked (inr (inr (free, ready, inr (inl gives)))) = gives_so gives
  worked (inr (inr (free, ready, inr (inr meets)))) = meets_so meets

pub frames_kept : (m : Machine) (actor : ℕ) (outcome : Outcome) (new : Machine) → IsActor actor → MachineKeeps m → StepsTo m actor outcome new → FramesFit new.store new.uses (modes new)
frames_kept m actor outcome new may keeps step =
    each_kind_so m actor outcome new (FitsNow new)
    (λ said quiet so. stays_so m actor outcome new may keeps step said so)
    (λ said quiet force. forces_so m actor outcome new may keeps step said force)
    (more_so m actor outcome new may keeps step)
    (λ deed outright performs. as_it_is m actor outcome new may keeps step deed outright.latches performs)
    (worked m actor outcome new may keeps step)
    step

-- and where no step was taken, and so nobody holds a page
pub none_latched : (m : Machine) → IsBegun m → (actor page : ℕ) → modes m actor page ≡ None
none_latched m begun actor page = ap (mode_among page) (ap (latches_held m.store) (begun.idle actor) ∙ idle_latches (class_for actor) m.store)

pub frames_begun : (m : Machine) → IsBegun m → FramesFit m.store m.uses (modes m)
frames_begun m begun = record { tied = begun.tied; pins = λ id. begun.unpinned id ∙ sym (none_holds (modes m) id (λ actor. none_latched m begun actor id)) }
