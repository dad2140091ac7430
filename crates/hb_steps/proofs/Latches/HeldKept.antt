-- What is known of where each actor stands, and stays so while the pages that the actor has latched do: after a step it is to be shown of
-- the actor that took it alone, where it did a row.
use Rattle.hb_steps.proofs.Latches.Names.{inl, inr, ℕ, sym, subst, Live, Activity, Deed, StoreState, Outcome, HasWayFree, HoldsPagesOfFile, LatchesFit, Machine, StepsTo, IsActor}
use Rattle.hb_steps.proofs.Facts.StepKinds.{each_kind, ready_kind}
use Rattle.hb_steps.proofs.Facts.StillThere.{other_held}
use Rattle.hb_steps.proofs.Facts.Ways.{KeepsAllButDisk, forces_so, meets_so, more_so, stays_so}
use Rattle.hb_steps.proofs.Latches.SameLatches.{HasHeld}
use Rattle.hb_steps.proofs.Table.DeedKinds.{each_again}
use Rattle.hb_steps.proofs.Table.NextPlaces.{HoldsNothing, nothing_given_up}
use Rattle.hb_steps.specs.declared.outcomes.Outcome.TheVariants as outcomes
use Rattle.hb_steps.specs.Acting.{DoesRow}
use Rattle.hb_steps.specs.Performing.{Performs}
use Rattle.hb_steps.specs.Steps.{Works}

module _ (m : Machine) (actor : ℕ) (outcome : Outcome) (new : Machine) (may : IsActor actor) (fit : LatchesFit m) (inside : HoldsPagesOfFile m) (step : StepsTo m actor outcome new)
    (P : ℕ → Activity → Type 0) (again : (other : ℕ) → HasHeld m other new.store → P other (m.activity other)) (free : (activity : Activity) → HoldsNothing activity → P actor activity)
    (acts : HasWayFree m actor → (does : DoesRow m actor outcome new) → P actor does.deed.next) where
  disk_alone : KeepsAllButDisk m new → (other : ℕ) → P other (new.activity other)
  disk_alone keeps other = subst (λ (all : ℕ → Activity). P other (all other)) (sym keeps.activity) (again other (λ id mode page holds there. keeps.memory id (Live page) (inl (other, mode, holds)) there))

  did : (fetched : StoreState) (deed : Deed) → Performs m fetched actor deed outcome new → P actor deed.next → (other : ℕ) → P other (new.activity other)
  did fetched deed performs own = each_again P m.activity new.activity actor deed.next performs.activity own (λ other another. again other (other_held m actor outcome new may fit inside step other another))

  worked : Works m actor outcome new → (other : ℕ) → P other (new.activity other)
  worked (inl (by, way, so)) = disk_alone (stays_so m actor outcome new (outcomes.Blocked by) so)
  worked (inr (inl (free, unready, inl (waits, force)))) = disk_alone (forces_so m actor outcome new outcomes.Helped force)
  worked (inr (inl (free, unready, inr (none, rest)))) = ready_kind m outcome new ((other : ℕ) → P other (new.activity other)) none (λ more. disk_alone (more_so m actor outcome new more)) rest
  worked (inr (inr (way, ready, inl does))) = did does.fetched does.deed does.performs (acts way does)
  worked (inr (inr (way, ready, inr (inl gives)))) = did gives.fetched _ gives.performs (free _ (nothing_given_up gives.why (m.activity actor)))
  worked (inr (inr (way, ready, inr (inr meets)))) = disk_alone (meets_so m actor outcome new meets)

  pub each_held : (other : ℕ) → P other (new.activity other)
  each_held = each_kind m actor outcome new ((other : ℕ) → P other (new.activity other))
      (λ said quiet so. disk_alone (stays_so m actor outcome new said so))
      (λ said quiet force. disk_alone (forces_so m actor outcome new said force))
      (λ more. disk_alone (more_so m actor outcome new more))
      (λ deed outright performs. did m.store deed performs (free deed.next (record { walk = outright.walk; latches = outright.latches; merging = outright.merging })))
      worked
      step
