-- The pages that an actor has latched: the one that its walk holds is in use, and they can be unpinned.
use Rattle.hb_core.proofs.Running.Names.{ℕ, Option, IsSome, sym, ap, subst, option_and_then, Activity, walk_held, DiskModel, has_value, some_value, if_live, IsActor, StoreState, MachineKeeps, Machine, live_here, StandsAs, RunningCore, MayStep}
use Rattle.hb_core.proofs.Running.StandsElsewhere.{stands_as}

module _ (m : Machine) (actor : ℕ) (may : IsActor actor) (keeps : MachineKeeps m) where
  pub walk_live : IsSome (walk_held (m.activity actor)) → IsSome (option_and_then (live_here m.store) (walk_held (m.activity actor)))
  walk_live walks =
      let held = some_value (walk_held (m.activity actor)) walks in
      let there = keeps.latches_fit.walking actor held.0 held.1 in
      subst (λ (o : Option ℕ). IsSome (option_and_then (live_here m.store) o)) (sym held.1) (has_value (live_here m.store held.0) there.0 (ap if_live there.1))

-- the same of a core that shows the machine
module _ (d : DiskModel) (c : RunningCore) (m : Machine) (actor : ℕ) (may : IsActor actor) (step : MayStep d c m) where
  pub walk_there : (activity : Activity) → StandsAs c actor activity → IsSome (walk_held activity) → IsSome (option_and_then (live_here c.store) (walk_held activity))
  walk_there activity stands =
      subst (λ (a : Activity). IsSome (walk_held a) → IsSome (option_and_then (live_here c.store) (walk_held a))) (stands_as d c m actor activity may step.shows stands)
      (subst (λ (s : StoreState). IsSome (walk_held (m.activity actor)) → IsSome (option_and_then (live_here s) (walk_held (m.activity actor)))) step.shows.store (walk_live m actor may step.goes_on.kept))
