-- After a step a machine that runs has a store that does: a failed write stops both, and neither begins again.
use Rattle.hb_steps.proofs.Machines.Names.{◌≡◌, inl, inr, ℕ, false, Option, Some, None, refl, sym, ap, ◌∙◌, Op, StopWhy, Outcome, Deed, FlushesMore, each_kind, ready_kind, FailsToWrite, ForcesAll, StaysSo, MachineKeeps, Machine, MayDo, Performs, StepsTo, Works, IsActor, StoreState}
use Rattle.hb_steps.specs.declared.outcomes.Outcome.TheVariants as outcomes
use Rattle.hb_steps.specs.KeptFits.{RunsWithStore}

-- an operation stops no store
same_stopped : (op : Option Op) (mark : ℕ) (fetched new : StoreState) → MayDo op mark fetched new → new.stopped ≡ fetched.stopped
same_stopped None mark fetched new does = ap (λ (st : StoreState). st.stopped) does
same_stopped (Some op) mark fetched new does = does.commits.stopped

module _ (m : Machine) (actor : ℕ) (outcome : Outcome) (new : Machine) (runs : RunsWithStore m) where
  -- both are as they were
  same : new.stop ≡ m.stop → new.store.stopped ≡ m.store.stopped → RunsWithStore new
  same stop stopped none = stopped ∙ runs (sym stop ∙ none)

  -- the machine is stopped
  ended : (why : StopWhy) → new.stop ≡ Some why → RunsWithStore new
  ended why stop none = nothing (sym stop ∙ none)
    where
      nothing : Some why ≡ None → new.store.stopped ≡ false
      nothing is = cc

  stays : (said : Outcome) → StaysSo m said outcome new → RunsWithStore new
  stays said so = same (ap (λ (n : Machine). n.stop) so.1) (ap (λ (n : Machine). n.store.stopped) so.1)

  fails : {most : ℕ} → FailsToWrite m most outcome new → RunsWithStore new
  fails failed = ended _ (ap (λ (n : Machine). n.stop) failed.stops)

  forces : (said : Outcome) → ForcesAll m said outcome new → RunsWithStore new
  forces said (inl (says, is)) = same (ap (λ (n : Machine). n.stop) is) (ap (λ (n : Machine). n.store.stopped) is)
  forces said (inr badly) = fails badly.1

  more : FlushesMore m outcome new → RunsWithStore new
  more (none, inl (page, oldest, due, quiet, well)) = same (ap (λ (n : Machine). n.stop) well.leaves) (ap (λ (n : Machine). n.store.stopped) well.leaves)
  more (none, inr (inl (old, due, quiet, turns))) = same (ap (λ (n : Machine). n.stop) turns.leaves) (ap (λ (n : Machine). n.store.stopped) turns.leaves)
  more (none, inr (inr (calls, left, failed))) = fails failed

  performed : (fetched : StoreState) (deed : Deed) → fetched.stopped ≡ m.store.stopped → Performs m fetched actor deed outcome new → RunsWithStore new
  performed fetched deed stopped performs = same performs.stop (same_stopped deed.op _ fetched new.store performs.store ∙ stopped)

  worked : Works m actor outcome new → RunsWithStore new
  worked (inl (by, way, so)) = stays (outcomes.Blocked by) so
  worked (inr (inl (free, unready, inl (waits, force)))) = forces outcomes.Helped force
  worked (inr (inl (free, unready, inr (none, rest)))) = ready_kind m outcome new (RunsWithStore new) none more rest
  worked (inr (inr (free, ready, inl acts))) = performed acts.fetched acts.deed (ap (λ (s : StoreState). s.stopped) acts.brings.rest) acts.performs
  worked (inr (inr (free, ready, inr (inl gives)))) = performed gives.fetched _ (ap (λ (s : StoreState). s.stopped) gives.brings.rest) gives.performs
  worked (inr (inr (free, ready, inr (inr meets)))) = ended _ (ap (λ (n : Machine). n.stop) meets.stops)

pub runs_stay : (m : Machine) (actor : ℕ) (outcome : Outcome) (new : Machine) → IsActor actor → MachineKeeps m → StepsTo m actor outcome new → RunsWithStore new
runs_stay m actor outcome new may kept step =
    each_kind m actor outcome new (RunsWithStore new)
    (λ said quiet so. stays m actor outcome new kept.runs said so)
    (λ said quiet force. forces m actor outcome new kept.runs said force)
    (more m actor outcome new kept.runs)
    (λ deed outright performs. performed m actor outcome new kept.runs m.store deed refl performs)
    (worked m actor outcome new kept.runs)
    step
