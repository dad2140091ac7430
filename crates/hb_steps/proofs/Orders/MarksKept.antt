-- After a step the marks of the groups that wait don't fall, and none is behind the order's end.
use Rattle.hb_steps.proofs.Orders.Names.{◌≡◌, inl, inr, ℕ, List, [], ◌∷◌, ◌++◌, length, All, AllPairs, Option, Some, None, refl, sym, ap, ◌∙◌, subst, arith, length-append, All-nil, All-push, All-weaker, Op, Outcome, Deed, FlushesMore, each_kind, ready_kind, ForcesAll, StaysSo, MachineKeeps, Machine, MayDo, Performs, StepsTo, Works, IsActor, group_bytes, Entry, group_here, StoreState, IsMarkedTo, IsNoLater, LogState, Waiting, all_pairs_push, option_to_list}
use Rattle.hb_steps.specs.declared.outcomes.Outcome.TheVariants as outcomes
use Rattle.hb_steps.specs.Forcing.{FailsToWrite}
use Rattle.hb_steps.specs.KeptPlaces.{MarksRise}
use Rattle.hb_lemmas.proofs.Pairs.{pairs_none}

module _ (m : Machine) (actor : ℕ) (outcome : Outcome) (new : Machine) (marks : MarksRise m) where
  -- no mark is behind the end of a longer order
  inside_longer : (more : List Entry) → All (IsMarkedTo (length (m.order ++ more))) m.store.log.groups
  inside_longer more =
      let long = length-append {A = Entry} m.order more in
      All-weaker (IsMarkedTo (length m.order)) (IsMarkedTo (length (m.order ++ more))) (λ g low. omega (arith, low, long)) m.store.log.groups marks.inside

  rise_as : (order : List Entry) (groups : List Waiting) → new.order ≡ order → new.store.log.groups ≡ groups → AllPairs IsNoLater groups → All (IsMarkedTo (length order)) groups → MarksRise new
  rise_as order groups order_is groups_are rising inside = record {
    rising = subst (λ (gs : List Waiting). AllPairs IsNoLater gs) (sym groups_are) rising;
    inside = subst (λ (gs : List Waiting). All (IsMarkedTo (length new.order)) gs) (sym groups_are) (subst (λ (es : List Entry). All (IsMarkedTo (length es)) groups) (sym order_is) inside);
  }

  -- the order grows
  grown : (more : List Entry) → new.order ≡ m.order ++ more → new.store.log.groups ≡ m.store.log.groups → MarksRise new
  grown more order_is groups_are = rise_as (m.order ++ more) m.store.log.groups order_is groups_are marks.rising (inside_longer more)

  same : new.order ≡ m.order → new.store.log.groups ≡ m.store.log.groups → MarksRise new
  same order_is groups_are = rise_as m.order m.store.log.groups order_is groups_are marks.rising marks.inside

  -- a group joins those that wait
  joined : (more : List Entry) (group : Waiting) → group.mark ≡ length m.order → new.order ≡ m.order ++ more → new.store.log.groups ≡ m.store.log.groups ++ group ∷ [] → MarksRise new
  joined more group mark order_is groups_are =
      let long = length-append {A = Entry} m.order more in
      rise_as (m.order ++ more) (m.store.log.groups ++ group ∷ []) order_is groups_are
      (all_pairs_push IsNoLater m.store.log.groups group marks.rising (subst (λ (k : ℕ). All (IsMarkedTo k) m.store.log.groups) (sym mark) marks.inside))
      (All-push (IsMarkedTo (length (m.order ++ more))) m.store.log.groups group (inside_longer more) (omega (arith, mark, long)))

  stays : (said : Outcome) → StaysSo m said outcome new → MarksRise new
  stays said so = same (ap (λ (n : Machine). n.order) so.1) (ap (λ (n : Machine). n.store.log.groups) so.1)

  fails : {most : ℕ} → FailsToWrite m most outcome new → MarksRise new
  fails failed = same (ap (λ (n : Machine). n.order) failed.stops) (ap (λ (n : Machine). n.store.log.groups) failed.stops)

  forces : (said : Outcome) → ForcesAll m said outcome new → MarksRise new
  forces said (inl (says, is)) =
      rise_as m.order [] (ap (λ (n : Machine). n.order) is) (ap (λ (n : Machine). n.store.log.groups) is) (pairs_none IsNoLater) (All-nil (IsMarkedTo (length m.order)))
  forces said (inr badly) = fails badly.1

  more_flushed : FlushesMore m outcome new → MarksRise new
  more_flushed (none, inl (page, oldest, due, quiet, well)) = same (ap (λ (n : Machine). n.order) well.leaves) (ap (λ (n : Machine). n.store.log.groups) well.leaves)
  more_flushed (none, inr (inl (old, due, quiet, turns))) = same (ap (λ (n : Machine). n.order) turns.leaves) (ap (λ (n : Machine). n.store.log.groups) turns.leaves ∙ sym none)
  more_flushed (none, inr (inr (calls, left, failed))) = fails failed

  done : (op : Option Op) (fetched : StoreState) (more : List Entry) → fetched.log ≡ m.store.log → new.order ≡ m.order ++ more → MayDo op (length m.order) fetched new.store → MarksRise new
  done None fetched more log order_is does = grown more order_is (ap (λ (st : StoreState). st.log.groups) does ∙ ap (λ (log : LogState). log.groups) log)
  done (Some op) fetched more log order_is does =
      let group : Waiting = record { bytes = group_bytes (group_here fetched op); mark = length m.order } in
      joined more group refl order_is (does.group ∙ ap (λ (l : LogState). l.groups ++ group ∷ []) log)

  performed : (fetched : StoreState) (deed : Deed) → fetched.log ≡ m.store.log → Performs m fetched actor deed outcome new → MarksRise new
  performed fetched deed log performs = done deed.op fetched (option_to_list deed.joins) log performs.order performs.store

  worked : Works m actor outcome new → MarksRise new
  worked (inl (by, way, so)) = stays (outcomes.Blocked by) so
  worked (inr (inl (free, unready, inl (waits, force)))) = forces outcomes.Helped force
  worked (inr (inl (free, unready, inr (none, rest)))) = ready_kind m outcome new (MarksRise new) none more_flushed rest
  worked (inr (inr (free, ready, inl acts))) = performed acts.fetched acts.deed (ap (λ (s : StoreState). s.log) acts.brings.rest) acts.performs
  worked (inr (inr (free, ready, inr (inl gives)))) = performed gives.fetched _ (ap (λ (s : StoreState). s.log) gives.brings.rest) gives.performs
  worked (inr (inr (free, ready, inr (inr meets)))) = same (ap (λ (n : Machine). n.order) meets.stops) (ap (λ (n : Machine). n.store.log.groups) meets.stops ∙ ap (λ (s : StoreState). s.log.groups) meets.brings.rest)

pub marks_rise_still : (m : Machine) (actor : ℕ) (outcome : Outcome) (new : Machine) → IsActor actor → MachineKeeps m → StepsTo m actor outcome new → MarksRise new
marks_rise_still m actor outcome new may kept step =
    each_kind m actor outcome new (MarksRise new)
    (λ said quiet so. stays m actor outcome new kept.marks_rise said so)
    (λ said quiet force. forces m actor outcome new kept.marks_rise said force)
    (more_flushed m actor outcome new kept.marks_rise)
    (λ deed outright performs. performed m actor outcome new kept.marks_rise m.store deed refl performs)
    (worked m actor outcome new kept.marks_rise)
    step
