-- Every step keeps that the log is the area of the store's turn.
use Rattle.hb_steps.proofs.Machines.Names.{◌≡◌, inl, inr, ℕ, ◌+◌, ◌*◌, Option, Some, None, refl, sym, ap, ◌∙◌, subst, Deed, Meta, Op, StoreState, Outcome, FailsToWrite, ForcesAll, StaysSo, MachineKeeps, Machine, MayDo, Performs, StepsTo, Works, FlushesMore, each_kind, ready_kind}
use Rattle.std.proofs.Common.{◌%◌}
use Rattle.hb_store.specs.Calls.{KeepsAllButPages, read_here}
use Rattle.hb_steps.specs.declared.outcomes.Outcome.TheVariants as outcomes
use Rattle.hb_steps.specs.KeptLines.{LogInPlace}
use Rattle.hb_steps.proofs.Facts.LogAndStop.{layout_of_change}

-- the turn, the log's area and the layout of a store are those of another one
pub record HasSameArea (old new : StoreState) : Type 0 where
  pub turn : new.turn ≡ old.turn
  pub area : new.log.area ≡ old.log.area
  pub len : new.log.len ≡ old.log.len
  pub bytes : new.meta.log ≡ old.meta.log

after_fetch : (old new : StoreState) → KeepsAllButPages old new → HasSameArea old new
after_fetch old new keeps = record { turn = ap (λ (s : StoreState). s.turn) keeps; area = ap (λ (s : StoreState). s.log.area) keeps; len = ap (λ (s : StoreState). s.log.len) keeps; bytes = ap (λ (s : StoreState). s.meta.log) keeps }

same_store : (old new : StoreState) → new ≡ old → HasSameArea old new
same_store old new is = record { turn = ap (λ (s : StoreState). s.turn) is; area = ap (λ (s : StoreState). s.log.area) is; len = ap (λ (s : StoreState). s.log.len) is; bytes = ap (λ (s : StoreState). s.meta.log) is }

and_then : (old mid new : StoreState) → HasSameArea old mid → HasSameArea mid new → HasSameArea old new
and_then old mid new first next = record { turn = next.turn ∙ first.turn; area = next.area ∙ first.area; len = next.len ∙ first.len; bytes = next.bytes ∙ first.bytes }

after_op : (op : Option Op) (mark : ℕ) (old new : StoreState) → MayDo op mark old new → HasSameArea old new
after_op None mark old new does = same_store old new does
after_op (Some op) mark old new does = record {
  turn = does.commits.turn;
  area = does.commits.area;
  len = does.commits.len;
  bytes = ap (λ (m : Meta). m.log) does.commits.meta ∙ (layout_of_change op old.meta (read_here old op 0) (read_here old op 1) (read_here old op 2) does.allowed).log;
}

module _ (m : Machine) (actor : ℕ) (outcome : Outcome) (new : Machine) (here : LogInPlace m) where
  stays_there : HasSameArea m.store new.store → LogInPlace new
  stays_there same = record {
    area = same.area ∙ here.area ∙ ap (λ (n : ℕ). 8192 + (n % 2) * m.store.meta.log) (sym same.turn) ∙ ap (λ (n : ℕ). 8192 + (new.store.turn % 2) * n) (sym same.bytes);
    len = same.len ∙ here.len ∙ sym same.bytes;
  }

  by_machine : (other : Machine) → new ≡ other → HasSameArea m.store other.store → LogInPlace new
  by_machine other is same = stays_there (and_then m.store other.store new.store same (same_store other.store new.store (ap (λ (n : Machine). n.store) is)))

  unmoved : HasSameArea m.store m.store
  unmoved = same_store m.store m.store refl

  stays : (said : Outcome) → StaysSo m said outcome new → LogInPlace new
  stays said so = by_machine m so.1 unmoved

  fails : {most : ℕ} → FailsToWrite m most outcome new → LogInPlace new
  fails failed = by_machine _ failed.stops (record { turn = refl; area = refl; len = refl; bytes = refl })

  forces : (said : Outcome) → ForcesAll m said outcome new → LogInPlace new
  forces said (inl well) = by_machine _ well.1 (record { turn = refl; area = refl; len = refl; bytes = refl })
  forces said (inr badly) = fails badly.1

  -- the next turn has the other area
  more : FlushesMore m outcome new → LogInPlace new
  more (none, inl (page, oldest, due, plain, well)) = by_machine _ well.leaves (record { turn = refl; area = refl; len = refl; bytes = refl })
  more (none, inr (inl (old, due, plain, turns))) = subst LogInPlace (sym turns.leaves) (record { area = refl; len = here.len })
  more (none, inr (inr (calls, left, failed))) = fails failed

  performed : (fetched : StoreState) (deed : Deed) → HasSameArea m.store fetched → Performs m fetched actor deed outcome new → LogInPlace new
  performed fetched deed same performs = stays_there (and_then m.store fetched new.store same (after_op deed.op _ fetched new.store performs.store))

  worked : Works m actor outcome new → LogInPlace new
  worked (inl (by, way, so)) = stays (outcomes.Blocked by) so
  worked (inr (inl (free, unready, inl (waits, force)))) = forces outcomes.Helped force
  worked (inr (inl (free, unready, inr (none, rest)))) = ready_kind m outcome new (LogInPlace new) none more rest
  worked (inr (inr (free, ready, inl acts))) = performed acts.fetched acts.deed (after_fetch m.store acts.fetched acts.brings.rest) acts.performs
  worked (inr (inr (free, ready, inr (inl gives)))) = performed gives.fetched _ (after_fetch m.store gives.fetched gives.brings.rest) gives.performs
  worked (inr (inr (free, ready, inr (inr meets)))) = by_machine _ meets.stops (after_fetch m.store meets.fetched meets.brings.rest)

pub log_stays_in_place : (m : Machine) (actor : ℕ) (outcome : Outcome) (new : Machine) → MachineKeeps m → StepsTo m actor outcome new → LogInPlace new
log_stays_in_place m actor outcome new keeps step =
    each_kind m actor outcome new (LogInPlace new)
    (λ said quiet so. stays m actor outcome new keeps.log_in_place said so)
    (λ said quiet force. forces m actor outcome new keeps.log_in_place said force)
    (more m actor outcome new keeps.log_in_place)
    (λ deed outright performs. performed m actor outcome new keeps.log_in_place m.store deed (unmoved m actor outcome new keeps.log_in_place) performs)
    (worked m actor outcome new keeps.log_in_place)
    step
