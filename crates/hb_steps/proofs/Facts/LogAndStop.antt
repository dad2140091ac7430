-- What a step tells of the file's length, which stays, and of a stop: a step that stops a machine says so.
use Rattle.hb_steps.proofs.Facts.Names.{◌≡◌, ◌⊎◌, inl, inr, ℕ, List, [], ◌∷◌, Option, Some, None, refl, ap, ◌∙◌, Deed, MeetsBadPage, FailsToWrite, ForcesAll, StaysSo, Machine, MayDo, Performs, StepsTo, Works, Outcome, LivePage, Meta, Op, StoreState, StopWhy}
use Rattle.hb_steps.proofs.Facts.StepKinds.{FlushesMore, each_kind, ready_kind}
use Rattle.hb_steps.specs.Steps.{StepsInSequence}
use Rattle.hb_steps.specs.declared.outcomes.Outcome.TheVariants as outcomes
use Rattle.hb_layout.specs.Offsets.{file_size}
use Rattle.hb_ops.specs.Operations.{IsAllowedOn, change_of}
use Rattle.hb_ops.specs.declared.operations.Op.TheVariants.{Del, Extract, Grow, Merge, Post, Put}
use Rattle.hb_store.specs.Calls.{read_here}
use Rattle.hb_store.specs.States.{IsSameLayout}
use Rattle.hb_store.proofs.Facts.Changed.{same_size}

-- nothing but what the step says has stopped the machine
abbrev pub SaysStop : Machine → Outcome → Machine → Type 0
SaysStop m outcome new = (new.stop ≡ m.stop) ⊎ ((why : StopWhy) × (new.stop ≡ Some why) × (outcome ≡ outcomes.Stopped why))

pub record StepTells (m : Machine) (outcome : Outcome) (new : Machine) : Type 0 where
  pub size : file_size new.store.meta ≡ file_size m.store.meta
  pub stop : SaysStop m outcome new

-- no operation changes the layout
pub layout_of_change : (op : Op) (meta : Meta) (first second third : Option LivePage) → IsAllowedOn op meta first second third → IsSameLayout meta (change_of op meta first second third).meta
layout_of_change (Put id rec) meta None second third allowed = absurd allowed
layout_of_change (Put id rec) meta (Some page) second third allowed = record { k = refl; pages = refl; log = refl; dcap = refl; icap = refl }
layout_of_change (Del id point) meta None second third allowed = absurd allowed
layout_of_change (Del id point) meta (Some page) second third allowed = record { k = refl; pages = refl; log = refl; dcap = refl; icap = refl }
layout_of_change (Extract source fresh path cuts free_after) meta None second third allowed = absurd allowed
layout_of_change (Extract source fresh path cuts free_after) meta (Some page) second third allowed = record { k = refl; pages = refl; log = refl; dcap = refl; icap = refl }
layout_of_change (Post parent at inner area) meta None second third allowed = absurd allowed
layout_of_change (Post parent at inner area) meta (Some page) second third allowed = record { k = refl; pages = refl; log = refl; dcap = refl; icap = refl }
layout_of_change (Merge parent keep gone) meta None second third allowed = absurd allowed
layout_of_change (Merge parent keep gone) meta (Some above) None third allowed = absurd allowed
layout_of_change (Merge parent keep gone) meta (Some above) (Some kept) None allowed = absurd allowed
layout_of_change (Merge parent keep gone) meta (Some above) (Some kept) (Some going) allowed = record { k = refl; pages = refl; log = refl; dcap = refl; icap = refl }
layout_of_change (Grow fresh free_after) meta first second third allowed = record { k = refl; pages = refl; log = refl; dcap = refl; icap = refl }

size_by_op : (op : Option Op) (mark : ℕ) (old fetched new : StoreState) → fetched.meta ≡ old.meta → MayDo op mark fetched new → file_size new.meta ≡ file_size old.meta
size_by_op None mark old fetched new meta does = ap (λ (st : StoreState). file_size st.meta) does ∙ ap file_size meta
size_by_op (Some op) mark old fetched new meta does =
    ap file_size does.commits.meta ∙ same_size fetched.meta _ (layout_of_change op fetched.meta (read_here fetched op 0) (read_here fetched op 1) (read_here fetched op 2) does.allowed) ∙ ap file_size meta

module _ (m : Machine) (actor : ℕ) (outcome : Outcome) (new : Machine) where
  stays : (said : Outcome) → StaysSo m said outcome new → StepTells m outcome new
  stays said so = record { size = ap (λ (x : Machine). file_size x.store.meta) so.1; stop = inl (ap (λ (x : Machine). x.stop) so.1) }

  fails : {most : ℕ} → FailsToWrite m most outcome new → StepTells m outcome new
  fails failed = record {
    size = ap (λ (x : Machine). file_size x.store.meta) failed.stops;
    stop = inr (_, ap (λ (x : Machine). x.stop) failed.stops, failed.says);
  }

  forces : (said : Outcome) → ForcesAll m said outcome new → StepTells m outcome new
  forces said (inl (says, is)) = record {
    size = ap (λ (x : Machine). file_size x.store.meta) is;
    stop = inl (ap (λ (x : Machine). x.stop) is);
  }
  forces said (inr badly) = fails badly.1

  more : FlushesMore m outcome new → StepTells m outcome new
  more (none, inl (page, oldest, due, plain, well)) = record {
    size = ap (λ (x : Machine). file_size x.store.meta) well.leaves;
    stop = inl (ap (λ (x : Machine). x.stop) well.leaves);
  }
  more (none, inr (inl (old, due, plain, turns))) = record {
    size = ap (λ (x : Machine). file_size x.store.meta) turns.leaves;
    stop = inl (ap (λ (x : Machine). x.stop) turns.leaves);
  }
  more (none, inr (inr (calls, left, failed))) = fails failed

  performed : (fetched : StoreState) (deed : Deed) → fetched.meta ≡ m.store.meta → Performs m fetched actor deed outcome new → StepTells m outcome new
  performed fetched deed meta performs = record { size = size_by_op deed.op _ m.store fetched new.store meta performs.store; stop = inl performs.stop }

  meets : MeetsBadPage m actor outcome new → StepTells m outcome new
  meets bad = record {
    size = ap (λ (x : Machine). file_size x.store.meta) bad.stops ∙ ap file_size (ap (λ (s : StoreState). s.meta) bad.brings.rest);
    stop = inr (_, ap (λ (x : Machine). x.stop) bad.stops, bad.says);
  }

  worked : Works m actor outcome new → StepTells m outcome new
  worked (inl (by, way, so)) = stays (outcomes.Blocked by) so
  worked (inr (inl (free, unready, inl (waits, force)))) = forces outcomes.Helped force
  worked (inr (inl (free, unready, inr (none, rest)))) = ready_kind m outcome new (StepTells m outcome new) none more rest
  worked (inr (inr (free, ready, inl acts))) = performed acts.fetched acts.deed (ap (λ (s : StoreState). s.meta) acts.brings.rest) acts.performs
  worked (inr (inr (free, ready, inr (inl gives)))) = performed gives.fetched _ (ap (λ (s : StoreState). s.meta) gives.brings.rest) gives.performs
  worked (inr (inr (free, ready, inr (inr bad)))) = meets bad

pub step_tells : (m : Machine) (actor : ℕ) (outcome : Outcome) (new : Machine) → StepsTo m actor outcome new → StepTells m outcome new
step_tells m actor outcome new step =
    each_kind m actor outcome new (StepTells m outcome new)
    (λ said quiet so. stays m actor outcome new said so)
    (λ said quiet force. forces m actor outcome new said force)
    (more m actor outcome new)
    (λ deed outright performs. performed m actor outcome new m.store deed refl performs)
    (worked m actor outcome new)
    step

-- so over many steps
pub size_stands : (actors : List ℕ) (m new : Machine) → StepsInSequence actors m new → file_size new.store.meta ≡ file_size m.store.meta
size_stands [] m new is = ap (λ (x : Machine). file_size x.store.meta) is
size_stands (actor ∷ rest) m new (outcome, next, step, steps) = size_stands rest next new steps ∙ (step_tells m actor outcome next step).size
