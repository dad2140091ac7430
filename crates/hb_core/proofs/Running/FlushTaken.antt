-- A core flushes once, as a step of the machine that it shows.
use Rattle.hb_core.proofs.Running.Names.{◌≡◌, ◌≢◌, inl, inr, ℕ, ◌<◌, List, [], Some, None, Ok, Err, refl, sym, ap, ◌∙◌, subst, DiskModel, Use, WritesGroups, StoreHeld, oldest_dirty, StoreState, FlushesHome, Outcome, CountsNoOp, FlushesOnce, StaysSo, Machine, with_stop, RunningCore, ShowsMachine, held_in, MayStep}
use Rattle.hb_store.specs.declared.stops.StopWhy.TheVariants as stops
use Rattle.hb_store.specs.declared.stops.WriteFault.{WriteFault}
use Rattle.hb_steps.specs.declared.outcomes.Outcome.TheVariants as outcomes
use Rattle.hb_core.proofs.Running.Counted.{flush_no_op, no_op_shown}
use Rattle.hb_core.proofs.Running.ForcedShows.{fails, forces, waits_or_not, with_held}
use Rattle.hb_core.proofs.Running.WrittenShows.{fails_home, fails_turn, home_failed, home_none, home_some, home_turn, old_now, oldest_now, stayed_shown, turns_well, writes_well}

-- a flush that says what is due, and idles where nothing is left to flush
abbrev pub FlushesOrIdles : Machine → Outcome → Outcome → Machine → Type 0
FlushesOrIdles m due outcome new = FlushesOnce m due (StaysSo m outcomes.Idle outcome new) outcome new

-- It does no operation, and counts nothing.
pub flushed_counts : (d e : DiskModel) (c after : RunningCore) (m : Machine) (due outcome : Outcome) → MayStep d c m → (new : Machine) × FlushesOrIdles m due outcome new × ShowsMachine e after new → after.taken ≡ c.taken → after.done ≡ c.done → CountsNoOp c after
flushed_counts d e c after m due outcome step flushed taken done = record {
  stay = record { taken = taken; done = done };
  no_op = no_op_shown m.store flushed.0.store c.store after.store step.shows.store flushed.2.store (flush_no_op m due (StaysSo m outcomes.Idle outcome flushed.0) outcome flushed.0 (λ so. so.1) flushed.1);
}

module _ {D : Type 0} (model : D → DiskModel) (x y : D) (c : RunningCore) (m : Machine) (due : Outcome) (st : StoreState) (uses : List Use) (step : MayStep (model x) c m) where
  abbrev now : StoreHeld
  now = record { state = st; uses = uses }

  abbrev Shown : Outcome → Type 0
  Shown outcome = (new : Machine) × FlushesOrIdles m due outcome new × ShowsMachine (model y) (with_held st uses c) new

  some_waits : c.store.log.groups ≢ [] → m.store.log.groups ≢ []
  some_waits some none = some (sym (ap (λ (s : StoreState). s.log.groups) step.shows.store) ∙ none)

  none_waits : c.store.log.groups ≡ [] → m.store.log.groups ≡ []
  none_waits none = ap (λ (s : StoreState). s.log.groups) step.shows.store ∙ none

  pub flush_forced : c.store.log.groups ≢ [] → WritesGroups (Ok tt) (model x) (model y) c.store st × (uses ≡ c.uses) → Shown due
  flush_forced some writes =
      let forced = forces (model x) (model y) c st uses m step.shows writes.0 writes.1 due in
      (forced.0, inl (some_waits some, forced.1), forced.2)

  pub flush_written : (id : ℕ) → (c.store.log.groups ≡ []) × (oldest_dirty c.uses ≡ Some id) → FlushesHome (Ok tt) (model x) (model y) (held_in c) now → Shown due
  flush_written id which flushes =
      let written = writes_well (model x) (model y) c st uses m step.shows id which.1 due (home_some (model x) (model y) (held_in c) now (Ok tt) id which.1 flushes) in
      (written.0, inr (none_waits which.0, inl (id, oldest_now (model x) (model y) c st uses m step.shows id which.1, inl written.1)), written.2)

  pub flush_turned : (c.store.log.groups ≡ []) × (oldest_dirty c.uses ≡ None) × (0 < c.store.log.written) → FlushesHome (Ok tt) (model x) (model y) (held_in c) now → Shown due
  flush_turned which flushes =
      let turned = turns_well (model x) (model y) c st uses m step.shows (which.1, which.2) due (home_turn (model x) (model y) (held_in c) now (Ok tt) (which.1, which.2) flushes) in
      (turned.0, inr (none_waits which.0, inr (inl (old_now (model x) (model y) c st uses m step.shows (which.1, which.2), inl turned.1))), turned.2)

  -- nothing was left to flush: the machine is shown as it was
  pub flush_idled : (c.store.log.groups ≡ []) × (oldest_dirty c.uses ≡ None) × (c.store.log.written ≡ 0) → FlushesHome (Ok tt) (model x) (model y) (held_in c) now → Shown outcomes.Idle
  flush_idled which flushes =
      let nothing = home_none (model x) (model y) (held_in c) now (Ok tt) (which.1, which.2) flushes in
      let empty : m.store.log.written ≡ 0 = ap (λ (s : StoreState). s.log.written) step.shows.store ∙ which.2 in (
        m,
        inr (none_waits which.0, inr (inr ((ap oldest_dirty step.shows.uses ∙ which.1, empty), (refl, refl)))),
        stayed_shown (model x) (model y) c st uses m step.shows nothing.0 nothing.1,
      )

  module _ (z : D) (after : RunningCore) (outcome : Outcome) (says : outcome ≡ outcomes.Stopped stops.WriteFault) (then : after ≡ with_stop stops.WriteFault (with_held st uses c)) (same : z ≡ y) where
    abbrev Stopped : Type 0
    Stopped = (new : Machine) × FlushesOrIdles m due outcome new × ShowsMachine (model z) after new

    so : (new : Machine) → FlushesOrIdles m due (outcomes.Stopped stops.WriteFault) new → ShowsMachine (model y) (with_stop stops.WriteFault (with_held st uses c)) new → Stopped
    so new flushes shows = (
      new,
      subst (λ (o : Outcome). FlushesOrIdles m due o new) (sym says) flushes,
      subst (λ (k : D). ShowsMachine (model k) after new) (sym same) (subst (λ (s : RunningCore). ShowsMachine (model y) s new) (sym then) shows),
    )

    pub flush_failed : (fault : WriteFault) → (c.store.log.groups ≢ [] → WritesGroups (Err fault) (model x) (model y) c.store st × (uses ≡ c.uses)) → (c.store.log.groups ≡ [] → FlushesHome (Err fault) (model x) (model y) (held_in c) now) → Stopped
    flush_failed fault forced cleaned = elim (waits_or_not c.store.log.groups) [
      | inr some ↦
          let writes = forced some in
          let stopped = fails (model x) (model y) c st uses m step.shows fault writes.0 writes.1 in
          so stopped.0 (inl (some_waits some, inr (some_waits some, stopped.1))) stopped.2
      | inl none ↦ elim (home_failed (model x) (model y) (held_in c) now fault (cleaned none)) [
        | inl (id, oldest, writes) ↦
            let stopped = fails_home (model x) (model y) c st uses m step.shows id oldest fault writes in
            so stopped.0 (inr (none_waits none, inl (id, oldest_now (model x) (model y) c st uses m step.shows id oldest, inr stopped.1))) stopped.2
        | inr (clean, some, switches) ↦
            let stopped = fails_turn (model x) (model y) c st uses m step.shows (clean, some) fault switches in
            so stopped.0 (inr (none_waits none, inr (inl (old_now (model x) (model y) c st uses m step.shows (clean, some), inr stopped.1)))) stopped.2
      ]
    ]
