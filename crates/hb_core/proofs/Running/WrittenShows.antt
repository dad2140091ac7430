-- A core that writes the least recently used dirty page to its place, or finds nothing to write, shows what this makes of the machine.
use Rattle.hb_core.proofs.Running.Names.{◌≡◌, ℕ, ◌+◌, List, Option, Some, None, IsSome, Ok, Err, Result, refl, sym, ap, ◌∙◌, subst, ◌⊎◌, ◌<◌, inl, inr, arith, was_some, DiskModel, Use, in_place, LooksUp, StoreHeld, oldest_dirty, StoreKeeps, StoreState, SwitchesTurn, FlushesHome, WritesHome, Outcome, FailsToWrite, Machine, with_disk, with_uses, with_stop, RunningCore, ShowsMachine, held_in, false≢true}
use Rattle.std.specs.Prelude.{MatchOption}
use Rattle.hb_pool.specs.Frames.{clean}
use Rattle.hb_store.specs.Held.{cleaned_state}
use Rattle.hb_store.specs.Switching.{switched_state}
use Rattle.hb_store.specs.WritingHome.{FlushesClean}
use Rattle.hb_store.specs.declared.stops.StopWhy.TheVariants as stops
use Rattle.hb_store.specs.declared.stops.WriteFault.{WriteFault}
use Rattle.hb_steps.specs.declared.outcomes.Outcome.TheVariants as outcomes
use Rattle.hb_steps.specs.Forcing.{BeginsTurn, HasDirtyPage, HasOldTurn, WritesOldest}
use Rattle.hb_core.proofs.Running.ForcedShows.{fails_by, kept_before, shown_with, silent_before, with_held}

module _ (d e : DiskModel) (c : RunningCore) (st : StoreState) (uses : List Use) (m : Machine) (shows : ShowsMachine d c m) where
  abbrev pub now : StoreHeld
  now = record { state = st; uses = uses }

  -- ---- nothing was written

  pub stayed_shown : LooksUp ⊥ d e c.store st → now ≡ held_in c → ShowsMachine e (with_held st uses c) m
  stayed_shown looks same =
      let stays = looks.only.stays in
      let store : m.store ≡ st = shows.store ∙ ap (λ (h : StoreHeld). h.state) (sym same) in
      let used : m.uses ≡ uses = shows.uses ∙ ap (λ (h : StoreHeld). h.uses) (sym same) in
      shown_with d e c st uses m shows m.store m.uses m.files m.clock refl store used
      (λ told.
      let had = shows.tells (subst (λ (o : Option (List ℕ)). IsSome o) stays.told told) in
      record {
        files = had.files;
        told = had.told;
        kept = subst (λ (s : StoreState). StoreKeeps e s had.files.durable had.files.later) (sym store) (looks.keeps had.files.durable had.files.later (kept_before d e c st uses m shows had));
        clock = had.clock ∙ sym stays.clock;
      })
      (λ untold. shows.silent (sym stays.told ∙ untold))

  -- ---- a page was written to its place

  module _ (id : ℕ) (oldest : oldest_dirty c.uses ≡ Some id) where
    pub oldest_now : HasDirtyPage m id
    oldest_now = ap oldest_dirty shows.uses ∙ oldest

    abbrev written : Machine
    written = with_uses (in_place id clean m.uses) (with_disk (cleaned_state id m.store) m.files (m.clock + 1) m)

    pub writes_well : (due : Outcome) → WritesHome (Ok tt) id d e (held_in c) now → (new : Machine) × WritesOldest m id due due new × ShowsMachine e (with_held st uses c) new
    writes_well due writes = (
      written,
      record { says = refl; leaves = refl },
      shown_with d e c st uses m shows (cleaned_state id m.store) (in_place id clean m.uses) m.files (m.clock + 1) refl store used
          (λ told.
          let was = was_some d.told e.told writes.wrote.became.silent told in
          let had = shows.tells was in
          record {
            files = had.files;
            told = had.told;
            kept = subst (λ (s : StoreState). StoreKeeps e s had.files.durable had.files.later) (sym store) (writes.keeps had.files.durable had.files.later (kept_before d e c st uses m shows had));
            clock = ap (λ (n : ℕ). n + 1) had.clock ∙ sym (writes.clock was);
          })
          (λ untold. shows.silent (silent_before _ d.told e.told writes.wrote.became.told untold)),
    )
      where
        store : cleaned_state id m.store ≡ st
        store = ap (cleaned_state id) shows.store ∙ ap (λ (h : StoreHeld). h.state) (sym writes.done)

        used : in_place id clean m.uses ≡ uses
        used = ap (in_place id clean) shows.uses ∙ ap (λ (h : StoreHeld). h.uses) (sym writes.done)

    pub fails_home : (fault : WriteFault) → WritesHome (Err fault) id d e (held_in c) now
        → (new : Machine) × FailsToWrite m 1 (outcomes.Stopped stops.WriteFault) new × ShowsMachine e (with_stop stops.WriteFault (with_held st uses c)) new
    fails_home fault writes = fails_by d e c st uses m shows _ 1 writes.wrote.became writes.wrote.later writes.wrote.few writes.stopped.0 writes.stopped.1 writes.keeps

  -- ---- the next turn began

  module _ (old : (oldest_dirty c.uses ≡ None) × (0 < c.store.log.written)) where
    pub old_now : HasOldTurn m
    old_now = (ap oldest_dirty shows.uses ∙ old.0, subst (λ (s : StoreState). 0 < s.log.written) (sym shows.store) old.1)

    abbrev turned : Machine
    turned = with_disk (switched_state m.store) m.files (m.clock + 9) m

    pub turns_well : (due : Outcome) → SwitchesTurn (Ok tt) d e (held_in c) now → (new : Machine) × BeginsTurn m due due new × ShowsMachine e (with_held st uses c) new
    turns_well due switches = (
      turned,
      record { says = refl; leaves = refl },
      shown_with d e c st uses m shows (switched_state m.store) m.uses m.files (m.clock + 9) refl store used
          (λ told.
          let was = was_some d.told e.told switches.wrote.became.silent told in
          let had = shows.tells was in
          record {
            files = had.files;
            told = had.told;
            kept = subst (λ (s : StoreState). StoreKeeps e s had.files.durable had.files.later) (sym store) (switches.keeps had.files.durable had.files.later (kept_before d e c st uses m shows had));
            clock = ap (λ (n : ℕ). n + 9) had.clock ∙ sym (switches.clock was);
          })
          (λ untold. shows.silent (silent_before _ d.told e.told switches.wrote.became.told untold)),
    )
      where
        store : switched_state m.store ≡ st
        store = ap switched_state shows.store ∙ ap (λ (h : StoreHeld). h.state) (sym switches.done)

        used : m.uses ≡ uses
        used = shows.uses ∙ ap (λ (h : StoreHeld). h.uses) (sym switches.done)

    pub fails_turn : (fault : WriteFault) → SwitchesTurn (Err fault) d e (held_in c) now
        → (new : Machine) × FailsToWrite m 9 (outcomes.Stopped stops.WriteFault) new × ShowsMachine e (with_stop stops.WriteFault (with_held st uses c)) new
    fails_turn fault switches = fails_by d e c st uses m shows _ 9 switches.wrote.became switches.wrote.later switches.wrote.few switches.stopped.0 switches.stopped.1 switches.keeps

-- ---- which of them it was

module _ (d e : DiskModel) (old new : StoreHeld) where
  abbrev Home : Result (Unit {0}) WriteFault → Option ℕ → Type 0
  Home result oldest = MatchOption oldest (FlushesClean result d e old new) (λ id. WritesHome result id d e old new)

  pub home_some : (result : Result (Unit {0}) WriteFault) (id : ℕ) → oldest_dirty old.uses ≡ Some id → FlushesHome result d e old new → WritesHome result id d e old new
  home_some result id is flushes = subst (Home result) is flushes

  flushes_clean : (result : Result (Unit {0}) WriteFault) → oldest_dirty old.uses ≡ None → FlushesHome result d e old new → FlushesClean result d e old new
  flushes_clean result is flushes = subst (Home result) is flushes

  pub home_turn : (result : Result (Unit {0}) WriteFault) → (oldest_dirty old.uses ≡ None) × (0 < old.state.log.written) → FlushesHome result d e old new → SwitchesTurn result d e old new
  home_turn result (is, some) flushes = by (flushes_clean result is flushes)
    where
      by : FlushesClean result d e old new → SwitchesTurn result d e old new
      by (inl (_, switches)) = switches
      by (inr (none, ok, reads, same)) = absurd (omega (arith, some, none))

  pub home_none : (result : Result (Unit {0}) WriteFault) → (oldest_dirty old.uses ≡ None) × (old.state.log.written ≡ 0) → FlushesHome result d e old new → LooksUp ⊥ d e old.state new.state × (new ≡ old)
  home_none result (is, none) flushes = by (flushes_clean result is flushes)
    where
      by : FlushesClean result d e old new → LooksUp ⊥ d e old.state new.state × (new ≡ old)
      by (inl (some, _)) = absurd (omega (arith, some, none))
      by (inr (_, ok, reads, same)) = (reads, same)

  -- one that failed wrote a page, or began a turn
  pub home_failed : (fault : WriteFault) → FlushesHome (Err fault) d e old new
      → ((id : ℕ) × (oldest_dirty old.uses ≡ Some id) × WritesHome (Err fault) id d e old new)
      ⊎ ((oldest_dirty old.uses ≡ None) × (0 < old.state.log.written) × SwitchesTurn (Err fault) d e old new)
  home_failed fault flushes = by (oldest_dirty old.uses) refl
    where
      turned : oldest_dirty old.uses ≡ None → FlushesClean (Err fault) d e old new → (oldest_dirty old.uses ≡ None) × (0 < old.state.log.written) × SwitchesTurn (Err fault) d e old new
      turned is (inl (some, switches)) = (is, some, switches)
      turned is (inr (none, ok, reads, same)) = absurd (false≢true ok)

      by : (o : Option ℕ) → oldest_dirty old.uses ≡ o
          → ((id : ℕ) × (oldest_dirty old.uses ≡ Some id) × WritesHome (Err fault) id d e old new)
          ⊎ ((oldest_dirty old.uses ≡ None) × (0 < old.state.log.written) × SwitchesTurn (Err fault) d e old new)
      by None is = inr (turned is (flushes_clean (Err fault) is flushes))
      by (Some id) is = inl (id, is, subst (Home (Err fault)) is flushes)
