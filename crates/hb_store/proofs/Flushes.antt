-- Which of the four a flush does, and what it is to do it.
use Rattle.std.proofs.Common.{◌≡◌, inl, inr, ℕ, ◌<◌, [], Option, Some, None, Result, Ok, Err, refl, sym, subst}
use Rattle.std.specs.Prelude.{IfOk, MatchOption}
use Rattle.hb_disk.specs.Model.{DiskModel}
use Rattle.hb_disk.proofs.Facts.FaultLaws.{ReadsOnly-none}
use Rattle.hb_store.specs.Held.{StoreHeld, oldest_dirty}
use Rattle.hb_store.specs.Switching.{SwitchesTurn}
use Rattle.hb_store.specs.WritingHome.{FlushesClean, FlushesHome, IsDue, WritesHome}
use Rattle.hb_store.specs.declared.stops.Flushed.{Flushed}
use Rattle.hb_store.specs.declared.stops.Flushed.TheVariants.{Switched, Written}
use Rattle.hb_store.specs.declared.stops.WriteFault.{WriteFault}

-- where no group waits the oldest dirty page is due
pub due_home : (result : Result Flushed WriteFault) (held : StoreHeld) (id : ℕ) → held.state.log.groups ≡ [] → oldest_dirty held.uses ≡ Some id → IfOk result (λ flushed. flushed ≡ Written id) → IfOk result (IsDue held)
due_home (Ok flushed) held id none oldest is = subst (IsDue held) (sym is) (none, oldest)
due_home (Err fault) held id none oldest is = tt

-- and where no page is dirty either, but the log has a frame, the next turn is
pub due_switch : (result : Result Flushed WriteFault) (held : StoreHeld) → held.state.log.groups ≡ [] → oldest_dirty held.uses ≡ None → 0 < held.state.log.written → IfOk result (λ flushed. flushed ≡ Switched) → IfOk result (IsDue held)
due_switch (Ok flushed) held none clean some is = subst (IsDue held) (sym is) (none, clean, some)
due_switch (Err fault) held none clean some is = tt

module _ (result : Result (Unit {0}) WriteFault) (d e : DiskModel) (old new : StoreHeld) where
  abbrev ByOldest : Option ℕ → Type 0
  ByOldest oldest = MatchOption oldest (FlushesClean result d e old new) (λ id. WritesHome result id d e old new)

  pub flushes_oldest : (id : ℕ) → oldest_dirty old.uses ≡ Some id → WritesHome result id d e old new → FlushesHome result d e old new
  flushes_oldest id oldest writes = subst ByOldest (sym oldest) writes

  -- where none is dirty the next turn begins if the log has a frame
  pub flushes_switch : oldest_dirty old.uses ≡ None → 0 < old.state.log.written → SwitchesTurn result d e old new → FlushesHome result d e old new
  flushes_switch none some switches = subst ByOldest (sym none) (inl (some, switches))

-- and if it has none nothing is done
pub flushes_none : (d : DiskModel) (held : StoreHeld) → oldest_dirty held.uses ≡ None → held.state.log.written ≡ 0 → FlushesHome (Ok tt) d d held held
flushes_none d held none empty = subst (ByOldest (Ok tt) d d held held) (sym none) (inr (empty, refl, record { only = ReadsOnly-none d (λ never. never); keeps = λ durable later keeps. keeps }, refl))
