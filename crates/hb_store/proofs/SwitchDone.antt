-- What a store's switch is, once its calls are done, and where one of them failed.
use Rattle.std.proofs.Common.{◌≡◌, ℕ, ◌+◌, ◌≤◌, false, List, [], Option, None, Result, Ok, Err, IsSome, refl, subst, arith}
use Rattle.hb_disk.specs.Model.{DiskModel, IsDisk}
use Rattle.hb_disk.specs.Calls.{Leaves}
use Rattle.hb_disk.specs.Runs.{Rewrites}
use Rattle.hb_disk.specs.declared.faults.DiskFault.{DiskFault}
use Rattle.hb_disk.proofs.Facts.RewriteLaws.{Rewrites-as}
use Rattle.hb_disk.proofs.Facts.RunLaws.{Leaves-weaker}
use Rattle.hb_frag.specs.declared.pages.Page.{Page}
use Rattle.hb_layout.specs.Offsets.{file_size}
use Rattle.hb_layout.specs.declared.meta.Meta.{Meta}
use Rattle.hb_lemmas.proofs.Options.{some_value}
use Rattle.hb_ops.specs.Files.{FileState}
use Rattle.hb_super.specs.Superblocks.{next_turn}
use Rattle.hb_store.specs.Forced.{MayWriteGroups, stopped_state}
use Rattle.hb_store.specs.Held.{IsTied, StoreHeld, oldest_dirty}
use Rattle.hb_store.specs.Keeps.{IsFresh, StoreKeeps}
use Rattle.hb_store.specs.Opening.{OpensTo}
use Rattle.hb_store.specs.Parts.{written_pages}
use Rattle.hb_store.specs.States.{IsMemory, is_dirty}
use Rattle.hb_store.specs.Switching.{SwitchesTurn, TornSwitch, switched_state}
use Rattle.hb_store.specs.Turning.{MayTurn, OpensByEither}
use Rattle.hb_store.specs.declared.stops.WriteFault.{WriteFault}
use Rattle.hb_store.proofs.AfterForce.{written_fits}
use Rattle.hb_store.proofs.SwitchKept.{keeps_switched, may_turn}
use Rattle.hb_store.proofs.SwitchStopped.{keeps_not_switched}
use Rattle.hb_store.proofs.Switched.{none_dirty}
use Rattle.hb_store.proofs.Facts.StoreLaws.{StoreKeeps-idle}
use Rattle.hb_store.proofs.Facts.Turned.{either_to, now_has}

-- A store that may begin its next turn, and what the calls left, which were told the next turn and what the file says of itself.
pub record IsToTurn (d : DiskModel) (old : StoreHeld) : Type 0 where
  pub memory : IsMemory old.state
  pub tied : IsTied old.state old.uses
  pub may : MayWriteGroups d old.state
  pub idle : old.state.log.groups ≡ []
  pub clean : oldest_dirty old.uses ≡ None
  pub room : file_size old.state.meta ≤ d.size

pub record Turns {T : Type 0} (result : Result T DiskFault) (turn : ℕ) (meta : Meta) (d e : DiskModel) : Type 0 where
  pub moments : (before : ℕ) (said : Meta) (touched : ℕ → Option Page) (s : FileState) → turn ≡ next_turn before → MayTurn d before said meta touched s → Leaves d e (OpensByEither before said meta touched s)
  pub wrote : (before : ℕ) → turn ≡ next_turn before → Rewrites (TornSwitch before meta) 9 result d e

module _ (d e : DiskModel) (is_e : IsDisk e) (old : StoreHeld) (to_turn : IsToTurn d old) (turn : ℕ) (turn_is : turn ≡ next_turn old.state.turn) where
  clean : (id : ℕ) → is_dirty old.state id ≡ false
  clean = none_dirty old.state old.uses to_turn.tied to_turn.clean

  may : (durable : FileState) (keeps : StoreKeeps d old.state durable []) → MayTurn d old.state.turn keeps.parts.said old.state.meta (written_pages keeps.parts).page durable
  may durable keeps = may_turn d old.state to_turn.memory to_turn.may.running clean durable keeps

  module _ {T : Type 0} (result : Result T DiskFault) (turns : Turns result turn old.state.meta d e) where
    either : (durable : FileState) (keeps : StoreKeeps d old.state durable []) → Leaves d e (OpensByEither old.state.turn keeps.parts.said old.state.meta (written_pages keeps.parts).page durable)
    either durable keeps = turns.moments old.state.turn keeps.parts.said (written_pages keeps.parts).page durable turn_is (may durable keeps)

    moments : (durable : FileState) (later : List FileState) → StoreKeeps d old.state durable later → Leaves d e (λ c. OpensTo c durable)
    moments = StoreKeeps-idle d old.state (λ durable later. Leaves d e (λ c. OpensTo c durable)) to_turn.idle (λ durable keeps.
        Leaves-weaker d e (OpensByEither old.state.turn keeps.parts.said old.state.meta (written_pages keeps.parts).page durable) (λ c. OpensTo c durable)
        (λ c opens. either_to old.state.turn keeps.parts.said old.state.meta (written_pages keeps.parts).page durable c opens) (either durable keeps))

    wrote : Rewrites (TornSwitch old.state.turn old.state.meta) 9 result d e
    wrote = turns.wrote old.state.turn turn_is

  -- once they are done
  pub switched_so : {T : Type 0} (v : T) → Turns (Ok v) turn old.state.meta d e
      → ((before : ℕ) (said : Meta) (touched : ℕ → Option Page) (s : FileState) → turn ≡ next_turn before → MayTurn d before said old.state.meta touched s → IsFresh e turn old.state.meta s)
      → (IsSome d.told → e.clock ≡ d.clock + 9) → SwitchesTurn (Ok tt) d e old (record { state = switched_state old.state; uses = old.uses })
  switched_so {T = T} v turns fresh clock =
      let result : Result T DiskFault = Ok v in
      let run = wrote result turns in
      let same : e.size ≡ d.size = run.became.size in
      let room = to_turn.room in
      record {
        done = refl;
        stopped = tt;
        keeps = StoreKeeps-idle d old.state (StoreKeeps e (switched_state old.state)) to_turn.idle (λ durable keeps.
            keeps_switched d old.state to_turn.memory to_turn.may.running clean durable keeps e is_e (omega (arith, same, room))
            (subst (λ (n : ℕ). IsFresh e n old.state.meta durable) turn_is (fresh old.state.turn keeps.parts.said (written_pages keeps.parts).page durable turn_is (may durable keeps))));
        moments = moments result turns;
        wrote = let done : Result (Unit {0}) WriteFault = Ok tt in Rewrites-as result done (TornSwitch old.state.turn old.state.meta) 9 9 d e (λ failed. cc) (λ failed. cc) (omega arith) run;
        clock = clock;
      }

  -- and where one failed
  pub not_switched_so : {T : Type 0} (fault : DiskFault) (stops : WriteFault) → Turns {T = T} (Err fault) turn old.state.meta d e
      → SwitchesTurn (Err stops) d e old (record { state = stopped_state old.state; uses = old.uses })
  not_switched_so {T = T} fault stops turns =
      let result : Result T DiskFault = Err fault in
      let run = wrote result turns in
      record {
        done = tt;
        stopped = (refl, refl);
        keeps = StoreKeeps-idle d old.state (StoreKeeps e (stopped_state old.state)) to_turn.idle (λ durable keeps.
            let told = some_value d.told keeps.disk.told in
            keeps_not_switched d e old.state to_turn.memory to_turn.may.running durable keeps run.became
            (now_has d e (OpensByEither old.state.turn keeps.parts.said old.state.meta (written_pages keeps.parts).page durable) is_e (either result turns durable keeps))
            (written_fits d old.state.log keeps.parts.payloads (keeps.disk.running to_turn.may.running).logged told.0 told.1));
        moments = moments result turns;
        wrote = let failed : Result (Unit {0}) WriteFault = Err stops in Rewrites-as result failed (TornSwitch old.state.turn old.state.meta) 9 9 d e (λ failed. refl) (λ failed. refl) (omega arith) run;
        clock = λ tells. tt;
      }
