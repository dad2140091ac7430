-- What it is to write the groups that wait, from what the log's force did.
use Rattle.std.proofs.Common.{zero, suc, ◌*◌, ◌%◌, ◌<◌, ◌≤◌, ◌≡◌, ℕ, ◌+◌, ◌++◌, List, [], Ok, Err, IsSome, false, refl, sym, subst, ap, arith}
use Rattle.hb_lemmas.proofs.Options.{some_value}
use Rattle.hb_disk.specs.Model.{DiskModel, IsDisk, Stays, Torn}
use Rattle.hb_disk.specs.Calls.{Leaves}
use Rattle.hb_disk.specs.Runs.{Rewrites}
use Rattle.hb_wal.specs.Log.{LogState, after_force, forced}
use Rattle.hb_wal.specs.Forces.{ForceLeaves, HasLog, calls_of_force}
use Rattle.hb_layout.specs.Offsets.{file_size}
use Rattle.hb_ops.specs.Files.{FileState, last_of}
use Rattle.hb_store.specs.States.{IsMemory, StoreState}
use Rattle.hb_store.specs.Keeps.{OpensToEither, StoreKeeps}
use Rattle.hb_store.specs.Forced.{WritesGroups, stopped_state, with_log}
use Rattle.hb_store.specs.declared.stops.WriteFault.{WriteFault}
use Rattle.hb_store.proofs.AfterForce.{keeps_forced, keeps_stopped, moments_open}

-- the log lies within a disk that the file fits
half_fits : (half log : ℕ) → half < 2 → half * log ≤ log
half_fits zero log lt = omega arith
half_fits (suc zero) log lt = omega arith
half_fits (suc (suc n)) log lt = absurd (omega (arith, lt))

pub log_fits : (st : StoreState) (size : ℕ) → IsMemory st → file_size st.meta ≤ size → st.log.area + st.log.len ≤ size
log_fits st size is room = omega (arith, is.area, is.len, half_fits (st.turn % 2) st.meta.log (omega arith), room)

module _ (d e : DiskModel) (is_disk : IsDisk d) (is_new : IsDisk e) (st : StoreState) (is : IsMemory st) (going : st.stopped ≡ false) (log : LogState)
    (inside : IsSome d.told → (payloads : List (List ℕ)) → HasLog d st.log payloads → Leaves d e (ForceLeaves d st.log payloads)) where
  moments : (durable : FileState) (later : List FileState) → StoreKeeps d st durable later → Leaves d e (OpensToEither durable later)
  moments durable later keeps = moments_open d is_disk st is going durable later keeps e (inside keeps.disk.told keeps.parts.payloads (keeps.disk.running going).logged)

  -- it was written
  pub written_so : {X E : Type 0} (y : X) → (st.log.groups ≡ [] → Stays d e) → log ≡ after_force st.log
      → ((payloads : List (List ℕ)) → HasLog d st.log payloads → HasLog e log (payloads ++ forced st.log.groups))
      → (IsSome d.told → e.clock ≡ d.clock + calls_of_force st.log.groups) → Rewrites {T = X} {E = E} (Torn st.log.area st.log.len) 4 (Ok y) d e
      → WritesGroups (Ok tt) d e st (with_log log st)
  written_so y nothing is_forced has clock wrote = record {
    nothing = λ none. (refl, nothing none);
    forced = ap (λ (l : LogState). with_log l st) is_forced;
    stopped = tt;
    keeps_forced = λ durable later keeps.
        let told = some_value d.told keeps.disk.told in
        let L : LogState → Type 0 = λ l. HasLog e l (keeps.parts.payloads ++ forced st.log.groups) in
        let K : LogState → Type 0 = λ l. StoreKeeps e (with_log l st) (last_of durable later) [] in
        subst K (sym is_forced)
        (keeps_forced d is_disk st is going durable later keeps e is_new wrote.became told.0 told.1 (subst L is_forced (has keeps.parts.payloads (keeps.disk.running going).logged)));
    keeps_stopped = λ durable later keeps. tt;
    moments = moments;
    wrote = record { became = wrote.became; later = wrote.later; few = wrote.few; faults = wrote.faults };
    clock = clock;
  }

  -- a fault stopped the store
  pub written_not : {X E : Type 0} (fault : WriteFault) (y : E) → (st.log.groups ≡ [] → ⊥) → log ≡ st.log → Rewrites {T = X} {E = E} (Torn st.log.area st.log.len) 4 (Err y) d e
      → WritesGroups (Err fault) d e st (stopped_state (with_log log st))
  written_not fault y some kept wrote = record {
    nothing = λ none. absurd (some none);
    forced = tt;
    stopped = ap (λ (l : LogState). stopped_state (with_log l st)) kept;
    keeps_forced = λ durable later keeps. tt;
    keeps_stopped = λ durable later keeps.
        let told = some_value d.told keeps.disk.told in
        let K : LogState → Type 0 = λ l. StoreKeeps e (stopped_state (with_log l st)) durable later in
        subst K (sym kept)
        (keeps_stopped d is_disk st is going durable later keeps e is_new wrote.became told.0 told.1 (inside keeps.disk.told keeps.parts.payloads (keeps.disk.running going).logged));
    moments = moments;
    wrote = record { became = wrote.became; later = wrote.later; few = wrote.few; faults = wrote.faults };
    clock = λ told. tt;
  }
