-- A run of `map` over a file that was opened.
use Rattle.std.proofs.Common.{◌≡◌, ◌≢◌, ◌≤◌, ℕ, List, [], ◌++◌, Option, Some, None, Result, Ok, Err, inr, refl, sym, ap, subst}
use Rattle.std.specs.Result.{IfErr, IsErrOf}
use Rattle.hb_disk.specs.Model.{DiskModel}
use Rattle.hb_layout.specs.declared.meta.Meta.{Meta}
use Rattle.hb_lemmas.proofs.Options.{at_value, ok_not_err}
use Rattle.hb_map.specs.Map.{head_text, map_text, pages_text}
use Rattle.hb_map.specs.Mapping.{LooksThrough, OfSoundFile, PutsText, StopsRightly}
use Rattle.hb_map.specs.declared.stops.MapStop.{MapStop}
use Rattle.hb_map.specs.declared.stops.MapStop.TheVariants as stops
use Rattle.hb_outside.specs.Calls.{Counts, SinkModel}
use Rattle.hb_outside.specs.Streams.{Appends, AppendsFront, Rose}
use Rattle.hb_restart.specs.Leaving.{LeavesOpening, OpensStore, RunsThrough}
use Rattle.hb_store.specs.Held.{StoreHeld}
use Rattle.hb_store.specs.declared.stops.Why.{Why}
use Rattle.hb_store.specs.declared.stops.Why.TheVariants.{Rule, Level, Extent}
use Rattle.hbpi.proofs.ReadFurther.{leaves_further, opens_further, runs_further}
use Rattle.hbpi.specs.Mapped.{GetsFront, IsMapText, MapEnds, MapsWith, map_status}
use Rattle.hbpi.specs.Outcome.{GetsLine, fault_line}
use Rattle.hbpi.specs.SeenRuns.{IsAlone, Seen, run_of}
use Rattle.hbpi.specs.declared.statuses.Status.{Status}
use Rattle.hbpi.specs.declared.statuses.Status.TheVariants.{Done, SinkFault, DiskFault, NoMemory}

-- the status is that of a fault of the disk exactly where a read failed
of_disk : {T : Type 0} (result : Result T MapStop) → map_status result ≡ DiskFault → IsErrOf result stops.ReadFault
of_disk (Ok done) is = cc (is)
of_disk (Err stops.SinkFault) is = cc (is)
of_disk (Err stops.ReadFault) is = refl
of_disk (Err (stops.Damaged page why)) is = cc (is)
of_disk (Err stops.NoMemory) is = cc (is)

to_disk : {T : Type 0} (result : Result T MapStop) → IsErrOf result stops.ReadFault → map_status result ≡ DiskFault
to_disk result is = ap map_status is

other_err : {T : Type 0} (a b : MapStop) → a ≢ b → ◌≡◌ {A = Result T MapStop} (Err a) (Err b) → ⊥
other_err a b other is = let same : a ≡ b = cc in other same

-- What is known of the calls over an opened store: `m` is the disk as it was opened, `e` the one behind them, `mid` the sink behind the map.
pub record PutMap (result : Result (Unit {0}) MapStop) (d m e : DiskModel) (old new : StoreHeld) (count : ℕ) (seen : Seen) (mid : SinkModel) : Type 0 where
  pub opens : OpensStore d m old.state count
  pub through : RunsThrough old.state.meta.high d m
  pub leaves : LeavesOpening ⊥ d m
  pub looks : LooksThrough (IsErrOf result stops.ReadFault) m e old new
  pub map : OfSoundFile m old (λ s. PutsText (map_text s) result seen.sink_before.written mid.written)
  pub begins : (rest : List ℕ) × PutsText (head_text old.state.meta ++ rest) result seen.sink_before.written mid.written
  pub counts : Counts (IsErrOf result stops.SinkFault) seen.sink_before.faults mid.faults
  pub stop : IfErr result (StopsRightly m old)
  pub line : GetsLine mid seen.sink_after (fault_line (map_status result))
  pub silent : map_status result ≡ SinkFault → seen.sink_after ≡ mid
  pub silent_done : map_status result ≡ Done → seen.sink_after ≡ mid
  pub alone : IsAlone seen

module _ {X : Type 0} (M : X → DiskModel) (d m e : DiskModel) (old new : StoreHeld) (count : ℕ) (seen : Seen) (mid : SinkModel) where
  -- a front of the text with the fault line behind it
  front_line : (stop : MapStop) (text : List ℕ) → stop ≢ stops.SinkFault → PutsText {T = Unit {0}} text (Err stop) seen.sink_before.written mid.written → Counts (IsErrOf {T = Unit {0}} (Err stop) stops.SinkFault) seen.sink_before.faults mid.faults
      → (status : Status) → GetsLine mid seen.sink_after (fault_line status) → GetsFront (run_of M seen d e) text status
  front_line stop text other puts counts status line =
      let front = puts.tried in
      (front.0, front.1, record { between = mid; whole = front.2; same = counts.no_fault (other_err stop stops.SinkFault other); line = line })

  -- over a disk that tells, a sound file has no damaged page
  not_told : (page : ℕ) (why : Why) → OpensStore d m old.state count → StopsRightly m old (stops.Damaged page why) → d.told ≡ None
  not_told page why opens rightly = by_told d.told refl
    where
      by_told : (told : Option (List ℕ)) → d.told ≡ told → told ≡ None
      by_told None is = refl
      by_told (Some b) is = let found = at_value d.told _ b is opens.file in absurd (rightly.sound found.0 [] found.4 found.2)

  maps_with : (result : Result (Unit {0}) MapStop) (text : List ℕ) → PutMap result d m e old new count seen mid → PutsText text result seen.sink_before.written mid.written → MapsWith (map_status result) (run_of M seen d e) old.state.meta text
  maps_with (Ok done) text facts puts =
      subst (λ (k : SinkModel). Appends seen.sink_before.written k.written text × (k.faults ≡ seen.sink_before.faults)) (sym (facts.silent_done refl)) (puts.done, facts.counts.no_fault (ok_not_err done stops.SinkFault))
  maps_with (Err stops.SinkFault) text facts puts =
      subst (λ (k : SinkModel). AppendsFront seen.sink_before.written k.written text × Rose seen.sink_before.faults k.faults × (seen.sink_before.faults ≤ k.faults)) (sym (facts.silent refl)) (puts.tried, facts.counts.cause refl, facts.counts.later)
  maps_with (Err stops.ReadFault) text facts puts = (
    front_line stops.ReadFault text (λ is. cc (is)) puts facts.counts DiskFault facts.line,
    subst (λ (n : ℕ). Rose n e.read_faults) (facts.leaves.faults.no_fault (λ x. x)).0 (facts.looks.looks.only.reads.cause refl),
  )
  maps_with (Err (stops.Damaged page (Rule rule))) text facts puts = (
    front_line (stops.Damaged page (Rule rule)) text (λ is. cc (is)) puts facts.counts _ facts.line,
    not_told page (Rule rule) facts.opens facts.stop,
    facts.stop.names.0,
    facts.stop.names.1,
  )
  maps_with (Err (stops.Damaged page (Level asked found))) text facts puts = absurd facts.stop.names
  maps_with (Err (stops.Damaged page (Extent asked found))) text facts puts = absurd facts.stop.names
  maps_with (Err stops.NoMemory) text facts puts = front_line stops.NoMemory text (λ is. cc (is)) puts facts.counts NoMemory facts.line

  -- the text, by what the disk tells
  text_of : (result : Result (Unit {0}) MapStop) → PutMap result d m e old new count seen mid → (text : List ℕ) × IsMapText d.told old.state.meta text × PutsText text result seen.sink_before.written mid.written
  text_of result facts = by_told d.told refl
    where
      by_told : (told : Option (List ℕ)) → d.told ≡ told → (text : List ℕ) × IsMapText told old.state.meta text × PutsText text result seen.sink_before.written mid.written
      by_told None is = (head_text old.state.meta ++ facts.begins.0, record { first = (facts.begins.0, refl); whole = tt }, facts.begins.1)
      by_told (Some b) is =
          let found = at_value d.told _ b is facts.opens.file in
          let meta : found.0.meta ≡ old.state.meta = at_value d.told _ b is facts.opens.meta found.0 found.1 in (
            map_text found.0,
            record { first = (pages_text found.0.pages 1 found.0.pages, ap (λ (k : Meta). head_text k ++ pages_text found.0.pages 1 found.0.pages) meta); whole = (found.0, found.1, refl) },
            facts.map found.0 [] found.4 found.2,
          )

  pub map_ended : (result : Result (Unit {0}) MapStop) (status : Status) → status ≡ map_status result → PutMap result d m e old new count seen mid → MapEnds (run_of M seen d e) status
  map_ended result status is facts =
      let text = text_of result facts in
      let only = facts.looks.looks.only in
      let further = leaves_further d m e (λ never. never) only facts.leaves in
      subst (λ (s : Status). MapEnds (run_of M seen d e) s) (sym is) (inr (
        old.state,
        text.0,
        (
          count,
          record {
            opens = opens_further d m e old.state count only facts.opens;
            through = runs_further old.state.meta.high d m e only.stays facts.through;
            leaves = record {
              even = further.even;
              late = further.late;
              once = further.once;
              beyond = further.beyond;
              faults = record { cause = λ at. further.faults.cause (of_disk result at); no_fault = λ fine. further.faults.no_fault (λ failed. fine (to_disk result failed)); reads = further.faults.reads; writes = further.faults.writes };
            };
            alone = facts.alone;
          },
        ),
        text.1,
        maps_with result text.0 facts text.2,
      ))
