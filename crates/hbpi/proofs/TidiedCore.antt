-- What the calls over a core come to: it is tidied, and flushed behind that.
use Rattle.std.proofs.Common.{◌≡◌, inl, inr, ℕ, ◌+◌, ◌-◌, ◌^◌, List, [], ◌∷◌, All, Option, Some, None, IfSome, IsSome, Ok, Err, Result, option_map, refl, sym, ap, ◌∙◌, subst, arith}
use Rattle.std.proofs.lemmas.List.Elements.{All-head, All-tail}
use Rattle.hb_store.proofs.Facts.StoreLaws.{StoreKeeps-alone}
use Rattle.hb_core.specs.Between.{said_of_flush}
use Rattle.hb_steps.specs.Keeps.{HasSoundFile}
use Rattle.hb_steps.specs.Machines.{Files, Machine, current_file}
use Rattle.hb_core.specs.Runs.{RunningLaws}
use Rattle.hb_core.specs.Showing.{RunningCore, ShowsMachine}
use Rattle.hb_steps.specs.Steps.{StepsTo}
use Rattle.hb_core.specs.Touching.{Touches}
use Rattle.hb_core.specs.Working.{MayStep}
use Rattle.hb_core.specs.declared.counts.TidyCounts.{TidyCounts}
use Rattle.hb_disk.specs.Model.{DiskModel, IsDisk}
use Rattle.hb_layout.specs.declared.meta.Meta.{Meta}
use Rattle.hb_lemmas.proofs.Options.{at_value, has_value, if_value}
use Rattle.hb_ops.specs.Files.{FileState, last_of}
use Rattle.hb_store.specs.Keeps.{StoreKeeps}
use Rattle.hb_store.specs.States.{StoreState}
use Rattle.hb_store.specs.declared.stops.Flushed.{Flushed}
use Rattle.hb_store.specs.declared.stops.StopWhy.TheVariants as stops
use Rattle.hb_store.specs.declared.stops.WriteFault.{WriteFault}
use Rattle.hb_tidy.proofs.Facts.Forced.{FlushesOn, flush_runs, flushes_on}
use Rattle.hb_tidy.proofs.Facts.Joined.{may_then}
use Rattle.hb_tidy.specs.Finding.{IsTidy, WantsPage}
use Rattle.hb_tidy.specs.Tidying.{EndsTidying, HasTidied, StopsTidying, file_now}
use Rattle.hb_tidy.specs.Working.{DropsAtEnd, DropsNone, Event, HasWorked, operations_in, steps_in}
use Rattle.hb_tidy.specs.declared.stops.TidyStop.{TidyStop}
use Rattle.hb_tidy.specs.declared.stops.TidyStop.TheVariants as tidies
use Rattle.hb_tidy.proofs.Facts.Grown.{files_grow_by_operations}
use Rattle.hb_tidy.specs.Counted.{GrewBy}
use Rattle.hbpi.specs.TidyRuns.{EndsForced, FilesTidied, IsForced, IsTidiedBy}

-- ---- where the tidying wasn't done

any_files : (o : Option Files) → IfSome o (λ files. Unit {0})
any_files None = tt
any_files (Some files) = tt

wanting : (o : Option Files) → IfSome (option_map current_file o) WantsPage → IfSome o (λ files. WantsPage (current_file files))
wanting None wants = tt
wanting (Some files) wants = wants

-- events of which none dropped a job have none but the last that did
none_dropped : (events : List Event) → All DropsNone events → DropsAtEnd events
none_dropped [] all = tt
none_dropped (event ∷ rest) all = (inl (All-head DropsNone event rest all), none_dropped rest (All-tail DropsNone event rest all))

-- what happened leads to the machine that was left
by_events : (old c : RunningCore) (m new : Machine) (stop : TidyStop) (worked : HasWorked {T = TidyCounts} (Err stop) old m c new) → IsForced (Err stop) new new → IsTidiedBy worked.events m new (Err stop)
by_events old c m new stop worked forced = record { tidied = new; works = worked.works; drops = worked.drops; forced = forced }

-- from a core that had taken no step
all_steps : (first taken count : ℕ) → first ≡ 0 → taken ≡ first + count → taken ≡ 2 ^ 64 - 1 → count ≡ 2 ^ 64 - 1
all_steps first taken count none counted last = omega (arith, none, counted, last)

pub stopped_so : (d e : DiskModel) (old c : RunningCore) (m new : Machine) (stop : TidyStop) → old.taken ≡ 0 → HasWorked {T = TidyCounts} (Err stop) old m c new → StopsTidying stop d e c new → EndsForced d e m new (Err stop)
stopped_so d e old c m new tidies.Full none worked stops = record { events = worked.events; works = by_events old c m new tidies.Full worked refl; why = (stops.0, stops.1); files = wanting new.files stops.2 }
stopped_so d e old c m new tidies.ReadFault none worked stops = record { events = worked.events; works = by_events old c m new tidies.ReadFault worked refl; why = stops; files = any_files new.files }
stopped_so d e old c m new tidies.WriteFault none worked stops = record { events = worked.events; works = by_events old c m new tidies.WriteFault worked (inl refl); why = stops.0; files = any_files new.files }
stopped_so d e old c m new (tidies.Damaged page why) none worked stops = record { events = worked.events; works = by_events old c m new (tidies.Damaged page why) worked refl; why = stops; files = any_files new.files }
stopped_so d e old c m new tidies.Spent none worked stops = record { events = worked.events; works = by_events old c m new tidies.Spent worked refl; why = all_steps old.taken c.taken (steps_in worked.events) none worked.counted stops; files = any_files new.files }
stopped_so d e old c m new tidies.NoMemory none worked stops = record { events = worked.events; works = by_events old c m new tidies.NoMemory worked refl; why = tt; files = any_files new.files }

-- ---- where it was done, and a flush came behind it

-- a machine has files where the disk tells
tells_of : (d : DiskModel) (m : Machine) (files : Files) → (d.told ≡ None → m.files ≡ None) → m.files ≡ Some files → IsSome d.told
tells_of d m files silent is = by d.told refl
  where
    by : (o : Option (List ℕ)) → d.told ≡ o → IsSome d.told
    by None none = let no = silent none in cc (no, is)
    by (Some b) told = has_value d.told b told

-- the tidy file is durable, once no group waits
durable_tidy : (meta : Meta) (counts : TidyCounts) (files : Files) → files.later ≡ [] → GrewBy meta (current_file files).meta counts → IsTidy (current_file files) → FilesTidied meta (Ok counts) files
durable_tidy meta counts files none grew tidy =
    let alone : current_file files ≡ files.durable = ap (last_of files.durable) none in
    (none, subst IsTidy alone tidy, subst (λ (s : FileState). GrewBy meta s.meta counts) alone grew)

module _ (laws : RunningLaws) (d : DiskModel) (m : Machine) (e : DiskModel) (first old : RunningCore) (f : DiskModel) (new : RunningCore) (counts : TidyCounts) (t : HasTidied d m e old) (worked : HasWorked {T = TidyCounts} (Ok counts) first m old t.new) (done : EndsTidying d e old (operations_in worked.events) t.new (Ok counts)) (disk : IsDisk e) (disk_next : IsDisk f) where
  module _ (r : Result Flushed WriteFault) (steps : (x : Machine) → MayStep e old x → (next : Machine) × StepsTo x 19 (said_of_flush r) next × ShowsMachine f new next) (touches : Touches e old (said_of_flush r) f new) where
    on : FlushesOn d m t.new (said_of_flush r) f new
    on = flushes_on laws d m e old f new t done.0 disk disk_next r steps touches

  -- no fault ended the flush
  pub forced_well : (flushed : Flushed) (steps : (x : Machine) → MayStep e old x → (next : Machine) × StepsTo x 19 (said_of_flush (Ok flushed)) next × ShowsMachine f new next) (touches : Touches e old (said_of_flush (Ok flushed)) f new)
      → (went : HasTidied d m f new) × EndsForced d f m went.new (Ok counts)
  forced_well flushed steps touches =
      let flush = on (Ok flushed) steps touches in
      let went = flush.went in
      let runs : went.new.stop ≡ None = went.shows.stop ∙ flush_runs e f t.new old new flushed (may_then d e m old t) done.0 steps in
      let none = flush.none runs in
      let tidy : IfSome (file_now went.new) IsTidy = subst (λ (o : Option FileState). IfSome o IsTidy) (sym flush.stays.file) done.1 in
      let counted : GrewBy m.store.meta t.new.store.meta counts = subst (λ (c : TidyCounts). GrewBy m.store.meta t.new.store.meta c) (sym done.2) (files_grow_by_operations m t.new worked.events worked.works) in
      let grew : GrewBy m.store.meta went.new.store.meta counts = subst (λ (x : Meta). GrewBy m.store.meta x counts) (sym flush.stays.meta) counted in (
        went,
        record {
          events = worked.events;
          works = record { tidied = t.new; works = worked.works; drops = worked.drops; forced = (said_of_flush (Ok flushed), flush.takes) };
          why = (runs, done.2);
          files = if_value went.new.files (FilesTidied m.store.meta (Ok counts)) (λ files is.
              let shown = went.shows.tells (tells_of f went.new files went.shows.silent is) in
              let same : shown.files ≡ files = cc (shown.told, is) in
              let later = StoreKeeps-alone f went.new.store files.durable files.later (subst (λ (x : Files). StoreKeeps f went.new.store x.durable x.later) same shown.kept) none in
              let sound : HasSoundFile went.new files = at_value went.new.files (HasSoundFile went.new) files is went.goes_on.sound in
              durable_tidy m.store.meta counts files later (subst (λ (x : Meta). GrewBy m.store.meta x counts) (sym sound.meta) grew) (subst (λ (o : Option Files). IfSome (option_map current_file o) IsTidy) is tidy));
        },
      )

  -- the flush failed
  pub forced_badly : (fault : WriteFault) (steps : (x : Machine) → MayStep e old x → (next : Machine) × StepsTo x 19 (said_of_flush (Err fault)) next × ShowsMachine f new next) (touches : Touches e old (said_of_flush (Err fault)) f new) → new.stop ≡ Some stops.WriteFault → m.stop ≡ None
      → (went : HasTidied d m f new) × EndsForced d f m went.new (Err tidies.WriteFault)
  forced_badly fault steps touches stopped begun =
      let flush = on (Err fault) steps touches in
      let went = flush.went in (
        went,
        record {
          events = worked.events;
          works = record { tidied = t.new; works = worked.works; drops = none_dropped worked.events worked.drops; forced = inr flush.takes };
          why = went.faults.write (went.shows.stop ∙ stopped) (λ is. cc (is, begun));
          files = any_files went.new.files;
        },
      )
