-- A machine of which a caller changed no more than the jobs that wait, the pages in memory that nobody holds, and the stop, keeps what it
-- kept.
use Rattle.std.proofs.Common.{◌≡◌, ℕ, ◌<◌, ◌≤◌, ◌^◌, List, [], ◌∷◌, length, All, Option, Some, None, IfSome, refl, sym, ap, ◌∙◌, subst, arith}
use Rattle.hb_steps.proofs.Walks.WorkersKept.{works_held}
use Rattle.hb_steps.proofs.Memory.BroughtPages.{still_held}
use Rattle.hb_steps.proofs.Latches.SameLatches.{fit_again, HasHeld, same_modes}
use Rattle.std.proofs.lemmas.List.Elements.{All-cons, All-nil, All-weaker}
use Rattle.hb_activity.specs.declared.jobs.Job.{Job}
use Rattle.hb_activity.specs.Classes.{job_in_work, line_in_hand}
use Rattle.hb_frag.specs.declared.pages.Page.TheVariants.{Live}
use Rattle.hb_layout.specs.declared.meta.Meta.{Meta}
use Rattle.hb_layout.specs.Limits.{IsLayout}
use Rattle.hb_layout.specs.Offsets.{log_start}
use Rattle.hb_lemmas.proofs.Options.{at_value, if_value}
use Rattle.hb_pool.specs.Frames.{Use}
use Rattle.hb_set.specs.Machine.{RecordSet}
use Rattle.hb_store.specs.Calls.{KeepsAllButPages}
use Rattle.hb_store.specs.States.{StoreState}
use Rattle.hb_store.specs.declared.stops.StopWhy.{StopWhy}
use Rattle.hb_wal.specs.Log.{Waiting, mark_of}
use Rattle.hb_steps.proofs.Files.SoundFiles.{brought_shown, files_hold, has_sound_file}
use Rattle.hb_steps.proofs.Machines.AddedJobs.{JobsFit, added_fit}
use Rattle.hb_steps.proofs.Memory.KeptPages.{brought, keeps_pages, pages_kept}
use Rattle.hb_steps.proofs.Room.RoomKept.{all_know, knows_held}
use Rattle.hb_core.proofs.Running.Frames.{fetched_pins}
use Rattle.hb_steps.proofs.Walks.WalksKept.{all_stand, each_stands, stands_held}
use Rattle.hb_core.specs.Between.{LetsWait, PageComes, with_waiting}
use Rattle.hb_core.specs.BetweenLaws.{LookingGoesOn, LookingKeepsAll, WaitingGoesOn, WaitingKeepsAll}
use Rattle.hb_steps.specs.Keeps.{HasSoundFile, HoldsPagesOfFile, KnowsRoom, LatchesFit, WalksInSpace}
use Rattle.hb_steps.specs.KeptFits.{AttributesFit, IsBoxOf, JobFits, LineFits, RunsWithStore, WorkersStand, boxes_left}
use Rattle.hb_steps.specs.KeptLines.{LinesFit, LogInPlace, MetaWithinLimits}
use Rattle.hb_steps.specs.KeptMachine.{CoreKeeps, MachineKeeps}
use Rattle.hb_steps.specs.KeptOrder.{FollowMarks, HasLegalOrder, HasPendingPrefix, IsSettledIn}
use Rattle.hb_steps.specs.KeptPlaces.{MarksRise, RepliesStand}
use Rattle.hb_steps.specs.KeptSequence.{IsInSequence, LinesInSequence}
use Rattle.hb_steps.specs.Machines.{Files, Machine, settled_count, stopped_for, with_disk, with_uses, modes}
use Rattle.hb_steps.specs.Using.{FramesFit, pins_of}
use Rattle.hb_core.specs.Going.{MayGoOn}

module _ (m : Machine) (jobs : List Job) (st : StoreState) (uses : List Use) (stop : Option StopWhy) where
  abbrev pub beside : Machine
  beside = record m { jobs = jobs; store = st; uses = uses; stop = stop }

  module _ (keeps : MachineKeeps m) (rest : KeepsAllButPages m.store st) (held : (actor : ℕ) → HasHeld m actor st) where
    -- ---- the parts

    same_meta : m.store.meta ≡ st.meta
    same_meta = sym (ap (λ (s : StoreState). s.meta) rest)

    limits : MetaWithinLimits beside
    limits = record {
      layout = subst IsLayout same_meta keeps.meta_within_limits.layout;
      high = subst (λ (x : Meta). x.high ≤ x.pages) same_meta keeps.meta_within_limits.high;
      live = subst (λ (x : Meta). x.live ≤ x.pages) same_meta keeps.meta_within_limits.live;
      root = subst (λ (x : Meta). x.root < 2 ^ 32) same_meta keeps.meta_within_limits.root;
      free = subst (λ (x : Meta). x.free < 2 ^ 32) same_meta keeps.meta_within_limits.free;
    }

    in_place : LogInPlace beside
    in_place = record {
      area = ap (λ (s : StoreState). s.log.area) rest ∙ keeps.log_in_place.area ∙ ap (λ (t : ℕ). log_start t m.store.meta) (sym (ap (λ (s : StoreState). s.turn) rest)) ∙ ap (log_start st.turn) same_meta;
      len = ap (λ (s : StoreState). s.log.len) rest ∙ keeps.log_in_place.len ∙ ap (λ (x : Meta). x.log) same_meta;
    }

    bodies : LinesFit beside
    bodies = record { script = keeps.lines_fit.script; in_hand = keeps.lines_fit.in_hand }

    attributes : JobsFit m.store.meta.k jobs → AttributesFit beside
    attributes fit = record {
      script = subst (λ (x : Meta). All (LineFits x.k) m.lines) same_meta keeps.attributes_fit.script;
      in_hand = λ actor. subst (λ (x : Meta). IfSome (line_in_hand (m.activity actor)) (LineFits x.k)) same_meta (keeps.attributes_fit.in_hand actor);
      boxes = λ actor. subst (λ (x : Meta). All (IsBoxOf x.k) (boxes_left (m.activity actor))) same_meta (keeps.attributes_fit.boxes actor);
      box_left = keeps.attributes_fit.box_left;
      waiting = subst (λ (x : Meta). JobsFit x.k jobs) same_meta fit;
      in_work = λ actor. subst (λ (x : Meta). IfSome (job_in_work (m.activity actor)) (JobFits x.k)) same_meta (keeps.attributes_fit.in_work actor);
    }

    in_sequence : LinesInSequence beside
    in_sequence = record {
      rising = keeps.lines_in_sequence.rising;
      in_hand = keeps.lines_in_sequence.in_hand;
      awaited = keeps.lines_in_sequence.awaited;
      placed = All-weaker (IsInSequence m) (IsInSequence beside) (λ entry is. record { among = is.among; state = is.state }) m.order keeps.lines_in_sequence.placed;
      earlier_first = keeps.lines_in_sequence.earlier_first;
    }

    replies : RepliesStand beside
    replies = record { awaits = keeps.replies_stand.awaits; answers = keeps.replies_stand.answers }

    latches : LatchesFit beside
    latches = fit_again m keeps.latches_fit beside (λ actor. refl) held

    frames_beside : FramesFit st uses (modes m) → FramesFit st uses (modes beside)
    frames_beside frames = subst (FramesFit st uses) (sym (same_modes m keeps.latches_fit beside (λ actor. refl) held)) frames

    in_space : WalksInSpace beside
    in_space = all_stand beside (λ actor. stands_held m keeps.latches_fit actor st (held actor) (each_stands m keeps.walk_in_space actor))

    workers : WorkersStand beside
    workers actor = works_held m keeps.latches_fit actor st (let same = ap (λ (s : StoreState). s.meta.height) rest in omega (arith, same)) (held actor) (keeps.workers_stand actor)

    room : KnowsRoom beside
    room = all_know beside (λ actor. knows_held m beside (ap (λ (s : StoreState). s.meta.dcap) rest) actor (held actor) (record { splits = keeps.room_known.splits actor; puts = keeps.room_known.puts actor }))

    same_groups : m.store.log.groups ≡ st.log.groups
    same_groups = sym (ap (λ (s : StoreState). s.log.groups) rest)

    marks : MarksRise beside
    marks = subst (λ (groups : List Waiting). MarksRise (record beside { store = record st { log = record st.log { groups = groups } } })) same_groups
        (record { rising = keeps.marks_rise.rising; inside = keeps.marks_rise.inside })

    pub beside_keeps : JobsFit m.store.meta.k jobs → HoldsPagesOfFile beside → FramesFit st uses (modes m) → RunsWithStore beside → MachineKeeps beside
    beside_keeps fit pages frames runs = record {
      meta_within_limits = limits;
      log_in_place = in_place;
      lines_fit = bodies;
      attributes_fit = attributes fit;
      lines_in_sequence = in_sequence;
      order_short = record { once = keeps.order_short.once; few = keeps.order_short.few };
      replies_stand = replies;
      awaits_inside = keeps.awaits_inside;
      answers_single = record { once = keeps.answers_single.once; outside = keeps.answers_single.outside };
      pages_of_file = pages;
      frames_fit = frames_beside frames;
      classes = keeps.classes;
      nobody_else = keeps.nobody_else;
      latches_fit = latches;
      box_locks_fit = keeps.box_locks_fit;
      searches_gather = keeps.searches_gather;
      walk_in_space = in_space;
      workers_stand = workers;
      room_known = room;
      marks_rise = marks;
      runs = runs;
    }

    -- ---- over a disk that tells

    module _ (n : RecordSet) (files : Files) (all : CoreKeeps n m files) where
      legal : HasLegalOrder n beside files
      legal = record {
        legal = all.order_legal.legal;
        result = all.order_legal.result;
      }

      same_settled : settled_count m ≡ settled_count beside
      same_settled = ap (λ (groups : List Waiting). mark_of groups (length m.order)) same_groups

      prefix : HasPendingPrefix n beside files
      prefix = record {
        marks = subst (λ (groups : List Waiting). FollowMarks n m.order files.durable groups files.later) same_groups all.pending_prefix.marks;
        settled = All-weaker (IsSettledIn m) (IsSettledIn beside)
            (λ a settled place stands. subst (λ (k : ℕ). place < k) same_settled (settled place stands)) m.answered all.pending_prefix.settled;
      }

      pub beside_keeps_all : MachineKeeps beside → HasSoundFile beside files → CoreKeeps n beside files
      beside_keeps_all kept sound = record { told = all.told; kept = kept; sound_file = sound; search_exact = all.search_exact; order_legal = legal; pending_prefix = prefix }

-- ---- a job waits

module _ (m : Machine) (job : Job) (new : Machine) (fits : JobFits m.store.meta.k job) (waits : LetsWait job m new) where
  waiting_fit : JobsFit m.store.meta.k m.jobs → JobsFit m.store.meta.k new.jobs
  waiting_fit all = added_fit m.store.meta.k (job ∷ []) m.jobs new.jobs (new.jobs, waits.adds, refl) (All-cons (JobFits m.store.meta.k) job [] fits (All-nil (JobFits m.store.meta.k))) all

  kept_waiting : MachineKeeps m → MachineKeeps (with_waiting new.jobs m)
  kept_waiting keeps = beside_keeps m new.jobs m.store m.uses m.stop keeps refl (λ actor id mode page holds there. there) (waiting_fit keeps.attributes_fit.waiting) keeps.pages_of_file keeps.frames_fit keeps.runs

  sound_waiting : (files : Files) → HasSoundFile m files → HasSoundFile (with_waiting new.jobs m) files
  sound_waiting files sound = has_sound_file (with_waiting new.jobs m) files (files_hold m files sound)

pub waiting_goes_on : WaitingGoesOn
waiting_goes_on m job new fits waits goes_on = subst MayGoOn (sym waits.rest) (record {
  kept = kept_waiting m job new fits waits goes_on.kept;
  sound = if_value m.files (HasSoundFile (with_waiting new.jobs m)) (λ files told. sound_waiting m job new fits waits files (at_value m.files (HasSoundFile m) files told goes_on.sound));
})

pub waiting_keeps_all : WaitingKeepsAll
waiting_keeps_all n m files job new fits waits all = subst (λ (x : Machine). CoreKeeps n x files) (sym waits.rest)
    (beside_keeps_all m new.jobs m.store m.uses m.stop all.kept refl (λ actor id mode page holds there. there) n files all (kept_waiting m job new fits waits all.kept) (sound_waiting m job new fits waits files all.sound_file))

-- ---- a page is looked at

module _ (m : Machine) (id : ℕ) (new : Machine) (looks : PageComes id m new) where
  abbrev looked : Machine
  looked = with_uses new.uses (with_disk new.store m.files m.clock m)

  pages_looked : MachineKeeps m → HoldsPagesOfFile looked
  pages_looked keeps = pages_kept looked (brought m (λ other. other ≡ id) new.store looks.brings (keeps_pages m keeps.meta_within_limits keeps.pages_of_file))

  frames_looked : MachineKeeps m → FramesFit new.store new.uses (modes m)
  frames_looked keeps = record {
    tied = looks.tied;
    pins = λ q. ap (λ (l : List Use). pins_of l q) looks.uses ∙ fetched_pins id m.uses keeps.frames_fit.tied.pool.distinct q ∙ keeps.frames_fit.pins q;
  }

  kept_looked : MachineKeeps m → MachineKeeps looked
  kept_looked keeps = beside_keeps m m.jobs new.store new.uses m.stop keeps looks.brings.rest (λ actor q mode page holds there. still_held m (λ other. other ≡ id) new.store looks.brings actor q mode (Live page) holds there) keeps.attributes_fit.waiting (pages_looked keeps) (frames_looked keeps)
      (λ running. (ap (λ (s : StoreState). s.stopped) looks.brings.rest) ∙ keeps.runs running)

  sound_looked : (files : Files) → m.files ≡ Some files → HasSoundFile m files → HasSoundFile looked files
  sound_looked files told sound = has_sound_file looked files (brought_shown m files (λ other. other ≡ id) new.store told looks.brings (files_hold m files sound))

pub looking_goes_on : LookingGoesOn
looking_goes_on m id new looks goes_on = subst MayGoOn (sym looks.rest) (record {
  kept = kept_looked m id new looks goes_on.kept;
  sound = if_value m.files (HasSoundFile (with_uses new.uses (with_disk new.store m.files m.clock m))) (λ files told. sound_looked m id new looks files told (at_value m.files (HasSoundFile m) files told goes_on.sound));
})

pub looking_keeps_all : LookingKeepsAll
looking_keeps_all n m files id new looks all = subst (λ (x : Machine). CoreKeeps n x files) (sym looks.rest)
    (beside_keeps_all m m.jobs new.store new.uses m.stop all.kept looks.brings.rest (λ actor q mode page holds there. still_held m (λ other. other ≡ id) new.store looks.brings actor q mode (Live page) holds there) n files all (kept_looked m id new looks all.kept) (sound_looked m id new looks files all.told all.sound_file))

-- ---- a machine is stopped

pub stopped_goes_on : (m : Machine) (why : StopWhy) → MayGoOn m → MayGoOn (stopped_for why m)
stopped_goes_on m why goes_on = record {
  kept = beside_keeps m m.jobs m.store m.uses (Some why) goes_on.kept refl (λ actor id mode page holds there. there) goes_on.kept.attributes_fit.waiting goes_on.kept.pages_of_file goes_on.kept.frames_fit (λ never. absurd (stops never));
  sound = if_value m.files (HasSoundFile (stopped_for why m)) (λ files told. has_sound_file (stopped_for why m) files (files_hold m files (at_value m.files (HasSoundFile m) files told goes_on.sound)));
}
  where
    stops : Some why ≡ None → ⊥
    stops is = cc
