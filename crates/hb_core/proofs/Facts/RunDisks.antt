-- What a step leaves of the disk: only the file may read otherwise, and at each of its moments a crash leaves the durable file
-- or the last one.
use Rattle.hb_core.proofs.Facts.Names.{◌≡◌, inl, inr, ℕ, ◌+◌, ◌≤◌, true, List, Option, Some, None, IsSome, refl, sym, ap, ◌∙◌, subst, arith, Files, Machine, ChangesFile, RunningCore, ShowsMachine, Touches, Outcome, Becomes-read, Leaves-start, Leaves-weaker, Torn-itself, Becomes, Leaves, DiskModel, IsDisk, has_value, not_none, file_size, Meta, FileState, Use, StoreState, in_memory, OpensToEither, StoreKeeps, same_Some}
use Rattle.std.specs.Option.{is_some}
use Rattle.hb_steps.proofs.Machines.FlushedFrames.{dirty_frame}
use Rattle.hb_steps.specs.KeptMachine.{MachineKeeps}
use Rattle.hb_disk.proofs.Facts.BecomesLaws.{Becomes-then, Becomes-weaker}
use Rattle.hb_disk.proofs.Facts.RunLaws.{Leaves-read}
use Rattle.hb_disk.proofs.Facts.TornLaws.{Torn-twice, Torn-wider}
use Rattle.hb_disk.specs.Calls.{Then}
use Rattle.hb_disk.specs.Model.{Torn}
use Rattle.hb_lemmas.proofs.Options.{some_value}
use Rattle.hb_layout.specs.Offsets.{log_start, page_offset}
use Rattle.hb_space.specs.declared.form.TheConstants.{PAGE}
use Rattle.hb_store.specs.Held.{oldest_dirty}
use Rattle.hb_store.specs.Opening.{OpensTo}
use Rattle.hb_store.specs.Switching.{TornSwitch}
use Rattle.hb_store.specs.Keeps.{PartsOpen}
use Rattle.hb_layout.proofs.Facts.Parts.{front_within, log_within, page_within}
use Rattle.hb_store.proofs.Facts.PlaceWrites.{switch_within}

-- ---- only bytes of the file are other ones

-- the page that is written is one of the file
written_there : (m : Machine) (id : ℕ) → MachineKeeps m → oldest_dirty m.uses ≡ Some id → (1 ≤ id) × (id ≤ m.store.meta.pages)
written_there m id keeps oldest =
    let u = dirty_frame m.store m.uses keeps.frames_fit.tied id oldest in
    let framed : is_some (in_memory m.store id) ≡ true = keeps.frames_fit.tied.there id ∙ ap (λ (o : Option Use). is_some o) u.1 in
    let page = some_value (in_memory m.store id) framed in
    let at = keeps.pages_of_file id page.0 page.1 in
    let low = at.0 in
    let high = at.1 in
    let most = keeps.meta_within_limits.high in
    (low, omega (arith, high, most))

log_inside : (turn : ℕ) (meta : Meta) → log_start turn meta + meta.log ≤ file_size meta
log_inside turn meta = let low = log_within turn 1 meta in let front = front_within meta in omega (arith, low, front)

-- the other log area and the other superblock's place lie in the file
turn_inside : (turn : ℕ) (meta : Meta) (b c : List ℕ) → TornSwitch turn meta b c → Torn 0 (file_size meta) b c
turn_inside turn meta b c torn = Torn-wider 0 (page_offset meta 1) 0 (file_size meta) b c (omega arith) (omega (arith, front_within meta)) (switch_within turn meta b c torn)

pub file_touched : (e f : DiskModel) (old new : RunningCore) (outcome : Outcome) (m : Machine) → IsDisk e → MachineKeeps m → m.store ≡ old.store → m.uses ≡ old.uses → Touches e old outcome f new → Becomes (ChangesFile m.store) e f
file_touched e f old new outcome m disk keeps store used (inl reads) = Becomes-read (ChangesFile m.store) e f disk (λ b bytes. Torn-itself 0 (file_size m.store.meta) b bytes) reads.only.stays
file_touched e f old new outcome m disk keeps store used (inr (inl force)) =
    let area = keeps.log_in_place.area in
    let len = keeps.log_in_place.len in
    let inside = log_inside m.store.turn m.store.meta in
    Becomes-weaker (Torn m.store.log.area m.store.log.len) (ChangesFile m.store) e f
    (λ b c torn. Torn-wider m.store.log.area m.store.log.len 0 (file_size m.store.meta) b c (omega arith) (omega (arith, area, len, inside)) torn)
    (subst (λ (st : StoreState). Becomes (Torn st.log.area st.log.len) e f) (sym store) force.writes.wrote.became)
file_touched e f old new outcome m disk keeps store used (inr (inr (inl home))) =
    let there = written_there m home.page keeps (ap oldest_dirty used ∙ home.oldest) in
    Becomes-weaker (Torn (page_offset m.store.meta home.page) PAGE) (ChangesFile m.store) e f
    (λ b c torn. Torn-wider (page_offset m.store.meta home.page) PAGE 0 (file_size m.store.meta) b c (omega arith) (omega (arith, page_within home.page m.store.meta there.0 there.1)) torn)
    (subst (λ (st : StoreState). Becomes (Torn (page_offset st.meta home.page) PAGE) e f) (sym store) home.writes.wrote.became)
file_touched e f old new outcome m disk keeps store used (inr (inr (inr turns))) =
    Becomes-weaker (TornSwitch m.store.turn m.store.meta) (ChangesFile m.store) e f (turn_inside m.store.turn m.store.meta)
    (subst (λ (st : StoreState). Becomes (TornSwitch st.turn st.meta) e f) (sym store) turns.switches.wrote.became)

-- and after more steps, of a machine whose file is as long
pub file_more : (d e f : DiskModel) (m mid : Machine) → file_size mid.store.meta ≡ file_size m.store.meta → Becomes (ChangesFile m.store) d e → Becomes (ChangesFile mid.store) e f → Becomes (ChangesFile m.store) d f
file_more d e f m mid size first next =
    Becomes-weaker (Then (ChangesFile m.store) (ChangesFile mid.store)) (ChangesFile m.store) d f
    (λ b c both. Torn-twice 0 (file_size m.store.meta) b both.0 c both.1 (subst (λ (n : ℕ). Torn 0 n both.0 c) size both.2))
    (Becomes-then (ChangesFile m.store) (ChangesFile mid.store) d e f first next)

-- ---- what crashes leave

-- what a crash leaves of a disk that a store keeps
pub opens_kept : PartsOpen → (d : DiskModel) (st : StoreState) (durable : FileState) (later : List FileState) → StoreKeeps d st durable later → (c : List ℕ) → d.Image c → OpensToEither durable later c
opens_kept opens d st durable later keeps c image = opens c st.turn st.stopped keeps.parts durable later (keeps.disk.images c image)

-- and while the step is taken
pub moments_touched : PartsOpen → (e f : DiskModel) (old new : RunningCore) (outcome : Outcome) (durable : FileState) (later : List FileState) → IsDisk e → StoreKeeps e old.store durable later → Touches e old outcome f new → Leaves e f (OpensToEither durable later)
moments_touched opens e f old new outcome durable later disk keeps touches = by touches
  where
    durable_so : Leaves e f (λ c. OpensTo c durable) → Leaves e f (OpensToEither durable later)
    durable_so moments = Leaves-weaker e f (λ c. OpensTo c durable) (OpensToEither durable later) (λ c here. inl here) moments

    by : Touches e old outcome f new → Leaves e f (OpensToEither durable later)
    by (inl reads) = Leaves-read e e f (OpensToEither durable later) (Leaves-start e (OpensToEither durable later) disk (opens_kept opens e old.store durable later keeps)) reads.only.stays
    by (inr (inl force)) = force.writes.moments durable later keeps
    by (inr (inr (inl home))) = durable_so (home.writes.moments durable later keeps)
    by (inr (inr (inr turns))) = durable_so (turns.switches.moments durable later keeps)

-- ---- whether a disk tells

-- one that tells afterwards told before
pub told_before : (R : List ℕ → List ℕ → Type 0) (d e : DiskModel) → Becomes R d e → IsSome e.told → IsSome d.told
told_before R d e run tells = by d.told (λ is. is)
  where
    by : (o : Option (List ℕ)) → (o ≡ None → d.told ≡ None) → IsSome o
    by None silent = let b = some_value e.told tells in absurd (not_none e.told b.0 b.1 (run.silent (silent refl)))
    by (Some b) silent = refl

-- A core shows a machine with files only over a disk that tells: the store keeps them, and the clock is the disk's.
pub record ShowsThem (d : DiskModel) (m : Machine) (files : Files) : Type 0 where
  pub tells : IsSome d.told
  pub kept : StoreKeeps d m.store files.durable files.later
  pub clock : m.clock ≡ d.clock

pub shows_them : (d : DiskModel) (c : RunningCore) (m : Machine) (files : Files) → ShowsMachine d c m → m.files ≡ Some files → ShowsThem d m files
shows_them d c m files shows told = by d.told refl
  where
    shown : IsSome d.told → ShowsThem d m files
    shown tells =
        let them = shows.tells tells in
        let same : them.files ≡ files = same_Some them.files files (sym them.told ∙ told) in
        record { tells = tells; kept = subst (λ (x : Files). StoreKeeps d m.store x.durable x.later) same them.kept; clock = them.clock }

    by : (o : Option (List ℕ)) → d.told ≡ o → ShowsThem d m files
    by None is = absurd (not_none m.files files told (shows.silent is))
    by (Some b) is = shown (has_value d.told b is)
