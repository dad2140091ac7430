-- What it is to write the page of a number to its place, from what the disk's write did.
use Rattle.std.proofs.Common.{◌≡◌, ℕ, ◌+◌, ◌*◌, ◌-◌, ◌≤◌, true, false, IsTrue, List, [], length, Option, Some, None, Result, Ok, Err, refl, sym, ap, ◌∙◌, arith}
use Rattle.std.specs.Option.{is_some, option_map_or}
use Rattle.hb_space.specs.declared.form.TheConstants.{PAGE}
use Rattle.hb_disk.specs.Model.{DiskModel, IsDisk, Torn}
use Rattle.hb_disk.specs.Calls.{Leaves, Writes}
use Rattle.hb_disk.specs.Runs.{Rewrites}
use Rattle.hb_disk.proofs.Facts.RewriteLaws.{Rewrites-as, Rewrites-write}
use Rattle.hb_disk.proofs.Facts.RunLaws.{Leaves-call, Leaves-start}
use Rattle.hb_layout.specs.Offsets.{file_size, page_offset}
use Rattle.hb_layout.specs.declared.meta.Meta.{Meta}
use Rattle.hb_frag.specs.declared.pages.Page.{Page}
use Rattle.hb_frag.specs.Grammar.{SpellsPage}
use Rattle.hb_ops.specs.Files.{FileState}
use Rattle.hb_pool.specs.Frames.{Use}
use Rattle.hb_store.specs.Forced.{MayWriteGroups, stopped_state}
use Rattle.hb_store.specs.Held.{IsTied, StoreHeld, cleaned_held, oldest_dirty}
use Rattle.hb_store.specs.Keeps.{StoreKeeps}
use Rattle.hb_store.specs.Opening.{OpensTo}
use Rattle.hb_store.specs.States.{IsMemory, StoreState, in_memory, is_dirty}
use Rattle.hb_store.specs.WritingHome.{WritesHome}
use Rattle.hb_store.specs.declared.stops.WriteFault.{WriteFault}
use Rattle.hb_store.proofs.Facts.Oldest.{oldest_frame}
use Rattle.hb_store.proofs.Facts.PlaceWrites.{ok_tick, page_written}
use Rattle.hb_store.proofs.Facts.StoreLaws.{StoreKeeps-idle, StoreKeeps-running}
use Rattle.hb_store.proofs.HomeWrites.{images_home, keeps_home, keeps_not_home}

-- the least recently used dirty page is dirty, and in memory
pub oldest_is_dirty : (st : StoreState) (uses : List Use) → IsTied st uses → (id : ℕ) → oldest_dirty uses ≡ Some id → IsTrue (is_dirty st id)
oldest_is_dirty st uses tied id oldest =
    let frame = oldest_frame uses tied.pool id oldest in
    tied.marks id ∙ ap (λ (o : Option Use). option_map_or (λ (u : Use). u.dirty) o false) frame.1 ∙ frame.2

pub oldest_is_there : (st : StoreState) (uses : List Use) → IsTied st uses → (id : ℕ) → oldest_dirty uses ≡ Some id → in_memory st id ≡ None → ⊥
oldest_is_there st uses tied id oldest none =
    let frame = oldest_frame uses tied.pool id oldest in
    let never : false ≡ true = sym (ap (λ (o : Option Page). is_some o) none) ∙ tied.there id ∙ ap (λ (o : Option Use). is_some o) frame.1 in
    cc never

-- A running store over a disk that its file fits, where no group waits, and the number and the place of its least
-- recently used dirty page.
pub record IsToWrite (d : DiskModel) (old : StoreHeld) (id at : ℕ) : Type 0 where
  pub memory : IsMemory old.state
  pub room : file_size old.state.meta ≤ d.size
  pub going : old.state.stopped ≡ false
  pub idle : old.state.log.groups ≡ []
  pub dirty : IsTrue (is_dirty old.state id)
  pub here : at ≡ page_offset old.state.meta id

-- from what a store knows before
pub is_to_write : (d : DiskModel) (old : StoreHeld) (id at : ℕ) (meta : Meta) → IsMemory old.state → IsTied old.state old.uses → meta ≡ old.state.meta → at ≡ page_offset meta id
    → file_size old.state.meta ≤ d.size → MayWriteGroups d old.state → old.state.log.groups ≡ [] → oldest_dirty old.uses ≡ Some id → IsToWrite d old id at
is_to_write d old id at meta is tied meta_is here room may idle oldest = record {
  memory = is;
  room = room;
  going = may.running;
  idle = idle;
  dirty = oldest_is_dirty old.state old.uses tied id oldest;
  here = here ∙ ap (λ (m : Meta). page_offset m id) meta_is;
}

-- its number is that of a page
pub oldest_number : (old : StoreHeld) (id : ℕ) → IsMemory old.state → IsTied old.state old.uses → oldest_dirty old.uses ≡ Some id → 1 ≤ id
oldest_number old id is tied oldest = (is.in_file id (is.logged id (oldest_is_dirty old.state old.uses tied id oldest))).0

module _ (d : DiskModel) (old : StoreHeld) (id at : ℕ) (to_write : IsToWrite d old id at) where
  file_page : (1 ≤ id) × (id ≤ old.state.meta.high)
  file_page = to_write.memory.in_file id (to_write.memory.logged id to_write.dirty)

  most : id ≤ old.state.meta.pages
  most = omega (arith, file_page.1, to_write.memory.stands.high)

  -- the place lies within the disk
  pub place_fits : (bytes : List ℕ) (page : Page) → SpellsPage bytes page → at + length bytes ≤ d.size
  place_fits bytes page spells = omega (arith, to_write.here, spells.long, file_page.0, most, to_write.room)

module _ (d e : DiskModel) (is_disk : IsDisk d) (is_new : IsDisk e) (old : StoreHeld) (id at : ℕ) (to_write : IsToWrite d old id at) (bytes : List ℕ) (page : Page)
    (has : in_memory old.state id ≡ Some page) (spells : SpellsPage bytes page) where
  module _ {X E : Type 0} (r : Result X E) (writes : Writes at bytes r d e) where
    wrote_place : Rewrites (Torn (page_offset old.state.meta id) PAGE) 1 r d e
    wrote_place = Rewrites-write r at bytes (page_offset old.state.meta id) PAGE d e is_disk is_new (place_fits d old id at to_write bytes page spells) (omega (arith, to_write.here)) (omega (arith, to_write.here, spells.long)) writes

    moments_home : (durable : FileState) (later : List FileState) → StoreKeeps d old.state durable later → Leaves d e (λ c. OpensTo c durable)
    moments_home = StoreKeeps-idle d old.state (λ durable later. Leaves d e (λ c. OpensTo c durable)) to_write.idle (λ durable keeps.
        let p = keeps.parts in
        let P : List ℕ → Type 0 = λ c. OpensTo c durable in
        Leaves-call r d d e P (Leaves-start d P is_disk (StoreKeeps-running d old.state durable [] keeps to_write.going)) writes.ticks
        (λ c image. record {
          turn = old.state.turn;
          said = p.said;
          payloads = p.payloads;
          groups = p.written;
          by = images_home d e old.state to_write.memory to_write.going to_write.idle id to_write.dirty durable keeps wrote_place.became c image;
        }))

  -- it was written
  pub written_home : {X E : Type 0} (y : X) → Writes {T = X} {E = E} at bytes (Ok y) d e → WritesHome (Ok tt) id d e old (cleaned_held id old)
  written_home {X = X} {E = E} y writes =
      let r : Result X E = Ok y in
      let done : Result (Unit {0}) WriteFault = Ok tt in
      let run = wrote_place r writes in
      record {
        done = refl;
        stopped = tt;
        keeps = StoreKeeps-idle d old.state (StoreKeeps e (cleaned_held id old).state) to_write.idle (λ durable keeps.
            let layout = keeps.memory.layout in
            keeps_home d e old.state to_write.memory to_write.going to_write.idle id to_write.dirty durable keeps run.became page has
            (page_written d e is_disk at bytes keeps.parts.said id page (to_write.here ∙ ap (λ (n : ℕ). 8192 + 2 * n + 4096 * (id - 1)) layout.log) spells
            (omega (arith, to_write.room, layout.log, layout.pages)) (file_page d old id at to_write).0
            (omega (arith, most d old id at to_write, layout.pages)) writes.silent writes.written));
        moments = moments_home r writes;
        wrote = Rewrites-as r done (Torn (page_offset old.state.meta id) PAGE) 1 1 d e (λ h. h) (λ h. h) (omega arith) run;
        clock = λ told. ok_tick r y d e refl is_disk told writes.ticks;
      }

  -- a fault stopped the store
  pub not_written_home : {X E : Type 0} (fault : WriteFault) (y : E) → Writes {T = X} {E = E} at bytes (Err y) d e
      → WritesHome (Err fault) id d e old (record { state = stopped_state old.state; uses = old.uses })
  not_written_home {X = X} {E = E} fault y writes =
      let r : Result X E = Err y in
      let failed : Result (Unit {0}) WriteFault = Err fault in
      let run = wrote_place r writes in
      record {
        done = tt;
        stopped = (refl, refl);
        keeps = StoreKeeps-idle d old.state (StoreKeeps e (stopped_state old.state)) to_write.idle (λ durable keeps. keeps_not_home d e old.state to_write.memory to_write.going to_write.idle id to_write.dirty durable keeps run.became);
        moments = moments_home r writes;
        wrote = Rewrites-as r failed (Torn (page_offset old.state.meta id) PAGE) 1 1 d e (λ h. h) (λ h. h) (omega arith) run;
        clock = λ told. tt;
      }
