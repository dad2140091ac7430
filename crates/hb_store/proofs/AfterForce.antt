-- What a force leaves of a running store: inside, after a fault, and once the frame is written.
use Rattle.std.proofs.Common.{◌≡◌, ◌⊎◌, inl, inr, ℕ, ◌+◌, ◌*◌, ◌-◌, ◌%◌, ◌≤◌, true, false, IsTrue, List, [], ◌∷◌, ◌++◌, length, map, flat_map, take, drop, replicate, Some, IsSome, refl, sym, ap, ◌∙◌, subst, arith, append_assoc, length-take, length-append}
use Rattle.std.specs.List.{All}
use Rattle.std.specs.Option.{is_some}
use Rattle.std.proofs.lemmas.Grind.{flat_map-append}
use Rattle.std.proofs.lemmas.List.{append-nil, take_at, take-take}
use Rattle.std.proofs.lemmas.List.Elements.{All-nil}
use Rattle.hb_space.specs.declared.form.TheConstants.{PAGE}
use Rattle.hb_disk.specs.Model.{DiskModel, IsDisk, Torn}
use Rattle.hb_disk.specs.Calls.{Leaves, Becomes, IsSynced}
use Rattle.hb_disk.proofs.Facts.RunLaws.{Leaves-weaker}
use Rattle.hb_lemmas.proofs.Options.{at_value, has_value}
use Rattle.std.proofs.lemmas.Option.{same_Some}
use Rattle.hb_disk.proofs.Facts.SyncedLaws.{IsSynced-part, IsSynced-elsewhere}
use Rattle.hb_wal.specs.Frames.{frames, frame_bytes, range, HasFrames}
use Rattle.hb_wal.specs.Log.{Waiting, LogState, waiting_bytes, forced, after_force}
use Rattle.hb_wal.specs.Forces.{HasLog, ForceLeaves}
use Rattle.hb_layout.specs.Offsets.{slot_offset, log_start}
use Rattle.hb_super.specs.Superblocks.{next_turn}
use Rattle.hb_super.specs.Moments.{HasNoBody}
use Rattle.hb_super.proofs.Facts.BodyLaws.{HasNoBody-elsewhere}
use Rattle.hb_frag.specs.declared.pages.Page.{Page}
use Rattle.hb_frag.specs.Grammar.{SpellsPage}
use Rattle.hb_layout.specs.declared.meta.Meta.{Meta}
use Rattle.hb_ops.specs.Files.{FileState, page_of, last_of}
use Rattle.hb_log_codec.specs.Groups.{Logged, FitsGroup, group_bytes}
use Rattle.hb_store.specs.Replay.{untouched, replay}
use Rattle.hb_store.specs.Opening.{OpensBy, log_bytes, place_bytes}
use Rattle.hb_store.specs.States.{IsMemory, StoreState}
use Rattle.hb_store.specs.Keeps.{StoreKeeps, OpensToEither}
use Rattle.hb_store.specs.Parts.{Parts, Leads, OpensNext, written_pages}
use Rattle.hb_store.specs.Forced.{stopped_state, forced_state, with_log}
use Rattle.hb_wal.proofs.Facts.AreaBytes.{end_zeros}
use Rattle.hb_store.proofs.Facts.StoreLaws.{OpensAfter, OpensHere, OpensOn, opens_either, StoreKeeps-by}
use Rattle.hb_store.proofs.AreaTorn.{front_kept, spelled_kept, shows_kept, opens_same, opens_more}

-- the bytes of the groups that wait, one after the other, are those that spell them
joined_spells : (groups : List Waiting) (waiting : List Logged) → map (λ w. w.bytes) groups ≡ map group_bytes waiting → waiting_bytes groups ≡ flat_map group_bytes waiting
joined_spells [] [] same = refl
joined_spells [] (g ∷ waiting) same = cc same
joined_spells (w ∷ groups) [] same = cc same
joined_spells (w ∷ groups) (g ∷ waiting) same =
    let bytes_are : w.bytes ≡ group_bytes g = cc in
    let rest : map (λ (w : Waiting). w.bytes) groups ≡ map group_bytes waiting = cc in
    let more = joined_spells groups waiting rest in
    λ i. bytes_are i ++ more i

-- The bytes open to the durable file, or to the one after all groups that wait where their frame is there.
inside_by : (turn : ℕ) (said : Meta) (b c : List ℕ) → Torn (log_start turn said) said.log b c → (payloads : List (List ℕ)) (written : List Logged) (durable : FileState)
    → OpensBy b turn said payloads written durable → (groups : List Waiting) (waiting : List Logged) (later : List FileState)
    → map (λ w. w.bytes) groups ≡ map group_bytes waiting → All (FitsGroup said.k) waiting → Leads (replay (untouched said) written) durable waiting later
    → HasFrames (log_bytes turn said c) payloads ⊎ HasFrames (log_bytes turn said c) (payloads ++ forced groups)
    → OpensBy c turn said payloads written durable ⊎ OpensNext c turn said payloads written waiting (last_of durable later)
inside_by turn said b c torn payloads written durable opens groups waiting later same fits leads (inl framed) =
    inl (opens_same turn said b c torn payloads written durable opens framed)
inside_by turn said b c torn payloads written durable opens [] waiting later same fits leads (inr framed) =
    let Q : List (List ℕ) → Type 0 = λ ps. HasFrames (log_bytes turn said c) ps in
    inl (opens_same turn said b c torn payloads written durable opens (subst Q (append-nil payloads) framed))
inside_by turn said b c torn payloads written durable opens (w ∷ groups) waiting later same fits leads (inr framed) =
    let Q : List ℕ → Type 0 = λ l. HasFrames (log_bytes turn said c) (payloads ++ l ∷ []) in
    inr (opens_more turn said b c torn payloads written durable opens waiting later (subst Q (joined_spells (w ∷ groups) waiting same) framed) fits leads)

-- a log that stands on the disk: each image has its frames
image_frames : (d : DiskModel) (log : LogState) (payloads : List (List ℕ)) → HasLog d log payloads → (b : List ℕ) → d.told ≡ Some b → (c : List ℕ) → d.Image c
    → HasFrames (range log.area log.len c) payloads
image_frames d log payloads has b told c image = record {
  payloads_fit = has.payloads_fit;
  rest = replicate (log.len - log.written) 0;
  bytes = has.synced.each b c told image ∙ at_value d.told (λ b. range log.area log.len b ≡ frames payloads ++ replicate (log.len - log.written) 0) b told has.reads;
  at_end = end_zeros (log.len - log.written);
}

-- the written frames are no longer than the area
pub written_fits : (d : DiskModel) (log : LogState) (payloads : List (List ℕ)) → HasLog d log payloads → (b : List ℕ) → d.told ≡ Some b → log.written ≤ log.len
written_fits d log payloads has b told =
    let reads : range log.area log.len b ≡ frames payloads ++ replicate (log.len - log.written) 0
    = at_value d.told (λ b. range log.area log.len b ≡ frames payloads ++ replicate (log.len - log.written) 0) b told has.reads in
    let long = ap (λ (l : List ℕ). length l) reads in
    omega (arith, long, length-take log.len (drop log.area b), length-append (frames payloads) (replicate (log.len - log.written) 0), has.count)

-- the first bytes of an area that has these frames and maybe more
front_of : (area len written : ℕ) (payloads more : List (List ℕ)) (c : List ℕ) → written ≤ len → length (frames payloads) ≡ written
    → HasFrames (range area len c) (payloads ++ more) → take written (drop area c) ≡ frames payloads
front_of area len written payloads more c fits count framed =
    sym (take-take written len (drop area c) fits)
    ∙ ap (λ (l : List ℕ). take written l) (framed.bytes ∙ ap (λ (l : List ℕ). l ++ framed.rest) (flat_map-append frame_bytes payloads more) ∙ append_assoc (frames payloads) (frames more) framed.rest)
    ∙ take_at (frames payloads) (frames more ++ framed.rest) written count

front_of_both : (area len written : ℕ) (payloads more : List (List ℕ)) (c : List ℕ) → written ≤ len → length (frames payloads) ≡ written
    → HasFrames (range area len c) payloads ⊎ HasFrames (range area len c) (payloads ++ more) → take written (drop area c) ≡ frames payloads
front_of_both area len written payloads more c fits count (inl framed) =
    let Q : List (List ℕ) → Type 0 = λ ps. HasFrames (range area len c) ps in
    front_of area len written payloads [] c fits count (subst Q (sym (append-nil payloads)) framed)
front_of_both area len written payloads more c fits count (inr framed) = front_of area len written payloads more c fits count framed

-- a log of the same area leaves the rest as it is
pub memory_logged : (st : StoreState) (log : LogState) → IsMemory st → log.area ≡ st.log.area → log.len ≡ st.log.len → IsMemory (with_log log st)
memory_logged st log is area len = record { stands = is.stands; area = area ∙ is.area; len = len ∙ is.len; good = is.good; in_file = is.in_file; logged = is.logged }

-- and so does a fault
pub memory_stopped : (st : StoreState) → IsMemory st → IsMemory (stopped_state st)
memory_stopped st is = record { stands = is.stands; area = is.area; len = is.len; good = is.good; in_file = is.in_file; logged = is.logged }

-- where the log lies, by the layout that the newest superblock said
module _ (d : DiskModel) (st : StoreState) (is : IsMemory st) (durable : FileState) (later : List FileState) (keeps : StoreKeeps d st durable later) where
  pub area_there : st.log.area ≡ log_start st.turn keeps.parts.said
  area_there = is.area ∙ ap (λ (n : ℕ). 8192 + (st.turn % 2) * n) keeps.memory.layout.log

  pub len_there : st.log.len ≡ keeps.parts.said.log
  len_there = is.len ∙ keeps.memory.layout.log

module _ (d : DiskModel) (is_disk : IsDisk d) (st : StoreState) (is : IsMemory st) (going : st.stopped ≡ false) (durable : FileState) (later : List FileState) (keeps : StoreKeeps d st durable later) where
  abbrev p : Parts
  p = keeps.parts

  torn_there : (b c : List ℕ) → Torn st.log.area st.log.len b c → Torn (log_start st.turn p.said) p.said.log b c
  torn_there b c torn =
      let Q : ℕ → ℕ → Type 0 = λ at n. Torn at n b c in
      subst (λ (n : ℕ). Q (log_start st.turn p.said) n) (len_there d st is durable later keeps) (subst (λ (at : ℕ). Q at st.log.len) (area_there d st is durable later keeps) torn)

  frames_there : (c : List ℕ) (payloads : List (List ℕ)) → HasFrames (range st.log.area st.log.len c) payloads → HasFrames (log_bytes st.turn p.said c) payloads
  frames_there c payloads framed =
      let Q : ℕ → ℕ → Type 0 = λ at n. HasFrames (range at n c) payloads in
      subst (λ (n : ℕ). Q (log_start st.turn p.said) n) (len_there d st is durable later keeps) (subst (λ (at : ℕ). Q at st.log.len) (area_there d st is durable later keeps) framed)

  -- inside
  pub inside_opens : (c : List ℕ) → ForceLeaves d st.log p.payloads c
      → OpensBy c st.turn p.said p.payloads p.written durable ⊎ OpensNext c st.turn p.said p.payloads p.written p.waiting (last_of durable later)
  inside_opens c leaves =
      inside_by st.turn p.said leaves.before c (torn_there leaves.before c leaves.elsewhere) p.payloads p.written durable
      (StoreKeeps-by d st durable later keeps going leaves.before leaves.image) st.log.groups p.waiting later keeps.waits.spelled keeps.waits.fits keeps.waits.leads
      (elim leaves.frames_of [
        | inl same ↦ inl (frames_there c p.payloads same)
        | inr more ↦ inr (frames_there c (p.payloads ++ forced st.log.groups) more)
      ])

  pub moments_open : (new : DiskModel) → Leaves d new (ForceLeaves d st.log p.payloads) → Leaves d new (OpensToEither durable later)
  moments_open new run = Leaves-weaker d new (ForceLeaves d st.log p.payloads) (OpensToEither durable later)
      (λ c leaves. opens_either c st.turn p.said p.payloads p.written p.waiting durable later (inside_opens c leaves)) run

  module _ (new : DiskModel) (is_new : IsDisk new) (place : Becomes (Torn st.log.area st.log.len) d new) (b : List ℕ) (told : d.told ≡ Some b) where
    abbrev after : (c : List ℕ) × (new.told ≡ Some c) × Torn st.log.area st.log.len b c
    after = at_value d.told (λ b. (c : List ℕ) × (new.told ≡ Some c) × Torn st.log.area st.log.len b c) b told place.told

    logged : HasLog d st.log p.payloads
    logged = (keeps.disk.running going).logged

    still_told : IsSome new.told
    still_told = has_value new.told after.0 after.1

    -- superblock places and page places stand as before
    places_synced : IsSynced new 0 8192
    places_synced = IsSynced-elsewhere d new 0 8192 st.log.area st.log.len (inl (omega (arith, area_there d st is durable later keeps))) place (keeps.disk.running going).places

    no_body : (e : List ℕ) → new.told ≡ Some e → HasNoBody e (next_turn st.turn)
    no_body e tells =
        let B : List ℕ → Type 0 = λ l. HasNoBody l (next_turn st.turn) in
        subst B (same_Some after.0 e (sym after.1 ∙ tells))
        (HasNoBody-elsewhere b after.0 (next_turn st.turn) (front_kept st.turn p.said b after.0 (torn_there b after.0 after.2)) ((keeps.disk.running going).no_body b told))

    place_synced : IsSynced new (slot_offset st.turn) PAGE
    place_synced = IsSynced-part new 0 8192 (slot_offset st.turn) PAGE (omega arith) (omega arith) places_synced

    page_synced : (id : ℕ) (page : Page) → ((c : List ℕ) → d.Image c → SpellsPage (place_bytes p.said id c) page) → (c : List ℕ) → new.Image c → SpellsPage (place_bytes p.said id c) page
    page_synced id page was c image =
        let old = place.crash c image in
        spelled_kept st.turn p.said old.0 c (torn_there old.0 c old.2) id page (was old.0 old.1)

    page_reads : (id : ℕ) (page : Page) → ((b : List ℕ) → d.told ≡ Some b → SpellsPage (place_bytes p.said id b) page) → (e : List ℕ) → new.told ≡ Some e → SpellsPage (place_bytes p.said id e) page
    page_reads id page was e tells =
        let same : after.0 ≡ e = same_Some after.0 e (sym after.1 ∙ tells) in
        let Q : List ℕ → Type 0 = λ l. SpellsPage (place_bytes p.said id l) page in
        subst Q same (spelled_kept st.turn p.said b after.0 (torn_there b after.0 after.2) id page (was b told))

    -- after a fault
    module _ (run : Leaves d new (ForceLeaves d st.log p.payloads)) where
      image_inside : (c : List ℕ) → new.Image c → ForceLeaves d st.log p.payloads c
      image_inside c image = run.each c (is_new.counts_now d.clock c run.later image)

      front_there : (c : List ℕ) → new.Image c → take st.log.written (drop st.log.area c) ≡ frames p.payloads
      front_there c image = front_of_both st.log.area st.log.len st.log.written p.payloads (forced st.log.groups) c
          (written_fits d st.log p.payloads logged b told) keeps.disk.count (image_inside c image).frames_of

      stopped_images : (A B C : Type 0) → A ⊎ B → A ⊎ (IsTrue true × B) ⊎ (IsTrue true × C)
      stopped_images A B C (inl a) = inl a
      stopped_images A B C (inr b) = inr (inl (refl, b))

      pub keeps_stopped : StoreKeeps new (stopped_state st) durable later
      keeps_stopped = record {
        parts = p;
        disk = record {
          told = still_told;
          count = keeps.disk.count;
          images = λ c image. stopped_images (OpensHere c st.turn p durable) (OpensOn c st.turn p (last_of durable later)) (OpensAfter c st.turn durable) (inside_opens c (image_inside c image));
          shows = λ c image.
              let old = place.crash c image in
              shows_kept st.turn p.said old.0 c (torn_there old.0 c old.2) (written_pages p) durable (keeps.disk.shows old.0 old.1);
          running = λ never. cc never;
          kept = (
            place_synced,
            record { each = λ e c tells image. front_there c image ∙ sym (front_there e (is_new.as_read e tells)) },
          );
        };
        waits = keeps.waits;
        in_log = record { touched = keeps.in_log.touched; synced = λ id page off is c image. page_synced id page (keeps.in_log.synced id page off is) c image };
        memory = record {
          layout = keeps.memory.layout;
          meta_is = keeps.memory.meta_is;
          cached = keeps.memory.cached;
          placed = λ id page e none is tells. page_reads id page (λ b told. keeps.memory.placed id page b none is told) e tells;
        };
      }

    -- once the frame is written, or where none was: a log of this area where no group waits
    module _ (n : ℕ) where
      abbrev moved : LogState
      moved = record { area = st.log.area; len = st.log.len; written = n; groups = [] }

      framed_image : (payloads : List (List ℕ)) → HasLog new moved payloads → (c : List ℕ) → new.Image c → HasFrames (log_bytes st.turn p.said c) payloads
      framed_image payloads has c image = frames_there c payloads (image_frames new moved payloads has after.0 after.1 c image)

      -- a store whose durable file is its file, which is the same
      forced_with : (payloads : List (List ℕ)) (written : List Logged) (s : FileState) → HasLog new moved payloads
          → ((c : List ℕ) → new.Image c → OpensBy c st.turn p.said payloads written s)
          → p.written ++ p.waiting ≡ written ++ [] → s ≡ last_of durable later → StoreKeeps new (with_log moved st) s []
      forced_with payloads written s has opens all last = record {
        parts = record { said = p.said; payloads = payloads; written = written; waiting = [] };
        disk = record {
          told = still_told;
          count = has.count;
          images = λ c image. inl (opens c image);
          shows = λ c image. (opens c image).shows;
          running = λ going. record { places = places_synced; no_body = no_body; logged = has };
          kept = (
            place_synced,
            IsSynced-part new st.log.area st.log.len st.log.area n (omega arith) (let fits : n ≤ st.log.len = written_fits new moved payloads has after.0 after.1 in omega (arith, fits)) has.synced,
          );
        };
        waits = record { spelled = refl; fits = All-nil (FitsGroup p.said.k); leads = refl };
        in_log = record {
          touched = λ id. keeps.in_log.touched id ∙ ap (λ (gs : List Logged). is_some ((replay (untouched p.said) gs).page id)) all;
          synced = λ id page off is c image. page_synced id page (keeps.in_log.synced id page off (ap (λ (f : FileState). page_of f id) (sym last) ∙ is)) c image;
        };
        memory = record {
          layout = keeps.memory.layout;
          meta_is = ap (λ (f : FileState). f.meta) last ∙ keeps.memory.meta_is;
          cached = λ id page is. ap (λ (f : FileState). page_of f id) last ∙ keeps.memory.cached id page is;
          placed = λ id page e none is tells.
              page_reads id page (λ b told. keeps.memory.placed id page b none (ap (λ (f : FileState). page_of f id) (sym last) ∙ is) told) e tells;
        };
      }

      forced_by : (groups : List Waiting) (waiting : List Logged) (files : List FileState) → map (λ w. w.bytes) groups ≡ map group_bytes waiting
          → All (FitsGroup p.said.k) waiting → Leads (replay (untouched p.said) p.written) durable waiting files
          → HasLog new moved (p.payloads ++ forced groups) → p.written ++ p.waiting ≡ p.written ++ waiting → last_of durable files ≡ last_of durable later
          → StoreKeeps new (with_log moved st) (last_of durable files) []
      forced_by [] [] [] same fits leads has all last =
          let L : List (List ℕ) → Type 0 = λ ps. HasLog new moved ps in
          let log : HasLog new moved p.payloads = subst L (append-nil p.payloads) has in
          forced_with p.payloads p.written durable log
          (λ c image.
          let old = place.crash c image in
          opens_same st.turn p.said old.0 c (torn_there old.0 c old.2) p.payloads p.written durable
          (StoreKeeps-by d st durable later keeps going old.0 old.1) (framed_image p.payloads log c image))
          all last
      forced_by [] [] (next ∷ files) same fits leads has all last = cc leads
      forced_by [] (g ∷ waiting) files same fits leads has all last = cc same
      forced_by (w ∷ groups) waiting files same fits leads has all last =
          let payloads : List (List ℕ) = p.payloads ++ flat_map group_bytes waiting ∷ [] in
          let L : List ℕ → Type 0 = λ l. HasLog new moved (p.payloads ++ l ∷ []) in
          let log : HasLog new moved payloads = subst L (joined_spells (w ∷ groups) waiting same) has in
          forced_with payloads (p.written ++ waiting) (last_of durable files) log
          (λ c image.
          let old = place.crash c image in
          opens_more st.turn p.said old.0 c (torn_there old.0 c old.2) p.payloads p.written durable
          (StoreKeeps-by d st durable later keeps going old.0 old.1) waiting files (framed_image payloads log c image) fits leads)
          (all ∙ sym (append-nil (p.written ++ waiting))) last

    pub keeps_forced : HasLog new (after_force st.log) (p.payloads ++ forced st.log.groups) → StoreKeeps new (forced_state st) (last_of durable later) []
    keeps_forced has = forced_by (after_force st.log).written st.log.groups p.waiting later keeps.waits.spelled keeps.waits.fits keeps.waits.leads has refl refl
