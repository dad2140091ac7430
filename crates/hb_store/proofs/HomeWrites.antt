-- What a store keeps once the page of a number was written to its place, or perhaps not, where no group waits.
use Rattle.std.proofs.Common.{◌≡◌, inl, inr, ℕ, ◌+◌, ◌*◌, ◌-◌, ◌≤◌, Bool, true, false, IsTrue, List, [], ◌∷◌, ◌++◌, map, replicate, Option, Some, None, refl, sym, ap, ◌∙◌, subst, arith}
use Rattle.std.specs.Prelude.{not, ◌&&◌}
use Rattle.std.specs.Option.{is_some}
use Rattle.std.specs.Ordering.{nat_cmp, eq_by_cmp}
use Rattle.std.specs.Cmp.{nat_cmp_total, unsigned_tied}
use Rattle.std.specs.FinSet as set
use Rattle.std.proofs.lemmas.Bool.{cases_eq, ne_eqb}
use Rattle.std.proofs.lemmas.List.{append-nil}
use Rattle.std.proofs.lemmas.Option.{same_Some}
use Rattle.hb_space.specs.declared.form.TheConstants.{PAGE}
use Rattle.hb_disk.specs.Model.{DiskModel, Torn}
use Rattle.hb_disk.specs.Calls.{Apart, Becomes, IsSynced}
use Rattle.hb_disk.proofs.Facts.RewriteLaws.{Becomes-tells}
use Rattle.hb_disk.proofs.Facts.SyncedLaws.{IsSynced-elsewhere, IsSynced-part, told_elsewhere}
use Rattle.hb_disk.proofs.Facts.TornLaws.{Torn-elsewhere}
use Rattle.hb_lemmas.proofs.Options.{at_value, if_value}
use Rattle.hb_wal.specs.Frames.{frames, range}
use Rattle.hb_wal.specs.Forces.{HasLog}
use Rattle.hb_wal.specs.Log.{Waiting}
use Rattle.hb_super.specs.Superblocks.{next_turn}
use Rattle.hb_super.proofs.Facts.BodyLaws.{HasNoBody-elsewhere}
use Rattle.hb_super.proofs.Facts.Gates.{newest_same}
use Rattle.hb_layout.specs.Offsets.{log_start, page_offset, slot_offset}
use Rattle.hb_frag.specs.declared.pages.Page.{Page}
use Rattle.hb_frag.specs.Grammar.{SpellsPage}
use Rattle.hb_ops.specs.Files.{FileState, page_of}
use Rattle.hb_ops.proofs.Facts.FilePages.{page_in_range}
use Rattle.hb_log_codec.specs.Groups.{Logged, group_bytes}
use Rattle.hb_store.specs.Forced.{stopped_state}
use Rattle.hb_store.specs.Held.{cleaned_state}
use Rattle.hb_store.specs.Keeps.{StoreKeeps}
use Rattle.hb_store.specs.Opening.{OpensBy, place_bytes}
use Rattle.hb_store.specs.Parts.{IsDurable, IsInLog, IsRunning, Parts, all_pages, written_pages}
use Rattle.hb_store.specs.Replay.{Replayed, replay, untouched}
use Rattle.hb_store.specs.States.{IsMemory, StoreState, in_memory, is_dirty, is_in_log}
use Rattle.hb_store.proofs.AfterForce.{area_there, len_there, written_fits}
use Rattle.hb_store.proofs.AreaTorn.{area_end}
use Rattle.hb_store.proofs.Facts.FreshLaws.{places_kept}
use Rattle.hb_store.proofs.Facts.PlaceWrites.{Tore, becomes_there, other_place, tore}
use Rattle.hb_store.proofs.Facts.ReplayLaws.{opens_elsewhere}
use Rattle.hb_store.proofs.Facts.StoreLaws.{StoreKeeps-by}

-- where the log has no bytes that wait, no group does
none_waiting : (groups : List Waiting) (waiting : List Logged) → map (λ w. w.bytes) groups ≡ map group_bytes waiting → groups ≡ [] → waiting ≡ []
none_waiting [] [] same none = refl
none_waiting [] (g ∷ waiting) same none = cc same
none_waiting (w ∷ groups) waiting same none = cc none

-- a page is dirty still where it was, but for the one that is clean now
was_clean : (st : StoreState) (id q : ℕ) → (q ≡ id → ⊥) → is_dirty (cleaned_state id st) q ≡ false → is_dirty st q ≡ false
was_clean st id q other clean =
    let off : eq_by_cmp nat_cmp q id ≡ false = unsigned_tied q id ∙ ne_eqb q id other in
    ap (λ (b : Bool). not b && is_dirty st q) (sym off) ∙ sym (set.contains-remove nat_cmp_total st.dirty id q) ∙ clean

-- A store that runs, where no group waits, and a disk on which the place of a dirty page was torn.
module _ (d e : DiskModel) (st : StoreState) (is : IsMemory st) (going : st.stopped ≡ false) (idle : st.log.groups ≡ []) (id : ℕ) (dirty : IsTrue (is_dirty st id))
    (durable : FileState) (keeps : StoreKeeps d st durable []) (run : Becomes (Torn (page_offset st.meta id) PAGE) d e) where
  abbrev p : Parts
  p = keeps.parts

  -- the replay of the written groups has the page
  all_written : all_pages p ≡ written_pages p
  all_written =
      ap (λ (l : List Logged). replay (untouched p.said) (p.written ++ l)) (none_waiting st.log.groups p.waiting keeps.waits.spelled idle)
      ∙ ap (λ (l : List Logged). replay (untouched p.said) l) (append-nil p.written)

  written_has : is_some ((written_pages p).page id) ≡ true
  written_has = ap (λ (t : Replayed). is_some (t.page id)) (sym all_written) ∙ sym (keeps.in_log.touched id) ∙ is.logged id dirty

  not_untouched : (q : ℕ) → (written_pages p).page q ≡ None → q ≡ id → ⊥
  not_untouched q none same =
      let T : ℕ → Type 0 = λ n. (written_pages p).page n ≡ None in
      let never : true ≡ false = sym written_has ∙ ap (λ (o : Option Page). is_some o) (subst T same none) in
      cc never

  not_out : (q : ℕ) → is_in_log st q ≡ false → q ≡ id → ⊥
  not_out q out same =
      let never : true ≡ false = sym (is.logged id dirty) ∙ ap (is_in_log st) (sym same) ∙ out in
      cc never

  not_clean : (q : ℕ) → is_dirty st q ≡ false → q ≡ id → ⊥
  not_clean q clean same =
      let never : true ≡ false = sym dirty ∙ ap (is_dirty st) (sym same) ∙ clean in
      cc never

  some_number : 1 ≤ id
  some_number = (is.in_file id (is.logged id dirty)).0

  there : Becomes (Torn (page_offset p.said id) PAGE) d e
  there = becomes_there d e (page_offset st.meta id) PAGE p.said id (ap (λ (n : ℕ). 8192 + 2 * n + 4096 * (id - 1)) keeps.memory.layout.log) refl run

  module _ (b c : List ℕ) (torn : Torn (page_offset p.said id) PAGE b c) where
    page_kept : (q : ℕ) (page : Page) → page_of durable q ≡ Some page → (q ≡ id → ⊥) → place_bytes p.said q c ≡ place_bytes p.said q b
    page_kept q page has other =
        Torn-elsewhere (page_offset p.said id) PAGE (page_offset p.said q) PAGE b c (other_place p.said q id (page_in_range durable.pages q page has).0 some_number other) torn

    spelled_kept : (q : ℕ) (page : Page) → page_of durable q ≡ Some page → (q ≡ id → ⊥) → SpellsPage (place_bytes p.said q b) page → SpellsPage (place_bytes p.said q c) page
    spelled_kept q page has other spells = let Q : List ℕ → Type 0 = λ l. SpellsPage l page in subst Q (sym (page_kept q page has other)) spells

    opens_still : OpensBy b st.turn p.said p.payloads p.written durable → OpensBy c st.turn p.said p.payloads p.written durable
    opens_still opens =
        opens_elsewhere b c st.turn p.said p.payloads p.written durable opens (newest_same b c (places_kept (page_offset p.said id) PAGE b c (omega arith) torn) st.turn p.said opens.newest) torn.as_long
        (Torn-elsewhere (page_offset p.said id) PAGE (log_start st.turn p.said) p.said.log b c (inl (omega (arith, area_end st.turn p.said))) torn)
        (λ q page has none. page_kept q page has (not_untouched q none))

  -- every image opens to the file still
  pub images_home : (c : List ℕ) → e.Image c → OpensBy c st.turn p.said p.payloads p.written durable
  images_home c image =
      let old = there.crash c image in
      opens_still old.0 c old.2 (StoreKeeps-by d st durable [] keeps going old.0 old.1)

  -- both superblock places and the log area are apart from the place
  places_synced : IsSynced e 0 8192
  places_synced = IsSynced-elsewhere d e 0 8192 (page_offset p.said id) PAGE (inl (omega arith)) there (keeps.disk.running going).places

  area_apart : Apart st.log.area st.log.len (page_offset p.said id) PAGE
  area_apart = inl (omega (arith, area_end st.turn p.said, area_there d st is durable [] keeps, len_there d st is durable [] keeps))

  area_synced : IsSynced e st.log.area st.log.len
  area_synced = IsSynced-elsewhere d e st.log.area st.log.len (page_offset p.said id) PAGE area_apart there (keeps.disk.running going).logged.synced

  tears : Tore d e (page_offset p.said id) PAGE
  tears = tore d e (page_offset p.said id) PAGE keeps.disk.told there

  logged_still : HasLog e st.log p.payloads
  logged_still =
      let has = (keeps.disk.running going).logged in
      record {
        synced = area_synced;
        payloads_fit = has.payloads_fit;
        count = has.count;
        reads = if_value e.told (λ c. range st.log.area st.log.len c ≡ frames p.payloads ++ replicate (st.log.len - st.log.written) 0) (λ c told.
            told_elsewhere d e tears.before c st.log.area st.log.len (page_offset p.said id) PAGE tears.was told area_apart there
            ∙ at_value d.told (λ b. range st.log.area st.log.len b ≡ frames p.payloads ++ replicate (st.log.len - st.log.written) 0) tears.before tears.was has.reads);
      }

  runs_still : IsRunning e st.turn st.log p.payloads
  runs_still = record {
    places = places_synced;
    no_body = λ c told.
        HasNoBody-elsewhere tears.before c (next_turn st.turn)
        (told_elsewhere d e tears.before c 0 8192 (page_offset p.said id) PAGE tears.was told (inl (omega arith)) there)
        ((keeps.disk.running going).no_body tears.before tears.was);
    logged = logged_still;
  }

  -- what is durable stays so, whether the store goes on or is stopped
  durable_still : (stopped : Bool) → IsDurable e st.turn st.log stopped p durable []
  durable_still stopped = record {
    told = Becomes-tells (Torn (page_offset p.said id) PAGE) d e there keeps.disk.told;
    count = keeps.disk.count;
    images = λ c image. inl (images_home c image);
    shows = λ c image. (images_home c image).shows;
    running = λ runs. runs_still;
    kept = (
      IsSynced-part e 0 8192 (slot_offset st.turn) PAGE (omega arith) (omega arith) places_synced,
      IsSynced-part e st.log.area st.log.len st.log.area st.log.written (omega arith)
          (let fits = written_fits d st.log p.payloads (keeps.disk.running going).logged tears.before tears.was in omega (arith, fits)) area_synced,
    );
  }

  -- and so do the pages that are in no log
  in_log_still : IsInLog e (is_in_log st) p durable
  in_log_still = record {
    touched = keeps.in_log.touched;
    synced = λ q page out has c image.
        let old = there.crash c image in
        spelled_kept old.0 c old.2 q page has (not_out q out) (keeps.in_log.synced q page out has old.0 old.1);
  }

  -- a page with another number reads as it did
  reads_still : (q : ℕ) (page : Page) → page_of durable q ≡ Some page → (q ≡ id → ⊥) → is_dirty st q ≡ false → (c : List ℕ) → e.told ≡ Some c → SpellsPage (place_bytes p.said q c) page
  reads_still q page has other clean c told =
      let Q : List ℕ → Type 0 = λ l. SpellsPage (place_bytes p.said q l) page in
      subst Q (same_Some tears.after c (sym tears.is ∙ told))
      (spelled_kept tears.before tears.after tears.torn q page has other (keeps.memory.placed q page tears.before clean has tears.was))

  -- a fault stops the store, which keeps the same
  pub keeps_not_home : StoreKeeps e (stopped_state st) durable []
  keeps_not_home = record {
    parts = p;
    disk = durable_still true;
    waits = keeps.waits;
    in_log = in_log_still;
    memory = record {
      layout = keeps.memory.layout;
      meta_is = keeps.memory.meta_is;
      cached = keeps.memory.cached;
      placed = λ q page c clean has told. reads_still q page has (not_clean q clean) clean c told;
    };
  }

  -- once it is written it reads in its place
  pub keeps_home : (page : Page) → in_memory st id ≡ Some page → ((c : List ℕ) → e.told ≡ Some c → SpellsPage (place_bytes p.said id c) page) → StoreKeeps e (cleaned_state id st) durable []
  keeps_home page here home = record {
    parts = p;
    disk = durable_still st.stopped;
    waits = keeps.waits;
    in_log = in_log_still;
    memory = record {
      layout = keeps.memory.layout;
      meta_is = keeps.memory.meta_is;
      cached = keeps.memory.cached;
      placed = λ q one c clean has told. elim (cases_eq q id) [
        | inl same ↦
            let I : ℕ → Type 0 = λ n. page_of durable n ≡ Some one in
            let page_is : page ≡ one = same_Some page one (sym (keeps.memory.cached id page here) ∙ subst I same has) in
            let S : Page → Type 0 = λ x. SpellsPage (place_bytes p.said id c) x in
            let N : ℕ → Type 0 = λ n. SpellsPage (place_bytes p.said n c) one in
            subst N (sym same) (subst S page_is (home c told))
        | inr other ↦ reads_still q one has other (was_clean st id q other clean) c told
      ];
    };
  }
