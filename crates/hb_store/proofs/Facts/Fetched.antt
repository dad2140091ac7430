-- A page that a fetch brings into memory is the file's.
use Rattle.std.proofs.Common.{◌≡◌, ◌≢◌, inl, inr, ℕ, ◌+◌, ◌-◌, ◌*◌, ◌≤◌, false, List, length, take, drop, Option, Some, None, Result, Ok, Err, refl, sym, ap, subst, ◌∙◌, arith}
use Rattle.std.specs.Prelude.{IfErr, IfSome, IsSome, IsSomeAnd}
use Rattle.std.specs.Option.{is_some, option_map, option_map_or}
use Rattle.std.proofs.lemmas.Bool.{cases_eq}
use Rattle.hb_space.specs.declared.form.TheConstants.{PAGE}
use Rattle.hb_disk.specs.Model.{DiskModel, IsDisk, Stays}
use Rattle.hb_lemmas.proofs.Options.{some_value, none_so, at_some_and}
use Rattle.hb_frag.specs.declared.pages.Page.{Page}
use Rattle.hb_frag.specs.declared.pages.Page.TheVariants.{Live}
use Rattle.hb_frag.specs.Grammar.{SpellsPage}
use Rattle.hb_layout.specs.declared.meta.Meta.{Meta}
use Rattle.hb_ops.specs.Files.{FileState, if_live, page_of, last_of}
use Rattle.hb_ops.specs.Sound.{IsSound}
use Rattle.hb_page_codec.proofs.Facts.PageLaws.{SpelledOnce}
use Rattle.hb_layout.specs.Offsets.{page_offset}
use Rattle.hb_store.specs.Opening.{place_bytes}
use Rattle.hb_store.specs.States.{IsGoodPage, IsMemory, StoreState, in_memory, is_dirty}
use Rattle.hb_store.specs.Held.{IsTied}
use Rattle.hb_store.specs.Replaying.{IsPageOf}
use Rattle.hb_page_codec.specs.ReadingPages.{page_of_bytes}
use Rattle.hb_pool.specs.Frames.{Use}
use Rattle.hb_pool.specs.Pools.{frame_of}
use Rattle.hb_store.specs.Keeps.{StoreKeeps}
use Rattle.hb_store.specs.Calls.{Fetched}
use Rattle.hb_store.proofs.Facts.StayingLaws.{was_there}
pub use Rattle.hb_store.proofs.Facts.StayedDisks.{keeps_read}
use Rattle.hb_store.specs.Fetching.{HoldsNot, IsDamagedBy, IsNoPage}
use Rattle.hb_store.specs.declared.stops.FetchStop.{FetchStop}
use Rattle.hb_store.specs.declared.stops.FetchStop.TheVariants as fetches
use Rattle.hb_store.specs.declared.stops.Why.TheVariants.{Rule, Level, Extent}
use Rattle.hb_store.proofs.Counted.{store_count}
use Rattle.hb_ops.proofs.Facts.FilePages.{page_there}
use Rattle.hb_ops.proofs.Facts.WellMade.{not_broken}

-- ---- what was read

pub placed_read : (told : Option (List ℕ)) (at : ℕ) (into : List ℕ) (meta : Meta) (id : ℕ) → IfSome told (λ b. into ≡ take (length into) (drop at b)) → length into ≡ PAGE → at ≡ page_offset meta id → IfSome told (λ b. into ≡ place_bytes meta id b)
placed_read told at into meta id reads long place =
    subst (λ n. IfSome told (λ b. into ≡ take n (drop (page_offset meta id) b))) long (subst (λ p. IfSome told (λ b. into ≡ take (length into) (drop p b))) place reads)

-- the page that was read, where the disk tells
pub spelled_there : (told : Option (List ℕ)) (bytes : List ℕ) (place : List ℕ → List ℕ) (page : Page) → SpellsPage bytes page → IfSome told (λ b. bytes ≡ place b) → IfSome told (λ b. SpellsPage (place b) page)
spelled_there None bytes place page spells read = tt
spelled_there (Some b) bytes place page spells read = subst (λ l. SpellsPage l page) read spells

-- a page that isn't in memory has no frame, and isn't dirty
pub no_frame : (st : StoreState) (uses : List Use) (id : ℕ) → IsTied st uses → in_memory st id ≡ None → frame_of uses id ≡ None
no_frame st uses id tied none = none_so (frame_of uses id) (sym (tied.there id) ∙ ap (λ (o : Option Page). is_some o) none)

pub clean_outside : (st : StoreState) (uses : List Use) (id : ℕ) → IsTied st uses → in_memory st id ≡ None → is_dirty st id ≡ false
clean_outside st uses id tied none = tied.marks id ∙ ap (λ (o : Option Use). option_map_or (λ (u : Use). u.dirty) o false) (no_frame st uses id tied none)

-- what is said of bytes that are known holds where they aren't
forgotten : (meta : Meta) (b : List ℕ) (id : ℕ) (stop : FetchStop) → HoldsNot meta (Some b) id stop → HoldsNot meta None id stop
forgotten meta b id (fetches.Damaged at (Rule rule)) holds = (holds.0, holds.1, tt)
forgotten meta b id (fetches.Damaged at (Level asked found)) holds = holds
forgotten meta b id (fetches.Damaged at (Extent asked found)) holds = holds
forgotten meta b id fetches.ReadFault holds = tt
forgotten meta b id fetches.Crowded holds = tt

pub read_not : {X : Type 0} (result : Result X FetchStop) (told : Option (List ℕ)) (bytes : List ℕ) (place : List ℕ → List ℕ) (meta : Meta) (id : ℕ) → IfErr result (HoldsNot meta (Some bytes) id) → IfSome told (λ b. bytes ≡ place b)
    → IfErr result (HoldsNot meta (option_map place told) id)
read_not (Ok page) told bytes place meta id why read = tt
read_not (Err stop) None bytes place meta id why read = forgotten meta bytes id stop why
read_not (Err stop) (Some b) bytes place meta id why read = subst (λ l. HoldsNot meta (Some l) id stop) read why

-- ---- what a store keeps

pub keeps_fetched : (d : DiskModel) (old new : StoreState) (durable : FileState) (later : List FileState) (id : ℕ) → Fetched id old new
    → ((page : Page) → in_memory new id ≡ Some page → page_of (last_of durable later) id ≡ Some page) → StoreKeeps d old durable later → StoreKeeps d new durable later
keeps_fetched d old new durable later id fetched there k =
    let K : StoreState → Type 0 = λ st. StoreKeeps d st durable later in
    subst K (sym fetched.rest) (record {
      parts = k.parts;
      disk = k.disk;
      waits = k.waits;
      in_log = k.in_log;
      memory = record {
        layout = k.memory.layout;
        meta_is = k.memory.meta_is;
        cached = λ q page is. elim (cases_eq q id) [
          | inl here ↦
              let I : ℕ → Type 0 = λ n. in_memory new n ≡ Some page in
              ap (page_of (last_of durable later)) here ∙ there page (subst I here is)
          | inr other ↦ k.memory.cached q page (was_there old new q (fetched.others q other) page is)
        ];
        placed = k.memory.placed;
      };
    })

-- the page in a place is the file's, where it isn't in memory
file_page : (d : DiskModel) (st : StoreState) (durable : FileState) (later : List FileState) (id : ℕ) → IsDisk d → StoreKeeps d st durable later → 1 ≤ id → id ≤ st.meta.high → (p : Page) × (page_of (last_of durable later) id ≡ Some p)
file_page d st durable later id disk k some high =
    let count = store_count d st durable later disk k in
    page_there (last_of durable later).pages id some (omega (arith, high, count, ap (λ (m : Meta). m.high) k.memory.meta_is))

abbrev PageThere : DiskModel → StoreState → FileState → List FileState → ℕ → List ℕ → Type 0
PageThere d st durable later id b = (p : Page) × (page_of (last_of durable later) id ≡ Some p) × SpellsPage (place_bytes st.meta id b) p

pub there_in_place : (d : DiskModel) (st : StoreState) (durable : FileState) (later : List FileState) (id : ℕ) (b : List ℕ) → IsDisk d → StoreKeeps d st durable later → 1 ≤ id → id ≤ st.meta.high → is_dirty st id ≡ false → d.told ≡ Some b
    → PageThere d st durable later id b
there_in_place d st durable later id b disk k some high none told =
    let p = file_page d st durable later id disk k some high in
    (p.0, p.1, subst (λ log. SpellsPage (take PAGE (drop (8192 + 2 * log + PAGE * (id - 1)) b)) p.0) (sym k.memory.layout.log) (k.memory.placed id p.0 b none p.1 told))

pub is_the_page : SpelledOnce → (d : DiskModel) (st : StoreState) (durable : FileState) (later : List FileState) (id : ℕ) (page : Page) → IsDisk d → StoreKeeps d st durable later → 1 ≤ id → id ≤ st.meta.high → is_dirty st id ≡ false
    → IfSome d.told (λ b. SpellsPage (place_bytes st.meta id b) page) → page_of (last_of durable later) id ≡ Some page
is_the_page once d st durable later id page disk k some high none there =
    let b = some_value d.told k.disk.told in
    let p = there_in_place d st durable later id b.0 disk k some high none b.1 in
    let spelled : SpellsPage (place_bytes st.meta id b.0) page = subst (λ (t : Option (List ℕ)). IfSome t (λ l. SpellsPage (place_bytes st.meta id l) page)) b.1 there in
    p.1 ∙ ap Some (once (place_bytes st.meta id b.0) p.0 page p.2 spelled)

-- ---- no page of a sound file is damaged

not_damaged : SpelledOnce → (s : FileState) (id rule : ℕ) (p : Page) (bytes : List ℕ) → IsSound s → page_of s id ≡ Some p → SpellsPage bytes p → IsDamagedBy s.meta bytes rule → ⊥
not_damaged once s id rule p bytes sound there spelled damaged = elim damaged [
  | inl none ↦ none.1 p spelled
  | inr one ↦
      let same : page_of s id ≡ Some (Live one.1) = there ∙ ap Some (once bytes p (Live one.1) spelled one.2) in
      not_broken rule one.1 s.meta one.3 (sound.well_made id one.1 (ap if_live same))
]

pub sound_stop : SpelledOnce → (d : DiskModel) (st : StoreState) (durable : FileState) (later : List FileState) (id : ℕ) (stop : FetchStop) → IsDisk d → StoreKeeps d st durable later → 1 ≤ id → id ≤ st.meta.high → is_dirty st id ≡ false
    → HoldsNot st.meta (option_map (place_bytes st.meta id) d.told) id stop → IsSound (last_of durable later) → stop ≢ fetches.ReadFault → stop ≢ fetches.Crowded → ⊥
sound_stop once d st durable later id stop disk k some high none why sound fault memory =
    let b = some_value d.told k.disk.told in
    let p = there_in_place d st durable later id b.0 disk k some high none b.1 in
    let holds : HoldsNot st.meta (Some (place_bytes st.meta id b.0)) id stop = subst (λ (t : Option (List ℕ)). HoldsNot st.meta (option_map (place_bytes st.meta id) t) id stop) b.1 why in
    by_stop stop holds fault memory p
  where
    by_stop : (stop : FetchStop) → HoldsNot st.meta (Some (place_bytes st.meta id (some_value d.told k.disk.told).0)) id stop → stop ≢ fetches.ReadFault → stop ≢ fetches.Crowded → PageThere d st durable later id (some_value d.told k.disk.told).0 → ⊥
    by_stop (fetches.Damaged at (Rule rule)) holds fault memory p =
        not_damaged once (last_of durable later) id rule p.0 _ sound p.1 p.2 (subst (λ m. IsDamagedBy m (place_bytes st.meta id (some_value d.told k.disk.told).0) rule) (sym k.memory.meta_is) holds.2)
    by_stop (fetches.Damaged at (Level asked found)) holds fault memory p = holds
    by_stop (fetches.Damaged at (Extent asked found)) holds fault memory p = holds
    by_stop fetches.ReadFault holds fault memory p = fault refl
    by_stop fetches.Crowded holds fault memory p = memory refl

-- the number of a page is not that of none
pub page_not_none : (meta : Meta) (id : ℕ) → IsPageOf meta id → IsNoPage meta id → ⊥
page_not_none meta id page (inl none) = absurd (omega (arith, page, none))
page_not_none meta id page (inr beyond) = absurd (omega (arith, page, beyond))

-- a number that is no page's has no page in memory
pub none_there : (st : StoreState) (id : ℕ) → IsMemory st → IsSome (in_memory st id) → IsNoPage st.meta id → ⊥
none_there st id is some none =
    let page = some_value (in_memory st id) some in
    let range = is.good id page.0 page.1 in
    page_not_none st.meta id (range.0, range.1) none

-- ---- a page that was read and held is the file's

pub read_keeps : SpelledOnce → (d e : DiskModel) → IsDisk d → (st new : StoreState) (uses : List Use) (id : ℕ) (bytes : List ℕ) → IsTied st uses → in_memory st id ≡ None → IsPageOf st.meta id → Stays d e → Fetched id st new
    → in_memory new id ≡ page_of_bytes bytes → IsSomeAnd (page_of_bytes bytes) (λ page. SpellsPage bytes page × IsGoodPage st.meta page) → IfSome d.told (λ b. bytes ≡ place_bytes st.meta id b)
    → (durable : FileState) (later : List FileState) → StoreKeeps d st durable later → StoreKeeps e new durable later
read_keeps once d e disk st new uses id bytes tied none at stays fetched there good read durable later k =
    keeps_fetched e st new durable later id fetched
    (λ page is. is_the_page once d st durable later id page disk k at.0 at.1 (clean_outside st uses id tied none) (spelled_there d.told bytes (place_bytes st.meta id) page (at_some_and (page_of_bytes bytes) (λ page. SpellsPage bytes page × IsGoodPage st.meta page) page (sym there ∙ is) good).0 read))
    (keeps_read d e st durable later stays k)

-- no page of a sound file that isn't in memory stops a fetch but for a fault, or want of a place
pub sound_stops : {X : Type 0} (r : Result X FetchStop) → SpelledOnce → (d : DiskModel) (st : StoreState) (uses : List Use) (durable : FileState) (later : List FileState) (id : ℕ) → IsDisk d → StoreKeeps d st durable later → 1 ≤ id → id ≤ st.meta.high
    → IsTied st uses → in_memory st id ≡ None → IfErr r (HoldsNot st.meta (option_map (place_bytes st.meta id) d.told) id) → IsSound (last_of durable later)
    → IfErr r (λ stop. (stop ≢ fetches.ReadFault) → (stop ≢ fetches.Crowded) → IsNoPage st.meta id)
sound_stops (Ok x) once d st uses durable later id disk k some high tied none why sound = tt
sound_stops (Err stop) once d st uses durable later id disk k some high tied none why sound = λ fault crowded. absurd (sound_stop once d st durable later id stop disk k some high (clean_outside st uses id tied none) why sound fault crowded)
