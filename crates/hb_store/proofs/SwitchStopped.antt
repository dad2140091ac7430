-- A fault while a store begins its next turn: it is stopped, and keeps its file.
use Rattle.std.proofs.Common.{◌≡◌, ◌⊎◌, inl, inr, ℕ, ◌+◌, ◌*◌, ◌-◌, ◌%◌, ◌≤◌, take, drop, true, false, List, [], Option, Some, None, refl, sym, ap, subst, ◌∙◌, arith}
use Rattle.std.proofs.lemmas.Option.{same_Some}
use Rattle.hb_lemmas.proofs.Options.{at_value, some_value}
use Rattle.hb_disk.specs.Model.{DiskModel}
use Rattle.hb_disk.specs.Calls.{Apart, Becomes, IsSynced}
use Rattle.hb_disk.proofs.Facts.TornLaws.{Torn-elsewhere}
use Rattle.hb_layout.specs.Offsets.{log_start, slot_offset}
use Rattle.hb_layout.specs.declared.meta.Meta.{Meta}
use Rattle.hb_super.specs.Superblocks.{next_turn}
use Rattle.hb_disk.proofs.Facts.RewriteLaws.{Becomes-tells}
use Rattle.hb_frag.specs.declared.pages.Page.{Page}
use Rattle.hb_frag.specs.Grammar.{SpellsPage}
use Rattle.hb_ops.specs.Files.{FileState}
use Rattle.hb_store.specs.Forced.{stopped_state}
use Rattle.hb_store.specs.Keeps.{StoreKeeps}
use Rattle.hb_store.specs.Opening.{IsPageIn, OpensBy, Shows, log_bytes, place_bytes}
use Rattle.hb_store.specs.Parts.{Parts, written_pages}
use Rattle.hb_store.specs.States.{IsMemory, StoreState}
use Rattle.hb_store.specs.Switching.{TornSwitch}
use Rattle.hb_store.specs.Turning.{OpensByEither}
use Rattle.hb_store.proofs.Facts.ReplayLaws.{opens_elsewhere}
use Rattle.hb_store.proofs.Facts.StoreLaws.{StoreKeeps-by}
use Rattle.hb_space.specs.declared.form.TheConstants.{PAGE}
use Rattle.hb_store.proofs.Facts.Turned.{Areas, areas, parities}

-- a part that neither the area nor the place meets reads as it did
pub switch_elsewhere : (turn : ℕ) (meta : Meta) (b c : List ℕ) → TornSwitch turn meta b c → (from m : ℕ) → Apart from m (log_start (next_turn turn) meta) meta.log → Apart from m (slot_offset (next_turn turn)) 41
    → take m (drop from c) ≡ take m (drop from b)
switch_elsewhere turn meta b c torn from m area place =
    Torn-elsewhere (slot_offset (next_turn turn)) 41 from m torn.between c place torn.place
    ∙ Torn-elsewhere (log_start (next_turn turn) meta) meta.log from m b torn.between area torn.area

-- and stays synced
pub switch_synced : (turn : ℕ) (meta : Meta) (d e : DiskModel) → Becomes (TornSwitch turn meta) d e → (b : List ℕ) → d.told ≡ Some b → (from m : ℕ) → Apart from m (log_start (next_turn turn) meta) meta.log → Apart from m (slot_offset (next_turn turn)) 41
    → IsSynced d from m → IsSynced e from m
switch_synced turn meta d e run b told from m area place synced = record {
  each = λ x c is image.
      let after = at_value d.told (λ b. (c : List ℕ) × (e.told ≡ Some c) × TornSwitch turn meta b c) b told run.told in
      let was = run.crash c image in
      switch_elsewhere turn meta was.0 c was.2 from m area place
      ∙ synced.each b was.0 told was.1
      ∙ sym (switch_elsewhere turn meta b after.0 after.2 from m area place)
      ∙ ap (λ (l : List ℕ). take m (drop from l)) (same_Some after.0 x (sym after.1 ∙ is));
}

module _ (d e : DiskModel) (st : StoreState) (is : IsMemory st) (going : st.stopped ≡ false) (durable : FileState) (keeps : StoreKeeps d st durable []) (run : Becomes (TornSwitch st.turn st.meta) d e) where
  abbrev p : Parts
  p = keeps.parts

  lies : Areas st.turn (next_turn st.turn) st.meta
  lies = areas st.turn (next_turn st.turn) st.meta is.stands.turn_fits refl

  place_kept : (b c : List ℕ) → TornSwitch st.turn st.meta b c → (id : ℕ) → place_bytes p.said id c ≡ place_bytes p.said id b
  place_kept b c torn id =
      let h = lies.next_high in
      let l = lies.place in
      let log = keeps.memory.layout.log in
      switch_elsewhere st.turn st.meta b c torn (8192 + 2 * p.said.log + 4096 * (id - 1)) 4096 (inr (omega (arith, h, log))) (inr (omega (arith, l)))

  log_kept : (b c : List ℕ) → TornSwitch st.turn st.meta b c → log_bytes st.turn p.said c ≡ log_bytes st.turn p.said b
  log_kept b c torn =
      let l = lies.place in
      let w = lies.low in
      let L : ℕ → Type 0 = λ n. take n (drop (8192 + (st.turn % 2) * n) c) ≡ take n (drop (8192 + (st.turn % 2) * n) b) in
      subst L keeps.memory.layout.log (switch_elsewhere st.turn st.meta b c torn (log_start st.turn st.meta) st.meta.log lies.apart (inr (omega (arith, l, w))))

  -- each image opens as it did, or by the next turn's superblock
  pub images_then : ((c : List ℕ) → e.Image c → OpensByEither st.turn p.said st.meta (written_pages p).page durable c) → (c : List ℕ) → e.Image c
      → OpensBy c st.turn p.said p.payloads p.written durable ⊎ OpensBy c (next_turn st.turn) durable.meta [] [] durable
  images_then left c image =
      let was = run.crash c image in
      elim (left c image) [
        | inl still ↦ inl (opens_elsewhere was.0 c st.turn p.said p.payloads p.written durable (StoreKeeps-by d st durable [] keeps going was.0 was.1) still.by.newest (was.2.place.as_long ∙ was.2.area.as_long)
            (log_kept was.0 c was.2) (λ id page has none. place_kept was.0 c was.2 id))
        | inr next ↦ let M : Meta → Type 0 = λ m. OpensBy c (next_turn st.turn) m [] [] durable in inr (subst M (sym keeps.memory.meta_is) next)
      ]

  same_place : (b c : List ℕ) → TornSwitch st.turn st.meta b c → (id : ℕ) (page : Page) (o : Option Page) → IsPageIn b p.said id o page → IsPageIn c p.said id o page
  same_place b c torn id page None there = let S : List ℕ → Type 0 = λ l. SpellsPage l page in subst S (sym (place_kept b c torn id)) there
  same_place b c torn id page (Some touched) there = there

  shows_then : (c : List ℕ) → e.Image c → Shows c p.said (written_pages p) durable
  shows_then c image =
      let was = run.crash c image in
      let shown = keeps.disk.shows was.0 was.1 in
      record { meta = shown.meta; count = shown.count; each = λ id page has. same_place was.0 c was.2 id page ((written_pages p).page id) (shown.each id page has) }

  slot_apart : Apart (slot_offset st.turn) PAGE (slot_offset (next_turn st.turn)) 41
  slot_apart = elim (parities st.turn is.stands.turn_fits) [
    | inl even ↦ inl (omega (arith, even.0, even.1))
    | inr odd ↦ inr (omega (arith, odd.0, odd.1))
  ]

  -- the store is stopped, and keeps its file
  pub keeps_not_switched : ((c : List ℕ) → e.Image c → OpensByEither st.turn p.said st.meta (written_pages p).page durable c) → st.log.written ≤ st.log.len → StoreKeeps e (stopped_state st) durable []
  keeps_not_switched left fits =
      let b = some_value d.told keeps.disk.told in
      let after = at_value d.told (λ b. (c : List ℕ) × (e.told ≡ Some c) × TornSwitch st.turn st.meta b c) b.0 b.1 run.told in
      let w = lies.low in
      let l = lies.place in
      let n = lies.next_low in
      record {
        parts = p;
        disk = record {
          told = Becomes-tells (TornSwitch st.turn st.meta) d e run keeps.disk.told;
          count = keeps.disk.count;
          images = λ c image. elim (images_then left c image) [ inl still ↦ inl still | inr next ↦ inr (inr (refl, next)) ];
          shows = shows_then;
          running = λ runs. absurd (let never : true ≡ false = runs in cc);
          kept = (
            switch_synced st.turn st.meta d e run b.0 b.1 (slot_offset st.turn) PAGE (inl (omega (arith, n))) slot_apart keeps.disk.kept.0,
            switch_synced st.turn st.meta d e run b.0 b.1 st.log.area st.log.written
                (elim lies.apart [ inl one ↦ inl (let a = is.area in let k = is.len in omega (arith, one, a, k, fits)) | inr two ↦ inr (let a = is.area in omega (arith, two, a)) ])
                (inr (let a = is.area in omega (arith, l, w, a))) keeps.disk.kept.1,
          );
        };
        waits = keeps.waits;
        in_log = record {
          touched = keeps.in_log.touched;
          synced = λ id page out has c image.
              let was = run.crash c image in
              let S : List ℕ → Type 0 = λ l. SpellsPage l page in
              subst S (sym (place_kept was.0 c was.2 id)) (keeps.in_log.synced id page out has was.0 was.1);
        };
        memory = record {
          layout = keeps.memory.layout;
          meta_is = keeps.memory.meta_is;
          cached = keeps.memory.cached;
          placed = λ id page c off has told.
              let S : List ℕ → Type 0 = λ l. SpellsPage l page in
              let Q : List ℕ → Type 0 = λ l. SpellsPage (place_bytes p.said id l) page in
              subst Q (same_Some after.0 c (sym after.1 ∙ told)) (subst S (sym (place_kept b.0 after.0 after.2 id)) (keeps.memory.placed id page b.0 off has b.1));
        };
      }
