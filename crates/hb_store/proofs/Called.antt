-- What a store has in memory, and what is seen of it, once a call changed its frames.
use Rattle.std.proofs.Common.{◌≡◌, ◌≢◌, ℕ, ◌<◌, ◌==◌, Bool, true, false, not, List, map, Option, Some, None, IsTrue, refl, sym, ap, subst, ◌∙◌, arith}
use Rattle.std.specs.Prelude.{◌&&◌, IfSome, IsSome, IsSomeAnd, MatchOption}
use denote.Bor.{Bor}
use Rattle.std.specs.Option.{is_some, option_copied, option_map}
use Rattle.std.specs.Ordering.{nat_cmp}
use Rattle.std.specs.FinSet as set
use Rattle.std.proofs.lemmas.Bool.{and_parts}
use Rattle.hb_lemmas.proofs.Options.{has_value, some_and_at}
use Rattle.hb_frag.specs.declared.pages.Page.{Page}
use Rattle.hb_frag.specs.Grammar.{SpellsPage}
use Rattle.hb_page_codec.specs.ReadingPages.{page_of_bytes}
use Rattle.hb_page_codec.proofs.Facts.PageLaws.{page_again}
use Rattle.hb_view.specs.Spelled.{page_spelled}
use Rattle.hb_layout.specs.declared.meta.Meta.{Meta}
use Rattle.hb_wal.specs.Log.{LogState}
use Rattle.hb_pool.specs.Frames.{Frame, Use, clean, pinned, unpinned, use_of}
use Rattle.hb_pool.specs.Pools.{IsPool, frame_of, in_place, put_last}
use Rattle.hb_pool.proofs.Facts.Others.{last_changed, last_no_other, place_changed, place_no_other}
use Rattle.hb_pool.proofs.Facts.Pooled.{frame_pins, in_place_pool, put_last_pool}
use Rattle.hb_pool.proofs.Facts.Told.{last_told, place_told}
use Rattle.hb_store.specs.Filling.{in_frame}
use Rattle.hb_store.specs.Held.{cleaned_held, cleaned_state}
use Rattle.hb_store.specs.Inside.{AreSpelled}
use Rattle.hb_store.specs.States.{IsMemory, StoreState, is_dirty, is_in_log}
use Rattle.hb_store.proofs.Framed.{frame_and, held_of, mark_of, mark_seen}
use Rattle.hb_store.proofs.Remembered.{changed_marks, changed_pages, changed_spelled, cleaned_marks, good_there, memory_over, seen, seen_cleaned, seen_same}

-- what is said of the use of a page's frame is said of the frame
pub frame_pinned : (pool : List (Frame (List ℕ))) (id : ℕ) → IsSomeAnd (frame_of (map use_of pool) id) (λ (u : Use). u.pins < 255) → IsSomeAnd (frame_of pool id) (λ (f : Frame (List ℕ)). f.pins < 255)
frame_pinned pool id there = let f = frame_and pool id (λ (u : Use). u.pins < 255) there in some_and_at (frame_of pool id) (λ (f : Frame (List ℕ)). f.pins < 255) f.0 f.1 f.2

pub frame_unpinned : (pool : List (Frame (List ℕ))) (id : ℕ) → IsSomeAnd (frame_of (map use_of pool) id) (λ (u : Use). 0 < u.pins) → IsSomeAnd (frame_of pool id) (λ (f : Frame (List ℕ)). 0 < f.pins)
frame_unpinned pool id there = let f = frame_and pool id (λ (u : Use). 0 < u.pins) there in some_and_at (frame_of pool id) (λ (f : Frame (List ℕ)). 0 < f.pins) f.0 f.1 f.2

marked_there : (o : Option (Frame (List ℕ))) → mark_of o ≡ true → (f : Frame (List ℕ)) × (o ≡ Some f) × (f.dirty ≡ true)
marked_there None on = cc on
marked_there (Some f) on = (f, refl, on)

marked_so : (o : Option (Frame (List ℕ))) → IsSomeAnd o (λ (f : Frame (List ℕ)). IsTrue f.dirty) → mark_of o ≡ true
marked_so None h = absurd h
marked_so (Some f) h = h

-- what is kept of frames
pub record IsKept (st : StoreState) (frames : List (Frame (List ℕ))) : Type 0 where
  pub memory : IsMemory st
  pub framed : IsPool frames
  pub spelled : AreSpelled frames

module _ (turn : ℕ) (meta : Meta) (log : LogState) (s : set.FinSet nat_cmp) (stopped : Bool) (pool : List (Frame (List ℕ))) where
  abbrev Kept : List (Frame (List ℕ)) → Type 0
  Kept new = IsKept (seen turn meta log s stopped new) new

  module _ (mem : IsMemory (seen turn meta log s stopped pool)) (is : IsPool pool) (each : AreSpelled pool) (id : ℕ) where
    pub dirty_frame : IsTrue (is_dirty (seen turn meta log s stopped pool) id) → IsSomeAnd (frame_of pool id) (λ (f : Frame (List ℕ)). IsTrue f.dirty)
    dirty_frame on = let f = marked_there (frame_of pool id) (sym (mark_seen pool id is) ∙ on) in some_and_at (frame_of pool id) (λ (f : Frame (List ℕ)). IsTrue f.dirty) f.0 f.1 f.2

    pub frame_dirty : IsSomeAnd (frame_of pool id) (λ (f : Frame (List ℕ)). IsTrue f.dirty) → IsTrue (is_dirty (seen turn meta log s stopped pool) id)
    frame_dirty there = mark_seen pool id is ∙ marked_so (frame_of pool id) there

    -- a pin more
    pinned_pool : IsSomeAnd (frame_of (map use_of pool) id) (λ (u : Use). u.pins < 255) → IsPool (put_last id pinned pool)
    pinned_pool there = let f = frame_and pool id (λ (u : Use). u.pins < 255) there in put_last_pool pool id pinned f.0 is f.1 refl (let few = f.2 in omega (arith, few))

    abbrev last : List (Frame (List ℕ))
    last = put_last id pinned pool

    last_at : frame_of last id ≡ option_map pinned (frame_of pool id)
    last_at = last_changed pool id pinned is (λ f. refl)

    last_off : (q : ℕ) → q ≢ id → frame_of last q ≡ frame_of pool q
    last_off q other = last_no_other pool id q pinned other (λ f. refl)

    pin_seen : IsPool last → seen turn meta log s stopped last ≡ seen turn meta log s stopped pool
    pin_seen now = seen_same turn meta log s stopped pool last is now (changed_pages pool last id pinned last_at last_off (λ f. refl)) (changed_marks pool last id pinned last_at last_off (λ f. refl) (λ f. refl))

    pub pin_same : (new : List (Frame (List ℕ))) → new ≡ last → IsSomeAnd (frame_of (map use_of pool) id) (λ (u : Use). u.pins < 255) → seen turn meta log s stopped new ≡ seen turn meta log s stopped pool
    pin_same new e there = ap (seen turn meta log s stopped) e ∙ pin_seen (pinned_pool there)

    pub pin_keeps : (new : List (Frame (List ℕ))) → new ≡ last → IsSomeAnd (frame_of (map use_of pool) id) (λ (u : Use). u.pins < 255) → IsKept (seen turn meta log s stopped new) new
    pin_keeps new e there = subst Kept (sym e) (record {
      memory = subst IsMemory (sym (pin_seen (pinned_pool there))) mem;
      framed = pinned_pool there;
      spelled = changed_spelled pool last id pinned last_at last_off (λ f. refl) each;
    })

    pub pin_uses : (new : List (Frame (List ℕ))) → new ≡ last → map use_of new ≡ put_last id pinned (map use_of pool)
    pin_uses new e = ap (map use_of) e ∙ last_told pool id pinned pinned (λ f. refl)

    -- a pin less
    unpinned_pool : IsSomeAnd (frame_of (map use_of pool) id) (λ (u : Use). 0 < u.pins) → IsPool (in_place id unpinned pool)
    unpinned_pool there =
        let f = frame_and pool id (λ (u : Use). 0 < u.pins) there in
        let few = frame_pins pool id f.0 is f.1 in
        in_place_pool pool id unpinned f.0 is f.1 refl (omega (arith, few))

    abbrev less : List (Frame (List ℕ))
    less = in_place id unpinned pool

    less_at : frame_of less id ≡ option_map unpinned (frame_of pool id)
    less_at = place_changed pool id unpinned is (λ f. refl)

    less_off : (q : ℕ) → q ≢ id → frame_of less q ≡ frame_of pool q
    less_off q other = place_no_other pool id q unpinned other (λ f. refl)

    unpin_seen : IsPool less → seen turn meta log s stopped less ≡ seen turn meta log s stopped pool
    unpin_seen now = seen_same turn meta log s stopped pool less is now (changed_pages pool less id unpinned less_at less_off (λ f. refl)) (changed_marks pool less id unpinned less_at less_off (λ f. refl) (λ f. refl))

    pub unpin_same : (new : List (Frame (List ℕ))) → new ≡ less → IsSomeAnd (frame_of (map use_of pool) id) (λ (u : Use). 0 < u.pins) → seen turn meta log s stopped new ≡ seen turn meta log s stopped pool
    unpin_same new e there = ap (seen turn meta log s stopped) e ∙ unpin_seen (unpinned_pool there)

    pub unpin_keeps : (new : List (Frame (List ℕ))) → new ≡ less → IsSomeAnd (frame_of (map use_of pool) id) (λ (u : Use). 0 < u.pins) → IsKept (seen turn meta log s stopped new) new
    unpin_keeps new e there = subst Kept (sym e) (record {
      memory = subst IsMemory (sym (unpin_seen (unpinned_pool there))) mem;
      framed = unpinned_pool there;
      spelled = changed_spelled pool less id unpinned less_at less_off (λ f. refl) each;
    })

    pub unpin_uses : (new : List (Frame (List ℕ))) → new ≡ less → map use_of new ≡ in_place id unpinned (map use_of pool)
    unpin_uses new e = ap (map use_of) e ∙ place_told pool id unpinned unpinned (λ f. refl)

    -- no longer dirty
    cleaned_pool : IsTrue (is_dirty (seen turn meta log s stopped pool) id) → IsPool (in_place id clean pool)
    cleaned_pool on =
        let f = marked_there (frame_of pool id) (sym (mark_seen pool id is) ∙ on) in
        in_place_pool pool id clean f.0 is f.1 refl (frame_pins pool id f.0 is f.1)

    abbrev whole : List (Frame (List ℕ))
    whole = in_place id clean pool

    whole_at : frame_of whole id ≡ option_map clean (frame_of pool id)
    whole_at = place_changed pool id clean is (λ f. refl)

    whole_off : (q : ℕ) → q ≢ id → frame_of whole q ≡ frame_of pool q
    whole_off q other = place_no_other pool id q clean other (λ f. refl)

    whole_marks : (q : ℕ) → mark_of (frame_of whole q) ≡ (not (q == id) && mark_of (frame_of pool q))
    whole_marks = cleaned_marks pool whole id clean whole_at whole_off (λ f. refl) (λ f. refl)

    clean_seen : IsPool whole → seen turn meta log s stopped whole ≡ cleaned_state id (seen turn meta log s stopped pool)
    clean_seen now = seen_cleaned turn meta log s stopped pool whole id is now (changed_pages pool whole id clean whole_at whole_off (λ f. refl)) whole_marks

    pub clean_same : (new : List (Frame (List ℕ))) → new ≡ whole → IsTrue (is_dirty (seen turn meta log s stopped pool) id) → held_of turn meta log new s stopped ≡ cleaned_held id (held_of turn meta log pool s stopped)
    clean_same new e on =
        let state = ap (seen turn meta log s stopped) e ∙ clean_seen (cleaned_pool on) in
        let uses = ap (map use_of) e ∙ place_told pool id clean clean (λ f. refl) in
        λ i. record { state = state i; uses = uses i }

    pub clean_keeps : (new : List (Frame (List ℕ))) → new ≡ whole → IsTrue (is_dirty (seen turn meta log s stopped pool) id) → IsKept (seen turn meta log s stopped new) new
    clean_keeps new e on = subst Kept (sym e) (record {
      memory = memory_over turn meta log s stopped pool mem whole is (cleaned_pool on)
          (λ q page there. good_there turn meta log s stopped pool mem q page (sym (changed_pages pool whole id clean whole_at whole_off (λ f. refl) q) ∙ there))
          (λ q marked. (and_parts (not (q == id)) (mark_of (frame_of pool q)) (sym (whole_marks q) ∙ marked)).1);
      framed = cleaned_pool on;
      spelled = changed_spelled pool whole id clean whole_at whole_off (λ f. refl) each;
    })

-- ---- what a look-up lends

-- the bytes of a page's frame spell it
pub lent_some : (pool : List (Frame (List ℕ))) (id : ℕ) (bytes : List ℕ) → AreSpelled pool → Some bytes ≡ option_map (λ (f : Frame (List ℕ)). f.bytes) (frame_of pool id) → SpellsPage bytes (page_spelled bytes) × (in_frame pool id ≡ Some (page_spelled bytes))
lent_some pool id bytes each lent = by (frame_of pool id) refl lent
  where
    by : (o : Option (Frame (List ℕ))) → frame_of pool id ≡ o → Some bytes ≡ option_map (λ (f : Frame (List ℕ)). f.bytes) o → SpellsPage bytes (page_spelled bytes) × (in_frame pool id ≡ Some (page_spelled bytes))
    by None is e = cc e
    by (Some f) is e =
        let same : f.bytes ≡ bytes = cc in
        let Q : Option (Frame (List ℕ)) → Type 0 = λ o. IfSome o (λ f. SpellsPage f.bytes (page_spelled f.bytes)) in
        let spells : SpellsPage f.bytes (page_spelled f.bytes) = subst Q is (each id) in
        (subst (λ (b : List ℕ). SpellsPage b (page_spelled b)) same spells, ap (option_map (λ (f : Frame (List ℕ)). page_spelled f.bytes)) is ∙ ap (λ (b : List ℕ). Some (page_spelled b)) same)

pub lent_none : (pool : List (Frame (List ℕ))) (id : ℕ) → None ≡ option_map (λ (f : Frame (List ℕ)). f.bytes) (frame_of pool id) → in_frame pool id ≡ None
lent_none pool id lent = by (frame_of pool id) refl lent
  where
    by : (o : Option (Frame (List ℕ))) → frame_of pool id ≡ o → None ≡ option_map (λ (f : Frame (List ℕ)). f.bytes) o → in_frame pool id ≡ None
    by None is e = ap (option_map (λ (f : Frame (List ℕ)). page_spelled f.bytes)) is
    by (Some f) is e = cc e

-- bytes that spell a page are read as one
pub is_read : (bytes : List ℕ) → SpellsPage bytes (page_spelled bytes) → IsSome (page_of_bytes bytes)
is_read bytes spells = has_value (page_of_bytes bytes) (page_spelled bytes) (page_again bytes (page_spelled bytes) spells)

-- the bytes of a page in memory
pub lent_bytes : (r : Option (Bor (List ℕ))) (pool : List (Frame (List ℕ))) (id : ℕ) (m : Option Page) → AreSpelled pool → option_copied r ≡ option_map (λ (f : Frame (List ℕ)). f.bytes) (frame_of pool id) → m ≡ in_frame pool id
    → MatchOption r (m ≡ None) (λ bytes. (page : Page) × (m ≡ Some page) × SpellsPage bytes.now page)
lent_bytes None pool id m each lent is = is ∙ lent_none pool id lent
lent_bytes (Some b) pool id m each lent is = let l = lent_some pool id b.now each lent in (page_spelled b.now, is ∙ l.1, l.0)

-- the oldest dirty page is dirty, and in the log
pub oldest_dirty_there : (r : Option ℕ) (st : StoreState) (pool : List (Frame (List ℕ))) → IsMemory st → ((id : ℕ) → IsSomeAnd (frame_of pool id) (λ (f : Frame (List ℕ)). IsTrue f.dirty) → IsTrue (is_dirty st id))
    → IfSome r (λ id. IsSomeAnd (frame_of pool id) (λ (f : Frame (List ℕ)). IsTrue f.dirty)) → IfSome r (λ id. IsTrue (is_dirty st id) × IsTrue (is_in_log st id))
oldest_dirty_there None st pool mem dirty there = tt
oldest_dirty_there (Some id) st pool mem dirty there = (dirty id there, mem.logged id (dirty id there))

-- whether a page has a frame, by what a look-up lends
pub frame_some : (r : Option (Bor (List ℕ))) (pool : List (Frame (List ℕ))) (id : ℕ) → option_copied r ≡ option_map (λ (f : Frame (List ℕ)). f.bytes) (frame_of pool id) → is_some r ≡ true → IsSome (frame_of pool id)
frame_some r pool id lent some = by r (frame_of pool id) lent some
  where
    by : (r : Option (Bor (List ℕ))) (o : Option (Frame (List ℕ))) → option_copied r ≡ option_map (λ (f : Frame (List ℕ)). f.bytes) o → is_some r ≡ true → IsSome o
    by None o e s = cc s
    by (Some b) None e s = cc e
    by (Some b) (Some f) e s = refl

pub frame_none : (r : Option (Bor (List ℕ))) (pool : List (Frame (List ℕ))) (id : ℕ) → option_copied r ≡ option_map (λ (f : Frame (List ℕ)). f.bytes) (frame_of pool id) → is_some r ≡ false → frame_of pool id ≡ None
frame_none r pool id lent none = by r (frame_of pool id) lent none
  where
    by : (r : Option (Bor (List ℕ))) (o : Option (Frame (List ℕ))) → option_copied r ≡ option_map (λ (f : Frame (List ℕ)). f.bytes) o → is_some r ≡ false → o ≡ None
    by (Some b) o e s = cc s
    by None None e s = refl
    by None (Some f) e s = cc e
