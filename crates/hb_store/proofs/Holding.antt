-- A page that a fetch holds, from what is known of the store before.
use Rattle.std.proofs.Common.{◌≡◌, ℕ, ◌<◌, Bool, false, List, Some, None, sym, subst, ap, ◌∙◌}
use Rattle.std.specs.Prelude.{IsSomeAnd}
use Rattle.std.specs.Ordering.{nat_cmp}
use Rattle.std.specs.FinSet as set
use Rattle.hb_lemmas.proofs.Options.{value_and}
use Rattle.hb_frag.specs.declared.pages.Page.{Page}
use Rattle.hb_frag.specs.Grammar.{SpellsPage}
use Rattle.hb_layout.specs.declared.meta.Meta.{Meta}
use Rattle.hb_wal.specs.Log.{LogState}
use Rattle.hb_page_codec.specs.ReadingPages.{page_of_bytes}
use Rattle.hb_pool.specs.Frames.{Frame}
use Rattle.hb_pool.specs.Pools.{IsPool, brought, frame_of, places}
use Rattle.hb_pool.proofs.Facts.Told.{brought_told, frames_told}
use Rattle.hb_view.specs.Spelled.{page_or}
use Rattle.hb_store.specs.Calls.{Fetched, StaysHere}
use Rattle.hb_store.specs.Held.{StoreHeld}
use Rattle.hb_store.specs.Inside.{AreSpelled}
use Rattle.hb_store.specs.Replaying.{IsPageOf}
use Rattle.hb_store.specs.States.{IsGoodPage, IsMemory, in_memory}
use Rattle.hb_store.proofs.Called.{IsKept}
use Rattle.hb_store.proofs.Filled.{is_pool, spelled}
use Rattle.hb_store.proofs.Framed.{held_of, none_framed, page_seen}
use Rattle.hb_store.proofs.Remembered.{fetched_then, memory_then, seen, stays_then, there_then}

-- what a store is then
pub record Holds (id : ℕ) (bytes : List ℕ) (old new : StoreHeld) : Type 0 where
  pub fetched : Fetched id old.state new.state
  pub there : in_memory new.state id ≡ page_of_bytes bytes
  pub stays : (q : ℕ) → StaysHere old.uses q → in_memory new.state q ≡ in_memory old.state q
  pub uses : new.uses ≡ brought id (tt {0}) false old.uses

good_value : (meta : Meta) (bytes : List ℕ) → IsSomeAnd (page_of_bytes bytes) (λ page. SpellsPage bytes page × IsGoodPage meta page) → (page : Page) × (page_of_bytes bytes ≡ Some page) × SpellsPage bytes page × IsGoodPage meta page
good_value meta bytes good = let v = value_and (page_of_bytes bytes) (λ page. SpellsPage bytes page × IsGoodPage meta page) good in (v.0, v.1, v.2.0, v.2.1)

module _ (turn : ℕ) (meta : Meta) (log : LogState) (s : set.FinSet nat_cmp) (stopped : Bool) (pool new : List (Frame (List ℕ))) (old : StoreHeld) (id : ℕ) (bytes : List ℕ) (view : held_of turn meta log pool s stopped ≡ old)
    (mem : IsMemory (seen turn meta log s stopped pool)) (is : IsPool pool) (each : AreSpelled pool) (e : new ≡ brought id bytes false pool)
    (absent : in_memory old.state id ≡ None) (place : 0 < places old.uses) (at : IsPageOf old.state.meta id) (good : IsSomeAnd (page_of_bytes bytes) (λ page. SpellsPage bytes page × IsGoodPage old.state.meta page)) where
  pub absent_frame : frame_of pool id ≡ None
  absent_frame = none_framed pool id (sym (page_seen pool id) ∙ ap (λ (h : StoreHeld). in_memory h.state id) view ∙ absent)

  pub place_there : 0 < places pool
  place_there = subst (λ (n : ℕ). 0 < n) ((frames_told pool).1) (subst (λ (h : StoreHeld). 0 < places h.uses) (sym view) place)

  value : (page : Page) × (page_of_bytes bytes ≡ Some page) × SpellsPage bytes page × IsGoodPage meta page
  value = good_value meta bytes (subst (λ (h : StoreHeld). IsSomeAnd (page_of_bytes bytes) (λ page. SpellsPage bytes page × IsGoodPage h.state.meta page)) (sym view) good)

  pub hold_keeps : IsKept (seen turn meta log s stopped new) new
  hold_keeps = subst (λ (l : List (Frame (List ℕ))). IsKept (seen turn meta log s stopped l) l) (sym e) (record {
    memory = memory_then turn meta log s stopped pool id bytes is absent_frame place_there mem (subst (λ (h : StoreHeld). IsPageOf h.state.meta id) (sym view) at) value.0 value.1 value.3;
    framed = is_pool pool id bytes false is absent_frame place_there;
    spelled = spelled pool id bytes false is absent_frame place_there each (subst (λ (p : Page). SpellsPage bytes p) (sym (ap page_or value.1)) value.2);
  })

  pub holds : Holds id bytes old (held_of turn meta log new s stopped)
  holds =
      let Q : List (Frame (List ℕ)) → Type 0 = λ l. Holds id bytes old (held_of turn meta log l s stopped) in
      let P : StoreHeld → Type 0 = λ h. Holds id bytes h (held_of turn meta log (brought id bytes false pool) s stopped) in
      subst Q (sym e) (subst P view (record {
        fetched = fetched_then turn meta log s stopped pool id bytes is absent_frame place_there;
        there = there_then turn meta log s stopped pool id bytes is absent_frame place_there value.0 value.1;
        stays = stays_then turn meta log s stopped pool id bytes is absent_frame place_there;
        uses = brought_told pool id bytes false;
      }))
