-- What a sound file's free chain, and its count of pages in use, say of the page number that is taken next.
use Rattle.std.proofs.Common.{◌≡◌, ◌≢◌, inl, inr, ℕ, List, length, Some, sym, ap, subst, ◌∙◌, arith}
use Rattle.hb_frag.specs.declared.pages.Page.TheVariants.{Free}
use Rattle.hb_ops.specs.Files.{FileState, page_of, last_of}
use Rattle.hb_ops.specs.Sound.{IsSound}
use Rattle.hb_disk.specs.Model.{DiskModel, IsDisk}
use Rattle.hb_layout.specs.declared.meta.Meta.{Meta}
use Rattle.hb_ops.specs.Allocating.{Allocates}
use Rattle.hb_store.specs.States.{IsMemory, StoreState, in_memory}
use Rattle.hb_store.specs.Keeps.{StoreKeeps}
use Rattle.hb_store.specs.Fetching.{MayFetch, IsNoPage}
use Rattle.hb_store.proofs.Counted.{store_count}
use Rattle.hb_store.proofs.Facts.Fetched.{page_not_none}
use Rattle.hb_ops.proofs.Facts.FilePages.{page_in_range, sound_head, sound_room}

-- ---- in a store

module _ (d : DiskModel) (st : StoreState) (durable : FileState) (later : List FileState) (keeps : StoreKeeps d st durable later) where
  -- a free page of its file is one of the file
  pub free_is_page : IsDisk d → (head next : ℕ) → page_of (last_of durable later) head ≡ Some (Free next) → IsNoPage st.meta head → ⊥
  free_is_page disk head next is =
      let s = last_of durable later in
      let range = page_in_range s.pages head (Free next) is in
      let high : length s.pages ≡ st.meta.high = store_count d st durable later disk keeps ∙ ap (λ (m : Meta). m.high) keeps.memory.meta_is in
      page_not_none st.meta head (range.0, omega (arith, range.1, high))

  pub head_free : IsSound (last_of durable later) → st.meta.free ≢ 0 → (next : ℕ) × (page_of (last_of durable later) st.meta.free ≡ Some (Free next))
  head_free sound =
      let s = last_of durable later in
      subst (λ (m : Meta). m.free ≢ 0 → (next : ℕ) × (page_of s m.free ≡ Some (Free next))) keeps.memory.meta_is (sound_head s sound)

  pub room_behind : IsSound (last_of durable later) → st.meta.free ≡ 0 → st.meta.high ≡ st.meta.pages → st.meta.live ≡ st.meta.pages
  room_behind sound =
      let s = last_of durable later in
      subst (λ (m : Meta). m.free ≡ 0 → m.high ≡ m.pages → m.live ≡ m.pages) keeps.memory.meta_is (sound_room s sound)

-- the head of the chain may be taken
pub head_allocates : (old new : StoreState) (next : ℕ) → IsMemory new → MayFetch old.meta.free old new → old.meta.live ≢ old.meta.pages → old.meta.free ≢ 0
    → in_memory new old.meta.free ≡ Some (Free next) → Allocates new.meta old.meta.free next
head_allocates old new next is fetch few some there =
    let same : new.meta ≡ old.meta = elim fetch [ inl e ↦ ap (λ (st : StoreState). st.meta) e | inr f ↦ ap (λ (st : StoreState). st.meta) f.rest ] in
    let few_now : new.meta.live ≢ new.meta.pages = subst (λ (m : Meta). m.live ≢ m.pages) (sym same) few in
    let some_now : new.meta.free ≢ 0 = subst (λ (m : Meta). m.free ≢ 0) (sym same) some in
    let at = is.good old.meta.free (Free next) there in
    record {
      room = omega (arith, is.stands.live, few_now);
      from_chain = λ _. (ap (λ (m : Meta). m.free) (sym same), at.1);
      from_behind = λ none. absurd (some_now none);
    }
