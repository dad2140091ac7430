-- Frames, and the pages and marks that contracts see of them.
use Rattle.std.proofs.Common.{◌≡◌, ℕ, ◌+◌, ◌≤◌, ◌==◌, Bool, true, false, cond, not, List, [], ◌∷◌, map, Option, Some, None, refl, sym, ap, subst, ◌∙◌, arith}
use Rattle.std.specs.Prelude.{nat_eq, ◌||◌, ◌&&◌, IsSomeAnd, filter}
use Rattle.std.specs.Option.{is_some, option_map, option_map_or}
use Rattle.std.specs.List.{count_by, list_any}
use Rattle.std.specs.Map.{lookup}
use Rattle.std.specs.Ordering.{nat_cmp}
use Rattle.std.specs.Cmp.{nat_cmp_total, nat_eq_equiv, unsigned_tied}
use Rattle.std.specs.FinMap as finite
use Rattle.std.specs.FinSet as set
use Rattle.std.proofs.lemmas.List.Sums.{sum_by-cons}
use Rattle.hb_lemmas.proofs.Maps.{get-from_list}
use Rattle.hb_lemmas.proofs.Options.{none_mapped}
use Rattle.hb_frag.specs.declared.pages.Page.{Page}
use Rattle.hb_layout.specs.declared.meta.Meta.{Meta}
use Rattle.hb_wal.specs.Log.{LogState}
use Rattle.hb_pool.specs.Frames.{Frame, Use, has_id, use_of}
use Rattle.hb_pool.specs.Pools.{IsPool, frame_of}
use Rattle.hb_pool.proofs.Facts.Behind.{none_found}
use Rattle.hb_pool.proofs.Facts.Told.{frames_told}
use Rattle.hb_view.specs.Spelled.{page_spelled}
use Rattle.hb_store.specs.Filling.{in_frame}
use Rattle.hb_store.specs.Held.{IsTied, StoreHeld}
use Rattle.hb_store.specs.Inside.{dirty_in, pages_in}
use Rattle.hb_store.specs.States.{StoreState}

-- ---- the pages

same_test : (a b : ℕ) → nat_eq a b ≡ (b == a)
same_test a b = nat_eq_equiv.symm a b

looked_up : (frames : List (Frame (List ℕ))) (id : ℕ) → lookup (nat_eq id) (pages_in frames) ≡ in_frame frames id
looked_up [] id = refl
looked_up (f ∷ fs) id =
    ap (λ (b : Bool). cond b (Some (page_spelled f.bytes)) (lookup (nat_eq id) (pages_in fs))) (same_test id f.id)
    ∙ elim (has_id id f) as (λ b. cond b (Some (page_spelled f.bytes)) (lookup (nat_eq id) (pages_in fs)) ≡ option_map (λ (g : Frame (List ℕ)). page_spelled g.bytes) (cond b (Some f) (frame_of fs id))) [
      | true ↦ refl
      | false ↦ looked_up fs id
    ]

-- the page in memory is the one that its frame has
pub page_seen : (frames : List (Frame (List ℕ))) (id : ℕ) → finite.get (finite.from_entries {R = nat_cmp} (pages_in frames)) id ≡ in_frame frames id
page_seen frames id = get-from_list (pages_in frames) id ∙ looked_up frames id

-- ---- the marks

abbrev pub mark_of : Option (Frame (List ℕ)) → Bool
mark_of o = option_map_or (λ (f : Frame (List ℕ)). f.dirty) o false

abbrev IsAny : List ℕ → ℕ → Bool
IsAny ids q = list_any (λ y. nat_eq y q) ids

unmarked : (fs : List (Frame (List ℕ))) (id : ℕ) → frame_of fs id ≡ None → IsAny (dirty_in fs) id ≡ false
unmarked [] id none = refl
unmarked (f ∷ fs) id none =
    elim (has_id id f) as (λ b. has_id id f ≡ b → cond b (Some f) (frame_of fs id) ≡ None → IsAny (dirty_in (f ∷ fs)) id ≡ false) [
      | true ↦ λ _ here. absurd cc
      | false ↦ λ off later. elim f.dirty as (λ d. IsAny (map (λ (g : Frame (List ℕ)). g.id) (cond d (f ∷ filter (λ (g : Frame (List ℕ)). g.dirty) fs) (filter (λ (g : Frame (List ℕ)). g.dirty) fs))) id ≡ false) [
        | true ↦ ap (λ (b : Bool). b || IsAny (dirty_in fs) id) off ∙ unmarked fs id later
        | false ↦ unmarked fs id later
      ]
    ] refl none

marked : (fs : List (Frame (List ℕ))) (id : ℕ) → count_by (has_id id) fs ≤ 1 → IsAny (dirty_in fs) id ≡ mark_of (frame_of fs id)
marked [] id few = refl
marked (f ∷ fs) id few =
    elim (has_id id f) as (λ b. has_id id f ≡ b → cond b 1 0 + count_by (has_id id) fs ≤ 1 → IsAny (dirty_in (f ∷ fs)) id ≡ mark_of (cond b (Some f) (frame_of fs id))) [
      | true ↦ λ on most.
          let none : frame_of fs id ≡ None = none_found (has_id id) fs (omega arith) in
          elim f.dirty as (λ d. IsAny (map (λ (g : Frame (List ℕ)). g.id) (cond d (f ∷ filter (λ (g : Frame (List ℕ)). g.dirty) fs) (filter (λ (g : Frame (List ℕ)). g.dirty) fs))) id ≡ d) [
            | true ↦ ap (λ (b : Bool). b || IsAny (dirty_in fs) id) on
            | false ↦ unmarked fs id none
          ]
      | false ↦ λ off most. elim f.dirty as (λ d. IsAny (map (λ (g : Frame (List ℕ)). g.id) (cond d (f ∷ filter (λ (g : Frame (List ℕ)). g.dirty) fs) (filter (λ (g : Frame (List ℕ)). g.dirty) fs))) id ≡ mark_of (frame_of fs id)) [
        | true ↦ ap (λ (b : Bool). b || IsAny (dirty_in fs) id) off ∙ marked fs id (omega arith)
        | false ↦ marked fs id (omega arith)
      ]
    ] refl (subst (λ n. n ≤ 1) (sum_by-cons (λ (g : Frame (List ℕ)). cond (has_id id g) 1 0) f fs) few)

-- a page is dirty where its frame is
pub mark_seen : (frames : List (Frame (List ℕ))) (id : ℕ) → IsPool frames → set.contains (set.from_list {R = nat_cmp} (dirty_in frames)) id ≡ mark_of (frame_of frames id)
mark_seen frames id pool = set.contains-from_list_nat (dirty_in frames) id ∙ marked frames id (pool.distinct id)

-- ---- frames that answer alike are seen alike

pub same_pages : (old new : List (Frame (List ℕ))) → ((q : ℕ) → in_frame new q ≡ in_frame old q) → finite.from_entries {R = nat_cmp} (pages_in new) ≡ finite.from_entries (pages_in old)
same_pages old new same =
    finite.same_map nat_cmp_total finite.nat_cmp-IsAntisymmetric (finite.from_entries (pages_in new)) (finite.from_entries (pages_in old)) (λ q. page_seen new q ∙ same q ∙ sym (page_seen old q))

pub same_marks : (old new : List (Frame (List ℕ))) → IsPool old → IsPool new → ((q : ℕ) → mark_of (frame_of new q) ≡ mark_of (frame_of old q)) → set.from_list {R = nat_cmp} (dirty_in new) ≡ set.from_list (dirty_in old)
same_marks old new pool now same =
    set.same_set nat_cmp_total set.nat_cmp-IsAntisymmetric (set.from_list (dirty_in new)) (set.from_list (dirty_in old)) (λ q. mark_seen new q now ∙ same q ∙ sym (mark_seen old q pool))

-- and one that isn't dirty any more is taken out
pub less_marks : (old new : List (Frame (List ℕ))) (id : ℕ) → IsPool old → IsPool new → ((q : ℕ) → mark_of (frame_of new q) ≡ (not (q == id) && mark_of (frame_of old q))) → set.from_list {R = nat_cmp} (dirty_in new) ≡ set.remove (set.from_list (dirty_in old)) id
less_marks old new id pool now less =
    set.same_set nat_cmp_total set.nat_cmp-IsAntisymmetric (set.from_list (dirty_in new)) (set.remove (set.from_list (dirty_in old)) id)
    (λ q. mark_seen new q now ∙ less q
    ∙ (λ i. not (sym (unsigned_tied q id) i) && sym (mark_seen old q pool) i)
    ∙ sym (set.contains-remove nat_cmp_total (set.from_list (dirty_in old)) id q))

-- ---- what is held

abbrev pub held_of : ℕ → Meta → LogState → List (Frame (List ℕ)) → set.FinSet nat_cmp → Bool → StoreHeld
held_of turn meta log frames s stopped = record {
  state = record { turn = turn; meta = meta; log = log; pages = finite.from_entries (pages_in frames); in_log = s; dirty = set.from_list (dirty_in frames); stopped = stopped };
  uses = map use_of frames;
}

some_mapped : {X Y : Type 0} (f : X → Y) (o : Option X) → is_some (option_map f o) ≡ is_some o
some_mapped f None = refl
some_mapped f (Some x) = refl

mark_told : (o : Option (Frame (List ℕ))) → option_map_or (λ (u : Use). u.dirty) (option_map use_of o) false ≡ mark_of o
mark_told None = refl
mark_told (Some f) = refl

-- frames are tied to the pages and the marks that are seen of them
pub tied : (frames : List (Frame (List ℕ))) (st : StoreState) → IsPool frames → st.pages ≡ finite.from_entries (pages_in frames) → st.dirty ≡ set.from_list (dirty_in frames) → IsTied st (map use_of frames)
tied frames st pool pages dirty =
    let told = frames_told frames in
    record {
      pool = told.3 pool;
      there = λ id.
          ap (λ (m : finite.FinMap nat_cmp Page). is_some (finite.get m id)) pages ∙ ap (λ (o : Option Page). is_some o) (page_seen frames id)
          ∙ some_mapped (λ (f : Frame (List ℕ)). page_spelled f.bytes) (frame_of frames id)
          ∙ sym (some_mapped use_of (frame_of frames id)) ∙ ap (λ (o : Option Use). is_some o) (sym (told.0 id));
      marks = λ id.
          ap (λ (s : set.FinSet nat_cmp). set.contains s id) dirty ∙ mark_seen frames id pool
          ∙ sym (mark_told (frame_of frames id)) ∙ ap (λ (o : Option Use). option_map_or (λ (u : Use). u.dirty) o false) (sym (told.0 id));
    }

-- what is said of a page's frame without its bytes is said of the frame
pub frame_and : (frames : List (Frame (List ℕ))) (id : ℕ) (P : Use → Type 0) → IsSomeAnd (frame_of (map use_of frames) id) P → (f : Frame (List ℕ)) × (frame_of frames id ≡ Some f) × P (use_of f)
frame_and frames id P there =
    by (frame_of frames id) refl (let Q : Option Use → Type 0 = λ o. IsSomeAnd o P in subst Q ((frames_told frames).0 id) there)
  where
    by : (o : Option (Frame (List ℕ))) → frame_of frames id ≡ o → IsSomeAnd (option_map use_of o) P → (f : Frame (List ℕ)) × (frame_of frames id ≡ Some f) × P (use_of f)
    by None is h = absurd h
    by (Some f) is h = (f, is, h)

pub none_framed : (frames : List (Frame (List ℕ))) (id : ℕ) → in_frame frames id ≡ None → frame_of frames id ≡ None
none_framed frames id none = none_mapped (λ (f : Frame (List ℕ)). page_spelled f.bytes) (frame_of frames id) none
