-- The order of use where no page is pinned: a flush of the oldest dirty page makes a place, and a page that comes takes none away.
use Rattle.std.proofs.Common.{◌≡◌, ℕ, ◌+◌, ◌-◌, ◌<◌, ◌==◌, ◌||◌, not, if◌then◌else◌, Bool, true, false, cond, is_some, List, [], ◌∷◌, All, Some, None, refl, ap, ◌∙◌, subst, arith}
use Rattle.std.specs.List.{find, count_by, position_or_len}
use Rattle.std.specs.Set.{remove_key}
use Rattle.std.proofs.lemmas.List.Elements.{All-append}
use Rattle.std.proofs.lemmas.List.Sums.{sum_by-cons}
use Rattle.std.proofs.lemmas.Map.Views.{All-remove_key}
use Rattle.hb_lemmas.proofs.Lists.{All-alone, All-behind, All-front, All-one}
use Rattle.hb_lemmas.proofs.Options.{none_mapped}
use Rattle.hb_pool.proofs.Facts.Firsts.{All-changed, first_there, first_within, none_counted}
use Rattle.hb_pool.proofs.Facts.Pooled.{brought_counts, dirty_stays, in_place_pool, place_counts}
use Rattle.hb_pool.specs.Frames.{Use, clean, fresh, has_id, may_go, must_stay}
use Rattle.hb_pool.specs.Pools.{IsPool, brought, frame_of, in_place, places, with_room}
use Rattle.hb_pool.specs.declared.pools.TheConstants.{FRAMES}
use Rattle.hb_store.proofs.Facts.Oldest.{oldest_frame}
use Rattle.hb_store.specs.Calls.{use_fetched}
use Rattle.hb_store.specs.Held.{oldest_dirty}

abbrev pub AreUnpinned : List Use → Type 0
AreUnpinned uses = All (λ (u : Use). u.pins ≡ 0) uses

-- ---- where none is dirty there are places

counted_dirty : (u : Use) (rest : List Use) → count_by (λ (x : Use). x.dirty) (u ∷ rest) ≡ cond u.dirty 1 0 + count_by (λ (x : Use). x.dirty) rest
counted_dirty u rest = sum_by-cons (λ (x : Use). cond x.dirty 1 0) u rest

counted_staying : (u : Use) (rest : List Use) → count_by must_stay (u ∷ rest) ≡ cond (must_stay u) 1 0 + count_by must_stay rest
counted_staying u rest = sum_by-cons (λ (x : Use). cond (must_stay x) 1 0) u rest

-- a clean page that isn't pinned may go
goes : (u : Use) → u.dirty ≡ false → u.pins ≡ 0 → must_stay u ≡ false
goes u clean free = ap (λ (b : Bool). b || not (u.pins == 0)) clean ∙ ap (λ (n : ℕ). not (n == 0)) free

none_stay : (uses : List Use) → AreUnpinned uses → count_by (λ (u : Use). u.dirty) uses ≡ 0 → count_by must_stay uses ≡ 0
none_stay [] free none = refl
none_stay (u ∷ rest) free none = by u.dirty refl (none_stay rest (All-behind (λ (x : Use). x.pins ≡ 0) (u ∷ []) rest free))
  where
    by : (b : Bool) → u.dirty ≡ b → (count_by (λ (x : Use). x.dirty) rest ≡ 0 → count_by must_stay rest ≡ 0) → count_by must_stay (u ∷ rest) ≡ 0
    by true is later =
        let more = counted_dirty u rest ∙ ap (λ (b : Bool). cond b 1 0 + count_by (λ (x : Use). x.dirty) rest) is in
        absurd (omega (arith, more, none))
    by false is later =
        let more = counted_dirty u rest ∙ ap (λ (b : Bool). cond b 1 0 + count_by (λ (x : Use). x.dirty) rest) is in
        let stays = counted_staying u rest ∙ ap (λ (b : Bool). cond b 1 0 + count_by must_stay rest) (goes u is ((All-one (λ (x : Use). x.pins ≡ 0) u).0 (All-front (λ (x : Use). x.pins ≡ 0) (u ∷ []) rest free))) in
        let few = later (omega (arith, more, none)) in
        omega (arith, stays, few)

no_frames : (n : ℕ) → n ≡ 0 → FRAMES - n ≡ 0 → ⊥
no_frames n none full = omega (arith, none, full)

pub some_dirty : (uses : List Use) → AreUnpinned uses → places uses ≡ 0 → oldest_dirty uses ≡ None → ⊥
some_dirty uses free full none =
    no_frames (count_by must_stay uses) (none_stay uses free (none_counted (λ (u : Use). u.dirty) uses (none_mapped (λ (u : Use). u.id) (find (λ (u : Use). u.dirty) uses) none))) full

-- ---- where the oldest dirty one is written there is one

pub record IsOldest (uses : List Use) (page : ℕ) : Type 0 where
  pub frame : Use
  pub there : frame_of uses page ≡ Some frame
  pub dirty : frame.dirty ≡ true

pub oldest_there : (uses : List Use) (page : ℕ) → IsPool uses → oldest_dirty uses ≡ Some page → IsOldest uses page
oldest_there uses page pool oldest =
    let first = oldest_frame uses pool page oldest in record { frame = first.0; there = first.1; dirty = first.2 }

module _ (uses : List Use) (page : ℕ) (pool : IsPool uses) (free : AreUnpinned uses) (oldest : IsOldest uses page) where
  its_pins : oldest.frame.pins ≡ 0
  its_pins = subst (λ (u : Use). u.pins ≡ 0) (first_there (has_id page) uses oldest.frame oldest.frame oldest.there) (free (position_or_len (has_id page) uses) oldest.frame (first_within (has_id page) uses oldest.frame oldest.there))

  pub cleaned_place : 0 < places (in_place page clean uses)
  cleaned_place =
      let counts = place_counts uses page clean oldest.frame pool oldest.there in
      let stayed = ap (λ (b : Bool). cond {A = ℕ} b 1 0) (dirty_stays oldest.frame oldest.dirty) in
      let left = ap (λ (b : Bool). cond {A = ℕ} b 1 0) (goes (clean oldest.frame) refl its_pins) in
      omega (arith, counts, stayed, left)

  pub cleaned_pool : IsPool (in_place page clean uses)
  cleaned_pool = let pins = its_pins in in_place_pool uses page clean oldest.frame pool oldest.there refl (omega (arith, pins))

  pub cleaned_free : AreUnpinned (in_place page clean uses)
  cleaned_free = All-changed (has_id page) (λ (u : Use). u.pins ≡ 0) clean uses oldest.frame oldest.there free its_pins

-- ---- where a page comes

module _ (uses : List Use) (id : ℕ) where
  brought_free : AreUnpinned uses → AreUnpinned (brought id (tt {0}) false uses)
  brought_free free = All-append (λ (u : Use). u.pins ≡ 0) (with_room uses) (fresh id (tt {0}) false ∷ []) by (All-alone (λ (u : Use). u.pins ≡ 0) (fresh id (tt {0}) false) refl)
    where
      room : (b : Bool) → AreUnpinned (cond b uses (remove_key may_go uses))
      room true = free
      room false = All-remove_key may_go (λ (u : Use). u.pins ≡ 0) uses free

      by : AreUnpinned (with_room uses)
      by = room _

  either : (b : Bool) (P : List Use → Type 0) → P uses → P (brought id (tt {0}) false uses) → P (if b then uses else brought id (tt {0}) false uses)
  either true P here come = here
  either false P here come = come

  pub fetched_free : AreUnpinned uses → AreUnpinned (use_fetched id uses)
  fetched_free free = either (is_some (frame_of uses id)) AreUnpinned free (brought_free free)

  pub fetched_place : IsPool uses → 0 < places uses → 0 < places (use_fetched id uses)
  fetched_place pool place =
      let counts = brought_counts uses id (tt {0}) false pool place in
      either (is_some (frame_of uses id)) (λ (all : List Use). 0 < places all) place (omega (arith, counts, place))
