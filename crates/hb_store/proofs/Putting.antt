-- One page more that was put, of a list of pages.
use Rattle.std.proofs.Common.{◌≡◌, ℕ, ◌+◌, ◌<◌, ◌==◌, Bool, List, [], ◌∷◌, ◌++◌, length, get_or, map, take, drop, None, refl, sym, ap, subst, ◌∙◌, add-one}
use Rattle.std.specs.Prelude.{◌||◌, nat_eq}
use Rattle.std.proofs.Math.Seq.{drop-cons, take-suc}
use Rattle.hb_frag.specs.declared.pages.Page.{Page}
use Rattle.hb_pool.specs.Frames.{Frame, Use, use_of}
use Rattle.hb_pool.specs.Pools.{IsPool, frame_of, places}
use Rattle.hb_pool.proofs.Facts.Told.{frames_told}
use Rattle.hb_store.specs.Filling.{HaveRoom, PutsInto, PutsAll}
use Rattle.hb_ops.specs.SetPages.{has_page}
use Rattle.hb_store.proofs.Filled.{has_push, puts_more}
use Rattle.hb_store.proofs.Room.{have_first, have_then}
use Rattle.hb_store.proofs.Facts.Setting.{or_assoc, or_swap}

module _ (pages : List (ℕ × Page)) (i : ℕ) (one d : ℕ × Page) (lt : i < length pages) (is_one : one ≡ get_or pages i d) where
  taken : take (i + 1) pages ≡ take i pages ++ one ∷ []
  taken = let cut : take (i + 1) pages ≡ take i pages ++ get_or pages i d ∷ [] = rw (add-one, take-suc pages i d lt) refl in cut ∙ ap (λ (o : ℕ × Page). take i pages ++ o ∷ []) (sym is_one)

  cut : drop i pages ≡ one ∷ drop (i + 1) pages
  cut = let first : drop i pages ≡ get_or pages i d ∷ drop (i + 1) pages = rw (add-one, drop-cons pages i d) refl in first ∙ ap (λ (o : ℕ × Page). o ∷ drop (i + 1) pages) (sym is_one)

  pub puts_next : (old mid new : List (Frame (List ℕ))) → PutsAll (take i pages) old mid → PutsInto one.0 one.1 mid new → PutsAll (take (i + 1) pages) old new
  puts_next old mid new all last = subst (λ (l : List (ℕ × Page)). PutsAll l old new) (sym taken) (puts_more (take i pages) one old mid new all last)

  pub room_next : (mid new : List (Frame (List ℕ))) → IsPool mid → HaveRoom (map use_of mid) (drop i pages) → PutsInto one.0 one.1 mid new → HaveRoom (map use_of new) (drop (i + 1) pages)
  room_next mid new is room last =
      subst (λ (u : List Use). HaveRoom u (drop (i + 1) pages)) (sym last.uses)
      (have_then (map use_of mid) one (drop (i + 1) pages) ((frames_told mid).3 is) (subst (λ (l : List (ℕ × Page)). HaveRoom (map use_of mid) l) cut room))

  pub place_next : (mid : List (Frame (List ℕ))) → HaveRoom (map use_of mid) (drop i pages) → frame_of mid one.0 ≡ None → 0 < places mid
  place_next mid room = have_first mid one (drop (i + 1) pages) (subst (λ (l : List (ℕ × Page)). HaveRoom (map use_of mid) l) cut room)

  pub added_next : (q : ℕ) (after before start : Bool) → after ≡ (nat_eq q one.0 || before) → before ≡ (has_page q (take i pages) || start) → after ≡ (has_page q (take (i + 1) pages) || start)
  added_next q after before start is was =
      is ∙ ap (λ (b : Bool). (q == one.0) || b) was ∙ or_swap (q == one.0) (has_page q (take i pages)) start ∙ sym (or_assoc (has_page q (take i pages)) (q == one.0) start)
      ∙ ap (λ (b : Bool). b || start) (sym (has_push q (take i pages) one) ∙ ap (λ (l : List (ℕ × Page)). has_page q l) (sym taken))
