-- The first page that may go is found by the order and the slots, and so is the first dirty one.
use Rattle.std.proofs.Common.{◌≡◌, ℕ, ◌+◌, ◌<◌, ◌==◌, Bool, List, [], ◌∷◌, ◌++◌, length, get_or, map, remove, slice_get, All, Option, Some, None, IsSome, IsTrue, refl, sym, ap, subst, ◌∙◌}
use Rattle.std.specs.List.{find, position_or_len}
use Rattle.std.specs.Option.{option_map, IsSomeAnd, IfSome}
use Rattle.std.specs.Set.{remove_key}
use Rattle.std.proofs.Math.ListN.{set}
use Rattle.std.proofs.lemmas.List.Elements.{All-map}
use Rattle.std.proofs.lemmas.List.Folds.{find_at}
use Rattle.std.proofs.lemmas.Option.{slice_get-map, slice_get_within}
use Rattle.hb_lemmas.proofs.Options.{some_value, some_of_map, some_and_at}
use Rattle.hb_pool.specs.Frames.{Frame, may_go}
use Rattle.hb_pool.specs.Pools.{IsPool, frame_of}
use Rattle.hb_pool.specs.Slots.{Content, empty_slot, framed, frame_at, frames_in, entry_of, HaveSlots}
use Rattle.hb_pool.proofs.Facts.Firsts.{first_passes, length_without, remove_first}
use Rattle.hb_pool.proofs.Facts.Others.{absent_left}
use Rattle.hb_pool.proofs.Facts.Pooled.{dirty_there}
use Rattle.hb_pool.proofs.Facts.Slotted.{frames_put, slot_there, slots_put}
use Rattle.hb_pool.proofs.Facts.Told.{told_find, told_place, told_removed}

-- all slots are there that the order tells of
pub numbers_there : (order : List (ℕ × ℕ)) (slots seen : List Content) (numbers : List ℕ) → HaveSlots order slots → seen ≡ slots → numbers ≡ map (λ (e : ℕ × ℕ). e.1) order → All (λ n. n < length seen) numbers
numbers_there order slots seen numbers old same are =
    subst (λ ss. All (λ n. n < length ss) numbers) (sym same)
    (subst (All (λ n. n < length slots)) (sym are) (All-map (λ n. n < length slots) (λ (e : ℕ × ℕ). e.1) order old.there))

-- ---- the first that may go

-- the entry at that place leaves the order, and its slot has that number
pub record Leaves (order : List (ℕ × ℕ)) (slots : List Content) (place n : ℕ) : Type 0 where
  pub entry : ℕ × ℕ
  pub found : find (λ e. may_go (frame_at slots e)) order ≡ Some entry
  pub at : place ≡ position_or_len (λ e. may_go (frame_at slots e)) order
  pub number : entry.1 ≡ n

pub first_that_goes : (order : List (ℕ × ℕ)) (slots seen : List Content) (numbers : List ℕ) (place : ℕ) → seen ≡ slots → numbers ≡ map (λ (e : ℕ × ℕ). e.1) order → place ≡ position_or_len (λ n. may_go (framed 0 (get_or seen n empty_slot))) numbers → place ≡ position_or_len (λ e. may_go (frame_at slots e)) order
first_that_goes order slots seen numbers place same are at =
    at
    ∙ (λ j. position_or_len (λ n. may_go (framed 0 (get_or (same j) n empty_slot))) (are j))
    ∙ told_place (λ (e : ℕ × ℕ). e.1) (λ n. may_go (framed 0 (get_or slots n empty_slot))) order

one_goes : (order : List (ℕ × ℕ)) (slots : List Content) → IsSome (find may_go (frames_in order slots)) → (e : ℕ × ℕ) × (find (λ x. may_go (frame_at slots x)) order ≡ Some e)
one_goes order slots there =
    let f = some_value (find may_go (frames_in order slots)) there in
    some_of_map (frame_at slots) (find (λ x. may_go (frame_at slots x)) order) f.0 (sym (told_find (frame_at slots) may_go order) ∙ f.1)

at_its_place : (order : List (ℕ × ℕ)) (slots : List Content) (place : ℕ) (e : ℕ × ℕ) → place ≡ position_or_len (λ x. may_go (frame_at slots x)) order → find (λ x. may_go (frame_at slots x)) order ≡ Some e → slice_get order place ≡ Some e
at_its_place order slots place e at is = ap (slice_get order) at ∙ sym (find_at (λ x. may_go (frame_at slots x)) order) ∙ is

pub leaver_within : (order : List (ℕ × ℕ)) (slots : List Content) (place : ℕ) → place ≡ position_or_len (λ e. may_go (frame_at slots e)) order → IsSome (find may_go (frames_in order slots)) → place < length order
leaver_within order slots place at there =
    let e = one_goes order slots there in
    slice_get_within order place e.0 (at_its_place order slots place e.0 at e.1)

pub leaver : (order : List (ℕ × ℕ)) (slots : List Content) (place n : ℕ) → place ≡ position_or_len (λ e. may_go (frame_at slots e)) order → IsSome (find may_go (frames_in order slots)) → slice_get (map (λ (e : ℕ × ℕ). e.1) order) place ≡ Some n → Leaves order slots place n
leaver order slots place n at there told =
    let e = one_goes order slots there in
    let seen : option_map (λ (x : ℕ × ℕ). x.1) (slice_get order place) ≡ Some n = sym (slice_get-map (λ (x : ℕ × ℕ). x.1) order place) ∙ told in
    let same : Some e.0.1 ≡ Some n = ap (option_map (λ (x : ℕ × ℕ). x.1)) (sym (at_its_place order slots place e.0 at e.1)) ∙ seen in
    record { entry = e.0; found = e.1; at = at; number = cc }

module _ (order : List (ℕ × ℕ)) (slots : List Content) (place n : ℕ) (leaves : Leaves order slots place n) where
  left : remove order place ≡ remove_key (λ e. may_go (frame_at slots e)) order
  left = ap (remove order) leaves.at ∙ remove_first (λ e. may_go (frame_at slots e)) order

  pub slot_within : HaveSlots order slots → n < length slots
  slot_within old = subst (λ k. k < length slots) leaves.number (slot_there order slots old (λ e. may_go (frame_at slots e)) leaves.entry leaves.found)

  pub absent_then : (id : ℕ) → entry_of order id ≡ None → entry_of (remove order place) id ≡ None
  absent_then id none = ap (λ o. entry_of o id) left ∙ absent_left (λ e. e.0 == id) (λ e. may_go (frame_at slots e)) order none

  pub fewer_then : length (remove order place) + 1 ≡ length order
  fewer_then = ap (λ o. length o + 1) left ∙ length_without (λ e. may_go (frame_at slots e)) order leaves.entry leaves.found

  pub frames_replaced : (id : ℕ) (new : Content) (news : List (ℕ × ℕ)) → HaveSlots order slots → news ≡ remove order place ++ (id, n) ∷ [] → frames_in news (set slots n new) ≡ remove_key may_go (frames_in order slots) ++ framed id new ∷ []
  frames_replaced id new news old is =
      (λ j. frames_in ((is ∙ (λ i. left i ++ (id, sym leaves.number i) ∷ [])) j) (set slots (sym leaves.number j) new))
      ∙ frames_put order slots old (λ e. may_go (frame_at slots e)) leaves.entry leaves.found id new
      ∙ ap (λ (fs : List (Frame (List ℕ))). fs ++ framed id new ∷ []) (told_removed (frame_at slots) may_go order)

  pub slots_replaced : (id : ℕ) (new : Content) (news : List (ℕ × ℕ)) → HaveSlots order slots → news ≡ remove order place ++ (id, n) ∷ [] → HaveSlots news (set slots n new)
  slots_replaced id new news old is =
      let same : news ≡ remove_key (λ e. may_go (frame_at slots e)) order ++ (id, leaves.entry.1) ∷ [] = is ∙ (λ i. left i ++ (id, sym leaves.number i) ∷ []) in
      subst (λ k. HaveSlots news (set slots k new)) leaves.number
      (subst (λ (o : List (ℕ × ℕ)). HaveSlots o (set slots leaves.entry.1 new)) (sym same) (slots_put order slots old (λ e. may_go (frame_at slots e)) leaves.entry leaves.found id new))

-- ---- the first dirty one

same_id : (slots : List Content) (o : Option (ℕ × ℕ)) → option_map (λ (e : ℕ × ℕ). e.0) o ≡ option_map (λ (f : Frame (List ℕ)). f.id) (option_map (frame_at slots) o)
same_id slots None = refl
same_id slots (Some e) = refl

pub first_dirty_page : (order : List (ℕ × ℕ)) (slots seen : List Content) (numbers ids : List ℕ) (place : ℕ) → seen ≡ slots → numbers ≡ map (λ (e : ℕ × ℕ). e.1) order → ids ≡ map (λ (e : ℕ × ℕ). e.0) order → place ≡ position_or_len (λ n. (get_or seen n empty_slot).dirty) numbers → slice_get ids place ≡ option_map (λ (f : Frame (List ℕ)). f.id) (find (λ f. f.dirty) (frames_in order slots))
first_dirty_page order slots seen numbers ids place same are told at =
    let d : ℕ × ℕ → Bool = λ e. (frame_at slots e).dirty in
    let there : place ≡ position_or_len d order =
    at ∙ (λ j. position_or_len (λ n. (get_or (same j) n empty_slot).dirty) (are j)) ∙ told_place (λ (e : ℕ × ℕ). e.1) (λ n. (get_or slots n empty_slot).dirty) order in
    (λ j. slice_get (told j) (there j))
    ∙ slice_get-map (λ (e : ℕ × ℕ). e.0) order (position_or_len d order)
    ∙ ap (option_map (λ (e : ℕ × ℕ). e.0)) (sym (find_at d order))
    ∙ same_id slots (find d order)
    ∙ ap (option_map (λ (f : Frame (List ℕ)). f.id)) (sym (told_find (frame_at slots) (λ f. f.dirty) order))

pub dirty_page_there : (pool : List (Frame (List ℕ))) (o : Option ℕ) → IsPool pool → o ≡ option_map (λ f. f.id) (find (λ f. f.dirty) pool) → IfSome o (λ id. IsSomeAnd (frame_of pool id) (λ f. IsTrue f.dirty))
dirty_page_there pool o old is = subst (λ (p : Option ℕ). IfSome p (λ id. IsSomeAnd (frame_of pool id) (λ f. IsTrue f.dirty))) (sym is) (by (find (λ f. f.dirty) pool) refl)
  where
    by : (r : Option (Frame (List ℕ))) → find (λ f. f.dirty) pool ≡ r → IfSome (option_map (λ (f : Frame (List ℕ)). f.id) r) (λ id. IsSomeAnd (frame_of pool id) (λ f. IsTrue f.dirty))
    by None none = tt
    by (Some f) found = some_and_at (frame_of pool f.id) (λ g. IsTrue g.dirty) f (dirty_there pool f old found) (first_passes (λ g. g.dirty) pool f found)
