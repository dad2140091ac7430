-- What a pool keeps is kept where what lies in a slot changes, and where a page comes in.
use Rattle.std.proofs.Common.{◌≡◌, ℕ, ◌+◌, ◌-◌, ◌<◌, ◌≤◌, Bool, not, true, cond, List, [], ◌∷◌, ◌++◌, length, get_or, map, Some, refl, sym, ap, subst, ◌∙◌, arith}
use Rattle.std.specs.Option.{option_map, option_to_list}
use Rattle.std.specs.Set.{remove_key}
use Rattle.std.proofs.Math.ListN.{set}
use Rattle.std.proofs.lemmas.List.{get_or_default}
use Rattle.hb_space.specs.declared.form.TheConstants.{PAGE}
use Rattle.hb_lemmas.proofs.Booleans.{if_below}
use Rattle.hb_pool.specs.declared.pools.TheConstants.{FRAMES}
use Rattle.hb_pool.specs.Frames.{Frame, has_id, must_stay, may_go, fresh}
use Rattle.hb_pool.specs.Pools.{frame_of, put_last, in_place, brought}
use Rattle.hb_pool.specs.Slots.{Content, empty_slot, framed, is_page, entry_of, frames_in, frame_at, HaveSlots}
use Rattle.hb_pool.specs.Kept.{FramesKeep, PoolKeeps}
use Rattle.hb_pool.proofs.Facts.Pooled.{kept_last, kept_changed}
use Rattle.hb_pool.proofs.Facts.Slotted.{number_of, found_at, slot_there, frames_put, slots_put, frames_changed, slots_changed}
use Rattle.hb_pool.proofs.Facts.Told.{told_removed}

-- the page lies in that slot, and this is what it has there
pub record Lies (order : List (ℕ × ℕ)) (slots : List Content) (id n : ℕ) (slot : Content) : Type 0 where
  pub entry : entry_of order id ≡ Some (id, n)
  pub within : n < length slots
  pub frame : frame_of (frames_in order slots) id ≡ Some (framed id slot)

pub number_within : (order : List (ℕ × ℕ)) (slots : List Content) (id n : ℕ) → HaveSlots order slots → option_map (λ (e : ℕ × ℕ). e.1) (entry_of order id) ≡ Some n → n < length slots
number_within order slots id n old at = slot_there order slots old (is_page id) (id, n) (number_of order id n at)

pub lies_there : (order : List (ℕ × ℕ)) (slots : List Content) (id n : ℕ) (slot : Content) → HaveSlots order slots → option_map (λ (e : ℕ × ℕ). e.1) (entry_of order id) ≡ Some n → slot ≡ get_or slots n slot → Lies order slots id n slot
lies_there order slots id n slot old at seen =
    let is = number_of order id n at in
    let lt = number_within order slots id n old at in
    record {
      entry = is;
      within = lt;
      frame = found_at slots order id n is ∙ ap (λ (x : Content). Some (framed id x)) (get_or_default slots n empty_slot slot lt ∙ sym seen);
    }

-- ---- the page stands last

pub frames_last : (order news : List (ℕ × ℕ)) (slots : List Content) (id n : ℕ) (slot new : Content) → HaveSlots order slots → Lies order slots id n slot → news ≡ remove_key (is_page id) order ++ option_to_list (entry_of order id) → frames_in news (set slots n new) ≡ remove_key (has_id id) (frames_in order slots) ++ framed id new ∷ []
frames_last order news slots id n slot new old lies last =
    ap (λ (o : List (ℕ × ℕ)). frames_in o (set slots n new)) (last ∙ ap (λ o. remove_key (is_page id) order ++ option_to_list o) lies.entry)
    ∙ frames_put order slots old (is_page id) (id, n) lies.entry id new
    ∙ ap (λ (fs : List (Frame (List ℕ))). fs ++ framed id new ∷ []) (told_removed (frame_at slots) (has_id id) order)

pub is_put_last : (pool items : List (Frame (List ℕ))) (id : ℕ) (change : Frame (List ℕ) → Frame (List ℕ)) (f g : Frame (List ℕ)) → frame_of pool id ≡ Some f → items ≡ remove_key (has_id id) pool ++ g ∷ [] → g ≡ change f → items ≡ put_last id change pool
is_put_last pool items id change f g is new made =
    new ∙ ap (λ (h : Frame (List ℕ)). remove_key (has_id id) pool ++ h ∷ []) made ∙ ap (λ o. remove_key (has_id id) pool ++ map change (option_to_list o)) (sym is)

pub kept_touched : (order news : List (ℕ × ℕ)) (slots : List Content) (room spare held one id n : ℕ) (slot new : Content) → PoolKeeps order slots room spare held → Lies order slots id n slot → news ≡ remove_key (is_page id) order ++ option_to_list (entry_of order id) → one ≡ cond (not (must_stay (framed id slot))) 1 0 → new.pins ≤ 255 → length new.bytes ≡ PAGE → must_stay (framed id new) ≡ true → PoolKeeps news (set slots n new) room spare (held + one)
kept_touched order news slots room spare held one id n slot new old lies last counts few whole stays = record {
  frames = kept_last _ _ room room spare held one id (framed id slot) (framed id new) old.frames lies.frame (frames_last order news slots id n slot new old.each lies last) refl counts refl few whole stays;
  each = subst (λ (o : List (ℕ × ℕ)). HaveSlots o (set slots n new)) (sym (last ∙ ap (λ o. remove_key (is_page id) order ++ option_to_list o) lies.entry)) (slots_put order slots old.each (is_page id) (id, n) lies.entry id new);
}

-- ---- the order stays

pub frames_in_place : (order : List (ℕ × ℕ)) (slots : List Content) (id n : ℕ) (slot new : Content) (change : Frame (List ℕ) → Frame (List ℕ)) → HaveSlots order slots → Lies order slots id n slot → slot ≡ get_or slots n slot → framed id new ≡ change (framed id slot) → frames_in order (set slots n new) ≡ in_place id change (frames_in order slots)
frames_in_place order slots id n slot new change old lies seen made =
    let same : get_or slots n empty_slot ≡ slot = get_or_default slots n empty_slot slot lies.within ∙ sym seen in
    frames_changed slots id n new change lies.within (made ∙ ap (λ (x : Content). change (framed id x)) (sym same)) order lies.entry (old.once n)

pub kept_in_place : (order : List (ℕ × ℕ)) (slots : List Content) (room spare held one id n : ℕ) (slot new : Content) (change : Frame (List ℕ) → Frame (List ℕ)) → PoolKeeps order slots room spare held → Lies order slots id n slot → slot ≡ get_or slots n slot → framed id new ≡ change (framed id slot) → one ≡ cond (not (must_stay (framed id new))) 1 0 → new.pins ≤ 255 → length new.bytes ≡ PAGE → must_stay (framed id slot) ≡ true → PoolKeeps order (set slots n new) room spare (held - one)
kept_in_place order slots room spare held one id n slot new change old lies seen made counts few whole stayed = record {
  frames = kept_changed _ _ room spare held one id change (framed id slot) old.frames lies.frame (frames_in_place order slots id n slot new change old.each lies seen made)
      (counts ∙ ap (λ (h : Frame (List ℕ)). cond (not (must_stay h)) 1 0) made) (ap (λ (h : Frame (List ℕ)). h.id) (sym made)) (subst (λ (h : Frame (List ℕ)). h.pins ≤ 255) made few) (subst (λ (h : Frame (List ℕ)). length h.bytes ≡ PAGE) made whole) stayed;
  each = slots_changed order slots n new old.each;
}

-- ---- a page comes in

pub brought_more : (pool items : List (Frame (List ℕ))) (room spare held id : ℕ) (bytes : List ℕ) (dirty : Bool) (f : Frame (List ℕ)) → FramesKeep pool room spare held → 0 < spare → items ≡ pool ++ f ∷ [] → f ≡ fresh id bytes dirty → items ≡ brought id bytes dirty pool
brought_more pool items room spare held id bytes dirty f old some is new =
    let all = old.blocks in
    is ∙ ap (λ (g : Frame (List ℕ)). pool ++ g ∷ []) new
    ∙ if_below (length pool) FRAMES (λ b. pool ++ fresh id bytes dirty ∷ [] ≡ cond b pool (remove_key may_go pool) ++ fresh id bytes dirty ∷ [])
    (λ lt. refl) (λ le. absurd (omega arith))

pub brought_full : (pool items : List (Frame (List ℕ))) (room spare held id : ℕ) (bytes : List ℕ) (dirty : Bool) → FramesKeep pool room spare held → spare ≡ 0 → items ≡ remove_key may_go pool ++ fresh id bytes dirty ∷ [] → items ≡ brought id bytes dirty pool
brought_full pool items room spare held id bytes dirty old none is =
    let all = old.blocks in
    is
    ∙ if_below (length pool) FRAMES (λ b. remove_key may_go pool ++ fresh id bytes dirty ∷ [] ≡ cond b pool (remove_key may_go pool) ++ fresh id bytes dirty ∷ [])
    (λ lt. absurd (omega arith)) (λ le. refl)
