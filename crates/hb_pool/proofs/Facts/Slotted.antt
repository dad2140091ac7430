-- What lies in one slot changes, and the frames that the order of use makes of all slots change as they should.
use Rattle.std.proofs.Common.{◌≡◌, ℕ, ◌+◌, ◌<◌, ◌≤◌, Bool, true, false, cond, List, [], ◌∷◌, ◌++◌, length, get_or, All, Option, Some, None, IsSome, refl, sym, ap, subst, ◌∙◌, arith, length-append}
use Rattle.std.specs.List.{find, count_by, position_or_len}
use Rattle.std.specs.Option.{option_map}
use Rattle.std.specs.Set.{remove_key}
use Rattle.std.proofs.Math.ListN.{set}
use Rattle.std.proofs.lemmas.Bool.{eq-eqb}
use Rattle.std.proofs.lemmas.List.{get_or-set_same, get_or-set_other, get_or_append_left, get_or_push, get_or_read, length-set, map_push}
use Rattle.std.proofs.lemmas.List.Elements.{All-head, All-tail, All-push, All-weaker}
use Rattle.std.proofs.lemmas.List.Sums.{sum_by-cons, sum_by_push}
use Rattle.std.proofs.lemmas.Map.Views.{All-remove_key}
use borrow.Author.Tests.{eqb-true}
use Rattle.hb_lemmas.proofs.Booleans.{if_same}
use Rattle.hb_lemmas.proofs.Options.{some_of_map, none_mapped}
use Rattle.hb_pool.specs.Frames.{Frame, has_id}
use Rattle.hb_pool.specs.Pools.{change_first, frame_of}
use Rattle.hb_pool.specs.Slots.{Content, empty_slot, framed, is_page, is_slot, entry_of, frame_at, frames_in, HaveSlots}
use Rattle.hb_pool.proofs.Facts.Firsts.{first_passes, first_there, first_within, length_without, count_without}
use Rattle.hb_pool.proofs.Facts.Told.{told_find}

-- ---- the entry of a page

pub number_of : (order : List (ℕ × ℕ)) (id n : ℕ) → option_map (λ (e : ℕ × ℕ). e.1) (entry_of order id) ≡ Some n → entry_of order id ≡ Some (id, n)
number_of order id n is =
    let e = some_of_map (λ (e : ℕ × ℕ). e.1) (entry_of order id) n is in
    let number : e.0.1 ≡ n = cc (e.1, is) in
    let own : e.0.0 ≡ id = eqb-true e.0.0 id (first_passes (is_page id) order e.0 e.1) in
    e.1 ∙ (λ j. Some (own j, number j))

module _ (slots : List Content) where
  pub found : (order : List (ℕ × ℕ)) (id : ℕ) → frame_of (frames_in order slots) id ≡ option_map (frame_at slots) (entry_of order id)
  found order id = told_find (frame_at slots) (has_id id) order

  pub found_at : (order : List (ℕ × ℕ)) (id n : ℕ) → entry_of order id ≡ Some (id, n) → frame_of (frames_in order slots) id ≡ Some (frame_at slots (id, n))
  found_at order id n is = found order id ∙ ap (option_map (frame_at slots)) is

  -- a page that is in no frame has no entry
  pub no_entry : (order : List (ℕ × ℕ)) (id : ℕ) → frame_of (frames_in order slots) id ≡ None → entry_of order id ≡ None
  no_entry order id none = none_mapped (frame_at slots) (entry_of order id) (sym (found order id) ∙ none)

-- ---- one slot changes

-- a slot that no entry has may change
pub unseen_slot : (slots : List Content) (n : ℕ) (new : Content) (order : List (ℕ × ℕ)) → count_by (is_slot n) order ≤ 0 → frames_in order (set slots n new) ≡ frames_in order slots
unseen_slot slots n new [] none = refl
unseen_slot slots n new (e ∷ es) none =
    if_same e.1 n (λ b. cond b 1 0 + count_by (is_slot n) es ≤ 0 → frames_in (e ∷ es) (set slots n new) ≡ frames_in (e ∷ es) slots)
    (λ same most. absurd (omega arith))
    (λ other most. (λ j. framed e.0 (get_or-set_other slots n e.1 new empty_slot other j) ∷ unseen_slot slots n new es (omega arith) j))
    (subst (λ k. k ≤ 0) (sum_by-cons (λ (x : ℕ × ℕ). cond (is_slot n x) 1 0) e es) none)

module _ (order : List (ℕ × ℕ)) (slots : List Content) (old : HaveSlots order slots) (p : ℕ × ℕ → Bool) (e : ℕ × ℕ) (is : find p order ≡ Some e) where
  -- the slot of an entry is there
  pub slot_there : e.1 < length slots
  slot_there = subst (λ (x : ℕ × ℕ). x.1 < length slots) (first_there p order e e is) (old.there (position_or_len p order) e (first_within p order e is))

  -- and no other entry has it
  pub no_other : count_by (is_slot e.1) (remove_key p order) ≤ 0
  no_other =
      let less = count_without p (is_slot e.1) order e is in
      let one : cond {A = ℕ} (is_slot e.1 e) 1 0 ≡ 1 = ap (λ b. cond {A = ℕ} b 1 0) (eq-eqb e.1 e.1 refl) in
      let most = old.once e.1 in
      omega (arith, less, one, most)

  -- it goes to a page that stands last
  pub frames_put : (id : ℕ) (new : Content) → frames_in (remove_key p order ++ (id, e.1) ∷ []) (set slots e.1 new) ≡ frames_in (remove_key p order) slots ++ framed id new ∷ []
  frames_put id new =
      map_push (frame_at (set slots e.1 new)) (remove_key p order) (id, e.1)
      ∙ (λ j. unseen_slot slots e.1 new (remove_key p order) no_other j ++ framed id (get_or-set_same slots e.1 new empty_slot slot_there j) ∷ [])

  pub slots_put : (id : ℕ) (new : Content) → HaveSlots (remove_key p order ++ (id, e.1) ∷ []) (set slots e.1 new)
  slots_put id new =
      let rest = remove_key p order in
      let same = length-set slots e.1 new in
      let there = slot_there in
      let P : ℕ × ℕ → Type 0 = λ x. x.1 < length (set slots e.1 new) in
      record {
        once = λ k.
            let less = count_without p (is_slot k) order e is in
            let more = sum_by_push (λ (x : ℕ × ℕ). cond (is_slot k x) 1 0) rest (id, e.1) in
            let most = old.once k in
            omega (arith, less, more, most);
        there = All-push P rest (id, e.1) (All-remove_key p P order (All-weaker (λ (x : ℕ × ℕ). x.1 < length slots) P (λ x lt. omega (arith, lt, same)) order old.there)) (omega (arith, there, same));
        used =
            let all = old.used in
            let less = length_without p order e is in
            let joined = length-append rest ((id, e.1) ∷ []) in
            omega (arith, all, less, joined, same);
      }

-- an entry that is found has its slot
counted_there : (p : ℕ × ℕ → Bool) (order : List (ℕ × ℕ)) (e : ℕ × ℕ) → find p order ≡ Some e → 1 ≤ count_by (is_slot e.1) order
counted_there p order e is =
    let less = count_without p (is_slot e.1) order e is in
    let one : cond {A = ℕ} (is_slot e.1 e) 1 0 ≡ 1 = ap (λ b. cond {A = ℕ} b 1 0) (eq-eqb e.1 e.1 refl) in
    omega (arith, less, one)

-- the page's frame is changed where it stands
module _ (slots : List Content) (id n : ℕ) (new : Content) (change : Frame (List ℕ) → Frame (List ℕ)) (there : n < length slots) (made : framed id new ≡ change (frame_at slots (id, n))) where
  pub frames_changed : (order : List (ℕ × ℕ)) → entry_of order id ≡ Some (id, n) → count_by (is_slot n) order ≤ 1 → frames_in order (set slots n new) ≡ change_first (has_id id) change (frames_in order slots)
  frames_changed [] is few = absurd cc
  frames_changed (e ∷ es) is few =
      let most : cond {A = ℕ} (is_slot n e) 1 0 + count_by (is_slot n) es ≤ 1 = subst (λ k. k ≤ 1) (sum_by-cons (λ (x : ℕ × ℕ). cond (is_slot n x) 1 0) e es) few in
      elim (is_page id e) as (λ b. cond b (Some e) (entry_of es id) ≡ Some (id, n) → frames_in (e ∷ es) (set slots n new) ≡ cond b (change (frame_at slots e) ∷ frames_in es slots) (frame_at slots e ∷ change_first (has_id id) change (frames_in es slots))) [
        | true ↦ λ here. let same : e ≡ (id, n) = cc in at_first e es same most
        | false ↦ λ later. at_later e es later most (λ fits. frames_changed es later fits)
      ] is
    where
      at_first : (e : ℕ × ℕ) (es : List (ℕ × ℕ)) → e ≡ (id, n) → cond {A = ℕ} (is_slot n e) 1 0 + count_by (is_slot n) es ≤ 1 → frames_in (e ∷ es) (set slots n new) ≡ change (frame_at slots e) ∷ frames_in es slots
      at_first e es same most =
          let one : cond {A = ℕ} (is_slot n e) 1 0 ≡ 1 = ap (λ b. cond {A = ℕ} b 1 0) (eq-eqb e.1 n (ap (λ (x : ℕ × ℕ). x.1) same)) in
          let head : frame_at (set slots n new) e ≡ change (frame_at slots e) =
          ap (frame_at (set slots n new)) same ∙ ap (framed id) (get_or-set_same slots n new empty_slot there) ∙ made ∙ ap (λ (x : ℕ × ℕ). change (frame_at slots x)) (sym same) in
          (λ j. head j ∷ unseen_slot slots n new es (omega (arith, one, most)) j)

      at_later : (e : ℕ × ℕ) (es : List (ℕ × ℕ)) → entry_of es id ≡ Some (id, n) → cond {A = ℕ} (is_slot n e) 1 0 + count_by (is_slot n) es ≤ 1 → (count_by (is_slot n) es ≤ 1 → frames_in es (set slots n new) ≡ change_first (has_id id) change (frames_in es slots)) → frames_in (e ∷ es) (set slots n new) ≡ frame_at slots e ∷ change_first (has_id id) change (frames_in es slots)
      at_later e es later most rest =
          let one = counted_there (is_page id) es (id, n) later in
          if_same e.1 n (λ b. cond b 1 0 + count_by (is_slot n) es ≤ 1 → frames_in (e ∷ es) (set slots n new) ≡ frame_at slots e ∷ change_first (has_id id) change (frames_in es slots))
          (λ same over. absurd (omega (arith, one, over)))
          (λ other fits. (λ j. framed e.0 (get_or-set_other slots n e.1 new empty_slot other j) ∷ rest (omega arith) j))
          most

pub slots_changed : (order : List (ℕ × ℕ)) (slots : List Content) (n : ℕ) (new : Content) → HaveSlots order slots → HaveSlots order (set slots n new)
slots_changed order slots n new old =
    let same = length-set slots n new in
    record {
      once = old.once;
      there = All-weaker (λ (x : ℕ × ℕ). x.1 < length slots) (λ x. x.1 < length (set slots n new)) (λ x lt. omega (arith, lt, same)) order old.there;
      used = same ∙ old.used;
    }

-- ---- one slot more

more_slots : (slots : List Content) (new : Content) (order : List (ℕ × ℕ)) → All (λ (e : ℕ × ℕ). e.1 < length slots) order → frames_in order (slots ++ new ∷ []) ≡ frames_in order slots
more_slots slots new [] there = refl
more_slots slots new (e ∷ es) there =
    let P : ℕ × ℕ → Type 0 = λ x. x.1 < length slots in
    (λ j. framed e.0 (get_or_append_left slots (new ∷ []) empty_slot e.1 (All-head P e es there) j) ∷ more_slots slots new es (All-tail P e es there) j)

none_beyond : (m n : ℕ) (order : List (ℕ × ℕ)) → All (λ (e : ℕ × ℕ). e.1 < m) order → m ≤ n → count_by (is_slot n) order ≡ 0
none_beyond m n [] there le = refl
none_beyond m n (e ∷ es) there le =
    let P : ℕ × ℕ → Type 0 = λ x. x.1 < m in
    let first = All-head P e es there in
    let rest = none_beyond m n es (All-tail P e es there) le in
    let counted = sum_by-cons (λ (x : ℕ × ℕ). cond (is_slot n x) 1 0) e es in
    if_same e.1 n (λ b. count_by (is_slot n) (e ∷ es) ≡ cond b 1 0 + count_by (is_slot n) es → count_by (is_slot n) (e ∷ es) ≡ 0)
    (λ same is. absurd (omega (arith, first, le, same)))
    (λ other is. omega (arith, is, rest)) counted

pub frames_more : (order : List (ℕ × ℕ)) (slots : List Content) (id : ℕ) (new : Content) → HaveSlots order slots → frames_in (order ++ (id, length slots) ∷ []) (slots ++ new ∷ []) ≡ frames_in order slots ++ framed id new ∷ []
frames_more order slots id new old =
    map_push (frame_at (slots ++ new ∷ [])) order (id, length slots)
    ∙ (λ j. more_slots slots new order old.there j ++ framed id (get_or_push slots new empty_slot (length slots) refl j) ∷ [])

pub slots_more : (order : List (ℕ × ℕ)) (slots : List Content) (id : ℕ) (new : Content) → HaveSlots order slots → HaveSlots (order ++ (id, length slots) ∷ []) (slots ++ new ∷ [])
slots_more order slots id new old =
    let long = length-append slots (new ∷ []) in
    let P : ℕ × ℕ → Type 0 = λ x. x.1 < length (slots ++ new ∷ []) in
    record {
      once = λ k.
          let more = sum_by_push (λ (x : ℕ × ℕ). cond (is_slot k x) 1 0) order (id, length slots) in
          let most = old.once k in
          if_same (length slots) k (λ b. count_by (is_slot k) (order ++ (id, length slots) ∷ []) ≡ count_by (is_slot k) order + cond b 1 0 → count_by (is_slot k) (order ++ (id, length slots) ∷ []) ≤ 1)
          (λ same is. let none = none_beyond (length slots) k order old.there (omega arith) in omega (arith, is, none))
          (λ other is. omega (arith, is, most)) more;
      there = All-push P order (id, length slots) (All-weaker (λ (x : ℕ × ℕ). x.1 < length slots) P (λ x lt. omega (arith, lt, long)) order old.there) (omega (arith, long));
      used = let all = old.used in let joined = length-append order ((id, length slots) ∷ []) in omega (arith, all, joined, long);
    }

-- a page that is in a frame has an entry
pub entry_there : (order : List (ℕ × ℕ)) (slots : List Content) (id : ℕ) → IsSome (frame_of (frames_in order slots) id) → IsSome (entry_of order id)
entry_there order slots id there = by (entry_of order id) (subst IsSome (found slots order id) there)
  where
    by : (o : Option (ℕ × ℕ)) → IsSome (option_map (frame_at slots) o) → IsSome o
    by None some = some
    by (Some e) some = refl

-- and one without an entry is in none
pub found_none : (order : List (ℕ × ℕ)) (slots : List Content) (id : ℕ) → option_map (λ (e : ℕ × ℕ). e.1) (entry_of order id) ≡ None → frame_of (frames_in order slots) id ≡ None
found_none order slots id none = found slots order id ∙ ap (option_map (frame_at slots)) (none_mapped (λ (e : ℕ × ℕ). e.1) (entry_of order id) none)

-- what was read of a slot whose number the order tells
pub slot_read : (slots : List Content) (numbers : List ℕ) (i : ℕ) (slot : Content) → All (λ n. n < length slots) numbers → i < length numbers → slot ≡ get_or slots (get_or numbers i 0) slot → slot ≡ get_or slots (get_or numbers i 0) empty_slot
slot_read slots numbers i slot there lt is = get_or_read slots (get_or numbers i 0) slot (there i 0 lt) is empty_slot
