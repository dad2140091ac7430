-- What a call leaves of a page's frame, and of the others.
use Rattle.std.proofs.Common.{◌≡◌, ◌≢◌, ℕ, ◌+◌, ◌≤◌, ◌==◌, nat_lt, Bool, true, false, not, cond, List, [], ◌∷◌, ◌++◌, length, map, Some, None, refl, sym, ap, subst, ◌∙◌, arith, ne_eqb}
use Rattle.std.specs.List.{find, count_by}
use Rattle.std.specs.Option.{option_map, option_or, option_to_list}
use Rattle.std.specs.Set.{remove_key}
use Rattle.std.proofs.lemmas.Bool.{false≢true, eqb-true, eq-eqb, lt-ltb}
use Rattle.std.proofs.lemmas.List.Folds.{find-append}
use Rattle.std.proofs.lemmas.List.Sums.{sum_by-cons}
use Rattle.hb_pool.specs.declared.pools.TheConstants.{FRAMES}
use Rattle.hb_pool.specs.Frames.{Frame, has_id, may_go, fresh}
use Rattle.hb_pool.specs.Laws.{MarkedPagesStay, NoneGoesBeforeAllAreUsed, WhatCameInIsThere, ComingInChangesNoOther, ChangesItsFrame, ChangesNoOther}
use Rattle.hb_pool.specs.Pools.{change_first, frame_of, in_place, put_last, with_room}
use Rattle.hb_pool.proofs.Facts.Firsts.{first_passes, count_without}
use Rattle.hb_pool.proofs.Facts.Behind.{none_found, or_none}

module _ {X : Type 0} (p q : X → Bool) where
  -- where the first that passes one test goes, the first that passes another stays, if it fails the first test
  still_first : (xs : List X) (x : X) → find p xs ≡ Some x → q x ≡ false → find p (remove_key q xs) ≡ Some x
  still_first [] x is off = absurd cc
  still_first (y ∷ ys) x is off =
      elim (q y) as (λ b. q y ≡ b → find p (cond b ys (y ∷ remove_key q ys)) ≡ Some x) [
        | true ↦ λ on. elim (p y) as (λ b. cond b (Some y) (find p ys) ≡ Some x → find p ys ≡ Some x) [
          | true ↦ λ here. let same : y ≡ x = cc in absurd (false≢true (sym off ∙ sym (ap q same) ∙ on))
          | false ↦ λ later. later
        ] is
        | false ↦ λ _. elim (p y) as (λ b. cond b (Some y) (find p ys) ≡ Some x → cond b (Some y) (find p (remove_key q ys)) ≡ Some x) [
          | true ↦ λ here. here
          | false ↦ λ later. still_first ys x later off
        ] is
      ] refl

  -- what is first then was so before, where no two pass
  was_first : (xs : List X) (x : X) → count_by p xs ≤ 1 → find p (remove_key q xs) ≡ Some x → find p xs ≡ Some x
  was_first [] x few is = is
  was_first (y ∷ ys) x few is =
      let counted = sum_by-cons (λ (z : X). cond (p z) 1 0) y ys in
      elim (q y) as (λ b. find p (cond b ys (y ∷ remove_key q ys)) ≡ Some x → find p (y ∷ ys) ≡ Some x) [
        | true ↦ λ later. elim (p y) as (λ b. cond b 1 0 + count_by p ys ≤ 1 → cond b (Some y) (find p ys) ≡ Some x) [
          | true ↦ λ most. absurd (let one = passing_counts ys x later in omega (arith, one))
          | false ↦ λ _. later
        ] (subst (λ n. n ≤ 1) counted few)
        | false ↦ λ kept. elim (p y) as (λ b. cond b 1 0 + count_by p ys ≤ 1 → cond b (Some y) (find p (remove_key q ys)) ≡ Some x → cond b (Some y) (find p ys) ≡ Some x) [
          | true ↦ λ _ here. here
          | false ↦ λ most later. was_first ys x (omega arith) later
        ] (subst (λ n. n ≤ 1) counted few) kept
      ] is
    where
      passing_counts : (zs : List X) (z : X) → find p zs ≡ Some z → 1 ≤ count_by p zs
      passing_counts zs z found =
          let one = count_without p p zs z found in
          let passes : cond {A = ℕ} (p z) 1 0 ≡ 1 = ap (λ b. cond {A = ℕ} b 1 0) (first_passes p zs z found) in
          omega (arith, one, passes)

  -- where nothing passes both, the one test doesn't see what goes or changes by the other
  unseen : ((x : X) → q x ≡ true → p x ≡ false) → (xs : List X) → find p (remove_key q xs) ≡ find p xs
  unseen apart [] = refl
  unseen apart (y ∷ ys) =
      elim (q y) as (λ b. q y ≡ b → find p (cond b ys (y ∷ remove_key q ys)) ≡ find p (y ∷ ys)) [
        | true ↦ λ on. ap (λ b. cond b (Some y) (find p ys)) (sym (apart y on))
        | false ↦ λ _. ap (λ o. cond (p y) (Some y) o) (unseen apart ys)
      ] refl

  unseen_change : (change : X → X) → ((x : X) → q x ≡ true → p x ≡ false) → ((x : X) → p (change x) ≡ p x) → (xs : List X) → find p (change_first q change xs) ≡ find p xs
  unseen_change change apart like [] = refl
  unseen_change change apart like (y ∷ ys) =
      elim (q y) as (λ b. q y ≡ b → find p (cond b (change y ∷ ys) (y ∷ change_first q change ys)) ≡ find p (y ∷ ys)) [
        | true ↦ λ on. ap (λ b. cond b (Some (change y)) (find p ys)) (like y ∙ apart y on) ∙ ap (λ b. cond b (Some y) (find p ys)) (sym (apart y on))
        | false ↦ λ _. ap (λ o. cond (p y) (Some y) o) (unseen_change change apart like ys)
      ] refl

module _ {X : Type 0} (p : X → Bool) where
  -- no other passes, once the one that did is gone
  none_other : (xs : List X) → count_by p xs ≤ 1 → find p (remove_key p xs) ≡ None
  none_other [] few = refl
  none_other (y ∷ ys) few =
      elim (p y) as (λ b. p y ≡ b → cond b 1 0 + count_by p ys ≤ 1 → find p (cond b ys (y ∷ remove_key p ys)) ≡ None) [
        | true ↦ λ _ most. none_found p ys (omega arith)
        | false ↦ λ off most. ap (λ b. cond b (Some y) (find p (remove_key p ys))) off ∙ none_other ys (omega arith)
      ] refl (subst (λ n. n ≤ 1) (sum_by-cons (λ (z : X). cond (p z) 1 0) y ys) few)

  -- the first is changed where the change leaves the test alone
  first_changed : (change : X → X) → ((x : X) → p (change x) ≡ p x) → (xs : List X) → find p (change_first p change xs) ≡ option_map change (find p xs)
  first_changed change like [] = refl
  first_changed change like (y ∷ ys) =
      elim (p y) as (λ b. p y ≡ b → find p (cond b (change y ∷ ys) (y ∷ change_first p change ys)) ≡ option_map change (cond b (Some y) (find p ys))) [
        | true ↦ λ on. ap (λ b. cond b (Some (change y)) (find p ys)) (like y ∙ on)
        | false ↦ λ off. ap (λ b. cond b (Some y) (find p (change_first p change ys))) off ∙ first_changed change like ys
      ] refl

-- two numbers that differ are not those of one frame
apart_ids : {B : Type 0} (id other : ℕ) → other ≢ id → (f : Frame B) → has_id id f ≡ true → has_id other f ≡ false
apart_ids id other apart f is = ne_eqb f.id other (λ e. apart (sym e ∙ eqb-true f.id id is))

-- what stands behind is found where nothing before it is
found_so : {B : Type 0} (id : ℕ) (left : List (Frame B)) (g : Frame B) → frame_of (left ++ g ∷ []) id ≡ option_or (frame_of left id) (cond (has_id id g) (Some g) None)
found_so id left g = find-append (has_id id) left (g ∷ [])

first_kept : {B : Type 0} (left : List (Frame B)) (g f : Frame B) (other : ℕ) → frame_of left other ≡ Some f → frame_of (left ++ g ∷ []) other ≡ Some f
first_kept left g f other is = found_so other left g ∙ ap (λ o. option_or o (cond (has_id other g) (Some g) None)) is

pub marked_pages_stay : {B : Type 0} → MarkedPagesStay B
marked_pages_stay pool id other bytes dirty f is stays =
    let off : may_go f ≡ false = ap not stays in
    let left : frame_of (with_room pool) other ≡ Some f =
    elim (nat_lt (length pool) FRAMES) as (λ b. frame_of (cond b pool (remove_key may_go pool)) other ≡ Some f) [
      | true ↦ is
      | false ↦ still_first (has_id other) may_go pool f is off
    ] in
    first_kept (with_room pool) (fresh id bytes dirty) f other left

pub none_goes : {B : Type 0} → NoneGoesBeforeAllAreUsed B
none_goes pool id bytes dirty lt =
    ap (λ b. cond b pool (remove_key may_go pool) ++ fresh id bytes dirty ∷ []) (lt-ltb (length pool) FRAMES lt)

-- what isn't there doesn't come by another's going
pub absent_left : {X : Type 0} (p q : X → Bool) (xs : List X) → find p xs ≡ None → find p (remove_key q xs) ≡ None
absent_left p q [] none = refl
absent_left p q (y ∷ ys) none =
    elim (p y) as (λ b. p y ≡ b → cond b (Some y) (find p ys) ≡ None → find p (cond (q y) ys (y ∷ remove_key q ys)) ≡ None) [
      | true ↦ λ _ here. absurd cc
      | false ↦ λ off later. elim (q y) as (λ b. find p (cond b ys (y ∷ remove_key q ys)) ≡ None) [
        | true ↦ later
        | false ↦ ap (λ b. cond b (Some y) (find p (remove_key q ys))) off ∙ absent_left p q ys later
      ]
    ] refl none

pub came_in : {B : Type 0} → WhatCameInIsThere B
came_in {B = B} pool id bytes dirty absent =
    let left : frame_of (with_room pool) id ≡ None =
    elim (nat_lt (length pool) FRAMES) as (λ b. frame_of (cond b pool (remove_key may_go pool)) id ≡ None) [
      | true ↦ absent
      | false ↦ absent_left (has_id id) may_go pool absent
    ] in
    let g : Frame B = fresh id bytes dirty in
    found_so id (with_room pool) g
    ∙ ap (λ o. option_or o (cond (has_id id g) (Some g) None)) left
    ∙ ap (λ b. cond b (Some g) None) (eq-eqb id id refl)

pub no_other_came : {B : Type 0} → ComingInChangesNoOther B
no_other_came {B = B} pool id other bytes dirty f old apart is =
    let g : Frame B = fresh id bytes dirty in
    let off : has_id other g ≡ false = ne_eqb id other (λ e. apart (sym e)) in
    let left : frame_of (with_room pool) other ≡ Some f =
    sym (or_none (frame_of (with_room pool) other))
    ∙ sym (ap (λ b. option_or (frame_of (with_room pool) other) (cond b (Some g) None)) off)
    ∙ sym (found_so other (with_room pool) g) ∙ is in
    elim (nat_lt (length pool) FRAMES) as (λ b. frame_of (cond b pool (remove_key may_go pool)) other ≡ Some f → frame_of pool other ≡ Some f) [
      | true ↦ λ here. here
      | false ↦ λ here. was_first (has_id other) may_go pool f (old.distinct other) here
    ] left

pub place_changed : {B : Type 0} → ChangesItsFrame {B = B} in_place
place_changed pool id change old like = first_changed (has_id id) change (λ f. ap (λ (i : ℕ). i == id) (like f)) pool

pub place_no_other : {B : Type 0} → ChangesNoOther {B = B} in_place
place_no_other pool id other change apart like =
    unseen_change (has_id other) (has_id id) change (apart_ids id other apart) (λ f. ap (λ (i : ℕ). i == other) (like f)) pool

-- the frame that was put last
last_of : {B : Type 0} (id k : ℕ) (change : Frame B → Frame B) (pool : List (Frame B)) → frame_of (put_last id change pool) k ≡ option_or (find (has_id k) (remove_key (has_id id) pool)) (find (has_id k) (map change (option_to_list (frame_of pool id))))
last_of id k change pool = find-append (has_id k) (remove_key (has_id id) pool) (map change (option_to_list (frame_of pool id)))

pub last_changed : {B : Type 0} → ChangesItsFrame {B = B} put_last
last_changed pool id change old like =
    last_of id id change pool
    ∙ ap (λ o. option_or o (find (has_id id) (map change (option_to_list (frame_of pool id))))) (none_other (has_id id) pool (old.distinct id))
    ∙ elim (frame_of pool id) as (λ o. frame_of pool id ≡ o → find (has_id id) (map change (option_to_list o)) ≡ option_map change o) [
      | None ↦ λ _. refl
      | Some f ↦ λ is. ap (λ b. cond b (Some (change f)) None) (ap (λ (i : ℕ). i == id) (like f) ∙ first_passes (has_id id) pool f is)
    ] refl

pub last_no_other : {B : Type 0} → ChangesNoOther {B = B} put_last
last_no_other pool id other change apart like =
    last_of id other change pool
    ∙ ap (option_or (find (has_id other) (remove_key (has_id id) pool))) (elim (frame_of pool id) as (λ o. frame_of pool id ≡ o → find (has_id other) (map change (option_to_list o)) ≡ None) [
      | None ↦ λ _. refl
      | Some f ↦ λ is. ap (λ b. cond b (Some (change f)) None) (ap (λ (i : ℕ). i == other) (like f) ∙ apart_ids id other apart f (first_passes (has_id id) pool f is))
    ] refl)
    ∙ or_none (find (has_id other) (remove_key (has_id id) pool))
    ∙ unseen (has_id other) (has_id id) (apart_ids id other apart) pool
