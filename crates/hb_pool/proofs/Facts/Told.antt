-- The order of use is told without the pages' bytes.
use Rattle.std.proofs.Common.{◌≡◌, ◌+◌, ◌-◌, ◌≤◌, nat_lt, Bool, true, false, not, cond, List, [], ◌∷◌, ◌++◌, length, map, All, Option, Some, None, refl, sym, ap, subst, ◌∙◌}
use Rattle.std.specs.List.{find, count_by, position_or_len}
use Rattle.std.specs.Option.{option_map, option_to_list}
use Rattle.std.specs.Set.{remove_key}
use Rattle.std.proofs.lemmas.List.{map-append, length-map}
use Rattle.std.proofs.lemmas.List.Elements.{All-map}
use Rattle.std.proofs.lemmas.List.Sums.{sum_by-cons}
use Rattle.hb_pool.specs.declared.pools.TheConstants.{FRAMES}
use Rattle.hb_pool.specs.Frames.{Frame, Use, use_of, has_id, must_stay, may_go, fresh}
use Rattle.hb_pool.specs.Pools.{change_first, frame_of, in_place, put_last, with_room, IsPool}
use Rattle.hb_pool.specs.Laws.{OrderOfBrought, OrderOfChanged, OrderTellsFrames}

-- a list told by `h`, and a test of what is told
module _ {X Y : Type 0} (h : X → Y) (q : Y → Bool) where
  pub told_find : (xs : List X) → find q (map h xs) ≡ option_map h (find (λ x. q (h x)) xs)
  told_find [] = refl
  told_find (x ∷ xs) = elim (q (h x)) as (λ b. cond b (Some (h x)) (find q (map h xs)) ≡ option_map h (cond b (Some x) (find (λ y. q (h y)) xs))) [
    | true ↦ refl
    | false ↦ told_find xs
  ]

  pub told_place : (xs : List X) → position_or_len q (map h xs) ≡ position_or_len (λ x. q (h x)) xs
  told_place [] = refl
  told_place (x ∷ xs) = ap (λ n. cond (not (q (h x))) (1 + n) 0) (told_place xs)

  pub told_removed : (xs : List X) → map h (remove_key (λ x. q (h x)) xs) ≡ remove_key q (map h xs)
  told_removed [] = refl
  told_removed (x ∷ xs) = elim (q (h x)) as (λ b. map h (cond b xs (x ∷ remove_key (λ y. q (h y)) xs)) ≡ cond b (map h xs) (h x ∷ remove_key q (map h xs))) [
    | true ↦ refl
    | false ↦ ap (λ ys. h x ∷ ys) (told_removed xs)
  ]

  pub told_changed : (change : X → X) (same : Y → Y) → ((x : X) → h (change x) ≡ same (h x)) → (xs : List X) → map h (change_first (λ x. q (h x)) change xs) ≡ change_first q same (map h xs)
  told_changed change same alike [] = refl
  told_changed change same alike (x ∷ xs) = elim (q (h x)) as (λ b. map h (cond b (change x ∷ xs) (x ∷ change_first (λ y. q (h y)) change xs)) ≡ cond b (same (h x) ∷ map h xs) (h x ∷ change_first q same (map h xs))) [
    | true ↦ ap (λ y. y ∷ map h xs) (alike x)
    | false ↦ ap (λ ys. h x ∷ ys) (told_changed change same alike xs)
  ]

  pub told_count : (xs : List X) → count_by q (map h xs) ≡ count_by (λ x. q (h x)) xs
  told_count [] = refl
  told_count (x ∷ xs) =
      sum_by-cons (λ (y : Y). cond (q y) 1 0) (h x) (map h xs)
      ∙ ap (λ n. cond (q (h x)) 1 0 + n) (told_count xs)
      ∙ sym (sum_by-cons (λ (y : X). cond (q (h y)) 1 0) x xs)

told_option : {X Y : Type 0} (h : X → Y) (change : X → X) (same : Y → Y) → ((x : X) → h (change x) ≡ same (h x)) → (o : Option X) → map h (map change (option_to_list o)) ≡ map same (option_to_list (option_map h o))
told_option h change same alike None = refl
told_option h change same alike (Some x) = ap (λ y. y ∷ []) (alike x)

told_id : {B : Type 0} (o : Option (Frame B)) → option_map (λ (u : Use). u.id) (option_map use_of o) ≡ option_map (λ (f : Frame B). f.id) o
told_id None = refl
told_id (Some f) = refl

told_room : {B : Type 0} (pool : List (Frame B)) → map use_of (with_room pool) ≡ with_room (map use_of pool)
told_room {B = B} pool =
    elim (nat_lt (length pool) FRAMES) as (λ b. map use_of (cond b pool (remove_key may_go pool)) ≡ cond b (map use_of pool) (remove_key may_go (map use_of pool))) [
      | true ↦ refl
      | false ↦ told_removed (use_of {B = B}) may_go pool
    ]
    ∙ ap (λ n. cond (nat_lt n FRAMES) (map use_of pool) (remove_key may_go (map use_of pool))) (sym (length-map pool use_of))

pub brought_told : {B : Type 0} → OrderOfBrought B
brought_told {B = B} pool id bytes dirty =
    map-append (use_of {B = B}) (with_room pool) (fresh id bytes dirty ∷ [])
    ∙ ap (λ (us : List Use). us ++ fresh id (tt {0}) dirty ∷ []) (told_room pool)

pub last_told : {B : Type 0} → OrderOfChanged {B = B} put_last put_last
last_told {B = B} pool id change same alike =
    let told : Option Use → List Use = λ o. map same (option_to_list o) in
    map-append (use_of {B = B}) (remove_key (has_id id) pool) (map change (option_to_list (frame_of pool id)))
    ∙ ap (λ (us : List Use). us ++ map use_of (map change (option_to_list (frame_of pool id)))) (told_removed (use_of {B = B}) (has_id id) pool)
    ∙ ap (λ (us : List Use). remove_key (has_id id) (map use_of pool) ++ us) (told_option (use_of {B = B}) change same alike (frame_of pool id))
    ∙ ap (λ (o : Option Use). remove_key (has_id id) (map use_of pool) ++ told o) (sym (told_find (use_of {B = B}) (has_id id) pool))

pub place_told : {B : Type 0} → OrderOfChanged {B = B} in_place in_place
place_told {B = B} pool id change same alike = told_changed (use_of {B = B}) (has_id id) change same alike pool

told_pins : {B : Type 0} (pool : List (Frame B)) → All (λ (f : Frame B). f.pins ≤ 255) pool → All (λ (u : Use). u.pins ≤ 255) (map use_of pool)
told_pins pool few = All-map (λ (u : Use). u.pins ≤ 255) use_of pool few

told_pool : {B : Type 0} (pool : List (Frame B)) → IsPool pool → IsPool (map use_of pool)
told_pool {B = B} pool old = record {
  few = subst (λ n. n ≤ FRAMES) (sym (length-map pool use_of)) old.few;
  distinct = λ id. subst (λ n. n ≤ 1) (sym (told_count (use_of {B = B}) (has_id id) pool)) (old.distinct id);
  pins = told_pins pool old.pins;
}

pub frames_told : {B : Type 0} → OrderTellsFrames B
frames_told {B = B} pool = (
  λ id. told_find (use_of {B = B}) (has_id id) pool,
  ap (λ n. FRAMES - n) (told_count (use_of {B = B}) must_stay pool),
  ap (option_map (λ (u : Use). u.id)) (told_find (use_of {B = B}) (λ u. u.dirty) pool) ∙ told_id (find (λ f. f.dirty) pool),
  told_pool pool,
)
