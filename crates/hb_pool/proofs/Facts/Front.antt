-- The entries of a map behind those in front, which are of pages that went: where a page stands among them, and
-- what they are once an entry was moved.
use Rattle.std.proofs.Common.{◌≡◌, ℕ, zero, suc, ◌+◌, ◌-◌, ◌<◌, ◌≤◌, nat_eq, true, false, cond, List, [], ◌∷◌, ◌++◌, length, take, drop, get_or, map, remove, slice_get, position, Some, None, IsSome, refl, sym, ap, subst, ◌∙◌, arith, ne_eqb}
use Rattle.std.specs.List.{find, count_by, position_or_len, AllByRecursion, IsDistinct}
use Rattle.std.specs.Map.{keys_of, lookup}
use Rattle.std.specs.Option.{option_map, option_to_list}
use Rattle.std.specs.Set.{remove_key}
use Rattle.std.proofs.lemmas.Bool.{eq-eqb}
use Rattle.std.proofs.lemmas.List.{get_or-drop, get_or-map, get_or-take, length-drop, length-map, length-take-le, take_all}
use Rattle.std.proofs.lemmas.List.Folds.{find_at}
use Rattle.std.proofs.lemmas.List.Quantifiers.{position-Some}
use Rattle.std.proofs.lemmas.List.Sums.{get_or-le-sum_by, sum_by-cons, sum_by-take-drop}
use Rattle.std.proofs.lemmas.Map.Keys.{IsDistinct-head, IsDistinct-tail}
use Rattle.std.proofs.lemmas.Option.{get_or_from_slice_get, slice_get-get_or, slice_get-map, slice_get_past, slice_get_within}
use Rattle.hb_lemmas.proofs.Booleans.{if_below, if_same}
use Rattle.hb_lemmas.proofs.Lists.{mapped_place}
use Rattle.hb_lemmas.proofs.Options.{some_value}
use borrow.Author.Tests.{eqb-true}
use Rattle.indexmap.specs.IndexMap.{set_value_at}
use Rattle.hb_pool.specs.Slots.{is_page, entry_of}
use Rattle.hb_pool.proofs.Facts.Behind.{none_found, nowhere, only_place}
use Rattle.hb_pool.proofs.Facts.Firsts.{no_place_found, none_counted, remove_first}
use Rattle.hb_pool.proofs.Facts.Told.{told_count}

-- ---- where a page stands

-- the map's test of a key is the order's test of a page
same_test : (id : ℕ) (e : ℕ × ℕ) → nat_eq id e.0 ≡ is_page id e
same_test id e = if_same id e.0 (λ b. b ≡ is_page id e) (λ same. sym (eq-eqb e.0 id (sym same))) (λ other. sym (ne_eqb e.0 id (λ back. other (sym back))))

none_counts : (k id : ℕ) (xs : List (ℕ × ℕ)) → k ≡ id → AllByRecursion (λ y. nat_eq k y ≡ false) (keys_of xs) → count_by (is_page id) xs ≡ 0
none_counts k id [] same none = refl
none_counts k id (x ∷ xs) same none =
    let rest = none_counts k id xs same none.1 in
    let off : is_page id x ≡ false = sym (same_test id x) ∙ ap (λ n. nat_eq n x.0) (sym same) ∙ none.0 in
    sum_by-cons (λ (y : ℕ × ℕ). cond (is_page id y) 1 0) x xs ∙ (λ j. cond {A = ℕ} (off j) 1 0 + rest j)

-- a page has one entry at most
pub once_counted : (id : ℕ) (xs : List (ℕ × ℕ)) → IsDistinct nat_eq (keys_of xs) → count_by (is_page id) xs ≤ 1
once_counted id [] distinct = omega arith
once_counted id (x ∷ xs) distinct =
    let rest = once_counted id xs (IsDistinct-tail nat_eq x.0 (keys_of xs) distinct) in
    let counted = sum_by-cons (λ (y : ℕ × ℕ). cond (is_page id y) 1 0) x xs in
    if_same x.0 id (λ b. count_by (is_page id) (x ∷ xs) ≡ cond b 1 0 + count_by (is_page id) xs → count_by (is_page id) (x ∷ xs) ≤ 1)
    (λ same is. let none = none_counts x.0 id xs same (IsDistinct-head nat_eq x.0 (keys_of xs) distinct) in omega (arith, is, none))
    (λ other is. omega (arith, is, rest)) counted

pub once_behind : (id g : ℕ) (xs : List (ℕ × ℕ)) → IsDistinct nat_eq (keys_of xs) → count_by (is_page id) (drop g xs) ≤ 1
once_behind id g xs distinct =
    let once = once_counted id xs distinct in
    let parts = sum_by-take-drop (λ (y : ℕ × ℕ). cond (is_page id y) 1 0) xs g in
    omega (arith, once, parts)

-- a key that is there, at its place
key_there : (id : ℕ) (xs : List (ℕ × ℕ)) (place : ℕ) → Some place ≡ position (nat_eq id) (keys_of xs) → (d : ℕ × ℕ) → (place < length xs) × (is_page id (get_or xs place d) ≡ true)
key_there id xs place is d =
    let at = position-Some (nat_eq id) (keys_of xs) place d.0 (sym is) in
    let long = length-map xs (λ e. e.0) in
    let lt : place < length xs = omega (arith, at.0, long) in
    (lt, sym (same_test id (get_or xs place d)) ∙ ap (nat_eq id) (sym (get_or-map (λ (e : ℕ × ℕ). e.0) xs place d d.0 lt)) ∙ at.1)

-- behind the front it stands so many places earlier
pub stands_behind : (id g : ℕ) (xs : List (ℕ × ℕ)) (place : ℕ) → IsDistinct nat_eq (keys_of xs) → Some place ≡ position (nat_eq id) (keys_of xs) → g ≤ place → place - g ≡ position_or_len (is_page id) (drop g xs)
stands_behind id g xs place distinct is le =
    let d : ℕ × ℕ = (0, 0) in
    let at = key_there id xs place is d in
    let long = length-drop g xs in
    let same : get_or (drop g xs) (place - g) d ≡ get_or xs place d = get_or-drop g xs (place - g) d ∙ ap (λ n. get_or xs n d) (let e : g + (place - g) ≡ place = omega (arith, le) in e) in
    only_place (is_page id) (drop g xs) (place - g) d (omega (arith, at.0, long, le)) (ap (is_page id) same ∙ at.1) (once_behind id g xs distinct)

none_behind : (id g : ℕ) (xs : List (ℕ × ℕ)) → count_by (is_page id) (drop g xs) ≤ 0 → length (drop g xs) ≡ position_or_len (is_page id) (drop g xs)
none_behind id g xs none = nowhere (is_page id) (drop g xs) (none_found (is_page id) (drop g xs) none)

-- one that stands in front is in memory no longer
pub stands_in_front : (id g : ℕ) (xs : List (ℕ × ℕ)) (place : ℕ) → IsDistinct nat_eq (keys_of xs) → Some place ≡ position (nat_eq id) (keys_of xs) → place < g → length (drop g xs) ≡ position_or_len (is_page id) (drop g xs)
stands_in_front id g xs place distinct is lt =
    let d : ℕ × ℕ = (0, 0) in
    let f : ℕ × ℕ → ℕ = λ y. cond (is_page id y) 1 0 in
    let at = key_there id xs place is d in
    let within : place < length (take g xs) = if_below g (length xs) (λ b. place < length (take g xs))
    (λ less. let long = length-take-le g xs (omega arith) in omega (arith, long, lt))
    (λ le. let whole = ap length (take_all g xs le) in omega (arith, whole, at.0)) in
    let most = get_or-le-sum_by f (take g xs) place d within in
    let one : f (get_or (take g xs) place d) ≡ 1 = ap f (get_or-take g xs place d lt) ∙ ap (λ b. cond {A = ℕ} b 1 0) at.1 in
    let parts = sum_by-take-drop f xs g in
    let once = once_counted id xs distinct in
    none_behind id g xs (omega (arith, most, one, parts, once))

-- and so is one that the map lacks
absent_counted : (id : ℕ) (xs : List (ℕ × ℕ)) → None ≡ position (nat_eq id) (keys_of xs) → count_by (is_page id) xs ≡ 0
absent_counted id xs is =
    let past = no_place_found (nat_eq id) (keys_of xs) is in
    let none : find (nat_eq id) (keys_of xs) ≡ None = find_at (nat_eq id) (keys_of xs) ∙ slice_get_past (keys_of xs) (position_or_len (nat_eq id) (keys_of xs)) (omega (arith, past)) in
    (λ j. count_by (λ (e : ℕ × ℕ). sym (same_test id e) j) xs) ∙ sym (told_count (λ (e : ℕ × ℕ). e.0) (nat_eq id) xs) ∙ none_counted (nat_eq id) (keys_of xs) none

pub stands_nowhere : (id g : ℕ) (xs : List (ℕ × ℕ)) → None ≡ position (nat_eq id) (keys_of xs) → length (drop g xs) ≡ position_or_len (is_page id) (drop g xs)
stands_nowhere id g xs is =
    let none = absent_counted id xs is in
    let parts = sum_by-take-drop (λ (y : ℕ × ℕ). cond (is_page id y) 1 0) xs g in
    none_behind id g xs (omega (arith, none, parts))

-- then it stands past the last, as the order is seen
pub counted_as : (id : ℕ) (order seen : List (ℕ × ℕ)) (ids : List ℕ) → order ≡ seen → ids ≡ keys_of seen → length order ≡ position_or_len (is_page id) order → length ids ≡ position_or_len (is_page id) seen
counted_as id order seen ids same is past =
    ap length is ∙ length-map seen (λ (e : ℕ × ℕ). e.0) ∙ subst (λ (o : List (ℕ × ℕ)). length o ≡ position_or_len (is_page id) o) same past

-- one whose number was seen at a place
pub stands_there : (id : ℕ) (order : List (ℕ × ℕ)) (ids : List ℕ) (place : ℕ) → count_by (is_page id) order ≤ 1 → ids ≡ keys_of order → slice_get ids place ≡ Some id → place ≡ position_or_len (is_page id) order
stands_there id order ids place once same at =
    let e = mapped_place (λ (x : ℕ × ℕ). x.0) order place id (ap (λ xs. slice_get xs place) (sym same) ∙ at) in
    only_place (is_page id) order place e.0 (slice_get_within order place e.0 e.1) (ap (is_page id) (get_or_from_slice_get order place e.0 e.0 e.1) ∙ eq-eqb e.0.0 id e.2) once

-- a page that is in memory no longer, and has an entry, has it in front
pub was_in_front : (id g : ℕ) (xs : List (ℕ × ℕ)) (place : ℕ) → IsDistinct nat_eq (keys_of xs) → Some place ≡ position (nat_eq id) (keys_of xs) → entry_of (drop g xs) id ≡ None → place < g
was_in_front id g xs place distinct is none =
    let past = nowhere (is_page id) (drop g xs) none in
    let at = key_there id xs place is (0, 0) in
    let long = length-drop g xs in
    if_below place g (λ b. place < g) (λ lt. lt)
    (λ le. let here = stands_behind id g xs place distinct is le in absurd (omega (arith, past, at.0, long, here, le)))

-- the last entry gets another slot
pub last_written : (front : List (ℕ × ℕ)) (n id old slot : ℕ) → n ≡ length front → set_value_at (front ++ (id, old) ∷ []) n slot ≡ front ++ (id, slot) ∷ []
last_written front n id old slot at = ap (λ k. set_value_at (front ++ (id, old) ∷ []) k slot) at ∙ by front
  where
    by : (es : List (ℕ × ℕ)) → set_value_at (es ++ (id, old) ∷ []) (length es) slot ≡ es ++ (id, slot) ∷ []
    by [] = refl
    by (e ∷ es) = ap (λ fs. e ∷ fs) (by es)

-- ---- an entry at its place

-- the numbers of the slots tell that of the page's
pub number_looked_up : (id : ℕ) (order : List (ℕ × ℕ)) (ns : List ℕ) (place : ℕ) → ns ≡ map (λ (e : ℕ × ℕ). e.1) order → place ≡ position_or_len (is_page id) order → slice_get ns place ≡ option_map (λ (e : ℕ × ℕ). e.1) (entry_of order id)
number_looked_up id order ns place are at =
    (λ j. slice_get (are j) (at j))
    ∙ slice_get-map (λ (e : ℕ × ℕ). e.1) order (position_or_len (is_page id) order)
    ∙ ap (option_map (λ (e : ℕ × ℕ). e.1)) (sym (find_at (is_page id) order))

pub number_in_range : (id : ℕ) (order : List (ℕ × ℕ)) (ns : List ℕ) (place : ℕ) → ns ≡ map (λ (e : ℕ × ℕ). e.1) order → place ≡ position_or_len (is_page id) order → IsSome (entry_of order id) → place < length ns
number_in_range id order ns place are at there =
    let e = some_value (entry_of order id) there in
    slice_get_within ns place e.0.1 (number_looked_up id order ns place are at ∙ ap (option_map (λ (x : ℕ × ℕ). x.1)) e.1)

pub number_there : (id : ℕ) (order : List (ℕ × ℕ)) (ns : List ℕ) (place : ℕ) → ns ≡ map (λ (e : ℕ × ℕ). e.1) order → place ≡ position_or_len (is_page id) order → IsSome (entry_of order id) → option_map (λ (e : ℕ × ℕ). e.1) (entry_of order id) ≡ Some (get_or ns place 0)
number_there id order ns place are at there =
    sym (number_looked_up id order ns place are at) ∙ slice_get-get_or ns place 0 (number_in_range id order ns place are at there)

pub place_in_range : (id : ℕ) (order : List (ℕ × ℕ)) (place : ℕ) → place ≡ position_or_len (is_page id) order → IsSome (entry_of order id) → place < length order
place_in_range id order place at there =
    let e = some_value (entry_of order id) there in
    slice_get_within order place e.0 (ap (slice_get order) at ∙ sym (find_at (is_page id) order) ∙ e.1)

-- it stands last
pub touched : (id : ℕ) (order news : List (ℕ × ℕ)) (place : ℕ) → place ≡ position_or_len (is_page id) order → IsSome (entry_of order id) → ((e : ℕ × ℕ) → slice_get order place ≡ Some e → news ≡ remove order place ++ e ∷ []) → news ≡ remove_key (is_page id) order ++ option_to_list (entry_of order id)
touched id order news place at there put =
    let e = some_value (entry_of order id) there in
    put e.0 (ap (slice_get order) at ∙ sym (find_at (is_page id) order) ∙ e.1)
    ∙ ap (λ (o : List (ℕ × ℕ)). o ++ e.0 ∷ []) (ap (remove order) at ∙ remove_first (is_page id) order)
    ∙ ap (λ o. remove_key (is_page id) order ++ option_to_list o) (sym e.1)

-- ---- an entry of the map

pub entry_at : (id : ℕ) (xs : List (ℕ × ℕ)) (place : ℕ) → Some place ≡ position (nat_eq id) (keys_of xs) → (old : ℕ) × (slice_get xs place ≡ Some (id, old))
entry_at id xs place is =
    let at = key_there id xs place is (0, 0) in
    let e = get_or xs place (0, 0) in
    (e.1, slice_get-get_or xs place (0, 0) at.0 ∙ ap (λ k. Some (k, e.1)) (eqb-true e.0 id at.1))

-- what the map lacks it lacks without its front
pub absent_behind : (id n : ℕ) (xs : List (ℕ × ℕ)) → lookup (nat_eq id) xs ≡ None → lookup (nat_eq id) (drop n xs) ≡ None
absent_behind id zero xs none = none
absent_behind id (suc n) [] none = refl
absent_behind id (suc n) (x ∷ xs) none = elim (nat_eq id x.0) as (λ b. cond b (Some x.1) (lookup (nat_eq id) xs) ≡ None → lookup (nat_eq id) (drop n xs) ≡ None) [
  | true ↦ λ is. absurd cc
  | false ↦ λ rest. absent_behind id n xs rest
] none
