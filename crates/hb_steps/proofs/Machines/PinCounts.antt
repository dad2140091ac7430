-- How many times a page is pinned in an order of use, and what each change of the order makes of that. A page in no frame isn't pinned.
use Rattle.hb_steps.proofs.Machines.Names.{◌≡◌, ℕ, ◌+◌, ◌-◌, ◌≤◌, ◌==◌, nat_lt, Bool, true, false, not, ◌||◌, cond, List, [], ◌∷◌, length, Option, Some, None, refl, sym, ap, subst, ◌∙◌, arith, find, count_by, sum_by, option_map, option_map_or, eqb-true, eq-eqb, sum_by-cons, if_same, Use, has_id, fresh, filled, pinned, unpinned, clean, brought, frame_of, in_place, put_last, first_passes, pins_of}
use Rattle.std.proofs.Common.{map}
use Rattle.std.specs.Option.{option_to_list, unwrap_or}
use Rattle.std.specs.Set.{remove_key}
use Rattle.std.proofs.lemmas.Bool.{false≢true}
use Rattle.std.proofs.lemmas.List.Sums.{sum_by-append, sum_by_push}
use Rattle.std.proofs.lemmas.Map.Made.{sum_by-remove_key}
use Rattle.hb_pool.proofs.Facts.Pooled.{room_fewer}
use Rattle.hb_pool.specs.declared.pools.TheConstants.{FRAMES}
use Rattle.hb_pool.specs.Frames.{may_go}
use Rattle.hb_pool.specs.Pools.{change_first, with_room}
use Rattle.hb_pool.proofs.Facts.Firsts.{none_counted}

-- no page is in two frames
abbrev pub IsSingle : List Use → Type 0
IsSingle uses = (id : ℕ) → count_by (has_id id) uses ≤ 1

abbrev pub one_if : Bool → ℕ
one_if b = cond {A = ℕ} b 1 0

-- a change that leaves the page's number
abbrev pub KeepsId : (Use → Use) → Type 0
KeepsId change = (u : Use) → (change u).id ≡ u.id

-- ---- sums over an order of use in which one page's frame changed

-- what the frame that may be there adds to a sum
abbrev pub if_there : (Use → ℕ) → Option Use → ℕ
if_there g o = unwrap_or (option_map g o) 0

pub sum_last : (g : Use → ℕ) (id : ℕ) (change : Use → Use) (uses : List Use) → sum_by g (put_last id change uses) + if_there g (frame_of uses id) ≡ sum_by g uses + if_there (λ u. g (change u)) (frame_of uses id)
sum_last g id change uses =
    let rest = remove_key (has_id id) uses in
    let joined : sum_by g (put_last id change uses) ≡ sum_by g rest + sum_by g (map change (option_to_list (frame_of uses id))) = sum_by-append g rest (map change (option_to_list (frame_of uses id))) in
    let less : sum_by g rest + if_there g (frame_of uses id) ≡ sum_by g uses = sum_by-remove_key g (has_id id) uses in
    let last : sum_by g (map change (option_to_list (frame_of uses id))) ≡ if_there (λ u. g (change u)) (frame_of uses id) = behind (frame_of uses id) in
    omega (arith, joined, less, last)
  where
    behind : (o : Option Use) → sum_by g (map change (option_to_list o)) ≡ if_there (λ u. g (change u)) o
    behind None = refl
    behind (Some u) = let one : sum_by g (change u ∷ []) ≡ g (change u) + 0 = sum_by-cons g (change u) [] in omega (arith, one)

pub sum_in_place : (g : Use → ℕ) (id : ℕ) (change : Use → Use) (uses : List Use) → sum_by g (in_place id change uses) + if_there g (frame_of uses id) ≡ sum_by g uses + if_there (λ u. g (change u)) (frame_of uses id)
sum_in_place g id change [] = refl
sum_in_place g id change (u ∷ us) =
    let before : sum_by g (u ∷ us) ≡ g u + sum_by g us = sum_by-cons g u us in
    elim (has_id id u) as (λ b. sum_by g (cond b (change u ∷ us) (u ∷ change_first (has_id id) change us)) + if_there g (cond b (Some u) (frame_of us id)) ≡ sum_by g (u ∷ us) + if_there (λ v. g (change v)) (cond b (Some u) (frame_of us id))) [
      | true ↦ let after : sum_by g (change u ∷ us) ≡ g (change u) + sum_by g us = sum_by-cons g (change u) us in omega (arith, before, after)
      | false ↦
          let after : sum_by g (u ∷ in_place id change us) ≡ g u + sum_by g (in_place id change us) = sum_by-cons g u (in_place id change us) in
          let rest = sum_in_place g id change us in
          omega (arith, before, after, rest)
    ]

-- so a change that leaves the page's number leaves how many frames a page has
counted_alike : (k : ℕ) (change : Use → Use) (like : KeepsId change) (o : Option Use) → if_there (λ u. one_if (has_id k (change u))) o ≡ if_there (λ u. one_if (has_id k u)) o
counted_alike k change like None = refl
counted_alike k change like (Some u) = ap (λ (i : ℕ). one_if (i == k)) (like u)

pub count_last : (k id : ℕ) (change : Use → Use) → KeepsId change → (uses : List Use) → count_by (has_id k) (put_last id change uses) ≡ count_by (has_id k) uses
count_last k id change like uses =
    let moved : count_by (has_id k) (put_last id change uses) + if_there (λ u. one_if (has_id k u)) (frame_of uses id) ≡ count_by (has_id k) uses + if_there (λ u. one_if (has_id k (change u))) (frame_of uses id) = sum_last (λ u. one_if (has_id k u)) id change uses in
    let same = counted_alike k change like (frame_of uses id) in
    omega (arith, moved, same)

pub count_in_place : (k id : ℕ) (change : Use → Use) → KeepsId change → (uses : List Use) → count_by (has_id k) (in_place id change uses) ≡ count_by (has_id k) uses
count_in_place k id change like uses =
    let moved : count_by (has_id k) (in_place id change uses) + if_there (λ u. one_if (has_id k u)) (frame_of uses id) ≡ count_by (has_id k) uses + if_there (λ u. one_if (has_id k (change u))) (frame_of uses id) = sum_in_place (λ u. one_if (has_id k u)) id change uses in
    let same = counted_alike k change like (frame_of uses id) in
    omega (arith, moved, same)

-- ---- the pins of a page are those of all its frames, where it is in one at most

abbrev pub pins_if : ℕ → Use → ℕ
pins_if q u = cond {A = ℕ} (has_id q u) u.pins 0

none_sum : (q : ℕ) (uses : List Use) → count_by (has_id q) uses ≡ 0 → sum_by (pins_if q) uses ≡ 0
none_sum q [] none = refl
none_sum q (u ∷ us) none =
    let counted : count_by (has_id q) (u ∷ us) ≡ one_if (has_id q u) + count_by (has_id q) us = sum_by-cons (λ (v : Use). one_if (has_id q v)) u us in
    let added : sum_by (pins_if q) (u ∷ us) ≡ cond {A = ℕ} (has_id q u) u.pins 0 + sum_by (pins_if q) us = sum_by-cons (pins_if q) u us in
    elim (has_id q u) as (λ b. one_if b + count_by (has_id q) us ≡ 0 → sum_by (pins_if q) (u ∷ us) ≡ cond {A = ℕ} b u.pins 0 + sum_by (pins_if q) us → sum_by (pins_if q) (u ∷ us) ≡ 0) [
      | true ↦ λ c a. absurd (omega (arith, c))
      | false ↦ λ c a. let rest = none_sum q us (omega (arith, c)) in omega (arith, a, rest)
    ] (sym counted ∙ none) added

pub single_sum : (q : ℕ) (uses : List Use) → count_by (has_id q) uses ≤ 1 → pins_of uses q ≡ sum_by (pins_if q) uses
single_sum q [] few = refl
single_sum q (u ∷ us) few =
    let counted : count_by (has_id q) (u ∷ us) ≡ one_if (has_id q u) + count_by (has_id q) us = sum_by-cons (λ (v : Use). one_if (has_id q v)) u us in
    let added : sum_by (pins_if q) (u ∷ us) ≡ cond {A = ℕ} (has_id q u) u.pins 0 + sum_by (pins_if q) us = sum_by-cons (pins_if q) u us in
    elim (has_id q u) as (λ b. one_if b + count_by (has_id q) us ≤ 1 → sum_by (pins_if q) (u ∷ us) ≡ cond {A = ℕ} b u.pins 0 + sum_by (pins_if q) us → option_map_or (λ (v : Use). v.pins) (cond b (Some u) (frame_of us q)) 0 ≡ sum_by (pins_if q) (u ∷ us)) [
      | true ↦ λ c a. let rest = none_sum q us (omega (arith, c)) in omega (arith, a, rest)
      | false ↦ λ c a. let rest = single_sum q us (omega (arith, c)) in omega (arith, a, rest)
    ] (subst (λ (n : ℕ). n ≤ 1) counted few) added

-- A page's frame changed, put last or in its place: its pins are those after the change, and other pages have those that they had.
module _ (id : ℕ) (change : Use → Use) (like : KeepsId change) (uses new : List Use) (old_single : IsSingle uses) (single : IsSingle new)
    (moved : (g : Use → ℕ) → sum_by g new + if_there g (frame_of uses id) ≡ sum_by g uses + if_there (λ u. g (change u)) (frame_of uses id)) where
  -- what the change makes of the pins
  abbrev pub changed_pins : ℕ
  changed_pins = option_map_or (λ (u : Use). (change u).pins) (frame_of uses id) 0

  abbrev Sums : ℕ → Option Use → Type 0
  Sums q o = pins_of new q + if_there (pins_if q) o ≡ pins_of uses q + if_there (λ u. pins_if q (change u)) o

  sums : (q : ℕ) → Sums q (frame_of uses id)
  sums q =
      let before = single_sum q uses (old_single q) in
      let after = single_sum q new (single q) in
      let all = moved (pins_if q) in
      omega (arith, before, after, all)

  has_its : (u : Use) → frame_of uses id ≡ Some u → u.id ≡ id
  has_its u is = eqb-true u.id id (first_passes (has_id id) uses u is)

  pub pins_here : pins_of new id ≡ changed_pins
  pins_here = elim (frame_of uses id) as (λ o. frame_of uses id ≡ o → Sums id o → pins_of new id ≡ option_map_or (λ (u : Use). (change u).pins) o 0) [
    | None ↦ λ is all. let none : pins_of uses id ≡ 0 = ap (λ (o : Option Use). option_map_or (λ (u : Use). u.pins) o 0) is in omega (arith, all, none)
    | Some u ↦ λ is all.
        let same = has_its u is in
        let was : pins_of uses id ≡ u.pins = ap (λ (o : Option Use). option_map_or (λ (v : Use). v.pins) o 0) is in
        let one : pins_if id u ≡ u.pins = ap (λ b. cond {A = ℕ} b u.pins 0) (eq-eqb u.id id same) in
        let other : pins_if id (change u) ≡ (change u).pins = ap (λ b. cond {A = ℕ} b (change u).pins 0) (eq-eqb (change u).id id (like u ∙ same)) in
        omega (arith, all, was, one, other)
  ] refl (sums id)

  pub pins_there : (q : ℕ) → (id ≡ q → ⊥) → pins_of new q ≡ pins_of uses q
  pins_there q apart = elim (frame_of uses id) as (λ o. frame_of uses id ≡ o → Sums q o → pins_of new q ≡ pins_of uses q) [
    | None ↦ λ is all. omega (arith, all)
    | Some u ↦ λ is all.
        let same = has_its u is in
        let one : pins_if q u ≡ 0 = not_its q u.pins u.id (λ e. apart (sym same ∙ e)) in
        let other : pins_if q (change u) ≡ 0 = not_its q (change u).pins (change u).id (λ e. apart (sym same ∙ sym (like u) ∙ e)) in
        omega (arith, all, one, other)
  ] refl (sums q)
    where
      not_its : (q n i : ℕ) → (i ≡ q → ⊥) → cond {A = ℕ} (i == q) n 0 ≡ 0
      not_its q n i off = if_same i q (λ b. cond {A = ℕ} b n 0 ≡ 0) (λ e. absurd (off e)) (λ _. refl)

-- ---- the changes that there are

pub single_last : (id : ℕ) (change : Use → Use) → KeepsId change → (uses : List Use) → IsSingle uses → IsSingle (put_last id change uses)
single_last id change like uses single k = let same = count_last k id change like uses in let few = single k in omega (arith, same, few)

pub single_in_place : (id : ℕ) (change : Use → Use) → KeepsId change → (uses : List Use) → IsSingle uses → IsSingle (in_place id change uses)
single_in_place id change like uses single k = let same = count_in_place k id change like uses in let few = single k in omega (arith, same, few)

-- The page of another number, or that one, by its number.
by_number : (id q : ℕ) (P : ℕ → Bool → Type 0) → P id true → ((id ≡ q → ⊥) → P q false) → P q (id == q)
by_number id q P here there = if_same id q (P q) (λ e. subst (λ (n : ℕ). P n true) e here) there

pub unpinned_pins : (id q : ℕ) (uses : List Use) → IsSingle uses → pins_of (in_place id unpinned uses) q ≡ pins_of uses q - one_if (id == q)
unpinned_pins id q uses single =
    let new = in_place id unpinned uses in
    let after : IsSingle new = single_in_place id unpinned (λ u. refl) uses single in
    let moved = λ (g : Use → ℕ). sum_in_place g id unpinned uses in
    by_number id q (λ n b. pins_of new n ≡ pins_of uses n - one_if b)
    (pins_here id unpinned (λ u. refl) uses new single after moved ∙ less (frame_of uses id))
    (λ apart. let same = pins_there id unpinned (λ u. refl) uses new single after moved q apart in omega (arith, same))
  where
    less : (o : Option Use) → option_map_or (λ (u : Use). (unpinned u).pins) o 0 ≡ option_map_or (λ (u : Use). u.pins) o 0 - 1
    less None = omega arith
    less (Some u) = refl

pub cleaned_pins : (id q : ℕ) (uses : List Use) → IsSingle uses → pins_of (in_place id clean uses) q ≡ pins_of uses q
cleaned_pins id q uses single =
    let new = in_place id clean uses in
    let after : IsSingle new = single_in_place id clean (λ u. refl) uses single in
    let moved = λ (g : Use → ℕ). sum_in_place g id clean uses in
    by_number id q (λ n b. pins_of new n ≡ pins_of uses n)
    (pins_here id clean (λ u. refl) uses new single after moved)
    (λ apart. pins_there id clean (λ u. refl) uses new single after moved q apart)

pub pinned_pins : (id q : ℕ) (uses : List Use) → IsSingle uses → 1 ≤ count_by (has_id id) uses → pins_of (put_last id pinned uses) q ≡ pins_of uses q + one_if (id == q)
pinned_pins id q uses single some =
    let new = put_last id pinned uses in
    let after : IsSingle new = single_last id pinned (λ u. refl) uses single in
    let moved = λ (g : Use → ℕ). sum_last g id pinned uses in
    by_number id q (λ n b. pins_of new n ≡ pins_of uses n + one_if b)
    (pins_here id pinned (λ u. refl) uses new single after moved ∙ more (frame_of uses id) refl)
    (λ apart. let same = pins_there id pinned (λ u. refl) uses new single after moved q apart in omega (arith, same))
  where
    more : (o : Option Use) → frame_of uses id ≡ o → option_map_or (λ (u : Use). (pinned u).pins) o 0 ≡ option_map_or (λ (u : Use). u.pins) o 0 + 1
    more None is = let none = none_counted (has_id id) uses is in absurd (omega (arith, none, some))
    more (Some u) is = refl

pub filled_pins : (id q : ℕ) (uses : List Use) → IsSingle uses → pins_of (put_last id (filled (tt {0})) uses) q ≡ pins_of uses q
filled_pins id q uses single =
    let new = put_last id (filled (tt {0})) uses in
    let after : IsSingle new = single_last id (filled (tt {0})) (λ u. refl) uses single in
    let moved = λ (g : Use → ℕ). sum_last g id (filled (tt {0})) uses in
    by_number id q (λ n b. pins_of new n ≡ pins_of uses n)
    (pins_here id (filled (tt {0})) (λ u. refl) uses new single after moved)
    (λ apart. pins_there id (filled (tt {0})) (λ u. refl) uses new single after moved q apart)

-- ---- a page that comes

-- what goes isn't pinned
goes_unpinned : (u : Use) → may_go u ≡ true → u.pins ≡ 0
goes_unpinned u free = elim (u.dirty) as (λ d. not (d || not (u.pins == 0)) ≡ true → u.pins ≡ 0) [
  | true ↦ λ e. absurd (false≢true e)
  | false ↦ λ e. elim (u.pins == 0) as (λ b. (u.pins == 0) ≡ b → not (not b) ≡ true → u.pins ≡ 0) [
    | true ↦ λ is _. eqb-true u.pins 0 is
    | false ↦ λ _ off. absurd (false≢true off)
  ] refl e
] free

room_sum : (q : ℕ) (uses : List Use) → sum_by (pins_if q) (with_room uses) ≡ sum_by (pins_if q) uses
room_sum q uses = elim (nat_lt (length uses) FRAMES) as (λ b. sum_by (pins_if q) (cond b uses (remove_key may_go uses)) ≡ sum_by (pins_if q) uses) [
  | true ↦ refl
  | false ↦
      let less : sum_by (pins_if q) (remove_key may_go uses) + if_there (pins_if q) (find may_go uses) ≡ sum_by (pins_if q) uses = sum_by-remove_key (pins_if q) may_go uses in
      let nothing = gone (find may_go uses) refl in
      omega (arith, less, nothing)
]
  where
    gone : (o : Option Use) → find may_go uses ≡ o → if_there (pins_if q) o ≡ 0
    gone None is = refl
    gone (Some u) is = ap (λ n. cond {A = ℕ} (has_id q u) n 0) (goes_unpinned u (first_passes may_go uses u is)) ∙ elim (has_id q u) as (λ b. cond {A = ℕ} b 0 0 ≡ 0) [ true ↦ refl | false ↦ refl ]

pub brought_single : (id : ℕ) (dirty : Bool) (uses : List Use) → IsSingle uses → frame_of uses id ≡ None → IsSingle (brought id (tt {0}) dirty uses)
brought_single id dirty uses single absent k =
    let new : Use = fresh id (tt {0}) dirty in
    let pushed : count_by (has_id k) (brought id (tt {0}) dirty uses) ≡ count_by (has_id k) (with_room uses) + one_if (id == k) = sum_by_push (λ (u : Use). one_if (has_id k u)) (with_room uses) new in
    let fewer = room_fewer (has_id k) uses in
    let few = single k in
    let none = none_counted (has_id id) uses absent in
    if_same id k (λ b. count_by (has_id k) (brought id (tt {0}) dirty uses) ≡ count_by (has_id k) (with_room uses) + one_if b → count_by (has_id k) (brought id (tt {0}) dirty uses) ≤ 1)
    (λ same more. let nothing : count_by (has_id k) uses ≡ 0 = subst (λ (n : ℕ). count_by (has_id n) uses ≡ 0) same none in omega (arith, more, fewer, nothing))
    (λ apart more. omega (arith, more, fewer, few))
    pushed

pub brought_pins : (id q : ℕ) (dirty : Bool) (uses : List Use) → IsSingle uses → frame_of uses id ≡ None → pins_of (brought id (tt {0}) dirty uses) q ≡ pins_of uses q
brought_pins id q dirty uses single absent =
    let new : Use = fresh id (tt {0}) dirty in
    let pushed : sum_by (pins_if q) (brought id (tt {0}) dirty uses) ≡ sum_by (pins_if q) (with_room uses) + cond {A = ℕ} (id == q) 0 0 = sum_by_push (pins_if q) (with_room uses) new in
    let nothing : cond {A = ℕ} (id == q) 0 0 ≡ 0 = elim (id == q) as (λ b. cond {A = ℕ} b 0 0 ≡ 0) [ true ↦ refl | false ↦ refl ] in
    let room = room_sum q uses in
    let before = single_sum q uses (single q) in
    let after = single_sum q (brought id (tt {0}) dirty uses) (brought_single id dirty uses single absent q) in
    omega (arith, pushed, nothing, room, before, after)
