-- The boxes of a tree's leaves part its box.
use Rattle.std.proofs.Common.{◌≡◌, ℕ, zero, suc, ◌<◌, ◌⊎◌, inl, inr, ◌↔◌, true, false, cond, List, [], ◌∷◌, ◌++◌, length, get_or, map, Some, IsSome, refl, sym, ap, subst, ◌∙◌, arith}
use Rattle.std.specs.List.{All, Any, AllPairs, Contains}
use Rattle.std.proofs.lemmas.List.{map-append}
use Rattle.std.proofs.lemmas.List.Elements.{All-append, All-head}
use Rattle.hb_space.specs.Boxes.{Area, IsArea, Holds, Within, Disjoint, holds, side_below, side_from}
use Rattle.hb_space.proofs.Facts.Boxes.{Holds-side_below, Holds-side_from, side_cover, Holds-from_test, Within-from_points, test-from_Holds}
use Rattle.hb_frag.specs.declared.leaves.Leaf.{Leaf}
use Rattle.hb_frag.specs.Trees.{Tree, Tip, Cut}
use Rattle.hb_frag.specs.Leaves.{Placed, IsWellCut, first_at, leaves_of, leaves, with_leaf_at}
use Rattle.hb_frag.specs.Laws.{changed_at}
use Rattle.hb_frag.proofs.Facts.Sides.{IsArea-side_below, IsArea-side_from, same-side_from}
use Rattle.hb_lemmas.proofs.Lists.{All-alone, All-parts}

-- some leaf's box holds the point
abbrev pub SomeLeaf : List ℕ → List Placed → Type 0
SomeLeaf p [] = ⊥
SomeLeaf p (x ∷ xs) = Holds x.area p ⊎ SomeLeaf p xs

SomeLeaf-append_left : (p : List ℕ) (xs ys : List Placed) → SomeLeaf p xs → SomeLeaf p (xs ++ ys)
SomeLeaf-append_left p [] ys h = absurd h
SomeLeaf-append_left p (x ∷ xs) ys (inl h) = inl h
SomeLeaf-append_left p (x ∷ xs) ys (inr h) = inr (SomeLeaf-append_left p xs ys h)

SomeLeaf-append_right : (p : List ℕ) (xs ys : List Placed) → SomeLeaf p ys → SomeLeaf p (xs ++ ys)
SomeLeaf-append_right p [] ys h = h
SomeLeaf-append_right p (x ∷ xs) ys h = inr (SomeLeaf-append_right p xs ys h)

SomeLeaf-append_cases : (p : List ℕ) (xs ys : List Placed) → SomeLeaf p (xs ++ ys) → SomeLeaf p xs ⊎ SomeLeaf p ys
SomeLeaf-append_cases p [] ys h = inr h
SomeLeaf-append_cases p (x ∷ xs) ys (inl h) = inl (inl h)
SomeLeaf-append_cases p (x ∷ xs) ys (inr h) = elim (SomeLeaf-append_cases p xs ys h) [ inl k ↦ inl (inr k) | inr k ↦ inr k ]

any_some : (p : List ℕ) (xs : List Placed) → SomeLeaf p xs → Any (λ l. Holds l.area p) xs
any_some p [] h = absurd h
any_some p (x ∷ xs) (inl h) = (zero, x, omega arith, refl, h)
any_some p (x ∷ xs) (inr h) = let w = any_some p xs h in (suc w.0, w.1, omega (arith, w.2), w.3, w.4)

some_at : (p : List ℕ) (xs : List Placed) (k : ℕ) (l : Placed) → k < length xs → Holds (get_or xs k l).area p → SomeLeaf p xs
some_at p [] k l lt h = absurd (omega arith)
some_at p (x ∷ xs) zero l lt h = inl h
some_at p (x ∷ xs) (suc k) l lt h = inr (some_at p xs k l (omega arith) h)

some_any : (p : List ℕ) (xs : List Placed) → Any (λ l. Holds l.area p) xs → SomeLeaf p xs
some_any p xs w =
    let P : Placed → Type 0 = λ l. Holds l.area p in
    some_at p xs w.0 w.1 w.2 (subst P (sym w.3) w.4)

-- no leaf's box shares a point with a later one's
abbrev pub Apart : List Placed → Type 0
Apart [] = Unit {0}
Apart (x ∷ xs) = ((p : List ℕ) → Holds x.area p → SomeLeaf p xs → ⊥) × Apart xs

Apart-append : (xs ys : List Placed) → Apart xs → Apart ys → ((p : List ℕ) → SomeLeaf p xs → SomeLeaf p ys → ⊥) → Apart (xs ++ ys)
Apart-append [] ys h k none = k
Apart-append (x ∷ xs) ys h k none = (
  λ p here later. elim (SomeLeaf-append_cases p xs ys later) [ inl l ↦ h.0 p here l | inr l ↦ none p (inl here) l ],
  Apart-append xs ys h.1 k (λ p l. none p (inr l)),
)

pairs_apart : (xs : List Placed) → Apart xs → AllPairs (λ l m. Disjoint l.area m.area) xs
pairs_apart [] h i j d before l = absurd (omega arith)
pairs_apart (x ∷ xs) h i zero d before l = absurd (omega arith)
pairs_apart (x ∷ xs) h zero (suc j) d before l = λ p here there. h.0 p here (some_at p xs j d (omega arith) there)
pairs_apart (x ∷ xs) h (suc i) (suc j) d before l = pairs_apart xs h.1 i j d (omega arith) (omega arith)

-- the leaves' boxes hold the points of the tree's box
some_tile : (t : Tree) (area : Area) (p : List ℕ) → IsArea area → IsWellCut t area → Holds area p → SomeLeaf p (leaves_of t area)
some_tile (Tip leaf) area p h cut held = inl held
some_tile (Cut axis value left right) area p h cut held = elim ((side_cover area axis value p h cut.0).0 held) [
  | inl l ↦ SomeLeaf-append_left p (leaves_of left (side_below area axis value)) (leaves_of right (side_from area axis value)) (some_tile left (side_below area axis value) p (IsArea-side_below area axis value h cut.0) cut.1 l)
  | inr l ↦ SomeLeaf-append_right p (leaves_of left (side_below area axis value)) (leaves_of right (side_from area axis value)) (some_tile right (side_from area axis value) p (IsArea-side_from area axis value h cut.0) cut.2 l)
]

pub tile_held : (t : Tree) (area : Area) (p : List ℕ) → IsArea area → IsWellCut t area → SomeLeaf p (leaves_of t area) → Holds area p
tile_held (Tip leaf) area p h cut (inl held) = held
tile_held (Tip leaf) area p h cut (inr none) = absurd none
tile_held (Cut axis value left right) area p h cut some = elim (SomeLeaf-append_cases p (leaves_of left (side_below area axis value)) (leaves_of right (side_from area axis value)) some) [
  | inl l ↦ (side_cover area axis value p h cut.0).1 (inl (tile_held left (side_below area axis value) p (IsArea-side_below area axis value h cut.0) cut.1 l))
  | inr l ↦ (side_cover area axis value p h cut.0).1 (inr (tile_held right (side_from area axis value) p (IsArea-side_from area axis value h cut.0) cut.2 l))
]

pub tiles_apart : (t : Tree) (area : Area) → IsArea area → IsWellCut t area → Apart (leaves_of t area)
tiles_apart (Tip leaf) area h cut = (λ p here later. later, tt)
tiles_apart (Cut axis value left right) area h cut =
    let hb = IsArea-side_below area axis value h cut.0 in
    let hf = IsArea-side_from area axis value h cut.0 in
    Apart-append (leaves_of left (side_below area axis value)) (leaves_of right (side_from area axis value))
    (tiles_apart left (side_below area axis value) hb cut.1)
    (tiles_apart right (side_from area axis value) hf cut.2)
    (λ p l r.
    let low = (Holds-side_below area axis value p h cut.0).0 (tile_held left (side_below area axis value) p hb cut.1 l) in
    let high = (Holds-side_from area axis value p cut.0).0 (tile_held right (side_from area axis value) p hf cut.2 r) in
    absurd (omega (arith, low.1, high.1)))

pub tiles_disjoint : (t : Tree) (area : Area) → IsArea area → IsWellCut t area → AllPairs (λ l m. Disjoint l.area m.area) (leaves_of t area)
tiles_disjoint t area h cut = pairs_apart (leaves_of t area) (tiles_apart t area h cut)

pub tiles_cover : (t : Tree) (area : Area) (p : List ℕ) → IsArea area → IsWellCut t area → Any (λ l. Holds l.area p) (leaves_of t area) ↔ Holds area p
tiles_cover t area p h cut = (
  λ w. tile_held t area p h cut (some_any p (leaves_of t area) w),
  λ held. any_some p (leaves_of t area) (some_tile t area p h cut held),
)

-- each leaf's box is a box of as many attributes
pub tiles_areas : (t : Tree) (area : Area) → IsArea area → IsWellCut t area → All (λ l. IsArea l.area) (leaves_of t area)
tiles_areas (Tip leaf) area h cut = All-alone (λ l. IsArea l.area) (record { leaf = leaf; area = area }) h
tiles_areas (Cut axis value left right) area h cut =
    All-append (λ l. IsArea l.area) (leaves_of left (side_below area axis value)) (leaves_of right (side_from area axis value))
    (tiles_areas left (side_below area axis value) (IsArea-side_below area axis value h cut.0) cut.1)
    (tiles_areas right (side_from area axis value) (IsArea-side_from area axis value h cut.0) cut.2)

pub tiles_attributes : (t : Tree) (area : Area) → All (λ l. length l.area.lo ≡ length area.lo) (leaves_of t area)
tiles_attributes (Tip leaf) area = All-alone (λ l. length l.area.lo ≡ length area.lo) (record { leaf = leaf; area = area }) refl
tiles_attributes (Cut axis value left right) area =
    let below = tiles_attributes left (side_below area axis value) in
    let from = tiles_attributes right (side_from area axis value) in
    All-append (λ l. length l.area.lo ≡ length area.lo) (leaves_of left (side_below area axis value)) (leaves_of right (side_from area axis value)) below
    (λ k d lt. from k d lt ∙ same-side_from area axis value)

-- the first leaf at a point is the one whose box holds it
first_is : (xs : List Placed) (p : List ℕ) (w : Placed) → All (λ l. IsArea l.area) xs → first_at p xs ≡ Some w → Contains xs w × Holds w.area p
first_is [] p w h e = absurd (cc)
first_is (x ∷ xs) p w h e =
    let rest = first_is xs p w (λ k d lt. h (suc k) d (omega arith)) in
    let here = Holds-from_test x.area p in
    elim (holds x.area p) as (λ b. (b ≡ true → Holds x.area p) → cond b (Some x) (first_at p xs) ≡ Some w → Contains (x ∷ xs) w × Holds w.area p) [
      | true ↦ λ here e.
          let same : x ≡ w = cc in
          let P : Placed → Type 0 = λ l. Contains (x ∷ xs) l × Holds l.area p in
          subst P same ((zero, omega arith, refl), here refl)
      | false ↦ λ here e. let v = rest e in ((suc v.0.0, omega (arith, v.0.1), v.0.2), v.1)
    ] here e

only_first : (xs : List Placed) (p : List ℕ) (w : Placed) → All (λ l. IsArea l.area) xs → Apart xs → (k : ℕ) → k < length xs → get_or xs k w ≡ w → Holds w.area p → first_at p xs ≡ Some w
only_first [] p w h apart k lt e held = absurd (omega arith)
only_first (x ∷ xs) p w h apart zero lt e held =
    let P : Placed → Type 0 = λ l. Holds l.area p in
    rw (test-from_Holds x.area p (h zero x (omega arith)) (subst P (sym e) held)) (ap Some e)
only_first (x ∷ xs) p w h apart (suc k) lt e held =
    let rest = only_first xs p w (λ j d l. h (suc j) d (omega arith)) apart.1 k (omega arith) e held in
    let here = Holds-from_test x.area p in
    let P : Placed → Type 0 = λ l. Holds l.area p in
    let later : SomeLeaf p xs = some_at p xs k w (omega arith) (subst P (sym e) held) in
    elim (holds x.area p) as (λ b. (b ≡ true → Holds x.area p) → cond b (Some x) (first_at p xs) ≡ Some w) [
      | true ↦ λ here. absurd (apart.0 p (here refl) later)
      | false ↦ λ here. rest
    ] here

pub first_tells : (t : Tree) (area : Area) (p : List ℕ) (w : Placed) → IsArea area → IsWellCut t area → (first_at p (leaves_of t area) ≡ Some w) ↔ (Contains (leaves_of t area) w × Holds w.area p)
first_tells t area p w h cut =
    let areas = tiles_areas t area h cut in (
      first_is (leaves_of t area) p w areas,
      λ v. only_first (leaves_of t area) p w areas (tiles_apart t area h cut) v.0.0 v.0.1 v.0.2 v.1,
    )

some_first : (xs : List Placed) (p : List ℕ) → All (λ l. IsArea l.area) xs → IsSome (first_at p xs) ↔ SomeLeaf p xs
some_first [] p h = (λ t. absurd (cc), λ w. absurd w)
some_first (x ∷ xs) p h =
    let rest = some_first xs p (λ j d l. h (suc j) d (omega arith)) in
    let here = Holds-from_test x.area p in
    let back = test-from_Holds x.area p (h zero x (omega arith)) in
    elim (holds x.area p) as (λ b. (b ≡ true → Holds x.area p) → (Holds x.area p → b ≡ true) → IsSome (cond b (Some x) (first_at p xs)) ↔ SomeLeaf p (x ∷ xs)) [
      | true ↦ λ here back. (λ t. inl (here refl), λ w. refl)
      | false ↦ λ here back. (λ t. inr (rest.0 t), λ w. elim w [ inl v ↦ absurd (let e = back v in cc) | inr v ↦ rest.1 v ])
    ] here back

pub found_where_held : (t : Tree) (area : Area) (p : List ℕ) → IsArea area → IsWellCut t area → IsSome (first_at p (leaves_of t area)) ↔ Holds area p
found_where_held t area p h cut =
    let s = some_first (leaves_of t area) p (tiles_areas t area h cut) in
    (λ i. tile_held t area p h cut (s.0 i), λ held. s.1 (some_tile t area p h cut held))

-- each leaf's box lies within the tree's
pub tiles_within : (t : Tree) (area : Area) → IsArea area → IsWellCut t area → All (λ l. Within l.area area) (leaves_of t area)
tiles_within t area h cut k d lt =
    Within-from_points (get_or (leaves_of t area) k d).area area (tiles_areas t area h cut k d lt)
    (λ p held. tile_held t area p h cut (some_at p (leaves_of t area) k d lt held))

-- the leaves without their boxes
pub leaves_placed : (t : Tree) (area : Area) → map (λ l. l.leaf) (leaves_of t area) ≡ leaves t
leaves_placed (Tip leaf) area = refl
leaves_placed (Cut axis value left right) area =
    let below = leaves_placed left (side_below area axis value) in
    let from = leaves_placed right (side_from area axis value) in
    rw (map-append (λ (l : Placed). l.leaf) (leaves_of left (side_below area axis value)) (leaves_of right (side_from area axis value))) (cc (below, from))

-- what all leaves are, they are with their boxes
pub placed_all : (P : Leaf → Type 0) (t : Tree) (area : Area) → All P (leaves t) → All (λ (l : Placed). P l.leaf) (leaves_of t area)
placed_all P (Tip leaf) area all = All-alone (λ (l : Placed). P l.leaf) (record { leaf = leaf; area = area }) (All-head P leaf [] all)
placed_all P (Cut axis value left right) area all =
    let both = (All-parts P (leaves left) (leaves right)).0 all in
    All-append (λ (l : Placed). P l.leaf) (leaves_of left (side_below area axis value)) (leaves_of right (side_from area axis value)) (placed_all P left (side_below area axis value) both.0) (placed_all P right (side_from area axis value) both.1)

-- a change at a point changes the leaf there, and no cut
pub leaves_changed : (t : Tree) (area : Area) (p : List ℕ) (change : Leaf → Leaf) → leaves_of (with_leaf_at p change t area) area ≡ map (changed_at p change) (leaves_of t area)
leaves_changed (Tip leaf) area p change = refl
leaves_changed (Cut axis value left right) area p change =
    let below = leaves_changed left (side_below area axis value) p change in
    let from = leaves_changed right (side_from area axis value) p change in
    rw (map-append (changed_at p change) (leaves_of left (side_below area axis value)) (leaves_of right (side_from area axis value))) (cc (below, from))

pub cuts_kept : (t : Tree) (area : Area) (p : List ℕ) (change : Leaf → Leaf) → IsWellCut (with_leaf_at p change t area) area ↔ IsWellCut t area
cuts_kept (Tip leaf) area p change = (λ h. h, λ h. h)
cuts_kept (Cut axis value left right) area p change =
    let below = cuts_kept left (side_below area axis value) p change in
    let from = cuts_kept right (side_from area axis value) p change in
    (λ h. (h.0, below.0 h.1, from.0 h.2), λ h. (h.0, below.1 h.1, from.1 h.2))
