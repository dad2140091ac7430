-- The leaves of a tree with their boxes: each is a leaf of the tree, and which of them are its sibling leaves.
use Rattle.std.proofs.Common.{◌≡◌, zero, suc, List, [], ◌∷◌, refl, ap, ◌∙◌, arith, inl, inr, ℕ, ◌⊎◌, subst, sym}
use Rattle.std.specs.List.{All, Contains}
use Rattle.std.proofs.lemmas.List.Elements.{All-append, All-cons, All-nil, Contains-append_cases, Contains-append_left, Contains-append_right}
use Rattle.hb_space.specs.Boxes.{Area, side_below, side_from}
use Rattle.hb_frag.specs.declared.leaves.Leaf.{Leaf}
use Rattle.hb_frag.specs.Trees.{Tree, Tip, Cut}
use Rattle.hb_frag.specs.Leaves.{Placed, leaves, leaves_of, siblings, children}
use Rattle.hb_frag.specs.declared.leaves.Leaf.TheVariants.{Records, Child, Sibling}
use Rattle.hb_lemmas.proofs.Lists.{later_member, first_member, member_cases, no_member}

-- a leaf with its box
abbrev pub placed : Leaf → Area → Placed
placed leaf area = record { leaf = leaf; area = area }

-- a leaf with its box is one of the leaves
pub placed_is_leaf : (t : Tree) (area : Area) (x : Placed) → Contains (leaves_of t area) x → Contains (leaves t) x.leaf
placed_is_leaf (Tip leaf) area x (zero, lt, e) = (zero, omega arith, ap (λ (l : Placed). l.leaf) e)
placed_is_leaf (Tip leaf) area x (suc k, lt, e) = absurd (omega arith)
placed_is_leaf (Cut axis value left right) area x h = elim (Contains-append_cases (leaves_of left (side_below area axis value)) (leaves_of right (side_from area axis value)) x h) [
  | inl l ↦ Contains-append_left (leaves left) (leaves right) x.leaf (placed_is_leaf left (side_below area axis value) x l)
  | inr r ↦ Contains-append_right (leaves left) (leaves right) x.leaf (placed_is_leaf right (side_from area axis value) x r)
]

-- what holds of each leaf of a tree in its box holds of each of its leaves
pub each_leaf : (P : Leaf → Type 0) (t : Tree) (area : Area) → ((x : Placed) → Contains (leaves_of t area) x → P x.leaf) → All P (leaves t)
each_leaf P (Tip leaf) area h = All-cons P leaf [] (h (placed leaf area) (0, omega arith, refl)) (All-nil P)
each_leaf P (Cut axis value left right) area h =
    let below = leaves_of left (side_below area axis value) in
    let from = leaves_of right (side_from area axis value) in
    All-append P (leaves left) (leaves right)
    (each_leaf P left (side_below area axis value) (λ x has. h x (Contains-append_left below from x has)))
    (each_leaf P right (side_from area axis value) (λ x has. h x (Contains-append_right below from x has)))

-- what a page names as a sibling is a sibling leaf of it, with its box
is_leaf : (leaf : Leaf) (area : Area) (xs : List Placed) (name : ℕ) (a : Area) → (Contains (siblings xs) (name, a) → Contains xs (placed (Sibling name) a)) → Contains (siblings (placed leaf area ∷ xs)) (name, a) → Contains (placed leaf area ∷ xs) (placed (Sibling name) a)
is_leaf (Records records) area xs name a rest h = later_member (placed (Records records) area) xs (placed (Sibling name) a) (rest h)
is_leaf (Child page) area xs name a rest h = later_member (placed (Child page) area) xs (placed (Sibling name) a) (rest h)
is_leaf (Sibling page) area xs name a rest (zero, lt, e) = (zero, omega arith, ap (λ (s : ℕ × Area). placed (Sibling s.0) s.1) e)
is_leaf (Sibling page) area xs name a rest (suc k, lt, e) = later_member (placed (Sibling page) area) xs (placed (Sibling name) a) (rest (k, omega arith, e))

-- so it is among all leaves
pub sibling_is_leaf : (xs : List Placed) (name : ℕ) (a : Area) → Contains (siblings xs) (name, a) → Contains xs (placed (Sibling name) a)
sibling_is_leaf [] name a (k, lt, e) = absurd (omega arith)
sibling_is_leaf (x ∷ xs) name a h = is_leaf x.leaf x.area xs name a (sibling_is_leaf xs name a) h

-- a sibling leaf behind another leaf
is_sibling : (leaf : Leaf) (area : Area) (xs : List Placed) (name : ℕ) (a : Area) → Contains (siblings xs) (name, a) → Contains (siblings (placed leaf area ∷ xs)) (name, a)
is_sibling (Records records) area xs name a h = h
is_sibling (Child page) area xs name a h = h
is_sibling (Sibling page) area xs name a h = later_member (page, area) (siblings xs) (name, a) h

-- and one in front
first_is : (leaf : Leaf) (area : Area) (xs : List Placed) (name : ℕ) (a : Area) → leaf ≡ Sibling name → area ≡ a → Contains (siblings (placed leaf area ∷ xs)) (name, a)
first_is (Records records) area xs name a e f = absurd (let no : ⊥ = cc in no)
first_is (Child page) area xs name a e f = absurd (let no : ⊥ = cc in no)
first_is (Sibling page) area xs name a e f = (zero, omega arith, let same : page ≡ name = cc in ap (λ (n : ℕ). (n, area)) same ∙ ap (λ (b : Area). (name, b)) f)

-- a sibling leaf of a page is what it names as a sibling
pub leaf_is_sibling : (xs : List Placed) (name : ℕ) (a : Area) → Contains xs (placed (Sibling name) a) → Contains (siblings xs) (name, a)
leaf_is_sibling [] name a (k, lt, e) = absurd (omega arith)
leaf_is_sibling (x ∷ xs) name a (zero, lt, e) = first_is x.leaf x.area xs name a (ap (λ (l : Placed). l.leaf) e) (ap (λ (l : Placed). l.area) e)
leaf_is_sibling (x ∷ xs) name a (suc k, lt, e) = is_sibling x.leaf x.area xs name a (leaf_is_sibling xs name a (k, omega arith, e))

-- and each leaf of a tree has a box
pub placed_leaf : (t : Tree) (area : Area) (leaf : Leaf) → Contains (leaves t) leaf → (b : Area) × Contains (leaves_of t area) (placed leaf b)
placed_leaf (Tip one) area leaf (zero, lt, e) = (area, (0, omega arith, ap (λ (l : Leaf). placed l area) e))
placed_leaf (Tip one) area leaf (suc k, lt, e) = absurd (omega (arith, lt))
placed_leaf (Cut axis value left right) area leaf has =
    let below = leaves_of left (side_below area axis value) in
    let from = leaves_of right (side_from area axis value) in
    elim (Contains-append_cases (leaves left) (leaves right) leaf has) [
      | inl l ↦ let one = placed_leaf left (side_below area axis value) leaf l in (one.0, Contains-append_left below from (placed leaf one.0) one.1)
      | inr r ↦ let one = placed_leaf right (side_from area axis value) leaf r in (one.0, Contains-append_right below from (placed leaf one.0) one.1)
    ]

-- ---- the list of child leaves

-- what is listed is the first leaf, or a later one
first_listed : (leaf : Leaf) (a : Area) (rest : List Placed) (name : ℕ) (area : Area) → Contains (children (placed leaf a ∷ rest)) (name, area) → (placed leaf a ≡ placed (Child name) area) ⊎ Contains (children rest) (name, area)
first_listed (Records records) a rest name area has = inr has
first_listed (Sibling page) a rest name area has = inr has
first_listed (Child page) a rest name area has = by (member_cases (page, a) (children rest) (name, area) has)
  where
    by : (◌≡◌ {A = ℕ × Area} (page, a) (name, area)) ⊎ Contains (children rest) (name, area) → (placed (Child page) a ≡ placed (Child name) area) ⊎ Contains (children rest) (name, area)
    by (inl here) = inl (ap (λ (x : ℕ × Area). placed (Child x.0) x.1) here)
    by (inr later) = inr later

pub listed_child : (ls : List Placed) (name : ℕ) (area : Area) → Contains (children ls) (name, area) → Contains ls (placed (Child name) area)
listed_child [] name area has = absurd (no_member (name, area) has)
listed_child (x ∷ rest) name area has = by (first_listed x.leaf x.area rest name area has) (listed_child rest name area)
  where
    by : (x ≡ placed (Child name) area) ⊎ Contains (children rest) (name, area) → (Contains (children rest) (name, area) → Contains rest (placed (Child name) area)) → Contains (x ∷ rest) (placed (Child name) area)
    by (inl here) in_rest = subst (λ (y : Placed). Contains (x ∷ rest) y) here (first_member x rest)
    by (inr later) in_rest = later_member x rest (placed (Child name) area) (in_rest later)

pub child_listed : (ls : List Placed) (name : ℕ) (area : Area) → Contains ls (placed (Child name) area) → Contains (children ls) (name, area)
child_listed [] name area has = absurd (no_member (placed (Child name) area) has)
child_listed (x ∷ rest) name area has = by (member_cases x rest (placed (Child name) area) has) (child_listed rest name area)
  where
    by : (x ≡ placed (Child name) area) ⊎ Contains rest (placed (Child name) area) → (Contains rest (placed (Child name) area) → Contains (children rest) (name, area)) → Contains (children (x ∷ rest)) (name, area)
    by (inl here) in_rest = subst (λ (y : Placed). Contains (children (y ∷ rest)) (name, area)) (sym here) (first_member (name, area) (children rest))
    by (inr later) in_rest = Contains-append_right _ (children rest) (name, area) (in_rest later)
