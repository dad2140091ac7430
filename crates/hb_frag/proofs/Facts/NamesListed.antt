-- Names of pages in lists.
use Rattle.std.proofs.Common.{◌≡◌, ◌≢◌, ℕ, eq-eqb, ◌==◌, ◌<◌, Bool, true, false, not, cond, ◌||◌, ◌&&◌, inl, inr, ◌↔◌, zero, suc, List, [], ◌∷◌, ◌++◌, length, get_or, Some, None, IsTrue, IsSome, refl, sym, ap, ◌∙◌, arith}
use Rattle.std.specs.List.{Contains, list_any, filter, Any}
use Rattle.std.proofs.lemmas.List.{append_assoc, append-nil}
use Rattle.std.proofs.lemmas.List.Elements.{Contains-append_right, Contains-append_cases}
use Rattle.std.proofs.lemmas.List.Folds.{list_any-append}
use Rattle.std.proofs.lemmas.Bool.{cases_eq, ne_eqb}
use Rattle.hb_space.specs.Boxes.{Area}
use Rattle.hb_frag.specs.declared.leaves.Leaf.{Leaf}
use Rattle.hb_frag.specs.declared.leaves.Leaf.TheVariants.{Records, Child, Sibling}
use Rattle.hb_frag.specs.Leaves.{Placed, child_names, firsts, with_name, with_names, first_named, siblings, children}
use Rattle.std.proofs.lemmas.List.Sums.{fold-append}
use Rattle.std.proofs.lemmas.Grind.{flat_map-append}

-- what isn't in the first of two lists is in both together where it is in the second
pub in_second : (xs ys : List Leaf) (l : Leaf) (a b : Bool) → (IsTrue a ↔ Contains xs l) → a ≡ false → (IsTrue b ↔ Contains ys l) → IsTrue b ↔ Contains (xs ++ ys) l
in_second xs ys l a b h none k = (
  λ t. Contains-append_right xs ys l (k.0 t),
  λ w. elim (Contains-append_cases xs ys l w) [ inl x ↦ absurd (let e = h.1 x in cc) | inr y ↦ k.1 y ],
)

pub child_names-append : (xs ys : List Leaf) → child_names (xs ++ ys) ≡ child_names xs ++ child_names ys
child_names-append [] ys = refl
child_names-append (Records records ∷ xs) ys = child_names-append xs ys
child_names-append (Child page ∷ xs) ys = ap (λ names. page ∷ names) (child_names-append xs ys)
child_names-append (Sibling page ∷ xs) ys = child_names-append xs ys

pub with_names-append : (seen xs ys : List ℕ) → with_names seen (xs ++ ys) ≡ with_names (with_names seen xs) ys
with_names-append seen xs ys = fold-append with_name seen xs ys

pub siblings-append : (xs ys : List Placed) → siblings (xs ++ ys) ≡ siblings xs ++ siblings ys
siblings-append xs ys = flat_map-append _ xs ys

pub children-append : (xs ys : List Placed) → children (xs ++ ys) ≡ children xs ++ children ys
children-append xs ys = flat_map-append _ xs ys

-- the first of two lists' boxes with a name
pub named_in_front : (name : ℕ) (xs ys : List (ℕ × Area)) (a : Area) → first_named name xs ≡ Some a → first_named name (xs ++ ys) ≡ Some a
named_in_front name [] ys a h = absurd (cc)
named_in_front name (x ∷ xs) ys a h = grind (arith, named_in_front name xs ys a)

pub named_behind : (name : ℕ) (xs ys : List (ℕ × Area)) → first_named name xs ≡ None → first_named name (xs ++ ys) ≡ first_named name ys
named_behind name [] ys h = refl
named_behind name (x ∷ xs) ys h = grind (arith, named_behind name xs ys)

pub ruleset listing = (child_names-append, with_names-append)

pub ruleset finding = (siblings-append, named_in_front, named_behind)

-- a box with the name is found exactly where there is one
pub tail_named : (name : ℕ) (x : ℕ × Area) (xs : List (ℕ × Area)) → Any (λ s. s.0 ≡ name) xs → Any (λ s. s.0 ≡ name) (x ∷ xs)
tail_named name x xs w = (suc w.0, w.1, omega (arith, w.2), w.3, w.4)

pub not_the_first : (name : ℕ) (x : ℕ × Area) (xs : List (ℕ × Area)) → x.0 ≢ name → (k : ℕ) (s : ℕ × Area) → k < length (x ∷ xs) → get_or (x ∷ xs) k s ≡ s → s.0 ≡ name → Any (λ s. s.0 ≡ name) xs
not_the_first name x xs n zero s l e h = absurd (n (ap (λ y. y.0) e ∙ h))
not_the_first name x xs n (suc k) s l e h = (k, s, omega arith, e, h)

pub named_found : (name : ℕ) (xs : List (ℕ × Area)) → IsSome (first_named name xs) ↔ Any (λ s. s.0 ≡ name) xs
named_found name [] = (λ t. absurd (cc), λ w. absurd (omega (arith, w.2)))
named_found name (x ∷ xs) = elim (cases_eq x.0 name) [
  | inl e ↦ (λ t. (zero, x, omega arith, refl, e), λ w. rw (eq-eqb x.0 name e) refl)
  | inr n ↦ (
    λ t. tail_named name x xs ((named_found name xs).0 (rw (ne_eqb x.0 name n) at t)),
    λ w. rw (ne_eqb x.0 name n) ((named_found name xs).1 (not_the_first name x xs n w.0 w.1 w.2 w.3 w.4)),
  )
]

-- adding the names one after another lists each where it stands first
abbrev pub unlisted : List ℕ → ℕ → Bool
unlisted seen name = not (list_any (λ other. other == name) seen)

unlisted_more : (seen : List ℕ) (name x : ℕ) → unlisted (seen ++ name ∷ []) x ≡ (not (x == name) && unlisted seen x)
unlisted_more seen name x =
    rw (list_any-append (λ other. other == x) seen (name ∷ [])) (elim (cases_eq x name) [
      | inl e ↦ rw (eq-eqb x name e, eq-eqb name x (sym e)) (or_true (list_any (λ other. other == x) seen))
      | inr n ↦ rw (ne_eqb x name n, ne_eqb name x (λ e. n (sym e))) (or_false (list_any (λ other. other == x) seen))
    ])
  where
    or_true : (b : Bool) → not (b || true) ≡ false
    or_true true = refl
    or_true false = refl

    or_false : (b : Bool) → not (b || false) ≡ not b
    or_false true = refl
    or_false false = refl

filtered_step : (a b : Bool) (seen : List ℕ) (x : ℕ) (fs gs : List ℕ) → unlisted seen x ≡ b → fs ≡ filter (unlisted seen) gs → cond (a && b) (x ∷ fs) fs ≡ filter (unlisted seen) (cond a (x ∷ gs) gs)
filtered_step true b seen x fs gs e h = rw (e, h) refl
filtered_step false b seen x fs gs e h = h

pub filter-unlisted : (seen : List ℕ) (name : ℕ) (xs : List ℕ) → filter (unlisted (seen ++ name ∷ [])) xs ≡ filter (unlisted seen) (filter (λ other. not (other == name)) xs)
filter-unlisted seen name [] = refl
filter-unlisted seen name (x ∷ xs) =
    let h = filter-unlisted seen name xs in
    rw (unlisted_more seen name x) (filtered_step (not (x == name)) (unlisted seen x) seen x (filter (unlisted (seen ++ name ∷ [])) xs) (filter (λ other. not (other == name)) xs) refl h)

pub filter-listed : (seen : List ℕ) (name : ℕ) (xs : List ℕ) → unlisted seen name ≡ false → filter (unlisted seen) (filter (λ other. not (other == name)) xs) ≡ filter (unlisted seen) xs
filter-listed seen name [] h = refl
filter-listed seen name (x ∷ xs) h =
    let k = filter-listed seen name xs h in
    elim (cases_eq x name) [
      | inl e ↦ let u : unlisted seen x ≡ false = ap (unlisted seen) e ∙ h in rw (eq-eqb x name e, u) k
      | inr n ↦ rw (ne_eqb x name n) (ap (λ rest. cond (unlisted seen x) (x ∷ rest) rest) k)
    ]

listed_step : (b : Bool) (seen : List ℕ) (name : ℕ) (rest : List ℕ) → list_any (λ other. other == name) seen ≡ b → ((more : List ℕ) → with_names more rest ≡ more ++ filter (unlisted more) (firsts rest)) → with_names (cond b seen (seen ++ name ∷ [])) rest ≡ seen ++ cond (not b) (name ∷ filter (unlisted seen) (filter (λ other. not (other == name)) (firsts rest))) (filter (unlisted seen) (filter (λ other. not (other == name)) (firsts rest)))
listed_step true seen name rest e h =
    let u : unlisted seen name ≡ false = ap not e in
    rw (filter-listed seen name (firsts rest) u) (h seen)
listed_step false seen name rest e h =
    h (seen ++ name ∷ []) ∙ append_assoc seen (name ∷ []) (filter (unlisted (seen ++ name ∷ [])) (firsts rest)) ∙ ap (λ xs. seen ++ name ∷ xs) (filter-unlisted seen name (firsts rest))

pub with_names-firsts : (seen names : List ℕ) → with_names seen names ≡ seen ++ filter (unlisted seen) (firsts names)
with_names-firsts seen [] = sym (append-nil seen)
with_names-firsts seen (name ∷ rest) = listed_step (list_any (λ other. other == name) seen) seen name rest refl (λ more. with_names-firsts more rest)

filter-all : (xs : List ℕ) → filter (unlisted []) xs ≡ xs
filter-all [] = refl
filter-all (x ∷ xs) = ap (λ rest. x ∷ rest) (filter-all xs)

pub all_firsts : (names : List ℕ) → with_names [] names ≡ firsts names
all_firsts names = with_names-firsts [] names ∙ filter-all (firsts names)
