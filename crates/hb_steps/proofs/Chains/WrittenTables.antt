-- Tables that are written down as lists: what they answer, and what they are after a change.
use Rattle.hb_steps.proofs.Chains.Names.{◌≡◌, inl, inr, ℕ, ◌==◌, Bool, true, false, cond, List, [], ◌∷◌, ◌++◌, Option, Some, None, IsSome, IsTrue, refl, sym, ap, ◌∙◌, subst, fun_ext, ◌&&◌, ◌||◌, if◌then◌else◌, cases_Bool, eqb-true, AllByRecursion, nat_cmp, nat_cmp_total, Page, Activity, at_rest, standing, is_among, set_pages, has_page}
use Rattle.std.proofs.Common.{nat_eq}
use Rattle.std.proofs.lemmas.Bool.{eqb-false, and_parts}
use Rattle.std.specs.Map.{lookup}
use Rattle.std.specs.FinMap as map
use Rattle.std.specs.FinSet as set
use Rattle.std.proofs.lemmas.Option.{same_Some}
use Rattle.hb_steps.specs.Machines.{with_activity}
use Rattle.hb_steps.proofs.Facts.NextLines.{or_assoc}
use Rattle.hb_lemmas.proofs.Maps.{any_same, get-from_list}

-- ---- by numbers

abbrev pub entry_at : {X : Type 0} → ℕ → List (ℕ × X) → Option X
entry_at q es = lookup (nat_eq q) es

-- a list with another entry under a number, in the place of the one that is there
abbrev pub set_entry : {X : Type 0} → ℕ → X → List (ℕ × X) → List (ℕ × X)
set_entry k x [] = (k, x) ∷ []
set_entry k x (one ∷ rest) = if one.0 == k then (k, x) ∷ rest else one ∷ set_entry k x rest

-- the map of a list
pub map_has : {X : Type 0} (es : List (ℕ × X)) (q : ℕ) → map.get (map.from_entries {R = nat_cmp} es) q ≡ entry_at q es
map_has es q = get-from_list es q

pub shadowed : {A : Type 0} (b : Bool) (x y z : A) → cond b x z ≡ cond b x (cond b y z)
shadowed true x y z = refl
shadowed false x y z = refl

pub swapped : {A : Type 0} (a b : Bool) (x y z : A) → (a ≡ true → b ≡ true → ⊥) → cond a x (cond b y z) ≡ cond b y (cond a x z)
swapped true true x y z apart = absurd (apart refl refl)
swapped true false x y z apart = refl
swapped false true x y z apart = refl
swapped false false x y z apart = refl

-- two numbers that differ aren't both this one
pub not_both : (q a b : ℕ) → (a == b) ≡ false → (q == a) ≡ true → (q == b) ≡ true → ⊥
not_both q a b off one two = eqb-false a b off (sym (eqb-true q a one) ∙ eqb-true q b two)

module _ {X Y : Type 0} (f : X → Y) (none : Y) where
  -- what a list answers, by a function of its entries
  abbrev pub answers : ℕ → List (ℕ × X) → Y
  answers q [] = none
  answers q (one ∷ rest) = if q == one.0 then f one.1 else answers q rest

  pub answers_set : (k : ℕ) (x : X) (es : List (ℕ × X)) (q : ℕ) → answers q (set_entry k x es) ≡ cond (q == k) (f x) (answers q es)
  answers_set k x [] q = refl
  answers_set k x (e ∷ es) q = elim (cases_Bool (e.0 == k)) [
    | inl here ↦
        ap (λ (b : Bool). answers q (cond b ((k, x) ∷ es) (e ∷ set_entry k x es))) here
        ∙ subst (λ (n : ℕ). cond (q == k) (f x) (answers q es) ≡ cond (q == k) (f x) (cond (q == n) (f e.1) (answers q es))) (sym (eqb-true e.0 k here)) (shadowed (q == k) (f x) (f e.1) (answers q es))
    | inr off ↦
        ap (λ (b : Bool). answers q (cond b ((k, x) ∷ es) (e ∷ set_entry k x es))) off
        ∙ ap (cond (q == e.0) (f e.1)) (answers_set k x es q)
        ∙ swapped (q == e.0) (q == k) (f e.1) (f x) (answers q es) (not_both q e.0 k off)
  ]

entry_answers : {X : Type 0} (q : ℕ) (es : List (ℕ × X)) → answers Some None q es ≡ entry_at q es
entry_answers q [] = refl
entry_answers q (e ∷ es) = ap (cond (q == e.0) (Some e.1)) (entry_answers q es)

pub entry_set : {X : Type 0} (k : ℕ) (x : X) (es : List (ℕ × X)) (q : ℕ) → entry_at q (set_entry k x es) ≡ cond (q == k) (Some x) (entry_at q es)
entry_set k x es q = sym (entry_answers q (set_entry k x es)) ∙ answers_set Some None k x es q ∙ ap (cond (q == k) (Some x)) (entry_answers q es)

-- a list behind another one
abbrev pub or_else : {X : Type 0} → Option X → Option X → Option X
or_else None other = other
or_else (Some x) other = Some x

or_cond : {X : Type 0} (b : Bool) (x : X) (o other : Option X) → cond b (Some x) (or_else o other) ≡ or_else (cond b (Some x) o) other
or_cond true x o other = refl
or_cond false x o other = refl

pub entry_append : {X : Type 0} (es more : List (ℕ × X)) (q : ℕ) → entry_at q (es ++ more) ≡ or_else (entry_at q es) (entry_at q more)
entry_append [] more q = refl
entry_append (e ∷ es) more q = ap (cond (q == e.0) (Some e.1)) (entry_append es more q) ∙ or_cond (q == e.0) e.1 (entry_at q es) (entry_at q more)

pub or_stays : {X : Type 0} (o other : Option X) → IsSome o → or_else o other ≡ o
or_stays None other some = absurd (let no : ⊥ = cc in no)
or_stays (Some x) other some = refl

-- what holds of each entry holds of the one that is found
pub entry_has : {X : Type 0} (P : ℕ × X → Type 0) (es : List (ℕ × X)) → AllByRecursion P es → (q : ℕ) (x : X) → entry_at q es ≡ Some x → P (q, x)
entry_has P [] each q x is = absurd (let no : ⊥ = cc in no)
entry_has P (e ∷ es) each q x is = elim (cases_Bool (q == e.0)) [
  | inl here ↦
      let same : Some e.1 ≡ Some x = sym (ap (λ (b : Bool). cond b (Some e.1) (entry_at q es)) here) ∙ is in
      subst P (λ i. (sym (eqb-true q e.0 here) i, same_Some e.1 x same i)) each.0
  | inr off ↦ entry_has P es each.1 q x (sym (ap (λ (b : Bool). cond b (Some e.1) (entry_at q es)) off) ∙ is)
]

standing_answers : (q : ℕ) (es : List (ℕ × Activity)) → answers (λ (a : Activity). a) (at_rest q) q es ≡ standing es q
standing_answers q [] = refl
standing_answers q (e ∷ es) = ap (cond (q == e.0) e.1) (standing_answers q es)

-- an actor stands elsewhere
pub standing_set : (actor : ℕ) (next : Activity) (es : List (ℕ × Activity)) (q : ℕ) → standing (set_entry actor next es) q ≡ with_activity actor next (standing es) q
standing_set actor next es q =
    sym (standing_answers q (set_entry actor next es))
    ∙ answers_set (λ (a : Activity). a) (at_rest q) actor next es q
    ∙ ap (cond (q == actor) next) (standing_answers q es)

-- ---- pages and numbers

abbrev pub set_all : List (ℕ × Page) → List (ℕ × Page) → List (ℕ × Page)
set_all [] pages = pages
set_all (one ∷ rest) pages = set_all rest (set_entry one.0 one.1 pages)

pub pages_set : (changed pages : List (ℕ × Page)) (id : ℕ) → entry_at id (set_all changed pages) ≡ set_pages changed (λ q. entry_at q pages) id
pages_set [] pages id = refl
pages_set (one ∷ rest) pages id =
    pages_set rest (set_entry one.0 one.1 pages) id
    ∙ ap (λ (f : ℕ → Option Page). set_pages rest f id) (fun_ext (entry_set one.0 one.1 pages))

abbrev pub add_number : ℕ → List ℕ → List ℕ
add_number n ns = if is_among n ns then ns else n ∷ ns

abbrev pub add_numbers : List ℕ → List ℕ → List ℕ
add_numbers [] ns = ns
add_numbers (n ∷ rest) ns = add_number n (add_numbers rest ns)

abbrev pub add_pages : List (ℕ × Page) → List ℕ → List ℕ
add_pages [] ns = ns
add_pages (one ∷ rest) ns = add_number one.0 (add_pages rest ns)

-- the set of a list
pub set_has : (ks : List ℕ) (q : ℕ) → set.contains (set.from_list {R = nat_cmp} ks) q ≡ is_among q ks
set_has ks q = set.contains-from_list nat_cmp_total ks q ∙ any_same ks q

or_same : (b c : Bool) → (b ≡ true → c ≡ true) → c ≡ (b || c)
or_same true c so = so refl
or_same false c so = refl

among_added : (q n : ℕ) (ns : List ℕ) → is_among q (add_number n ns) ≡ ((q == n) || is_among q ns)
among_added q n ns = elim (cases_Bool (is_among n ns)) [
  | inl here ↦
      ap (λ (b : Bool). is_among q (cond b ns (n ∷ ns))) here
      ∙ or_same (q == n) (is_among q ns) (λ same. ap (λ (x : ℕ). is_among x ns) (eqb-true q n same) ∙ here)
  | inr off ↦ ap (λ (b : Bool). is_among q (cond b ns (n ∷ ns))) off
]

among_numbers : (q : ℕ) (ns old : List ℕ) → is_among q (add_numbers ns old) ≡ (is_among q ns || is_among q old)
among_numbers q [] old = refl
among_numbers q (n ∷ ns) old = among_added q n (add_numbers ns old) ∙ ap (λ (b : Bool). (q == n) || b) (among_numbers q ns old) ∙ or_assoc (q == n) (is_among q ns) (is_among q old)

pub among_pages : (q : ℕ) (changed : List (ℕ × Page)) (old : List ℕ) → is_among q (add_pages changed old) ≡ (has_page q changed || is_among q old)
among_pages q [] old = refl
among_pages q (one ∷ rest) old = among_added q one.0 (add_pages rest old) ∙ ap (λ (b : Bool). (q == one.0) || b) (among_pages q rest old) ∙ or_assoc (q == one.0) (has_page q rest) (is_among q old)

pub among_in_log : (q : ℕ) (changed : List (ℕ × Page)) (ns old : List ℕ) → is_among q (add_pages changed (add_numbers ns old)) ≡ (has_page q changed || (is_among q ns || is_among q old))
among_in_log q changed ns old = among_pages q changed (add_numbers ns old) ∙ ap (λ (b : Bool). has_page q changed || b) (among_numbers q ns old)

pub and_first : (a b : Bool) → IsTrue (a && b) → IsTrue a
and_first a b both = (and_parts a b both).0

pub and_second : (a b : Bool) → IsTrue (a && b) → IsTrue b
and_second a b both = (and_parts a b both).1
