-- How many pages name a page, counted page by page.
use Rattle.std.proofs.Common.{◌≡◌, ◌≢◌, ℕ, ◌+◌, ◌-◌, ◌==◌, ◌<◌, ◌≤◌, ◌^◌, ◌||◌, get_or, length, set, true, false, not, cond, List, [], ◌∷◌, take, filter, refl, sym, ap, subst, ◌∙◌, arith, inl, inr}
use Rattle.std.specs.List.{count_by, list_any}
use Rattle.std.proofs.lemmas.Bool.{cases_eq, eq-eqb, ne_eqb}
use Rattle.std.proofs.lemmas.List.{get_or-set_other, get_or-set_same, take_all}
use Rattle.std.proofs.lemmas.List.Sums.{sum_by-cons, sum_by-take-le}
use Rattle.hb_frag.specs.Leaves.{firsts}

-- how often a name stands in a list
abbrev pub times : ℕ → List ℕ → ℕ
times id names = count_by (λ name. name == id) names

one_more : (id name : ℕ) (rest : List ℕ) → times id (name ∷ rest) ≡ cond (name == id) 1 0 + times id rest
one_more id name rest = sum_by-cons (λ (n : ℕ). cond (n == id) 1 0) name rest

-- where all others than a name are kept, that name stands nowhere, and another one as often as before
none_left : (id : ℕ) (names : List ℕ) → times id (filter (λ other. not (other == id)) names) ≡ 0
none_left id [] = refl
none_left id (name ∷ rest) =
    let later = none_left id rest in
    elim (name == id) as (λ b. (name == id) ≡ b → times id (cond (not b) (name ∷ filter (λ other. not (other == id)) rest) (filter (λ other. not (other == id)) rest)) ≡ 0) [
      | true ↦ λ is. later
      | false ↦ λ is. one_more id name (filter (λ other. not (other == id)) rest) ∙ ap (λ b. cond b 1 0 + times id (filter (λ other. not (other == id)) rest)) is ∙ omega (arith, later)
    ] refl

as_often : (id first : ℕ) (names : List ℕ) → (first == id) ≡ false → times id (filter (λ other. not (other == first)) names) ≡ times id names
as_often id first [] apart = refl
as_often id first (name ∷ rest) apart =
    let kept = filter (λ other. not (other == first)) rest in
    let later = as_often id first rest apart in
    elim (cases_eq name first) [
      | inl is ↦
          let other : (name == id) ≡ false = ap (λ (n : ℕ). n == id) is ∙ apart in
          let gone : filter (λ other. not (other == first)) (name ∷ rest) ≡ kept = ap (λ b. cond (not b) (name ∷ kept) kept) (eq-eqb name first is) in
          ap (times id) gone ∙ later ∙ sym (one_more id name rest ∙ ap (λ b. cond b 1 0 + times id rest) other ∙ omega arith)
      | inr ne ↦
          let stays : filter (λ other. not (other == first)) (name ∷ rest) ≡ name ∷ kept = ap (λ b. cond (not b) (name ∷ kept) kept) (ne_eqb name first ne) in
          ap (times id) stays ∙ one_more id name kept ∙ ap (λ n. cond (name == id) 1 0 + n) later ∙ sym (one_more id name rest)
    ]

-- Each name of a list stands once among its first ones.
pub once_or_never : (id : ℕ) (names : List ℕ) → times id (firsts names) ≡ cond (list_any (λ name. name == id) names) 1 0
once_or_never id [] = refl
once_or_never id (name ∷ rest) =
    let kept = filter (λ other. not (other == name)) (firsts rest) in
    elim (cases_eq name id) [
      | inl is ↦
          let e = eq-eqb name id is in
          let none : times id kept ≡ 0 = ap (λ (n : ℕ). times id (filter (λ other. not (other == n)) (firsts rest))) is ∙ none_left id (firsts rest) in
          one_more id name kept ∙ ap (λ b. cond b 1 0 + times id kept) e ∙ omega (arith, none) ∙ sym (ap (λ b. cond (b || list_any (λ n. n == id) rest) 1 0) e)
      | inr ne ↦
          let e = ne_eqb name id ne in
          one_more id name kept ∙ ap (λ b. cond b 1 0 + times id kept) e ∙ omega (arith, as_often id name (firsts rest) e) ∙ once_or_never id rest ∙ sym (ap (λ b. cond (b || list_any (λ n. n == id) rest) 1 0) e)
    ]

-- and so at most once among those so far
pub at_most_once : (id i : ℕ) (names : List ℕ) → times id (take i (firsts names)) ≤ 1
at_most_once id i names =
    let most = sum_by-take-le (λ (n : ℕ). cond (n == id) 1 0) (firsts names) i in
    let all = once_or_never id names in
    let one : cond (list_any (λ name. name == id) names) 1 0 ≤ 1 = elim (list_any (λ name. name == id) names) as (λ b. cond b 1 0 ≤ 1) [ true ↦ omega arith | false ↦ omega arith ] in
    omega (arith, most, all, one)

-- one more at the place of a page
pub raised : (counts : List ℕ) (id place : ℕ) → id ≢ 0 → id ≤ length counts → get_or (set counts (id - 1) (get_or counts (id - 1) 0 + 1)) place 0 ≡ get_or counts place 0 + cond (id == place + 1) 1 0
raised counts id place some few = elim (cases_eq id (place + 1)) [
  | inl is ↦
      let here : place ≡ id - 1 = omega (arith, is) in
      let within : id - 1 < length counts = omega (arith, some, few) in
      let one : get_or (set counts (id - 1) (get_or counts (id - 1) 0 + 1)) (id - 1) 0 ≡ get_or counts (id - 1) 0 + 1 = get_or-set_same counts (id - 1) (get_or counts (id - 1) 0 + 1) 0 within in
      ap (λ (n : ℕ). get_or (set counts (id - 1) (get_or counts (id - 1) 0 + 1)) n 0) here ∙ one ∙ sym (ap (λ (n : ℕ). get_or counts n 0 + cond (id == place + 1) 1 0) here ∙ ap (λ b. get_or counts (id - 1) 0 + cond b 1 0) (eq-eqb id (place + 1) is))
  | inr ne ↦
      let apart : place ≢ id - 1 = λ same. ne (omega (arith, same, some)) in
      get_or-set_other counts (id - 1) place (get_or counts (id - 1) 0 + 1) 0 apart ∙ unchanged (get_or counts place 0) id (place + 1) ne
]
  where
    unchanged : (n id other : ℕ) → id ≢ other → n ≡ n + cond (id == other) 1 0
    unchanged n id other ne = omega arith ∙ sym (ap (λ b. n + cond b 1 0) (ne_eqb id other ne))

-- the counts stay small while the names of a page are gone through
pub room_left : (names items : List ℕ) (id i : ℕ) (old now : ℕ) → items ≡ firsts names → now ≤ old + times id (take i items) → old < 2 ^ 31 → now < 2 ^ 32 - 1
room_left names items id i old now is small few =
    let most : times id (take i items) ≤ 1 = subst (λ (l : List ℕ). times id (take i l) ≤ 1) (sym is) (at_most_once id i names) in
    omega (arith, small, most, few)

-- gone through to the end, each name of a page counted once
pub all_named : (names items : List ℕ) (id i : ℕ) → items ≡ firsts names → length items ≤ i → times id (take i items) ≡ cond (list_any (λ name. name == id) names) 1 0
all_named names items id i is end = ap (times id) (take_all i items end ∙ is) ∙ once_or_never id names
