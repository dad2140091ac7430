-- The first number of which something holds, found by a loop.
use Rattle.std.proofs.Common.{◌≡◌, inl, inr, ℕ, zero, suc, ◌+◌, ◌<◌, ◌≤◌, List, length, Some, None, slice_get, get_or, refl, sym, ap, ◌∙◌, subst, arith, Option}
use Rattle.std.proofs.lemmas.Option.{slice_get_read, slice_get_within, slice_get-get_or}
use Rattle.std.proofs.lemmas.Bool.{cases_lt}
use Rattle.hb_sound.specs.declared.page_facts.Fact.{Fact}
use Rattle.hb_sound.specs.Covers.{SeesSome}
use Rattle.hb_sound.specs.Links.{IsFirstUpTo}
use Rattle.hb_sound.specs.Told.{item_at}
use Rattle.hb_sound.specs.Walks.{IsLeast}

-- the item behind a place
pub item_behind : {A : Type 0} (list : List A) (place : ℕ) → item_at list (place + 1) ≡ slice_get list place
item_behind {A} list place =
    let one : place + 1 ≡ suc place = omega arith in
    ap (λ (n : ℕ). item_at list n) one

-- and the item that is read there
pub item_got : {A : Type 0} (list : List A) (place : ℕ) (d : A) → place < length list → item_at list (place + 1) ≡ Some (get_or list place d)
item_got list place d within = item_behind list place ∙ slice_get-get_or list place d within

pub item_read : {A : Type 0} (list : List A) (place : ℕ) (item : A) → place < length list → item ≡ get_or list place item → item_at list (place + 1) ≡ Some item
item_read list place item within is = item_behind list place ∙ slice_get_read list (length list) place item refl within is

-- a number of an item is at most the length
pub item_within : {A : Type 0} (list : List A) (id : ℕ) (item : A) → item_at list id ≡ Some item → id ≤ length list
item_within {A} list zero item e = omega arith
item_within {A} list (suc place) item e = let within = slice_get_within list place item e in omega (arith, within)

-- the first
pub found : (p : ℕ → Type 0) (n : ℕ) → IsFirstUpTo p n None → p (n + 1) → IsLeast p (n + 1)
found p n none here = record {
  here = here;
  least = λ m at. later m at;
}
  where
    later : (m : ℕ) → p m → n + 1 ≤ m
    later m at = elim (cases_lt n m) [
      | inl lt ↦ omega (arith, lt)
      | inr le ↦ absurd (none m le at)
    ]

-- not yet, or before
pub pass_first : (p : ℕ → Type 0) (n : ℕ) (first : Option ℕ) → IsFirstUpTo p n first → ¬ (p (n + 1)) → IsFirstUpTo p (n + 1) first
pass_first p n None is off = λ m le at. elim (cases_lt n m) [
  | inl lt ↦ let e : m ≡ n + 1 = omega (arith, lt, le) in off (subst p e at)
  | inr before ↦ is m before at
]
pass_first p n (Some first) is off = is

-- what is seen behind a place
pub seen_here : (q : Fact → Type 0) (facts : List Fact) (place : ℕ) (fact : Fact) → slice_get facts place ≡ Some fact → q fact → SeesSome q facts (place + 1)
seen_here q facts place fact e holds = (fact, item_behind facts place ∙ e, holds)

pub seen_there : (q : Fact → Type 0) (facts : List Fact) (place : ℕ) (fact : Fact) → slice_get facts place ≡ Some fact → SeesSome q facts (place + 1) → q fact
seen_there q facts place fact e sees =
    let same : Some fact ≡ Some sees.0 = sym e ∙ sym (item_behind facts place) ∙ sees.1 in
    let is : sees.0 ≡ fact = cc in
    subst q is sees.2

-- the three ends of a loop that tests the facts one by one
pub found_here : (q : Fact → Type 0) (facts : List Fact) (place : ℕ) (fact : Fact) → place < length facts → fact ≡ get_or facts place fact
    → IsFirstUpTo (SeesSome q facts) place None → q fact → IsLeast (SeesSome q facts) (place + 1)
found_here q facts place fact within is none holds = found (SeesSome q facts) place none (seen_here q facts place fact (slice_get_read facts (length facts) place fact refl within is) holds)

pub still_none : (q : Fact → Type 0) (facts : List Fact) (place : ℕ) (fact : Fact) → place < length facts → fact ≡ get_or facts place fact
    → IsFirstUpTo (SeesSome q facts) place None → ¬ (q fact) → IsFirstUpTo (SeesSome q facts) (place + 1) None
still_none q facts place fact within is none fails =
    pass_first (SeesSome q facts) place None none (λ sees. fails (seen_there q facts place fact (slice_get_read facts (length facts) place fact refl within is) sees))

pub none_left : (q : Fact → Type 0) (facts : List Fact) (n : ℕ) → length facts ≤ n → IsFirstUpTo (SeesSome q facts) n None → (id : ℕ) → ¬ (SeesSome q facts id)
none_left q facts n all none id sees =
    let within = item_within facts id sees.0 sees.1 in
    none id (omega (arith, within, all)) sees
