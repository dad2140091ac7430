-- The walk along the free chain: each step flags a page.
use Rattle.std.proofs.Common.{◌≡◌, inl, inr, ℕ, zero, suc, ◌+◌, ◌-◌, ◌<◌, ◌≤◌, Bool, true, false, List, [], ◌∷◌, ◌++◌, Contains, Option, Some, None, slice_get, slice_set, refl, sym, ◌∙◌, subst, arith}
use Rattle.std.proofs.lemmas.Bool.{cases_eq}
use Rattle.std.proofs.lemmas.List.Elements.{Contains-append_cases, Contains-append_left, Contains-append_right}
use Rattle.std.proofs.lemmas.Option.{slice_get_within}
use Rattle.hb_sound.specs.Covers.{IsChained}
use Rattle.hb_sound.specs.Told.{item_at}
use Rattle.hb_sound.specs.Walks.{IsOnce, LeadsAlong}
use Rattle.hb_lemmas.proofs.Lists.{only_one}
use Rattle.hb_space.proofs.Facts.Lists.{get-set_other, get-set_same}

-- how many flags aren't set
abbrev pub unflagged : List Bool → ℕ
unflagged [] = 0
unflagged (true ∷ rest) = unflagged rest
unflagged (false ∷ rest) = 1 + unflagged rest

less_at : (flags : List Bool) (place : ℕ) → slice_get flags place ≡ Some false → unflagged (slice_set flags place true) < unflagged flags
less_at [] place e = let never : None ≡ Some false = e in cc
less_at (true ∷ rest) zero e = cc
less_at (false ∷ rest) zero e = omega arith
less_at (true ∷ rest) (suc n) e = less_at rest n e
less_at (false ∷ rest) (suc n) e = let again = less_at rest n e in omega (arith, again)

pub less_unflagged : (flags : List Bool) (id : ℕ) → item_at flags id ≡ Some false → unflagged (slice_set flags (id - 1) true) < unflagged flags
less_unflagged flags zero e = let never : None ≡ Some false = e in cc
less_unflagged flags (suc place) e =
    let same : place ≡ suc place - 1 = omega arith in
    let Q : ℕ → Type 0 = λ n. unflagged (slice_set flags n true) < unflagged flags in
    subst Q same (less_at flags place e)

item_set_same : (flags : List Bool) (id : ℕ) (x y : Bool) → item_at flags id ≡ Some y → item_at (slice_set flags (id - 1) x) id ≡ Some x
item_set_same flags zero x y e = let never : None ≡ Some y = e in cc
item_set_same flags (suc place) x y e =
    let same : place ≡ suc place - 1 = omega arith in
    let Q : ℕ → Type 0 = λ n. slice_get (slice_set flags n x) place ≡ Some x in
    subst Q same (get-set_same flags place x (slice_get_within flags place y e))

item_set_other : (flags : List Bool) (id other : ℕ) (x : Bool) → 1 ≤ id → ¬ (other ≡ id) → item_at (slice_set flags (id - 1) x) other ≡ item_at flags other
item_set_other flags id zero x some apart = refl
item_set_other flags id (suc k) x some apart = get-set_other flags (id - 1) k x (λ e. apart (omega (arith, e, some)))

-- a chain with one more number
leads_on : (next : ℕ → Option ℕ) (head : ℕ) (chain : List ℕ) (id following : ℕ) → LeadsAlong next head chain id → next id ≡ Some following → LeadsAlong next head (chain ++ id ∷ []) following
leads_on next head [] id following e step = (e, following, step, refl)
leads_on next head (first ∷ rest) id following leads step = (leads.0, leads.1, leads.2, leads_on next leads.1 rest id following leads.3 step)

once_on : (chain : List ℕ) (id : ℕ) → IsOnce chain → ¬ (Contains chain id) → IsOnce (chain ++ id ∷ [])
once_on [] id once new = (λ h. absurd (omega (arith, h.1)), tt)
once_on (first ∷ rest) id once new = (
  λ h. elim (Contains-append_cases rest (id ∷ []) first h) [
    | inl here ↦ once.0 here
    | inr here ↦ let e : id ≡ first = only_one {X = ℕ} id first here in
        new (let Q : ℕ → Type 0 = λ x. Contains (first ∷ rest) x in subst Q (sym e) (0, omega arith, refl))
  ],
  once_on rest id once.1 (λ h. new (Contains-append_right (first ∷ []) rest id h)),
)

some_id : (flags : List Bool) (id : ℕ) (b : Bool) → item_at flags id ≡ Some b → 1 ≤ id
some_id flags zero b e = absurd (let never : None ≡ Some b = e in cc)
some_id flags (suc n) b e = omega arith

chained_on : (chain : List ℕ) (flags : List Bool) (id : ℕ) → IsChained chain flags → item_at flags id ≡ Some false → IsChained (chain ++ id ∷ []) (slice_set flags (id - 1) true)
chained_on chain flags id chained off other =
    let apart_then : ¬ (other ≡ id) → item_at (slice_set flags (id - 1) true) other ≡ item_at flags other =
    item_set_other flags id other true (some_id flags id false off) in (
      λ h. elim (Contains-append_cases chain (id ∷ []) other h) [
        | inl here ↦
            let on = (chained other).0 here in
            let Q : ℕ → Type 0 = λ n. item_at flags n ≡ Some true in
            apart_then (λ e. absurd (let never : Some true ≡ Some false = sym (subst Q e on) ∙ off in cc)) ∙ on
        | inr here ↦
            let e : id ≡ other = only_one {X = ℕ} id other here in
            let Q : ℕ → Type 0 = λ n. item_at (slice_set flags (id - 1) true) n ≡ Some true in
            subst Q e (item_set_same flags id true false off)
      ],
      λ on. elim (cases_eq other id) [
        | inl e ↦ let Q : ℕ → Type 0 = λ n. Contains (chain ++ id ∷ []) n in
            subst Q (sym e) (Contains-append_right chain (id ∷ []) id (0, omega arith, refl))
        | inr apart ↦ Contains-append_left chain (id ∷ []) other ((chained other).1 (sym (apart_then apart) ∙ on))
      ],
    )

-- one step of the walk
pub walk_on : (next : ℕ → Option ℕ) (head id following : ℕ) (flags : List Bool)
    → ((chain : List ℕ) × LeadsAlong next head chain id × IsOnce chain × IsChained chain flags) → next id ≡ Some following → item_at flags id ≡ Some false
    → (chain : List ℕ) × LeadsAlong next head chain following × IsOnce chain × IsChained chain (slice_set flags (id - 1) true)
walk_on next head id following flags walk step off =
    let new : ¬ (Contains walk.0 id) = λ h. absurd (let never : Some true ≡ Some false = sym ((walk.3 id).0 h) ∙ off in cc) in
    (walk.0 ++ id ∷ [], leads_on next head walk.0 id following walk.1 step, once_on walk.0 id walk.2 new, chained_on walk.0 flags id walk.3 off)
