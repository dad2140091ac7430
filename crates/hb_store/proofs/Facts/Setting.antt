-- Pages that were set, one after the other.
use Rattle.std.proofs.Common.{◌≡◌, inl, inr, ℕ, ◌==◌, Bool, true, false, cond, List, [], ◌∷◌, All, Option, Some, IsTrue, refl, sym, ap, ◌∙◌, subst}
use Rattle.std.specs.Prelude.{◌||◌, nat_eq}
use Rattle.std.specs.Option.{is_some}
use Rattle.std.proofs.lemmas.Bool.{eqb-true, or_right, or_cases}
use Rattle.std.proofs.lemmas.List.Elements.{All-head, All-tail}
use Rattle.hb_frag.specs.declared.pages.Page.{Page}
use Rattle.hb_store.specs.Replay.{is_among}
use Rattle.hb_ops.specs.SetPages.{set_pages, has_page}

pub or_swap : (a b c : Bool) → (a || (b || c)) ≡ (b || (a || c))
or_swap true true c = refl
or_swap true false c = refl
or_swap false b c = refl

pub or_assoc : (a b c : Bool) → ((a || b) || c) ≡ (a || (b || c))
or_assoc true b c = refl
or_assoc false b c = refl

-- a page is there once others were set exactly where it was, or is one of them
pub set_some : (pages : List (ℕ × Page)) (f : ℕ → Option Page) (q : ℕ) → is_some (set_pages pages f q) ≡ (has_page q pages || is_some (f q))
set_some [] f q = refl
set_some (one ∷ rest) f q =
    set_some rest (λ r. cond (r == one.0) (Some one.1) (f r)) q
    ∙ elim (q == one.0) as (λ b. (has_page q rest || is_some (cond b (Some one.1) (f q))) ≡ ((b || has_page q rest) || is_some (f q))) [ true ↦ or_right (has_page q rest) true refl | false ↦ refl ]

-- ---- numbers in lists

-- what holds of the number of each page holds of one of them
pub has_all : (Q : ℕ → Type 0) (pages : List (ℕ × Page)) (q : ℕ) → All (λ c. Q c.0) pages → IsTrue (has_page q pages) → Q q
has_all Q [] q all is = cc is
has_all Q (one ∷ rest) q all is =
    let R = λ (c : ℕ × Page). Q c.0 in
    elim (or_cases (q == one.0) (has_page q rest) is) [
      | inl here ↦ subst Q (sym (eqb-true q one.0 here)) (All-head R one rest all)
      | inr later ↦ has_all Q rest q (All-tail R one rest all) later
    ]

pub among_all : (Q : ℕ → Type 0) (ids : List ℕ) (q : ℕ) → All Q ids → IsTrue (is_among q ids) → Q q
among_all Q [] q all is = cc is
among_all Q (id ∷ rest) q all is = elim (or_cases (q == id) (is_among q rest) is) [
  | inl here ↦ subst Q (sym (eqb-true q id here)) (All-head Q id rest all)
  | inr later ↦ among_all Q rest q (All-tail Q id rest all) later
]

-- one number added, of those that are left
pub add_next : (q id : ℕ) (rest : List ℕ) (before after : Bool) → after ≡ (nat_eq q id || before) → (is_among q rest || after) ≡ (is_among q (id ∷ rest) || before)
add_next q id rest before after is =
    ap (λ (b : Bool). is_among q rest || b) is ∙ or_swap (is_among q rest) (q == id) before ∙ sym (or_assoc (q == id) (is_among q rest) before)
