-- Sibling leaves among the leaves of a page, and among the pages of a file.
use Rattle.std.proofs.Common.{◌≡◌, ℕ, zero, suc, ◌+◌, ◌<◌, Bool, cond, List, [], ◌∷◌, slice_get, Some, refl, ap, subst, arith, inl, inr, ne_eqb}
use Rattle.std.specs.List.{Contains}
use Rattle.std.proofs.lemmas.Bool.{cases_eq, cases_lt}
use Rattle.hb_space.specs.Boxes.{Area}
use Rattle.hb_frag.specs.declared.pages.LivePage.{LivePage}
use Rattle.hb_frag.specs.declared.pages.Page.{Page}
use Rattle.hb_frag.specs.declared.pages.Page.TheVariants.{Live, Free}
use Rattle.hb_frag.specs.Leaves.{siblings_of}
use Rattle.hb_ops.specs.Sound.{count_name, times_named}
use Rattle.std.proofs.lemmas.List.Elements.{Contains-append_right}

-- what is named is named by some leaf
counted : (id : ℕ) (ss : List (ℕ × Area)) → 0 < count_name id ss → (area : Area) × Contains ss (id, area)
counted id [] h = absurd (omega arith)
counted id (s ∷ rest) h = elim (cases_eq s.0 id) [
  | inl is ↦ (s.1, (zero, omega arith, ap (λ (n : ℕ). (n, s.1)) is))
  | inr ne ↦
      let left : 0 < 0 + count_name id rest = subst (λ (b : Bool). 0 < cond b 1 0 + count_name id rest) (ne_eqb s.0 id ne) h in
      let w = counted id rest (omega (arith, left)) in
      (w.0, Contains-append_right (s ∷ []) rest (id, w.0) w.1)
]

-- and of some page
pub record IsNamedAmong (id : ℕ) (pages : List Page) : Type 0 where
  pub place : ℕ
  pub page : LivePage
  pub area : Area
  pub there : slice_get pages place ≡ Some (Live page)
  pub names : Contains (siblings_of page) (id, area)

one_later : (id : ℕ) (x : Page) (pages : List Page) → IsNamedAmong id pages → IsNamedAmong id (x ∷ pages)
one_later id x pages w = record { place = suc w.place; page = w.page; area = w.area; there = w.there; names = w.names }

pub named_among : (id : ℕ) (pages : List Page) → 0 < times_named id pages → IsNamedAmong id pages
named_among id [] h = absurd (omega arith)
named_among id (Live page ∷ rest) h = elim (cases_lt 0 (count_name id (siblings_of page))) [
  | inl some ↦ let w = counted id (siblings_of page) some in record { place = zero; page = page; area = w.0; there = refl; names = w.1 }
  | inr none ↦ one_later id (Live page) rest (named_among id rest (omega arith))
]
named_among id (Free next ∷ rest) h = one_later id (Free next) rest (named_among id rest h)
