-- A pair that is found is one.
use Rattle.std.proofs.Common.{◌≡◌, ℕ, suc, ◌+◌, ◌-◌, ◌≤◌, ◌==◌, ◌&&◌, Bool, true, false, cond, List, [], ◌∷◌, IsTrue, Option, Some, None, refl, ap, subst, arith}
use Rattle.std.specs.List.{slice_get}
use Rattle.std.proofs.lemmas.Bool.{eqb-true}
use Rattle.hb_frag.specs.declared.leaves.Leaf.{Leaf}
use Rattle.hb_frag.specs.declared.leaves.Leaf.TheVariants.{Records, Child, Sibling}
use Rattle.hb_frag.specs.declared.pages.LivePage.{LivePage}
use Rattle.hb_consol.specs.ConsolidatorRows.{names_child, one_on, pair_among}
use Rattle.hb_consol.specs.Laws.{PairsAreNamed}
use Rattle.hb_frag.specs.Leaves.{leaves}

-- what was to be shown, of a list of leaves
record IsAmong (parent : LivePage) (rest : List Leaf) (from gone place : ℕ) : Type 0 where
  named : IsTrue (names_child parent gone)
  leaf : slice_get rest place ≡ Some (Sibling gone)
  onward : from ≤ place

module _ (parent : LivePage) where
  -- one place further on
  behind : (leaf : Leaf) (rest : List Leaf) (from gone place : ℕ) (pair : Option (ℕ × ℕ)) → ((other at : ℕ) → pair ≡ Some (other, at) → IsAmong parent rest (from - 1) other at)
      → one_on pair ≡ Some (gone, place) → IsAmong parent (leaf ∷ rest) from gone place
  behind leaf rest from gone place None later is = absurd (let no : ⊥ = cc in no)
  behind leaf rest from gone place (Some (other, at)) later is =
      let same : ◌≡◌ {A = ℕ × ℕ} (other, at + 1) (gone, place) = cc in
      let of_name : other ≡ gone = ap (λ (p : ℕ × ℕ). p.0) same in
      let of_place : at + 1 ≡ place = ap (λ (p : ℕ × ℕ). p.1) same in
      let next : suc at ≡ place = omega (arith, of_place) in
      let found = later other at refl in
      subst (λ (n : ℕ). IsAmong parent (leaf ∷ rest) from gone n) next (subst (λ (n : ℕ). IsAmong parent (leaf ∷ rest) from n (suc at)) of_name
      (record { named = found.named; leaf = found.leaf; onward = let low = found.onward in omega (arith, low) }))

  -- a sibling leaf is the first one, or isn't
  at_sibling : (page : ℕ) (rest : List Leaf) (from gone place : ℕ) → ((other at : ℕ) → pair_among parent (from - 1) rest ≡ Some (other, at) → IsAmong parent rest (from - 1) other at)
      → (first named : Bool) → (from == 0) ≡ first → names_child parent page ≡ named → cond (first && named) (Some (page, 0)) (one_on (pair_among parent (from - 1) rest)) ≡ Some (gone, place) → IsAmong parent (Sibling page ∷ rest) from gone place
  at_sibling page rest from gone place later true true at_first has is =
      let same : ◌≡◌ {A = ℕ × ℕ} (page, 0) (gone, place) = cc in
      let of_name : page ≡ gone = ap (λ (p : ℕ × ℕ). p.0) same in
      let of_place : 0 ≡ place = ap (λ (p : ℕ × ℕ). p.1) same in
      subst (λ (n : ℕ). IsAmong parent (Sibling page ∷ rest) from gone n) of_place (subst (λ (n : ℕ). IsAmong parent (Sibling page ∷ rest) from n 0) of_name
      (record { named = has; leaf = refl; onward = omega (arith, eqb-true from 0 at_first) }))
  at_sibling page rest from gone place later true false at_first has is = behind (Sibling page) rest from gone place (pair_among parent (from - 1) rest) later is
  at_sibling page rest from gone place later false named at_first has is = behind (Sibling page) rest from gone place (pair_among parent (from - 1) rest) later is

  among : (from gone place : ℕ) (rest : List Leaf) → pair_among parent from rest ≡ Some (gone, place) → IsAmong parent rest from gone place
  among from gone place [] is = absurd (let no : ⊥ = cc in no)
  among from gone place (Records records ∷ rest) is = behind (Records records) rest from gone place (pair_among parent (from - 1) rest) (λ other at found. among (from - 1) other at rest found) is
  among from gone place (Child page ∷ rest) is = behind (Child page) rest from gone place (pair_among parent (from - 1) rest) (λ other at found. among (from - 1) other at rest found) is
  among from gone place (Sibling page ∷ rest) is = at_sibling page rest from gone place (λ other at found. among (from - 1) other at rest found) (from == 0) (names_child parent page) refl refl is

pub pairs_are_named : PairsAreNamed
pairs_are_named parent keep from gone place is = let found = among parent from gone place (leaves keep.frag) is in record { named = found.named; leaf = found.leaf; onward = found.onward }
