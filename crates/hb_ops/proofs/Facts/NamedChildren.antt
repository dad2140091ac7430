-- A child that a page names has a leaf.
use Rattle.std.proofs.Common.{◌≡◌, ℕ, suc, ◌==◌, ◌||◌, true, false, List, [], ◌∷◌, IsTrue, refl, ap, arith}
use Rattle.std.specs.List.{Contains, list_any}
use Rattle.std.proofs.lemmas.Bool.{eqb-true}
use Rattle.hb_frag.specs.Leaves.{child_names}
use Rattle.hb_frag.specs.declared.leaves.Leaf.{Leaf}
use Rattle.hb_frag.specs.declared.leaves.Leaf.TheVariants.{Records, Child, Sibling}

pub named_leaf : (name : ℕ) (ls : List Leaf) → IsTrue (list_any (λ x. x == name) (child_names ls)) → Contains ls (Child name)
named_leaf name [] named = cc
named_leaf name (Records records ∷ rest) named = let more = named_leaf name rest named in (suc more.0, omega (arith, more.1), more.2)
named_leaf name (Sibling page ∷ rest) named = let more = named_leaf name rest named in (suc more.0, omega (arith, more.1), more.2)
named_leaf name (Child page ∷ rest) named = by (named_leaf name rest) named
  where
    by : (IsTrue (list_any (λ x. x == name) (child_names rest)) → Contains rest (Child name)) → IsTrue ((page == name) || list_any (λ x. x == name) (child_names rest)) → Contains (Child page ∷ rest) (Child name)
    by later here =
        elim (page == name) as (λ t. (page == name) ≡ t → IsTrue (t || list_any (λ x. x == name) (child_names rest)) → Contains (Child page ∷ rest) (Child name)) [
          | true ↦ λ same h. (0, omega arith, ap Child (eqb-true page name same))
          | false ↦ λ other h. let more = later h in (suc more.0, omega (arith, more.1), more.2)
        ] refl here
