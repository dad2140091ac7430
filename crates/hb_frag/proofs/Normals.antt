-- Trees without cuts whose two sides should be one leaf.
use Rattle.std.proofs.Common.{◌≡◌, ℕ, eq-eqb, ◌==◌, cond, List, ◌++◌, inl, inr, refl, sym, subst}
use Rattle.std.proofs.lemmas.Bool.{cases_eq, ne_eqb}
use Rattle.hb_space.specs.declared.records.Record.{Record}
use Rattle.hb_frag.specs.declared.leaves.Leaf.TheVariants.{Records, Child, Sibling}
use Rattle.hb_frag.specs.Trees.{Tree, Tip, Cut}
use Rattle.hb_frag.specs.Rules.{AreAlike, IsNormal}
use Rattle.hb_frag.specs.Normal.{in_point_order, one_leaf_or_cut, normal}

-- what holds of both ways that two children can be named
children_by_cases : (axis value page other : ℕ) (P : Tree → Tree → Tree → Type 0) → ((page : ℕ) → P (Tip (Child page)) (Tip (Child page)) (Tip (Child page))) → ((l r : Tree) → ¬ (AreAlike l r) → P l r (Cut axis value l r)) → P (Tip (Child page)) (Tip (Child other)) (cond (page == other) (Tip (Child page)) (Cut axis value (Tip (Child page)) (Tip (Child other))))
children_by_cases axis value page other P one apart = elim (cases_eq page other) [
  | inl e ↦
      let Q : ℕ → Type 0 = λ n. P (Tip (Child page)) (Tip (Child n)) (Tip (Child page)) in
      rw (eq-eqb page other e) (subst Q e (one page))
  | inr n ↦ rw (ne_eqb page other n) (apart (Tip (Child page)) (Tip (Child other)) n)
]

-- two sides of a cut become one leaf, or they aren't alike
pub joined_by_cases : (axis value : ℕ) (P : Tree → Tree → Tree → Type 0) → ((xs ys : List Record) → P (Tip (Records xs)) (Tip (Records ys)) (Tip (Records (in_point_order (xs ++ ys))))) → ((page : ℕ) → P (Tip (Child page)) (Tip (Child page)) (Tip (Child page))) → ((l r : Tree) → ¬ (AreAlike l r) → P l r (Cut axis value l r)) → (l r : Tree) → P l r (one_leaf_or_cut axis value l r)
joined_by_cases axis value P both one apart (Tip (Records xs)) (Tip (Records ys)) = both xs ys
joined_by_cases axis value P both one apart (Tip (Records xs)) (Tip (Child page)) = apart _ _ (λ h. h)
joined_by_cases axis value P both one apart (Tip (Records xs)) (Tip (Sibling page)) = apart _ _ (λ h. h)
joined_by_cases axis value P both one apart (Tip (Records xs)) (Cut a v l r) = apart _ _ (λ h. h)
joined_by_cases axis value P both one apart (Tip (Child page)) (Tip (Records ys)) = apart _ _ (λ h. h)
joined_by_cases axis value P both one apart (Tip (Child page)) (Tip (Child other)) = children_by_cases axis value page other P one apart
joined_by_cases axis value P both one apart (Tip (Child page)) (Tip (Sibling other)) = apart _ _ (λ h. h)
joined_by_cases axis value P both one apart (Tip (Child page)) (Cut a v l r) = apart _ _ (λ h. h)
joined_by_cases axis value P both one apart (Tip (Sibling page)) r = apart _ _ (λ h. h)
joined_by_cases axis value P both one apart (Cut a v l r) s = apart _ _ (λ h. h)

kept_apart : (axis value : ℕ) (l r : Tree) → ¬ (AreAlike l r) → one_leaf_or_cut axis value l r ≡ Cut axis value l r
kept_apart axis value = joined_by_cases axis value (λ l r t. ¬ (AreAlike l r) → t ≡ Cut axis value l r)
    (λ xs ys h. absurd (h tt)) (λ page h. absurd (h refl)) (λ l r n h. refl)

pub normal_is : (t : Tree) → IsNormal (normal t)
normal_is (Tip leaf) = tt
normal_is (Cut axis value left right) = joined_by_cases axis value (λ l r t. IsNormal l → IsNormal r → IsNormal t)
    (λ xs ys h k. tt) (λ page h k. tt) (λ l r n h k. (n, h, k)) (normal left) (normal right) (normal_is left) (normal_is right)

pub normal_stays : (t : Tree) → IsNormal t → normal t ≡ t
normal_stays (Tip leaf) h = refl
normal_stays (Cut axis value left right) h =
    let a = normal_stays left h.1 in
    let b = normal_stays right h.2 in
    let P : Tree → Type 0 = λ x. one_leaf_or_cut axis value x (normal right) ≡ Cut axis value left right in
    let Q : Tree → Type 0 = λ x. one_leaf_or_cut axis value left x ≡ Cut axis value left right in
    subst P (sym a) (subst Q (sym b) (kept_apart axis value left right h.0))
