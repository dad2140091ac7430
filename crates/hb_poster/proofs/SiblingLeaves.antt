-- Some leaf of a part names a sibling exactly where one of one of its sides does.
use Rattle.std.proofs.Common.{◌≡◌, ◌≢◌, ◌↔◌, IsTrue, ℕ, Bool, true, false, List, [], ◌∷◌, ◌++◌, refl, sym, subst, ◌∙◌}
use Rattle.std.proofs.lemmas.Bool.{false≢true}
use Rattle.hb_frag.proofs.Facts.NamesListed.{siblings-append}
use Rattle.hb_frag.specs.Leaves.{Placed, siblings}
use Rattle.hb_space.specs.Boxes.{Area}
use Rattle.hb_lemmas.proofs.Lists.{not_empty}

front_some : (xs ys : List (ℕ × Area)) → xs ≢ [] → xs ++ ys ≢ []
front_some [] ys some none = some refl
front_some (x ∷ xs) ys some none = not_empty x (xs ++ ys) none

-- The left side has one.
pub left_has : (xs ys : List Placed) (b : Bool) → (IsTrue b ↔ (siblings xs ≢ [])) → b ≡ true → IsTrue b ↔ (siblings (xs ++ ys) ≢ [])
left_has xs ys b has there =
    subst (λ (s : List (ℕ × Area)). IsTrue b ↔ (s ≢ [])) (sym (siblings-append xs ys))
    (λ so. front_some (siblings xs) (siblings ys) (has.0 so), λ some. there)

behind_none : (xs ys : List (ℕ × Area)) (b c : Bool) → (IsTrue b ↔ (xs ≢ [])) → b ≡ false → (IsTrue c ↔ (ys ≢ [])) → IsTrue c ↔ (xs ++ ys ≢ [])
behind_none [] ys b c has none right = right
behind_none (x ∷ xs) ys b c has none right = absurd (false≢true (sym none ∙ has.1 (not_empty x xs)))

-- It has none.
pub left_has_none : (xs ys : List Placed) (b c : Bool) → (IsTrue b ↔ (siblings xs ≢ [])) → b ≡ false → (IsTrue c ↔ (siblings ys ≢ [])) → IsTrue c ↔ (siblings (xs ++ ys) ≢ [])
left_has_none xs ys b c has none right =
    subst (λ (s : List (ℕ × Area)). IsTrue c ↔ (s ≢ [])) (sym (siblings-append xs ys)) (behind_none (siblings xs) (siblings ys) b c has none right)
