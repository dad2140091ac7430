-- Maps by numbers.
use Rattle.std.proofs.Common.{◌≡◌, ℕ, cond, List, [], ◌∷◌, Some, refl, ◌∙◌, ◌||◌}
use Rattle.std.specs.Prelude.{nat_eq}
use Rattle.std.specs.Map.{lookup}
use Rattle.std.specs.Ordering.{nat_cmp, eq_by_cmp}
use Rattle.std.specs.Cmp.{nat_cmp_total, unsigned_tied}
use Rattle.std.specs.FinMap as map
use Rattle.std.specs.List.{list_any}

-- a number is found by its order where it is found by its test
pub found : {X : Type 0} (es : List (ℕ × X)) (q : ℕ) → map.find nat_cmp q es ≡ lookup (nat_eq q) es
found [] q = refl
found (e ∷ es) q = λ i. cond (unsigned_tied q e.0 i) (Some e.1) (found es q i)

-- so is it in a map that was made of a list
pub get-from_list : {X : Type 0} (es : List (ℕ × X)) (q : ℕ) → map.get (map.from_entries {R = nat_cmp} es) q ≡ lookup (nat_eq q) es
get-from_list es q = map.get-from_entries nat_cmp_total es q ∙ found es q

-- numbers are told apart by their order as they are by their equality
pub any_same : (ks : List ℕ) (q : ℕ) → list_any (eq_by_cmp nat_cmp q) ks ≡ list_any (nat_eq q) ks
any_same [] q = refl
any_same (k ∷ ks) q = λ i. unsigned_tied q k i || any_same ks q i
