-- The order of points: which compare alike, and what the other way round compares as.
use Rattle.std.proofs.Common.{◌≡◌, ◌≢◌, true, false, List, ℕ, refl, sym, subst}
use Rattle.std.specs.Ordering.{eq_by_cmp, ordering_reverse}
use Rattle.std.specs.declared.cmp.Ordering.{Ordering}
use Rattle.std.specs.declared.cmp.Ordering.TheVariants.{Less, Equal}
use Rattle.std.specs.FinMap.{IsAntisymmetric, nat_cmp-IsAntisymmetric, slice_cmp-IsAntisymmetric}
use Rattle.std.proofs.lemmas.Cmp.{nat_list_cmp_total, tied_itself}
use Rattle.hb_lemmas.proofs.Orderings.{equal_so, reversed}
use Rattle.hb_space.specs.Points.{point_cmp}

-- points that compare alike are one
pub exact_points : IsAntisymmetric point_cmp
exact_points = slice_cmp-IsAntisymmetric nat_cmp-IsAntisymmetric

pub same_point : (p q : List ℕ) → eq_by_cmp point_cmp p q ≡ true → p ≡ q
same_point p q h = exact_points p q (equal_so _ h)

pub other_point : (p q : List ℕ) → p ≢ q → eq_by_cmp point_cmp p q ≡ false
other_point p q n = elim (eq_by_cmp point_cmp p q) as (λ b. eq_by_cmp point_cmp p q ≡ b → eq_by_cmp point_cmp p q ≡ false) [ true ↦ λ t. absurd (n (same_point p q t)) | false ↦ λ f. f ] refl

-- of two points the lesser one is first
pub turned : (p q : List ℕ) (o : Ordering) → point_cmp p q ≡ o → point_cmp q p ≡ ordering_reverse o
turned p q o h = reversed nat_list_cmp_total p q o h

-- no point comes before itself
pub not_itself : (p q : List ℕ) → p ≡ q → point_cmp p q ≡ Less → ⊥
not_itself p q same less =
    let tied : point_cmp p p ≡ Equal = tied_itself nat_list_cmp_total p in
    let again : point_cmp p p ≡ Less = subst (λ (x : List ℕ). point_cmp p x ≡ Less) (sym same) less in
    cc
