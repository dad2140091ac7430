-- Records of different points that were sorted rise.
use Rattle.std.proofs.Common.{◌≡◌, Bool, false, List, [], ◌∷◌, get_or, AllPairs, refl, sym, ap, ◌∙◌, arith}
use Rattle.std.specs.List.{IsDistinct}
use Rattle.std.specs.List.Sorted.{IsPermutation, IsSortedBy}
use Rattle.std.specs.Ordering.{eq_by_cmp, is_eq, is_lt, ordering_reverse}
use Rattle.std.specs.Cmp.{eq_by_cmp_equiv}
use Rattle.std.specs.declared.cmp.Ordering.{Ordering}
use Rattle.std.specs.declared.cmp.Ordering.TheVariants.{Less, Equal, Greater}
use Rattle.std.proofs.lemmas.Bool.{false≢true}
use Rattle.std.proofs.lemmas.Cmp.{nat_list_cmp_total}
use Rattle.std.proofs.lemmas.List.Elements.{All-from_recursion, recursion_from_All}
use Rattle.std.proofs.lemmas.List.Kept.{AllPairs-cons}
use Rattle.std.proofs.lemmas.List.Sorted.{sorted_far}
use Rattle.std.proofs.lemmas.Map.Keys.{IsDistinct-IsPermutation}
use Rattle.hb_space.proofs.Facts.PointOrder.{other_point, turned}
use Rattle.hb_space.specs.Points.{point_cmp}
use Rattle.hb_space.specs.declared.records.Record.{Record}
use Rattle.hb_lemmas.proofs.Pairs.{pairs_first, pairs_none, pairs_rest}
use Rattle.hb_frag.proofs.Facts.PointOrder.{comes_before, comes_before_ranks}
use Rattle.hb_frag.specs.Rules.{Differ, Precedes}

-- whether two records are of one point
abbrev same_place : Record → Record → Bool
same_place r s = eq_by_cmp point_cmp r.key s.key

distinct_of : (xs : List Record) → AllPairs Differ xs → IsDistinct same_place xs
unfolding IsDistinct
distinct_of [] pairs = tt
distinct_of (r ∷ rest) pairs = (
  recursion_from_All (λ s. same_place r s ≡ false) rest (λ k d lt. other_point r.key (get_or rest k d).key (λ same. pairs_first Differ r rest pairs k d lt (sym same))),
  distinct_of rest (pairs_rest Differ r rest pairs),
)

pairs_of : (xs : List Record) → IsDistinct same_place xs → AllPairs (λ r s. same_place r s ≡ false) xs
unfolding IsDistinct
pairs_of [] distinct = pairs_none (λ r s. same_place r s ≡ false)
pairs_of (r ∷ rest) distinct = AllPairs-cons (λ r s. same_place r s ≡ false) r rest (All-from_recursion (λ s. same_place r s ≡ false) rest distinct.0) (pairs_of rest distinct.1)

less_is_left : (o : Ordering) → is_lt (ordering_reverse o) ≡ false → is_eq o ≡ false → o ≡ Less
less_is_left Less behind apart = refl
less_is_left Equal behind apart = absurd (false≢true (sym apart))
less_is_left Greater behind apart = absurd (false≢true (sym behind))

pub sorted_rise : (xs ys : List Record) → AllPairs Differ xs → IsPermutation xs ys → IsSortedBy comes_before ys → AllPairs Precedes ys
sorted_rise xs ys once same up i j d less lt =
    let distinct = IsDistinct-IsPermutation same_place (λ r s. (eq_by_cmp_equiv nat_list_cmp_total).symm r.key s.key) xs ys same (distinct_of xs once) in
    let apart = pairs_of ys distinct i j d less lt in
    let behind = sorted_far comes_before comes_before_ranks ys up i j d (omega (arith, less)) lt in
    less_is_left (point_cmp (get_or ys i d).key (get_or ys j d).key) (ap is_lt (sym (turned (get_or ys i d).key (get_or ys j d).key _ refl)) ∙ behind) apart
