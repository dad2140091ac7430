-- Elements in the order of their keys: what a search for a key finds.
use Rattle.std.proofs.Common.{◌≡◌, ℕ, zero, suc, ◌+◌, List, ◌∷◌, length, get_or, AllPairs, Result, Ok, Err, IfOk, IfErr, ap, arith}
use Rattle.std.specs.Cmp.{IsTotalOrder}
use Rattle.std.specs.FinMap.{IsAntisymmetric}
use Rattle.std.specs.List.Sorted.{IsNonDecreasingBy, IsBinarySearchResult, IsSearchInRange}
use Rattle.std.specs.Ordering.{is_lt, ordering_index}
use Rattle.std.specs.declared.cmp.Ordering.{Ordering}
use Rattle.std.specs.declared.cmp.Ordering.TheVariants.{Less}
use Rattle.std.proofs.lemmas.List.Sorted.{searchable_from_sorted}
use Rattle.hb_lemmas.proofs.Orderings.{reversed}
use Rattle.hb_lemmas.specs.Places.{IsPlaceOf, IsGapFor}

-- a place in what lies behind the first element
pub at_later : {X K : Type 0} (key : X → K) (x : X) (xs : List X) (p : K) (i : ℕ) → IsPlaceOf key (x ∷ xs) p (suc i) → IsPlaceOf key xs p i
at_later key x xs p i at = record { in_range = omega (arith, at.in_range); same_key = at.same_key }

module _ {X K : Type 0} {cmp : K → K → Ordering} (key : X → K) where
  -- the comparisons with a key rise, as a binary search asks
  pub comparisons_rise : IsTotalOrder cmp → (xs : List X) (p : K) → AllPairs (λ x y. cmp (key x) (key y) ≡ Less) xs → IsNonDecreasingBy (λ x. ordering_index (cmp (key x) p)) xs
  comparisons_rise order xs p rise = searchable_from_sorted order key xs p (λ k d low high. ap is_lt (reversed order (key (get_or xs k d)) (key (get_or xs (k + 1) d)) Less (rise k (k + 1) d (omega arith) high)))

  -- a binary search ends at the key's place, or at the gap for it
  pub found_at : IsAntisymmetric cmp → (xs : List X) (p : K) (r : Result ℕ ℕ) → IsSearchInRange r (length xs) → IsBinarySearchResult (λ x. cmp (key x) p) xs r → IfOk r (IsPlaceOf key xs p)
  found_at exact xs p (Ok i) in_range here = record { in_range = in_range; same_key = λ d. exact _ _ (here d) }
  found_at exact xs p (Err i) in_range here = tt

  pub gap_at : IsTotalOrder cmp → (xs : List X) (p : K) → AllPairs (λ x y. cmp (key x) (key y) ≡ Less) xs → (r : Result ℕ ℕ) → IsSearchInRange r (length xs) → IsBinarySearchResult (λ x. cmp (key x) p) xs r → IfErr r (IsGapFor cmp key xs p)
  gap_at order xs p rise (Ok i) in_range parted = tt
  gap_at order xs p rise (Err i) in_range parted =
      let both = parted (comparisons_rise order xs p rise) in
      record { in_range = in_range; lesser_before = both.0; greater_after = both.1 }

  -- a gap in what lies behind the first element
  pub gap_later : (x : X) (xs : List X) (p : K) (i : ℕ) → IsGapFor cmp key (x ∷ xs) p (suc i) → IsGapFor cmp key xs p i
  gap_later x xs p i gap = record {
    in_range = omega (arith, gap.in_range);
    lesser_before = λ k d low high. gap.lesser_before (suc k) d (omega arith) (omega arith);
    greater_after = λ k d low high. gap.greater_after (suc k) d (omega arith) (omega arith);
  }

  pub gap_first : (x : X) (xs : List X) (p : K) → IsGapFor cmp key (x ∷ xs) p zero → IsGapFor cmp key xs p zero
  gap_first x xs p gap = record {
    in_range = omega arith;
    lesser_before = λ k d low high. absurd (omega arith);
    greater_after = λ k d low high. gap.greater_after (suc k) d (omega arith) (omega arith);
  }
