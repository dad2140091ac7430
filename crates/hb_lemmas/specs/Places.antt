-- Elements in the order of their keys: where the element of a key stands, and where one would go.
use Rattle.std.specs.Prelude.{◌≡◌, ℕ, ◌<◌, ◌≤◌, List, length}
use Rattle.std.specs.List.{AllWithin, HoldsAt}
use Rattle.std.specs.declared.cmp.Ordering.{Ordering}
use Rattle.std.specs.declared.cmp.Ordering.TheVariants.{Less, Greater}

-- the element at the place has the key
pub record IsPlaceOf {X K : Type 0} (key : X → K) (xs : List X) (p : K) (place : ℕ) : Type 0 where
  pub in_range : place < length xs
  pub same_key : HoldsAt (λ x. key x ≡ p) xs place

-- the key would go to the place: lesser keys before it, and greater ones from it on
pub record IsGapFor {X K : Type 0} (cmp : K → K → Ordering) (key : X → K) (xs : List X) (p : K) (place : ℕ) : Type 0 where
  pub in_range : place ≤ length xs
  pub lesser_before : AllWithin (λ x. cmp (key x) p ≡ Less) xs 0 place
  pub greater_after : AllWithin (λ x. cmp (key x) p ≡ Greater) xs place (length xs)
