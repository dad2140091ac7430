-- Boxes of points.
use Rattle.std.specs.Prelude.{◌≡◌, ℕ, zero, suc, ◌+◌, ◌-◌, ◌*◌, ◌^◌, ◌<◌, ◌≤◌, min, max, Bool, true, false, ◌&&◌, nat_le, nat_lt, if◌then◌else◌, List, [], ◌∷◌, ◌++◌, length, replicate, slice_index, slice_set, EachIndex}
use Rattle.hb_space.specs.Points.{IsPoint}

-- a box: a least and a greatest value for each attribute
pub record Area : Type 0 where
  pub lo : List ℕ
  pub hi : List ℕ

-- the two corners are points of as many attributes, and no least value is above its greatest one
pub record IsArea (a : Area) : Type 0 where
  pub lo_point : IsPoint a.lo
  pub hi_point : IsPoint a.hi
  pub same : length a.lo ≡ length a.hi
  pub ordered : EachIndex a.lo (λ i. slice_index a.lo i ≤ slice_index a.hi i)

-- the box holds the point: in each attribute its value lies between the least and the greatest one
pub record Holds (a : Area) (p : List ℕ) : Type 0 where
  pub same : length p ≡ length a.lo
  pub between : EachIndex p (λ i. (slice_index a.lo i ≤ slice_index p i) × (slice_index p i ≤ slice_index a.hi i))

-- two boxes meet: in each attribute the greater of the least values is at most the lesser of the greatest ones
abbrev pub Meets : Area → Area → Type 0
Meets a b = EachIndex a.lo (λ i. max (slice_index a.lo i) (slice_index b.lo i) ≤ min (slice_index a.hi i) (slice_index b.hi i))

-- one box lies within another
abbrev pub Within : Area → Area → Type 0
Within a b = EachIndex a.lo (λ i. (slice_index b.lo i ≤ slice_index a.lo i) × (slice_index a.hi i ≤ slice_index b.hi i))

-- no point lies in both boxes
abbrev pub Disjoint : Area → Area → Type 0
Disjoint a b = (p : List ℕ) → Holds a p → Holds b p → ⊥

-- the plane parts the box: it holds points below the value, and points from it on
pub record Cuts (a : Area) (axis value : ℕ) : Type 0 where
  pub attribute : axis < length a.lo
  pub above_least : slice_index a.lo axis < value
  pub up_to_greatest : value ≤ slice_index a.hi axis

-- the whole space of k attributes, and the box of one point
abbrev pub whole_area : ℕ → Area
whole_area k = record { lo = replicate k 0; hi = replicate k (2 ^ 64 - 1) }

abbrev pub point_area : List ℕ → Area
point_area p = record { lo = p; hi = p }

-- the sides of a plane
abbrev pub side_below : Area → ℕ → ℕ → Area
side_below a axis value = record { lo = a.lo; hi = slice_set a.hi axis (value - 1) }

abbrev pub side_from : Area → ℕ → ℕ → Area
side_from a axis value = record { lo = slice_set a.lo axis value; hi = a.hi }

-- the values of two lists at each place, as one
abbrev pub zip_by : (ℕ → ℕ → ℕ) → List ℕ → List ℕ → List ℕ
zip_by f [] ys = []
zip_by f (x ∷ xs) [] = []
zip_by f (x ∷ xs) (y ∷ ys) = f x y ∷ zip_by f xs ys

-- what two boxes that meet have in common
abbrev pub common_area : Area → Area → Area
common_area a b = record { lo = zip_by max a.lo b.lo; hi = zip_by min a.hi b.hi }

-- What of a box lies outside a box c within it, attribute by attribute: what lies below c, then what lies
-- above it, and then the same of the rest between them, in the attributes that follow.
abbrev pub pieces_below : ℕ → Area → Area → List Area
pieces_below axis rest c = if nat_lt (slice_index rest.lo axis) (slice_index c.lo axis) then side_below rest axis (slice_index c.lo axis) ∷ [] else []

abbrev pub pieces_above : ℕ → Area → Area → List Area
pieces_above axis rest c = if nat_lt (slice_index c.hi axis) (slice_index rest.hi axis) then side_from rest axis (slice_index c.hi axis + 1) ∷ [] else []

abbrev pub rest_between : ℕ → Area → Area → Area
rest_between axis rest c = record { lo = slice_set rest.lo axis (slice_index c.lo axis); hi = slice_set rest.hi axis (slice_index c.hi axis) }

abbrev pub pieces_from : ℕ → ℕ → Area → Area → List Area
pieces_from zero axis rest c = []
pieces_from (suc n) axis rest c = (pieces_below axis rest c ++ pieces_above axis rest c) ++ pieces_from n (axis + 1) (rest_between axis rest c) c

abbrev pub pieces_outside : Area → Area → List Area
pieces_outside a c = pieces_from (length a.lo) 0 a c

-- whether a box of these corners holds the point, as a test
abbrev pub is_between : List ℕ → List ℕ → List ℕ → Bool
is_between [] [] [] = true
is_between (l ∷ ls) (h ∷ hs) (x ∷ xs) = (nat_le l x && nat_le x h) && is_between ls hs xs
is_between _ _ _ = false

abbrev pub holds : Area → List ℕ → Bool
holds a p = is_between a.lo a.hi p

-- how many points a box holds
abbrev pub volume_between : List ℕ → List ℕ → ℕ
volume_between [] hs = 1
volume_between (l ∷ ls) [] = 1
volume_between (l ∷ ls) (h ∷ hs) = (h - l + 1) * volume_between ls hs

abbrev pub volume : Area → ℕ
volume a = volume_between a.lo a.hi
