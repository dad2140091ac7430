-- Boxes of one attribute.
use Rattle.std.proofs.Common.{◌≡◌, ◌≢◌, ℕ, zero, suc, ◌<◌, ◌-◌, ◌≤◌, ◌^◌, [], ◌∷◌, slice_index, refl, ap, arith}
use Rattle.hb_space.specs.Boxes.{Area, Cuts, Holds, Within, whole_area}

abbrev pub interval : ℕ → ℕ → Area
interval low high = record { lo = low ∷ []; hi = high ∷ [] }

abbrev pub top : ℕ
top = 2 ^ 64 - 1

pub held : (low value high : ℕ) → low ≤ value → value ≤ high → Holds (interval low high) (value ∷ [])
held low value high above below = record { same = refl; between = inside }
  where
    inside : (i : ℕ) → i < 1 → (slice_index (low ∷ []) i ≤ slice_index (value ∷ []) i) × (slice_index (value ∷ []) i ≤ slice_index (high ∷ []) i)
    inside zero lt = (above, below)
    inside (suc i) lt = absurd (omega (arith, lt))

pub below_all : (low value high : ℕ) → value < low → Holds (interval low high) (value ∷ []) → ⊥
below_all low value high less h = let at = (h.between 0 (omega arith)).0 in omega (arith, at, less)

pub above_all : (low value high : ℕ) → high < value → Holds (interval low high) (value ∷ []) → ⊥
above_all low value high less h = let at = (h.between 0 (omega arith)).1 in omega (arith, at, less)

pub within : (low high least greatest : ℕ) → least ≤ low → high ≤ greatest → Within (interval low high) (interval least greatest)
within low high least greatest above below = inside
  where
    inside : (i : ℕ) → i < 1 → (slice_index (least ∷ []) i ≤ slice_index (low ∷ []) i) × (slice_index (high ∷ []) i ≤ slice_index (greatest ∷ []) i)
    inside zero lt = (above, below)
    inside (suc i) lt = absurd (omega (arith, lt))

-- a value above the least and at most the greatest one cuts
pub cuts : (low high value : ℕ) → low < value → value ≤ high → Cuts (interval low high) 0 value
cuts low high value above below = record { attribute = omega arith; above_least = above; up_to_greatest = below }

-- a box that begins above 0 isn't the whole space
pub not_whole : (low high : ℕ) → 0 < low → interval low high ≢ whole_area 1
not_whole low high above e = let least : low ≡ 0 = ap (λ (a : Area). slice_index a.lo 0) e in omega (arith, least, above)
