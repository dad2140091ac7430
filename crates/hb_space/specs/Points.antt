-- What contracts see of points, bodies and records.
use Rattle.std.specs.Prelude.{ℕ, ◌<◌, ◌≤◌, ◌^◌, List, length, slice_index, EachIndex, All}
use Rattle.std.specs.Ordering.{nat_cmp}
use Rattle.std.specs.Cmp.Lexicographic.{slice_cmp}
use Rattle.std.specs.declared.cmp.Ordering.{Ordering}
use Rattle.hb_space.specs.declared.form.TheConstants.{KMAX, BMAX}

-- a point of k attributes is a list of k whole numbers below 2 ^ 64
pub record IsPoint (p : List ℕ) : Type 0 where
  pub some : 0 < length p
  pub few : length p ≤ KMAX
  pub fits : All (λ x. x < 2 ^ 64) p

-- so many attributes a point may have
pub record IsAttributeCount (k : ℕ) : Type 0 where
  pub some : 0 < k
  pub few : k ≤ KMAX

-- a body is a short list of bytes
pub record IsBody (b : List ℕ) : Type 0 where
  pub few : length b ≤ BMAX
  pub fits : All (λ x. x < 2 ^ 8) b

-- points are ordered by their first attribute, then by their second, and so on
abbrev pub point_cmp : List ℕ → List ℕ → Ordering
point_cmp p q = slice_cmp nat_cmp p q

-- no value of the first point exceeds that of the second in the same attribute
abbrev pub AtMost : List ℕ → List ℕ → Type 0
AtMost p q = EachIndex p (λ i. slice_index p i ≤ slice_index q i)
