-- What a `Set` keeps: records behind handles, in the order of their points.
use Rattle.std.specs.Prelude.{◌≡◌, ℕ, List, length, map, Box, IsTrue}
use Rattle.std.specs.List.{All}
use Rattle.std.specs.FinMap.{is_sorted}
use Rattle.std.specs.declared.alloc.Global.{Global}
use Rattle.hb_space.specs.Points.{point_cmp}
use Rattle.hb_space.specs.declared.records.Record.{Record}

-- the records behind the handles
abbrev pub records_behind : List (Box Record Global) → List Record
records_behind handles = map (λ h. h.value) handles

-- the point and the body behind a handle
abbrev pub point_behind : Box Record Global → List ℕ
point_behind handle = handle.value.key

abbrev pub body_behind : Box Record Global → List ℕ
body_behind handle = handle.value.body

-- the entries that they make
abbrev pub entries_behind : List (Box Record Global) → List (List ℕ × List ℕ)
entries_behind handles = map (λ h. (point_behind h, body_behind h)) handles

-- their points rise strictly
abbrev pub PointsRise : List (Box Record Global) → Type 0
PointsRise handles = IsTrue (is_sorted point_cmp (entries_behind handles))

-- what a search over k attributes goes through
pub record AreSearchable (k : ℕ) (handles : List (Box Record Global)) : Type 0 where
  -- their points rise strictly
  pub rise : PointsRise handles
  -- and have k attributes
  pub attributes : All (λ h. length h.value.key ≡ k) handles
