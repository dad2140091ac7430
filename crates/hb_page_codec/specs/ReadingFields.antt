-- Reading the fields of a page: points, boxes, bodies, records and counts.
use Rattle.std.specs.Prelude.{ℕ, ◌+◌, ◌*◌, Bool, true, ◌&&◌, List, [], ◌∷◌, length, take, drop, Option, Some, None, nat_lt, nat_le, if◌then◌else◌}
use Rattle.hb_space.specs.Boxes.{Area}
use Rattle.hb_space.specs.declared.form.TheConstants.{BMAX}
use Rattle.hb_space.specs.declared.records.Record.{Record}
use Rattle.hb_page_codec.specs.Reading.{byte_at, number_at, many_at}
use Rattle.hb_lemmas.specs.Options.{◌>>=◌}

-- a point of k values
abbrev pub point_at : ℕ → List ℕ → Option (List ℕ × List ℕ)
point_at k bytes = many_at (number_at 8) k bytes

-- no value of the first list exceeds that of the second at the same place
abbrev pub are_ordered : List ℕ → List ℕ → Bool
are_ordered [] his = true
are_ordered (lo ∷ los) [] = true
are_ordered (lo ∷ los) (hi ∷ his) = nat_le lo hi && are_ordered los his

abbrev pub area_between : List ℕ → List ℕ → Option Area
area_between lo hi = if are_ordered lo hi then Some (record { lo = lo; hi = hi }) else None

-- a box of k attributes
unfoldable pub area_at : ℕ → List ℕ → Option (Area × List ℕ)
area_at k bytes = do
  lo ← point_at k bytes
  hi ← point_at k lo.1
  area ← area_between lo.0 hi.0
  Some (area, hi.1)

-- the length of a body, and the body
unfoldable pub body_at : List ℕ → Option (List ℕ × List ℕ)
body_at bytes = do
  count ← byte_at bytes
  if nat_lt BMAX count.0 then None else if nat_lt (length count.1) count.0 then None else Some (take count.0 count.1, drop count.0 count.1)

unfoldable pub record_at : ℕ → List ℕ → Option (Record × List ℕ)
record_at k bytes = do
  key ← point_at k bytes
  body ← body_at key.1
  Some (record { key = key.0; body = body.0 }, body.1)

-- so many records
abbrev pub records_at : ℕ → ℕ → List ℕ → Option (List Record × List ℕ)
records_at k count bytes = many_at (record_at k) count bytes

-- how many records follow: no more than there is room for
unfoldable pub count_at : ℕ → List ℕ → Option (ℕ × List ℕ)
count_at k bytes = do
  count ← number_at 2 bytes
  if nat_lt (length count.1) (count.0 * (8 * k + 1)) then None else Some count

-- an attribute of a cut
unfoldable pub axis_at : ℕ → List ℕ → Option (ℕ × List ℕ)
axis_at k bytes = do
  axis ← byte_at bytes
  if nat_lt axis.0 k then Some axis else None
