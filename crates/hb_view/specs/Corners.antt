-- Points and boxes at the front of bytes.
use Rattle.std.specs.Prelude.{ℕ, ◌*◌, List, drop}
use Rattle.hb_space.specs.Boxes.{Area}
use Rattle.hb_page_codec.specs.ReadingFields.{point_at}
use Rattle.hb_view.specs.Behind.{list_or}

-- a point of k values, where one stands there
abbrev pub point_there : ℕ → List ℕ → List ℕ
point_there k bytes = list_or (point_at k bytes)

-- the box between two of them, one behind the other
abbrev pub corners_there : ℕ → List ℕ → Area
corners_there k bytes = record { lo = point_there k bytes; hi = point_there k (drop (8 * k) bytes) }
