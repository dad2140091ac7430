-- What a group's codec knows of the fields that it shares with pages.
use Rattle.hb_page_codec.specs.Exact.{BoxesAreExact, BytesAreExact, NumbersAreExact, PointsAreExact, RecordsAreExact}

-- the fields of pages are read exactly
pub record ExactFields : Type 0 where
  pub byte : BytesAreExact
  pub number_4 : NumbersAreExact 4
  pub number_8 : NumbersAreExact 8
  pub point : PointsAreExact
  pub area : BoxesAreExact
  pub record_of : RecordsAreExact
