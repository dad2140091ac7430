-- Fields of pages are read exactly.
use Rattle.std.proofs.Common.{ℕ, ◌^◌, ◌<◌, ◌++◌, refl, sym, ap, subst, ◌∙◌}
use Rattle.hb_frag.specs.Grammar.{point_bytes}
use Rattle.hb_page_codec.specs.Exact.{BytesAreExact, NumbersAreExact, PointsAreExact, BoxesAreExact, RecordsAreExact, PagesAreExact}
use Rattle.hb_page_codec.specs.ReadingFields.{area_at, point_at}
use Rattle.hb_page_codec.proofs.Facts.PageLaws.{page_takes, page_again}
use Rattle.hb_page_codec.proofs.Facts.Fields.{IsWide, wide_4, wide_8, byte_takes, number_takes, number_again, point_takes, point_again, area_takes, area_again, record_takes, record_again}

pub bytes_exact : BytesAreExact
bytes_exact = record {
  takes = λ bytes x fits e. let t = byte_takes bytes x fits e in (t.0.parts, t.1);
  again = λ x rest fits. refl;
}

number_exact : (width limit : ℕ) → IsWide width limit → NumbersAreExact width
number_exact width limit wide = record {
  takes = λ bytes x fits e. let t = number_takes width limit wide bytes x fits e in (t.0.parts, rw wide.whole t.1);
  again = λ x rest fits. number_again width limit wide x rest (subst (λ (m : ℕ). x < m) wide.whole fits);
}

pub number_4_exact : NumbersAreExact 4
number_4_exact = number_exact 4 (2 ^ 32) wide_4

pub number_8_exact : NumbersAreExact 8
number_8_exact = number_exact 8 (2 ^ 64) wide_8

pub points_exact : PointsAreExact
points_exact k = record {
  takes = λ bytes x fits e. let t = point_takes k bytes x fits e in (t.0.parts, (t.1, t.2));
  again = λ x rest fits. ap (λ (n : ℕ). point_at n (point_bytes x ++ rest)) (sym fits.0) ∙ point_again x rest fits.1;
}

pub boxes_exact : BoxesAreExact
boxes_exact k some few = record {
  takes = λ bytes x fits e. let t = area_takes k bytes x some few fits e in (t.0.parts, (t.2, t.1));
  again = λ x rest fits. ap (λ (n : ℕ). area_at n ((point_bytes x.lo ++ point_bytes x.hi) ++ rest)) (sym fits.1) ∙ area_again x rest fits.0;
}

pub records_exact : RecordsAreExact
records_exact k = record {
  takes = λ bytes x fits e. let t = record_takes k bytes x fits e in (t.0.parts, t.1);
  again = λ x rest fits. record_again k x rest fits;
}

pub pages_exact : PagesAreExact
pages_exact bytes page fits = (λ read. page_takes bytes page fits read, λ spelled. page_again bytes page spelled)
