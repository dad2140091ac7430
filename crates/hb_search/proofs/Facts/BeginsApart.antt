-- A search begins with its own box, and nothing found.
use Rattle.std.proofs.Common.{arith}
use Rattle.hb_search.specs.Laws.{SearchesBeginApart}

pub begins_apart : SearchesBeginApart
begins_apart area = record {
  apart = λ i j d less lt. absurd (omega (arith, less, lt));
  once = λ i j d less lt. absurd (omega (arith, less, lt));
  outside = λ k d lt. absurd (omega (arith, lt));
}
