-- Records in the order of their points: one list of them has this order.
use Rattle.std.proofs.Common.{◌≡◌, List, get_or, All, AllPairs}
use Rattle.std.specs.List.{Contains}
use Rattle.std.specs.List.Sorted.{IsPermutation}
use Rattle.std.proofs.lemmas.List.Elements.{Contains-get_or}
use Rattle.std.proofs.lemmas.List.Sorted.{Contains-permutation, IsPermutation-sym}
use Rattle.hb_space.specs.declared.records.Record.{Record}
use Rattle.hb_frag.specs.Rules.{Precedes}
use Rattle.hb_frag.proofs.Facts.RisingRecords.{rises, same_rising}

pub one_order : (found xs ys : List Record) → IsPermutation found xs → IsPermutation found ys → AllPairs Precedes xs → AllPairs Precedes ys → xs ≡ ys
one_order found xs ys first second up rising = same_rising xs ys (rises xs up) (rises ys rising) (across xs ys first second) (across ys xs second first)
  where
    across : (us vs : List Record) → IsPermutation found us → IsPermutation found vs → All (Contains vs) us
    across us vs one two k d lt = Contains-permutation found vs (get_or us k d) two (Contains-permutation us found (get_or us k d) (IsPermutation-sym found us one) (Contains-get_or us k d lt))
