-- What a search's sort by points gives: its records are of different points, so they rise.
use Rattle.std.proofs.Common.{◌≡◌, List, AllPairs, ap}
use denote.Param.Members.{Mut}
use denote.Ref.{Bor}
use Rattle.std.specs.Fn.{Called}
use Rattle.std.specs.List.Sorted.{IsPermutation, IsSortedByClosure}
use Rattle.std.specs.Ordering.{is_lt}
use Rattle.std.specs.declared.cmp.Ordering.{Ordering}
use Rattle.std.proofs.lemmas.List.Sorted.{answers_always}
use Rattle.hb_frag.proofs.Facts.PointOrder.{comes_before, comes_before_ranks}
use Rattle.hb_frag.proofs.Facts.SortedRecords.{sorted_rise}
use Rattle.hb_frag.specs.Rules.{Differ, Precedes}
use Rattle.hb_space.specs.Points.{point_cmp}
use Rattle.hb_space.specs.declared.records.Record.{Record}

-- what a sort gives whose closure compares the points
pub sorted_by_keys : {F : Type 0} {g : Mut F (Bor Record × (Bor Record × Unit {0})) Ordering} {f : F} (xs ys : List Record) → AllPairs Differ xs → IsPermutation xs ys → IsSortedByClosure g f ys → ((f : F) (a : Bor Record × (Bor Record × Unit {0})) (r : Ordering) (f' : F) → Called g f a r f' → r ≡ point_cmp a.0.now.key a.1.0.now.key) → AllPairs Precedes ys
sorted_by_keys {g = g} {f = f} xs ys once same up h =
    let by = answers_always g (λ a r. is_lt r ≡ comes_before a.0.now a.1.0.now) f (λ f a r f' k. ap is_lt (h f a r f' k)) in
    sorted_rise xs ys once same (up comes_before comes_before_ranks by)
