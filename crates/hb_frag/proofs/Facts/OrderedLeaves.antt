-- Two records leaves whose points rise are one whose points do, once a plane has parted their boxes.
use Rattle.std.proofs.Common.{ℕ, zero, ◌<◌, ◌≤◌, ◌-◌, inl, inr, List, [], ◌∷◌, ◌++◌, length, get_or, ap, sym, arith}
use Rattle.std.specs.List.{All, AllPairs}
use Rattle.std.proofs.lemmas.Bool.{cases_lt}
use Rattle.std.proofs.lemmas.List.{get_or-set_same, get_or_past}
use Rattle.std.proofs.lemmas.List.Elements.{All-append}
use Rattle.std.proofs.lemmas.List.Sorted.{All-permutation}
use Rattle.hb_space.specs.Boxes.{Area, Holds, Cuts, side_below, side_from}
use Rattle.hb_space.specs.declared.records.Record.{Record}
use Rattle.hb_space.proofs.Facts.Boxes.{Holds-side_from}
use Rattle.hb_space.proofs.Facts.Lists.{set_cases}
use Rattle.hb_space.proofs.Facts.PointOrder.{not_itself}
use Rattle.hb_frag.specs.declared.leaves.Leaf.TheVariants.{Records}
use Rattle.hb_frag.specs.Rules.{Differ, Precedes, IsInOrder}
use Rattle.hb_frag.specs.Normal.{in_point_order}
use Rattle.hb_frag.proofs.Facts.PointOrder.{order_permutes, order_sorted}
use Rattle.hb_frag.proofs.Facts.SortedRecords.{sorted_rise}
use Rattle.hb_lemmas.proofs.Lists.{All-alone}
use Rattle.hb_lemmas.proofs.Pairs.{pairs_append}

-- where they rise no point stands twice
pub rising_differ : (xs : List Record) → AllPairs Precedes xs → AllPairs Differ xs
rising_differ xs rise i j d less inside same = not_itself (get_or xs i d).key (get_or xs j d).key (sym same) (rise i j d less inside)

-- what lies below a plane and what lies from it on have no point in common
module _ (axis value : ℕ) where
  abbrev Low : Record → Type 0
  Low r = get_or r.key axis 0 < value

  abbrev High : Record → Type 0
  High r = value ≤ get_or r.key axis 0

  both_apart : (xs ys : List Record) → AllPairs Differ xs → AllPairs Differ ys → All Low xs → All High ys → AllPairs Differ (xs ++ ys)
  both_apart xs ys one two low high = pairs_append Differ xs ys one two (λ i d lt k e less same.
      let below : get_or (get_or xs i d).key axis 0 < value = low i d lt in
      let from : value ≤ get_or (get_or ys k e).key axis 0 = high k e less in
      absurd (omega (arith, below, from, ap (λ p. get_or p axis 0) same)))

-- what the part below a plane holds, the box holds below the plane
pub held_below : (a : Area) (axis value : ℕ) (p : List ℕ) → Cuts a axis value → Holds (side_below a axis value) p → Holds a p × (get_or p axis 0 < value)
held_below a axis value p cuts s =
    let in_hi : axis < length a.hi = elim (cases_lt axis (length a.hi)) [
      | inl l ↦ l
      | inr past ↦ absurd (omega (arith, get_or_past a.hi axis 0 past, cuts.above_least, cuts.up_to_greatest))
    ] in (
      record {
        same = s.same;
        between = λ i l. elim (set_cases a.hi axis (value - 1) i in_hi) [
          | inl w ↦ ((s.between i l).0, omega (arith, (s.between i l).1, w.1, cuts.up_to_greatest, ap (λ j. get_or a.hi j 0) w.0))
          | inr w ↦ ((s.between i l).0, omega (arith, (s.between i l).1, w.1))
        ];
      },
      omega (arith, (s.between axis (omega (arith, s.same, cuts.attribute))).1, get_or-set_same a.hi axis (value - 1) 0 in_hi, cuts.above_least),
    )

-- so no point lies on both sides
pub sides_apart : (a : Area) (axis value : ℕ) (p : List ℕ) → Cuts a axis value → Holds (side_below a axis value) p → Holds (side_from a axis value) p → ⊥
sides_apart a axis value p cuts low high = omega (arith, (held_below a axis value p cuts low).1, ((Holds-side_from a axis value p cuts).0 high).1)

pub order_of_both : (axis value : ℕ) (xs ys : List Record) (a : Area) → Cuts a axis value → All IsInOrder (record { leaf = Records xs; area = side_below a axis value } ∷ record { leaf = Records ys; area = side_from a axis value } ∷ []) → All IsInOrder (record { leaf = Records (in_point_order (xs ++ ys)); area = a } ∷ [])
order_of_both axis value xs ys a cuts k =
    let zs = in_point_order (xs ++ ys) in
    let left = k zero (record { leaf = Records xs; area = side_below a axis value }) (omega arith) in
    let right = k 1 (record { leaf = Records ys; area = side_from a axis value }) (omega arith) in
    let below = λ (p : List ℕ) (held : Holds (side_below a axis value) p). held_below a axis value p cuts held in
    let from = λ (p : List ℕ) (held : Holds (side_from a axis value) p). (Holds-side_from a axis value p cuts).0 held in
    let apart = both_apart axis value xs ys (rising_differ xs left.rising) (rising_differ ys right.rising) (λ i d l. (below (get_or xs i d).key (left.inside i d l)).1) (λ i d l. (from (get_or ys i d).key (right.inside i d l)).1) in
    All-alone IsInOrder (record { leaf = Records zs; area = a }) (record {
      inside = All-permutation (λ r. Holds a r.key) (xs ++ ys) zs (order_permutes (xs ++ ys))
          (All-append (λ r. Holds a r.key) xs ys (λ i d l. (below (get_or xs i d).key (left.inside i d l)).0) (λ i d l. (from (get_or ys i d).key (right.inside i d l)).0));
      rising = sorted_rise (xs ++ ys) zs apart (order_permutes (xs ++ ys)) (order_sorted (xs ++ ys));
    })
