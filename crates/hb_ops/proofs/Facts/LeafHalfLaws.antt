-- A records leaf that a plane parts: each half lies in its side of the box and in order, and both together have its records.
use Rattle.std.proofs.Common.{◌≡◌, ℕ, zero, suc, ◌+◌, ◌-◌, ◌<◌, ◌⊎◌, inl, inr, true, List, [], ◌∷◌, length, get_or, set, filter, refl, sym, ap, ◌∙◌, arith}
use Rattle.std.proofs.lemmas.Bool.{ltb-false, ltb-true, not-true}
use Rattle.std.proofs.lemmas.List.{length-set}
use Rattle.std.proofs.lemmas.List.Elements.{All-filter, filter_passes}
use Rattle.std.proofs.lemmas.List.Filters.{length-filter_both}
use Rattle.std.proofs.lemmas.List.Kept.{AllPairs-filter}
use Rattle.hb_lemmas.proofs.Booleans.{twice_not}
use Rattle.hb_space.specs.Boxes.{Area, Cuts, Holds}
use Rattle.hb_space.specs.declared.records.Record.{Record}
use Rattle.hb_frag.specs.declared.leaves.Leaf.TheVariants.{Records}
use Rattle.hb_frag.specs.declared.paths.Side.{Side}
use Rattle.hb_frag.specs.declared.paths.Side.TheVariants.{Left, Right}
use Rattle.hb_frag.specs.Rules.{IsInOrder, Precedes}
use Rattle.hb_ops.specs.Cutting.{area_on, is_on, other_side}
use Rattle.hb_ops.proofs.Facts.PlacedLaws.{placed}

-- a list with another value at a place
set_at : (xs : List ℕ) (n v i : ℕ) → n < length xs → ((i ≡ n) × (get_or (set xs n v) i 0 ≡ v)) ⊎ (get_or (set xs n v) i 0 ≡ get_or xs i 0)
set_at [] n v i lt = absurd (omega arith)
set_at (x ∷ xs) zero v zero lt = inl (refl, refl)
set_at (x ∷ xs) zero v (suc i) lt = inr refl
set_at (x ∷ xs) (suc n) v zero lt = inr refl
set_at (x ∷ xs) (suc n) v (suc i) lt = elim (set_at xs n v i (omega arith)) [ inl w ↦ inl (ap suc w.0, w.1) | inr e ↦ inr e ]

-- where a value isn't 0 there is a value
present : (xs : List ℕ) (n : ℕ) → 0 < get_or xs n 0 → n < length xs
present [] n h = absurd (omega arith)
present (x ∷ xs) zero h = omega arith
present (x ∷ xs) (suc n) h = let rest = present xs n h in omega (arith, rest)

-- a record of the box that lies on the side lies in that side of the box
pub holds_on : (side : Side) (axis value : ℕ) (a : Area) (r : Record) → Cuts a axis value → Holds a r.key → is_on side axis value r ≡ true → Holds (area_on side axis value a) r.key
holds_on Left axis value a r cuts h t =
    let lt : get_or r.key axis 0 < value = ltb-true (get_or r.key axis 0) value t in
    let in_hi : axis < length a.hi = present a.hi axis (omega (arith, cuts.above_least, cuts.up_to_greatest)) in
    record {
      same = h.same;
      between = λ i l. elim (set_at a.hi axis (value - 1) i in_hi) [
        | inl w ↦ let at : get_or r.key i 0 ≡ get_or r.key axis 0 = ap (λ (j : ℕ). get_or r.key j 0) w.0 in ((h.between i l).0, omega (arith, w.1, at, lt, cuts.above_least))
        | inr e ↦ ((h.between i l).0, omega (arith, (h.between i l).1, e))
      ];
    }
holds_on Right axis value a r cuts h t =
    let ge = ltb-false (get_or r.key axis 0) value (not-true _ t) in
    record {
      same = h.same ∙ sym (length-set a.lo axis value);
      between = λ i l. elim (set_at a.lo axis value i cuts.attribute) [
        | inl w ↦ let at : get_or r.key i 0 ≡ get_or r.key axis 0 = ap (λ (j : ℕ). get_or r.key j 0) w.0 in (omega (arith, w.1, at, ge), (h.between i l).1)
        | inr e ↦ (omega (arith, (h.between i l).0, e), (h.between i l).1)
      ];
    }

-- a half is in order where the leaf is
pub half_in_order : (side : Side) (axis value : ℕ) (a : Area) (records : List Record) → Cuts a axis value → IsInOrder (placed (Records records) a) → IsInOrder (placed (Records (filter (is_on side axis value) records)) (area_on side axis value a))
half_in_order side axis value a records cuts h = record {
  inside = λ k d lt.
      let half = filter (is_on side axis value) records in
      holds_on side axis value a (get_or half k d) cuts (All-filter (is_on side axis value) (λ (r : Record). Holds a r.key) records h.inside k d lt) (filter_passes (is_on side axis value) records k d lt);
  rising = AllPairs-filter Precedes (is_on side axis value) records h.rising;
}

-- each record lies on one side, so both halves have as many as the leaf
pub both_halves : (side : Side) (axis value : ℕ) (records : List Record) → length (filter (is_on side axis value) records) + length (filter (is_on (other_side side) axis value) records) ≡ length records
both_halves Left axis value records = length-filter_both (is_on Left axis value) (is_on Right axis value) (λ r. refl) records
both_halves Right axis value records = length-filter_both (is_on Right axis value) (is_on Left axis value) (λ r. twice_not (is_on Left axis value r)) records

-- the side of a box has as many attributes
pub side_attributes : (side : Side) (axis value : ℕ) (a : Area) → length (area_on side axis value a).lo ≡ length a.lo
side_attributes Left axis value a = refl
side_attributes Right axis value a = length-set a.lo axis value
