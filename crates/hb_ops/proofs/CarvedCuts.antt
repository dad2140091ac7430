-- A carved leaf: its cuts cut its box, and its leaves name pages one level down.
use Rattle.std.proofs.Common.{◌≡◌, ℕ, zero, suc, ◌+◌, ◌-◌, ◌<◌, ◌≤◌, min, max, true, false, cond, List, [], ◌∷◌, length, get_or, All, refl, arith, nat_lt}
use Rattle.std.proofs.lemmas.Bool.{ltb-true}
use Rattle.std.proofs.lemmas.List.{length-set, get_or-set_other}
use Rattle.std.proofs.lemmas.List.Elements.{All-append, All-cons, All-nil}
use Rattle.std.proofs.lemmas.Grind.{get_or-set_at}
use Rattle.hb_lemmas.proofs.Booleans.{either_way}
use Rattle.hb_space.specs.Boxes.{Area, Meets, common_area, side_below, side_from, zip_by}
use Rattle.hb_frag.specs.declared.leaves.Leaf.TheVariants.{Child}
use Rattle.hb_frag.specs.Carving.{carve_above, carve_below, carve_from, carved}
use Rattle.hb_frag.specs.Leaves.{IsWellCut, leaves}
use Rattle.hb_frag.specs.Rules.{BelongsAt, IsSiblingTip}
use Rattle.hb_frag.specs.Trees.{Tree, Tip, Cut}

-- the common box lies in the leaf's, attribute by attribute
record IsCommon (leaf c : Area) : Type 0 where
  below : (i : ℕ) → i < length leaf.lo → get_or leaf.lo i 0 ≤ get_or c.lo i 0
  ordered : (i : ℕ) → i < length leaf.lo → get_or c.lo i 0 ≤ get_or c.hi i 0

zip_max : (xs ys : List ℕ) (i : ℕ) → i < length xs → length ys ≡ length xs → get_or (zip_by max xs ys) i 0 ≡ max (get_or xs i 0) (get_or ys i 0)
zip_max [] ys i lt same = absurd (omega arith)
zip_max (x ∷ xs) [] i lt same = absurd (omega arith)
zip_max (x ∷ xs) (y ∷ ys) zero lt same = refl
zip_max (x ∷ xs) (y ∷ ys) (suc i) lt same = zip_max xs ys i (omega arith) (omega arith)

zip_min : (xs ys : List ℕ) (i : ℕ) → get_or (zip_by min xs ys) i 0 ≡ min (get_or xs i 0) (get_or ys i 0)
zip_min [] ys i = omega arith
zip_min (x ∷ xs) [] i = omega arith
zip_min (x ∷ xs) (y ∷ ys) zero = refl
zip_min (x ∷ xs) (y ∷ ys) (suc i) = zip_min xs ys i

is_common : (leaf area : Area) → length area.lo ≡ length leaf.lo → Meets leaf area → IsCommon leaf (common_area leaf area)
is_common leaf area same meets = record {
  below = λ i lt. let e = zip_max leaf.lo area.lo i lt same in omega (arith, e);
  ordered = λ i lt. let e = zip_max leaf.lo area.lo i lt same in let f = zip_min leaf.hi area.hi i in let m = meets i lt in omega (arith, e, f, m);
}

module _ (leaf c : Area) (common : IsCommon leaf c) (outer inner : ℕ) where
  -- what is left of the leaf's box is the leaf's from the attribute on
  record IsAhead (axis : ℕ) (rest : Area) : Type 0 where
    as_many : length rest.lo ≡ length leaf.lo
    least : (i : ℕ) → axis ≤ i → get_or rest.lo i 0 ≡ get_or leaf.lo i 0
    greatest : (i : ℕ) → axis ≤ i → get_or rest.hi i 0 ≡ get_or leaf.hi i 0

  -- the same, where it may begin at the common box in the attribute
  record IsHalfway (axis : ℕ) (rest : Area) : Type 0 where
    as_many : length rest.lo ≡ length leaf.lo
    here : get_or rest.lo axis 0 ≤ get_or c.lo axis 0
    least : (i : ℕ) → axis < i → get_or rest.lo i 0 ≡ get_or leaf.lo i 0
    greatest : (i : ℕ) → axis ≤ i → get_or rest.hi i 0 ≡ get_or leaf.hi i 0

  below_cut : (axis : ℕ) (t : Tree) (rest : Area) → axis < length leaf.lo → get_or c.lo axis 0 ≤ get_or leaf.hi axis 0 → IsAhead axis rest → ((half : Area) → IsHalfway axis half → IsWellCut t half) → IsWellCut (carve_below axis leaf c outer t) rest
  below_cut axis t rest lt upto ahead goes_on =
      let value = get_or c.lo axis 0 in
      let l = ahead.least axis (omega arith) in
      let g = ahead.greatest axis (omega arith) in
      elim (nat_lt (get_or leaf.lo axis 0) value) as (λ b. nat_lt (get_or leaf.lo axis 0) value ≡ b → IsWellCut (cond b (Cut axis value (Tip (Child outer)) t) t) rest) [
        | true ↦ λ e.
            let less = ltb-true (get_or leaf.lo axis 0) value e in
            let same = length-set rest.lo axis value in
            let at = get_or-set_at rest.lo axis axis value 0 refl (omega (arith, ahead.as_many, lt)) in (
              record { attribute = omega (arith, ahead.as_many, lt); above_least = omega (arith, l, less); up_to_greatest = omega (arith, g, upto) },
              tt,
              goes_on (side_from rest axis value) (record {
                as_many = omega (arith, same, ahead.as_many);
                here = omega (arith, at);
                least = λ i more. let o = get_or-set_other rest.lo axis i value 0 (λ e. omega arith) in let s = ahead.least i (omega arith) in omega (arith, o, s);
                greatest = λ i more. ahead.greatest i more;
              }),
            )
        | false ↦ λ e. let le = common.below axis lt in goes_on rest (record {
          as_many = ahead.as_many;
          here = omega (arith, l, le);
          least = λ i more. ahead.least i (omega arith);
          greatest = λ i more. ahead.greatest i more;
        })
      ] refl

  above_cut : (axis : ℕ) (t : Tree) (half : Area) → axis < length leaf.lo → IsHalfway axis half → ((rest : Area) → IsAhead (axis + 1) rest → IsWellCut t rest) → IsWellCut (carve_above axis leaf c outer t) half
  above_cut axis t half lt halfway goes_on =
      let most = get_or c.hi axis 0 in
      let g = halfway.greatest axis (omega arith) in
      let order = common.ordered axis lt in
      elim (nat_lt most (get_or leaf.hi axis 0)) as (λ b. nat_lt most (get_or leaf.hi axis 0) ≡ b → IsWellCut (cond b (Cut axis (most + 1) t (Tip (Child outer))) t) half) [
        | true ↦ λ e.
            let less = ltb-true most (get_or leaf.hi axis 0) e in (
              record { attribute = omega (arith, halfway.as_many, lt); above_least = omega (arith, halfway.here, order); up_to_greatest = omega (arith, g, less) },
              goes_on (side_below half axis (most + 1)) (record {
                as_many = halfway.as_many;
                least = λ i more. halfway.least i (omega arith);
                greatest = λ i more. let o = get_or-set_other half.hi axis i (most + 1 - 1) 0 (λ e. omega arith) in let s = halfway.greatest i (omega arith) in omega (arith, o, s);
              }),
              tt,
            )
        | false ↦ λ e. goes_on half (record { as_many = halfway.as_many; least = λ i more. halfway.least i (omega arith); greatest = λ i more. halfway.greatest i (omega arith) })
      ] refl

  all_cut : (upto : (i : ℕ) → i < length leaf.lo → get_or c.lo i 0 ≤ get_or leaf.hi i 0) → (n axis : ℕ) (rest : Area) → axis + n ≡ length leaf.lo → IsAhead axis rest → IsWellCut (carve_from n axis leaf c outer inner) rest
  all_cut upto zero axis rest e ahead = tt
  all_cut upto (suc n) axis rest e ahead =
      let t = carve_from n (axis + 1) leaf c outer inner in
      below_cut axis (carve_above axis leaf c outer t) rest (omega arith) (upto axis (omega arith)) ahead
      (λ half halfway. above_cut axis t half (omega arith) halfway (λ later next. all_cut upto n (axis + 1) later (omega arith) next))

pub carved_well_cut : (leaf area : Area) (outer inner : ℕ) → length area.lo ≡ length leaf.lo → Meets leaf area → IsWellCut (carved leaf area outer inner) leaf
carved_well_cut leaf area outer inner same meets =
    let c = common_area leaf area in
    all_cut leaf c (is_common leaf area same meets) outer inner
    (λ i lt. let e = zip_max leaf.lo area.lo i lt same in let m = meets i lt in omega (arith, e, m))
    (length leaf.lo) 0 leaf (omega arith) (record { as_many = refl; least = λ i more. refl; greatest = λ i more. refl })

module _ (level : ℕ) (above : 0 < level) (leaf c : Area) (outer inner : ℕ) where
  abbrev Below : Tree → Type 0
  Below t = All (BelongsAt level) (leaves t)

  of_child : (page : ℕ) → Below (Tip (Child page))
  of_child page = All-cons (BelongsAt level) (Child page) [] above (All-nil (BelongsAt level))

  all_below : (n axis : ℕ) → Below (carve_from n axis leaf c outer inner)
  all_below zero axis = of_child inner
  all_below (suc n) axis =
      let t = carve_from n (axis + 1) leaf c outer inner in
      let a = carve_above axis leaf c outer t in
      let rest : Below t = all_below n (axis + 1) in
      let above_it : Below a = either_way Below (nat_lt (get_or c.hi axis 0) (get_or leaf.hi axis 0)) (Cut axis (get_or c.hi axis 0 + 1) t (Tip (Child outer))) t (All-append (BelongsAt level) (leaves t) (leaves (Tip (Child outer))) rest (of_child outer)) rest in
      either_way Below (nat_lt (get_or leaf.lo axis 0) (get_or c.lo axis 0)) (Cut axis (get_or c.lo axis 0) (Tip (Child outer)) a) a (All-append (BelongsAt level) (leaves (Tip (Child outer))) (leaves a) (of_child outer) above_it) above_it

pub carved_below : (level : ℕ) (leaf area : Area) (outer inner : ℕ) → 0 < level → All (BelongsAt level) (leaves (carved leaf area outer inner))
carved_below level leaf area outer inner above = all_below level above leaf (common_area leaf area) outer inner (length leaf.lo) 0

-- and it is no lone sibling leaf
abbrev IsOwn : Tree → Type 0
IsOwn t = ¬ (IsSiblingTip t)

all_own : (leaf c : Area) (outer inner n axis : ℕ) → IsOwn (carve_from n axis leaf c outer inner)
all_own leaf c outer inner zero axis = λ lone. lone
all_own leaf c outer inner (suc n) axis =
    let t = carve_from n (axis + 1) leaf c outer inner in
    let a = carve_above axis leaf c outer t in
    let rest : IsOwn t = all_own leaf c outer inner n (axis + 1) in
    let above_it : IsOwn a = either_way IsOwn (nat_lt (get_or c.hi axis 0) (get_or leaf.hi axis 0)) (Cut axis (get_or c.hi axis 0 + 1) t (Tip (Child outer))) t (λ lone. lone) rest in
    either_way IsOwn (nat_lt (get_or leaf.lo axis 0) (get_or c.lo axis 0)) (Cut axis (get_or c.lo axis 0) (Tip (Child outer)) a) a (λ lone. lone) above_it

pub carved_own : (leaf area : Area) (outer inner : ℕ) → ¬ (IsSiblingTip (carved leaf area outer inner))
carved_own leaf area outer inner = all_own leaf (common_area leaf area) outer inner (length leaf.lo) 0
