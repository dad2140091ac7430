-- The boxes of a carved leaf.
use Rattle.std.proofs.Common.{◌≡◌, ◌≢◌, ℕ, zero, suc, ◌+◌, ◌-◌, ◌<◌, ◌≤◌, max, inl, inr, List, [], ◌∷◌, length, get_or, set, Some, refl, sym, ap, subst, ◌∙◌, arith}
use Rattle.std.specs.Prelude.{if◌then◌else◌}
use Rattle.std.specs.List.{All, Contains}
use Rattle.std.proofs.lemmas.Bool.{cases_lt}
use Rattle.std.proofs.lemmas.List.{ext_get_or, get_or-set_same, get_or-set_other}
use Rattle.std.proofs.lemmas.List.Elements.{All-append, All-cons, All-contains, Contains-append_left, Contains-append_right}
use Rattle.hb_space.specs.Boxes.{Area, IsArea, Holds, Meets, Within, Cuts, common_area, holds, side_below, side_from}
use Rattle.hb_space.proofs.Facts.Boxes.{IsArea-common_area, Holds-common_area, Within-common_area, Holds-side_below, Holds-side_from, same_corners, test-from_Holds}
use Rattle.hb_space.proofs.Facts.Lists.{length-zip_by}
use Rattle.hb_frag.specs.declared.leaves.Leaf.TheVariants.{Child}
use Rattle.hb_frag.specs.Trees.{Tree, Tip, Cut}
use Rattle.hb_frag.specs.Leaves.{Placed, IsWellCut, first_at, leaves_of, weight_of}
use Rattle.hb_frag.specs.Carving.{carve_below, carve_above, carve_from, carved}
use Rattle.hb_frag.specs.CarvingLaws.{IsCarvedLeaf, Carves}
use Rattle.hb_frag.proofs.Facts.Sides.{failed_test, IsArea-side_below, IsArea-side_from, same-side_from, is_below, isnt_below}
use Rattle.hb_frag.proofs.Facts.Points.{way_ends}
use Rattle.hb_frag.proofs.Facts.Tiles.{first_tells}
use Rattle.hb_frag.proofs.Facts.CarvedKinds.{alone_or_cut, cuts_weigh_two}
use Rattle.hb_lemmas.proofs.Lists.{only_one, All-alone}

module _ (leaf area : Area) (outer inner : ℕ) (h : IsArea leaf) (k : IsArea area) (same : length area.lo ≡ length leaf.lo) (meets : Meets leaf area) where
  abbrev c : Area
  c = common_area leaf area

  c_area : IsArea c
  c_area = IsArea-common_area leaf area h k (sym same) meets

  c_same : length c.lo ≡ length leaf.lo
  c_same = length-zip_by max leaf.lo area.lo (sym same)

  c_within : (i : ℕ) → i < length leaf.lo → (get_or leaf.lo i 0 ≤ get_or c.lo i 0) × (get_or c.hi i 0 ≤ get_or leaf.hi i 0)
  c_within i l = (Within-common_area leaf area h k (sym same) meets).0 i (let e = c_same in omega arith)

  -- What is left of the leaf's box in front of the attribute: it is the common box in those that have been, and the leaf's in the others.
  record IsRest (axis : ℕ) (rest : Area) : Type 0 where
    is_area : IsArea rest
    as_many : length rest.lo ≡ length leaf.lo
    inside : (p : List ℕ) → Holds rest p → Holds leaf p
    done : (i : ℕ) → i < axis → (get_or rest.lo i 0 ≡ get_or c.lo i 0) × (get_or rest.hi i 0 ≡ get_or c.hi i 0)
    ahead : (i : ℕ) → axis ≤ i → (get_or rest.lo i 0 ≡ get_or leaf.lo i 0) × (get_or rest.hi i 0 ≡ get_or leaf.hi i 0)

  -- the same, with the attribute's lower end done
  record IsHalf (axis : ℕ) (rest : Area) : Type 0 where
    is_area : IsArea rest
    as_many : length rest.lo ≡ length leaf.lo
    inside : (p : List ℕ) → Holds rest p → Holds leaf p
    done : (i : ℕ) → i < axis → (get_or rest.lo i 0 ≡ get_or c.lo i 0) × (get_or rest.hi i 0 ≡ get_or c.hi i 0)
    least : get_or rest.lo axis 0 ≡ get_or c.lo axis 0
    greatest : get_or rest.hi axis 0 ≡ get_or leaf.hi axis 0
    ahead : (i : ℕ) → axis < i → (get_or rest.lo i 0 ≡ get_or leaf.lo i 0) × (get_or rest.hi i 0 ≡ get_or leaf.hi i 0)

  abbrev new_leaf : Placed
  new_leaf = record { leaf = Child inner; area = c }

  -- what a part of the carved leaf does in its box
  record CarvesRest (t : Tree) (rest : Area) : Type 0 where
    cuts : IsWellCut t rest
    leaves : All (IsCarvedLeaf leaf area outer inner) (leaves_of t rest)
    new_child : Contains (leaves_of t rest) new_leaf

  -- a box of the leaf's that holds no point of the common one holds none of the area
  apart : (rest : Area) → ((p : List ℕ) → Holds rest p → Holds leaf p) → ((p : List ℕ) → Holds rest p → Holds c p → ⊥) → IsCarvedLeaf leaf area outer inner (record { leaf = Child outer; area = rest })
  apart rest inside none = inr (refl, λ p here there. none p here ((Holds-common_area leaf area p h k (sym same)).1 (inside p here, there)))

  cut_below : (axis value : ℕ) (t : Tree) (rest : Area) → IsArea rest → ((p : List ℕ) → Holds rest p → Holds leaf p) → Cuts rest axis value → axis < length c.lo → value ≤ get_or c.lo axis 0 → CarvesRest t (side_from rest axis value) → CarvesRest (Cut axis value (Tip (Child outer)) t) rest
  cut_below axis value t rest is_area inside cuts l low s =
      let old : Placed = record { leaf = Child outer; area = side_below rest axis value } in
      let none = apart (side_below rest axis value) (λ p held. inside p ((Holds-side_below rest axis value p is_area cuts).0 held).0)
      (λ p here there.
      let below = ((Holds-side_below rest axis value p is_area cuts).0 here).1 in
      let above = (there.between axis (let e = there.same in omega arith)).0 in
      absurd (omega arith)) in
      record {
        cuts = (cuts, tt, s.cuts);
        leaves = All-cons (IsCarvedLeaf leaf area outer inner) old (leaves_of t (side_from rest axis value)) none s.leaves;
        new_child = Contains-append_right (old ∷ []) (leaves_of t (side_from rest axis value)) new_leaf s.new_child;
      }

  cut_above : (axis value : ℕ) (t : Tree) (rest : Area) → IsArea rest → ((p : List ℕ) → Holds rest p → Holds leaf p) → Cuts rest axis value → axis < length c.lo → get_or c.hi axis 0 < value → CarvesRest t (side_below rest axis value) → CarvesRest (Cut axis value t (Tip (Child outer))) rest
  cut_above axis value t rest is_area inside cuts l high s =
      let old : Placed = record { leaf = Child outer; area = side_from rest axis value } in
      let none = apart (side_from rest axis value) (λ p held. inside p ((Holds-side_from rest axis value p cuts).0 held).0)
      (λ p here there.
      let above = ((Holds-side_from rest axis value p cuts).0 here).1 in
      let below = (there.between axis (let e = there.same in omega arith)).1 in
      absurd (omega arith)) in
      record {
        cuts = (cuts, s.cuts, tt);
        leaves = All-append (IsCarvedLeaf leaf area outer inner) (leaves_of t (side_below rest axis value)) (old ∷ []) s.leaves (All-alone (IsCarvedLeaf leaf area outer inner) old none);
        new_child = Contains-append_left (leaves_of t (side_below rest axis value)) (old ∷ []) new_leaf s.new_child;
      }

  -- an attribute's step, below and above
  below_step : (axis : ℕ) (t : Tree) (rest : Area) → axis < length leaf.lo → IsRest axis rest → ((half : Area) → IsHalf axis half → CarvesRest t half) → CarvesRest (carve_below axis leaf c outer t) rest
  below_step axis t rest l r goes_on =
      let e = c_same in
      let w = c_within axis l in
      let here = r.ahead axis (omega arith) in
      let n = r.as_many in
      let up = c_area.ordered axis (omega arith) in
      elim (cases_lt (get_or leaf.lo axis 0) (get_or c.lo axis 0)) [
        | inl low ↦
            let value = get_or c.lo axis 0 in
            let cuts : Cuts rest axis value = record { attribute = omega arith; above_least = omega arith; up_to_greatest = omega arith } in
            let in_lo : axis < length rest.lo = omega arith in
            let half : IsHalf axis (side_from rest axis value) = record {
              is_area = IsArea-side_from rest axis value r.is_area cuts;
              as_many = same-side_from rest axis value ∙ r.as_many;
              inside = λ p held. r.inside p ((Holds-side_from rest axis value p cuts).0 held).0;
              done = λ i m. let d = r.done i m in let o = get_or-set_other rest.lo axis i value 0 (omega arith) in (o ∙ d.0, d.1);
              least = get_or-set_same rest.lo axis value 0 in_lo;
              greatest = here.1;
              ahead = λ i m. let d = r.ahead i (omega arith) in let o = get_or-set_other rest.lo axis i value 0 (omega arith) in (o ∙ d.0, d.1);
            } in
            rw (is_below _ _ low) (cut_below axis value t rest r.is_area r.inside cuts (omega arith) (omega arith) (goes_on (side_from rest axis value) half))
        | inr high ↦ rw (isnt_below _ _ high) (goes_on rest (record {
          is_area = r.is_area;
          as_many = r.as_many;
          inside = r.inside;
          done = r.done;
          least = omega arith;
          greatest = here.1;
          ahead = λ i m. r.ahead i (omega arith);
        }))
      ]

  above_step : (axis : ℕ) (t : Tree) (rest : Area) → axis < length leaf.lo → IsHalf axis rest → ((more : Area) → IsRest (axis + 1) more → CarvesRest t more) → CarvesRest (carve_above axis leaf c outer t) rest
  above_step axis t rest l r goes_on =
      let e = c_same in
      let w = c_within axis l in
      let n = r.as_many in
      let up = c_area.ordered axis (omega arith) in
      elim (cases_lt (get_or c.hi axis 0) (get_or leaf.hi axis 0)) [
        | inl high ↦
            let value = get_or c.hi axis 0 + 1 in
            let cuts : Cuts rest axis value = record { attribute = omega arith; above_least = omega (arith, r.least); up_to_greatest = omega (arith, r.greatest) } in
            let in_hi : axis < length rest.hi = omega (arith, r.is_area.same) in
            let here : get_or (set rest.hi axis (value - 1)) axis 0 ≡ get_or c.hi axis 0 = get_or-set_same rest.hi axis (value - 1) 0 in_hi ∙ omega arith in
            let other = λ (i : ℕ) (n : i ≢ axis). get_or-set_other rest.hi axis i (value - 1) 0 n in
            let more : IsRest (axis + 1) (side_below rest axis value) = record {
              is_area = IsArea-side_below rest axis value r.is_area cuts;
              as_many = r.as_many;
              inside = λ p held. r.inside p ((Holds-side_below rest axis value p r.is_area cuts).0 held).0;
              done = λ i m. elim (cases_lt i axis) [
                | inl before ↦ let d = r.done i before in let o = other i (omega arith) in (d.0, o ∙ d.1)
                | inr at ↦
                    let same_place : axis ≡ i = omega arith in
                    let P : ℕ → Type 0 = λ j. (get_or rest.lo j 0 ≡ get_or c.lo j 0) × (get_or (set rest.hi axis (value - 1)) j 0 ≡ get_or c.hi j 0) in
                    subst P same_place (r.least, here)
              ];
              ahead = λ i m. let d = r.ahead i (omega arith) in let o = other i (omega arith) in (d.0, o ∙ d.1);
            } in
            rw (is_below _ _ high) (cut_above axis value t rest r.is_area r.inside cuts (omega arith) (omega arith) (goes_on (side_below rest axis value) more))
        | inr low ↦ rw (isnt_below _ _ low) (goes_on rest (record {
          is_area = r.is_area;
          as_many = r.as_many;
          inside = r.inside;
          done = λ i m. elim (cases_lt i axis) [
            | inl before ↦ r.done i before
            | inr at ↦
                let same_place : axis ≡ i = omega arith in
                let end : get_or rest.hi axis 0 ≡ get_or c.hi axis 0 = omega (arith, r.greatest) in
                let P : ℕ → Type 0 = λ j. (get_or rest.lo j 0 ≡ get_or c.lo j 0) × (get_or rest.hi j 0 ≡ get_or c.hi j 0) in
                subst P same_place (r.least, end)
          ];
          ahead = λ i m. r.ahead i (omega arith);
        }))
      ]

  rest_carves : (n axis : ℕ) (rest : Area) → n + axis ≡ length leaf.lo → IsRest axis rest → CarvesRest (carve_from n axis leaf c outer inner) rest
  rest_carves zero axis rest e r =
      let many = r.as_many in
      let c_many = c_same in
      let ends = r.is_area.same in
      let c_ends = c_area.same in
      let lows : rest.lo ≡ c.lo = ext_get_or 0 rest.lo c.lo (omega arith) (λ i l. (r.done i (omega arith)).0) in
      let highs : rest.hi ≡ c.hi = ext_get_or 0 rest.hi c.hi (omega arith) (λ i l. (r.done i (omega arith)).1) in
      let P : Area → Type 0 = CarvesRest (Tip (Child inner)) in
      subst P (sym (same_corners rest c lows highs)) (record { cuts = tt; leaves = All-alone (IsCarvedLeaf leaf area outer inner) new_leaf (inl refl); new_child = (zero, omega arith, refl) })
  rest_carves (suc n) axis rest e r =
      let l : axis < length leaf.lo = omega arith in
      let t = carve_from n (axis + 1) leaf c outer inner in
      below_step axis (carve_above axis leaf c outer t) rest l r (λ half m. above_step axis t half l m (λ more s. rest_carves n (axis + 1) more (omega arith) s))

  whole_carves : CarvesRest (carved leaf area outer inner) leaf
  whole_carves = rest_carves (length leaf.lo) 0 leaf (omega arith) (record {
    is_area = h;
    as_many = refl;
    inside = λ p held. held;
    done = λ i m. absurd (omega arith);
    ahead = λ i m. (refl, refl);
  })

  point_named : (p : List ℕ) → Holds leaf p → (placed : Placed) × (first_at p (leaves_of (carved leaf area outer inner) leaf) ≡ Some placed) × (placed.leaf ≡ Child (if holds area p then inner else outer))
  point_named p held =
      let s = whole_carves in
      let w = way_ends (carved leaf area outer inner) leaf p h s.cuts held in
      let at = (first_tells (carved leaf area outer inner) leaf p w.0 h s.cuts).0 w.1.first in (
        w.0,
        w.1.first,
        elim (All-contains (IsCarvedLeaf leaf area outer inner) (leaves_of (carved leaf area outer inner) leaf) w.0 s.leaves at.0) [
          | inl e ↦
              let P : Placed → Type 0 = λ l. Holds l.area p in
              let there = (Holds-common_area leaf area p h k (sym same)).0 (subst P e w.1.held) in
              rw (test-from_Holds area p k there.1) (ap (λ l. l.leaf) e)
          | inr e ↦ rw (failed_test area p (λ there. e.1 p w.1.held there)) e.0
        ],
      )

  alone_within : weight_of (carved leaf area outer inner) ≡ 1 → (carved leaf area outer inner ≡ Tip (Child inner)) × Within leaf area
  alone_within one = elim (alone_or_cut leaf c outer inner (length leaf.lo) 0) [
    | inl e ↦
        let P : Tree → Type 0 = λ t. Contains (leaves_of t leaf) new_leaf in
        let only : record { leaf = Child inner; area = leaf } ≡ new_leaf = only_one _ _ (subst P e whole_carves.new_child) in
        let Q : Area → Type 0 = λ a. Within a area in
        (e, subst Q (sym (ap (λ l. l.area) only)) (Within-common_area leaf area h k (sym same) meets).1)
    | inr cuts ↦ absurd (let heavy = cuts_weigh_two (carved leaf area outer inner) cuts in omega arith)
  ]

  pub carving_parts : Carves leaf area outer inner (carved leaf area outer inner)
  carving_parts = record {
    cuts = whole_carves.cuts;
    leaves = whole_carves.leaves;
    new_child = whole_carves.new_child;
    points = point_named;
    whole = alone_within;
  }
