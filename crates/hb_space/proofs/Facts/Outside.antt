-- What of a box lies outside another box within it, piece by piece.
use Rattle.std.proofs.Common.{◌≡◌, ℕ, zero, suc, ◌<◌, ◌≤◌, ◌+◌, ◌-◌, ◌*◌, cond, ltb, List, [], ◌∷◌, ◌++◌, length, get_or, set, ◌↔◌, ◌⊎◌, inl, inr, refl, ap, sym, subst, ◌∙◌, arith}
use Rattle.std.specs.List.{Any, AllPairs}
use Rattle.std.proofs.lemmas.List.{length-set, length-append, append-nil, append_assoc, get_or-set_same, set-set}
use Rattle.std.proofs.lemmas.Bool.{cases_lt, cases_eq}
use Rattle.std.proofs.lemmas.Bool.Decides.{nat_tests}
use Rattle.hb_space.specs.Boxes.{Area, IsArea, Holds, Meets, Within, Cuts, Disjoint, side_below, side_from, pieces_below, pieces_above, rest_between, pieces_from, pieces_outside}
use Rattle.hb_space.proofs.Facts.Lists.{set_cases, IsPoint-set}
use Rattle.hb_space.proofs.Facts.Boxes.{Holds-side_below, Holds-side_from, Meets-from_point}

-- some box of the list holds the point
abbrev pub SomeHolds : List Area → List ℕ → Type 0
SomeHolds [] p = ⊥
SomeHolds (a ∷ us) p = Holds a p ⊎ SomeHolds us p

pub SomeHolds-append_left : (us vs : List Area) (p : List ℕ) → SomeHolds us p → SomeHolds (us ++ vs) p
SomeHolds-append_left [] vs p h = absurd h
SomeHolds-append_left (a ∷ us) vs p (inl h) = inl h
SomeHolds-append_left (a ∷ us) vs p (inr h) = inr (SomeHolds-append_left us vs p h)

pub SomeHolds-append_right : (us vs : List Area) (p : List ℕ) → SomeHolds vs p → SomeHolds (us ++ vs) p
SomeHolds-append_right [] vs p h = h
SomeHolds-append_right (a ∷ us) vs p h = inr (SomeHolds-append_right us vs p h)

pub SomeHolds-append_cases : (us vs : List Area) (p : List ℕ) → SomeHolds (us ++ vs) p → SomeHolds us p ⊎ SomeHolds vs p
SomeHolds-append_cases [] vs p h = inr h
SomeHolds-append_cases (a ∷ us) vs p (inl h) = inl (inl h)
SomeHolds-append_cases (a ∷ us) vs p (inr h) =
    elim (SomeHolds-append_cases us vs p h) [ inl k ↦ inl (inr k) | inr k ↦ inr k ]

pub Any-from_recursion : (us : List Area) (p : List ℕ) → SomeHolds us p → Any (λ a. Holds a p) us
Any-from_recursion [] p h = absurd h
Any-from_recursion (a ∷ us) p (inl h) = (zero, a, omega arith, refl, h)
Any-from_recursion (a ∷ us) p (inr h) =
    let w = Any-from_recursion us p h in
    (suc w.0, w.1, omega (arith, w.2), w.3, w.4)

pub holds_at : (us : List Area) (p : List ℕ) (k : ℕ) (x : Area) → k < length us → Holds (get_or us k x) p → SomeHolds us p
holds_at [] p k x l h = absurd (omega arith)
holds_at (a ∷ us) p zero x l h = inl h
holds_at (a ∷ us) p (suc k) x l h = inr (holds_at us p k x (omega arith) h)

pub recursion_from_Any : (us : List Area) (p : List ℕ) → Any (λ a. Holds a p) us → SomeHolds us p
recursion_from_Any us p w = holds_at us p w.0 w.1 w.2 (subst (λ a. Holds a p) (sym w.3) w.4)

-- no box of the list shares a point with a later one
abbrev pub Apart : List Area → Type 0
Apart [] = Unit {0}
Apart (a ∷ us) = ((p : List ℕ) → Holds a p → SomeHolds us p → ⊥) × Apart us

pub Apart-append : (us vs : List Area) → Apart us → Apart vs → ((p : List ℕ) → SomeHolds us p → SomeHolds vs p → ⊥) → Apart (us ++ vs)
Apart-append [] vs h k none = k
Apart-append (a ∷ us) vs h k none = (
  λ p in_a later. elim (SomeHolds-append_cases us vs p later) [ inl x ↦ h.0 p in_a x | inr y ↦ none p (inl in_a) y ],
  Apart-append us vs h.1 k (λ p x. none p (inr x)),
)

pub AllPairs-from_recursion : (us : List Area) → Apart us → AllPairs Disjoint us
AllPairs-from_recursion [] h i j d before l = absurd (omega arith)
AllPairs-from_recursion (a ∷ us) h i zero d before l = absurd (omega arith)
AllPairs-from_recursion (a ∷ us) h zero (suc j) d before l = λ p x y. h.0 p x (holds_at us p j d (omega arith) y)
AllPairs-from_recursion (a ∷ us) h (suc i) (suc j) d before l = AllPairs-from_recursion us h.1 i j d (omega arith) (omega arith)

-- a box within another of as many attributes, and one of these attributes
pub record Inner (axis : ℕ) (rest c : Area) : Type 0 where
  pub attribute : axis < length rest.lo
  pub rest_area : IsArea rest
  pub area : IsArea c
  pub same : length c.lo ≡ length rest.lo
  pub inside : Within c rest

pub below_cuts : (axis : ℕ) (rest c : Area) → Inner axis rest c → get_or rest.lo axis 0 < get_or c.lo axis 0 → Cuts rest axis (get_or c.lo axis 0)
below_cuts axis rest c h less =
    let l : axis < length c.lo = omega (arith, h.same, h.attribute) in
    record { attribute = h.attribute; above_least = less; up_to_greatest = omega (arith, h.area.ordered axis l, (h.inside axis l).1) }

pub above_cuts : (axis : ℕ) (rest c : Area) → Inner axis rest c → get_or c.hi axis 0 < get_or rest.hi axis 0 → Cuts rest axis (get_or c.hi axis 0 + 1)
above_cuts axis rest c h less =
    let l : axis < length c.lo = omega (arith, h.same, h.attribute) in
    record { attribute = h.attribute; above_least = omega (arith, h.area.ordered axis l, (h.inside axis l).0); up_to_greatest = omega arith }

-- what lies below, what lies above, and what lies between
abbrev IsBelow : ℕ → Area → List ℕ → Type 0
IsBelow axis c p = get_or p axis 0 < get_or c.lo axis 0

abbrev IsAbove : ℕ → Area → List ℕ → Type 0
IsAbove axis c p = get_or c.hi axis 0 < get_or p axis 0

SomeHolds-one : (a : Area) (p : List ℕ) → SomeHolds (a ∷ []) p ↔ Holds a p
SomeHolds-one a p = (λ h. elim h [ inl x ↦ x | inr y ↦ absurd y ], λ h. inl h)

pieces_below-less : (axis : ℕ) (rest c : Area) → get_or rest.lo axis 0 < get_or c.lo axis 0 → pieces_below axis rest c ≡ side_below rest axis (get_or c.lo axis 0) ∷ []
pieces_below-less axis rest c less = grind (arith, nat_tests)

pieces_below-not_less : (axis : ℕ) (rest c : Area) → get_or c.lo axis 0 ≤ get_or rest.lo axis 0 → pieces_below axis rest c ≡ []
pieces_below-not_less axis rest c not_less = grind (arith, nat_tests)

pieces_above-less : (axis : ℕ) (rest c : Area) → get_or c.hi axis 0 < get_or rest.hi axis 0 → pieces_above axis rest c ≡ side_from rest axis (get_or c.hi axis 0 + 1) ∷ []
pieces_above-less axis rest c less = grind (arith, nat_tests)

pieces_above-not_less : (axis : ℕ) (rest c : Area) → get_or rest.hi axis 0 ≤ get_or c.hi axis 0 → pieces_above axis rest c ≡ []
pieces_above-not_less axis rest c not_less = grind (arith, nat_tests)

pub SomeHolds-pieces_below : (axis : ℕ) (rest c : Area) (p : List ℕ) → Inner axis rest c → SomeHolds (pieces_below axis rest c) p ↔ (Holds rest p × IsBelow axis c p)
SomeHolds-pieces_below axis rest c p h = elim (cases_lt (get_or rest.lo axis 0) (get_or c.lo axis 0)) [
  | inl less ↦
      let side = Holds-side_below rest axis (get_or c.lo axis 0) p h.rest_area (below_cuts axis rest c h less) in
      subst (λ (us : List Area). SomeHolds us p ↔ (Holds rest p × IsBelow axis c p)) (sym (pieces_below-less axis rest c less))
      (λ x. side.0 ((SomeHolds-one _ p).0 x), λ y. inl (side.1 y))
  | inr not_less ↦
      subst (λ (us : List Area). SomeHolds us p ↔ (Holds rest p × IsBelow axis c p)) (sym (pieces_below-not_less axis rest c not_less))
      (λ x. absurd x, λ y. absurd (omega (arith, y.1, (y.0.between axis (omega (arith, y.0.same, h.attribute))).0)))
]

pub SomeHolds-pieces_above : (axis : ℕ) (rest c : Area) (p : List ℕ) → Inner axis rest c → SomeHolds (pieces_above axis rest c) p ↔ (Holds rest p × IsAbove axis c p)
SomeHolds-pieces_above axis rest c p h = elim (cases_lt (get_or c.hi axis 0) (get_or rest.hi axis 0)) [
  | inl less ↦
      let side = Holds-side_from rest axis (get_or c.hi axis 0 + 1) p (above_cuts axis rest c h less) in
      subst (λ (us : List Area). SomeHolds us p ↔ (Holds rest p × IsAbove axis c p)) (sym (pieces_above-less axis rest c less))
      (λ x. (let in_side = side.0 ((SomeHolds-one _ p).0 x) in (in_side.0, omega arith)), λ y. inl (side.1 (y.0, omega (arith, y.1))))
  | inr not_less ↦
      subst (λ (us : List Area). SomeHolds us p ↔ (Holds rest p × IsAbove axis c p)) (sym (pieces_above-not_less axis rest c not_less))
      (λ x. absurd x, λ y. absurd (omega (arith, y.1, (y.0.between axis (omega (arith, y.0.same, h.attribute))).1)))
]

-- the rest between is a box that the next attributes are taken from
pub Inner-rest_between : (axis : ℕ) (rest c : Area) → Inner axis rest c → IsArea (rest_between axis rest c) × Within c (rest_between axis rest c)
Inner-rest_between axis rest c h =
    let n = length-set rest.lo axis (get_or c.lo axis 0) in
    let m = length-set rest.hi axis (get_or c.hi axis 0) in
    let l : axis < length c.lo = omega (arith, h.same, h.attribute) in
    let in_hi : axis < length rest.hi = omega (arith, h.rest_area.same, h.attribute) in
    let same_hi : length c.hi ≡ length rest.hi = omega (arith, h.rest_area.same, h.area.same, h.same) in (
      record {
        lo_point = IsPoint-set rest.lo axis _ h.rest_area.lo_point (h.area.lo_point.fits axis 0 l);
        hi_point = IsPoint-set rest.hi axis _ h.rest_area.hi_point (h.area.hi_point.fits axis 0 (omega (arith, same_hi)));
        same = omega (arith, n, m, h.rest_area.same);
        ordered = λ i k.
            let k' : i < length rest.lo = omega (arith, n) in
            elim (set_cases rest.lo axis (get_or c.lo axis 0) i h.attribute) [
              | inl x ↦ elim (set_cases rest.hi axis (get_or c.hi axis 0) i in_hi) [
                | inl y ↦ omega (arith, x.1, y.1, h.area.ordered axis l)
                | inr y ↦ absurd (y.0 x.0)
              ]
              | inr x ↦ elim (set_cases rest.hi axis (get_or c.hi axis 0) i in_hi) [
                | inl y ↦ absurd (x.0 y.0)
                | inr y ↦ omega (arith, x.1, y.1, h.rest_area.ordered i k')
              ]
            ];
      },
      λ i k. (
        elim (set_cases rest.lo axis (get_or c.lo axis 0) i h.attribute) [
          | inl x ↦ omega (arith, x.1, ap (λ j. get_or c.lo j 0) x.0)
          | inr x ↦ omega (arith, x.1, (h.inside i k).0)
        ],
        elim (set_cases rest.hi axis (get_or c.hi axis 0) i in_hi) [
          | inl x ↦ omega (arith, x.1, ap (λ j. get_or c.hi j 0) x.0)
          | inr x ↦ omega (arith, x.1, (h.inside i k).1)
        ],
      ),
    )

pub Holds-rest_between : (axis : ℕ) (rest c : Area) (p : List ℕ) → Inner axis rest c → Holds (rest_between axis rest c) p ↔ (Holds rest p × (get_or c.lo axis 0 ≤ get_or p axis 0) × (get_or p axis 0 ≤ get_or c.hi axis 0))
Holds-rest_between axis rest c p h =
    let n = length-set rest.lo axis (get_or c.lo axis 0) in
    let l : axis < length c.lo = omega (arith, h.same, h.attribute) in
    let in_hi : axis < length rest.hi = omega (arith, h.rest_area.same, h.attribute) in (
      λ s.
          let k : axis < length p = omega (arith, s.same, n, h.attribute) in (
            record {
              same = omega (arith, s.same, n);
              between = λ i j. (
                elim (set_cases rest.lo axis (get_or c.lo axis 0) i h.attribute) [
                  | inl x ↦ omega (arith, x.1, (s.between i j).0, (h.inside axis l).0, ap (λ y. get_or rest.lo y 0) x.0)
                  | inr x ↦ omega (arith, x.1, (s.between i j).0)
                ],
                elim (set_cases rest.hi axis (get_or c.hi axis 0) i in_hi) [
                  | inl x ↦ omega (arith, x.1, (s.between i j).1, (h.inside axis l).1, ap (λ y. get_or rest.hi y 0) x.0)
                  | inr x ↦ omega (arith, x.1, (s.between i j).1)
                ],
              );
            },
            omega (arith, (s.between axis k).0, get_or-set_same rest.lo axis (get_or c.lo axis 0) 0 h.attribute),
            omega (arith, (s.between axis k).1, get_or-set_same rest.hi axis (get_or c.hi axis 0) 0 in_hi),
          ),
      λ s. record {
        same = omega (arith, s.0.same, n);
        between = λ i j. (
          elim (set_cases rest.lo axis (get_or c.lo axis 0) i h.attribute) [
            | inl x ↦ omega (arith, x.1, s.1, ap (λ y. get_or p y 0) x.0)
            | inr x ↦ omega (arith, x.1, (s.0.between i j).0)
          ],
          elim (set_cases rest.hi axis (get_or c.hi axis 0) i in_hi) [
            | inl x ↦ omega (arith, x.1, s.2, ap (λ y. get_or p y 0) x.0)
            | inr x ↦ omega (arith, x.1, (s.0.between i j).1)
          ],
        );
      },
    )

-- the point lies between the corners in this attribute and in each later one
abbrev InsideFrom : ℕ → Area → List ℕ → Type 0
InsideFrom axis c p = (i : ℕ) → axis ≤ i → i < length c.lo → (get_or c.lo i 0 ≤ get_or p i 0) × (get_or p i 0 ≤ get_or c.hi i 0)

-- what the pieces from an attribute on hold
SomeHolds-pieces_from : (n axis : ℕ) (rest c : Area) (p : List ℕ) → n + axis ≡ length rest.lo → IsArea rest → IsArea c → length c.lo ≡ length rest.lo → Within c rest → SomeHolds (pieces_from n axis rest c) p ↔ (Holds rest p × ¬ (InsideFrom axis c p))
SomeHolds-pieces_from zero axis rest c p e hr hc s w =
    (λ x. absurd x, λ y. absurd (y.1 (λ i l k. absurd (omega arith))))
SomeHolds-pieces_from (suc n) axis rest c p e hr hc s w =
    let h : Inner axis rest c = record { attribute = omega arith; rest_area = hr; area = hc; same = s; inside = w } in
    let r = Inner-rest_between axis rest c h in
    let len = length-set rest.lo axis (get_or c.lo axis 0) in
    let l : axis < length c.lo = omega arith in
    let below = SomeHolds-pieces_below axis rest c p h in
    let above = SomeHolds-pieces_above axis rest c p h in
    let between = Holds-rest_between axis rest c p h in
    let later = SomeHolds-pieces_from n (axis + 1) (rest_between axis rest c) c p (omega (arith, len)) r.0 hc (omega (arith, len)) r.1 in (
      λ x. elim (SomeHolds-append_cases (pieces_below axis rest c ++ pieces_above axis rest c) _ p x) [
        | inl y ↦ elim (SomeHolds-append_cases (pieces_below axis rest c) _ p y) [
          | inl z ↦ ((below.0 z).0, λ inside. absurd (omega (arith, (below.0 z).1, (inside axis (omega arith) l).0)))
          | inr z ↦ ((above.0 z).0, λ inside. absurd (omega (arith, (above.0 z).1, (inside axis (omega arith) l).1)))
        ]
        | inr y ↦ ((between.0 (later.0 y).0).0, λ inside. (later.0 y).1 (λ i k j. inside i (omega arith) j))
      ],
      λ y. elim (cases_lt (get_or p axis 0) (get_or c.lo axis 0)) [
        | inl z ↦ SomeHolds-append_left _ _ p (SomeHolds-append_left _ _ p (below.1 (y.0, z)))
        | inr z ↦ elim (cases_lt (get_or c.hi axis 0) (get_or p axis 0)) [
          | inl u ↦ SomeHolds-append_left _ _ p (SomeHolds-append_right (pieces_below axis rest c) _ p (above.1 (y.0, u)))
          | inr u ↦ SomeHolds-append_right (pieces_below axis rest c ++ pieces_above axis rest c) _ p (later.1 (
            between.1 (y.0, z, u),
            λ inside. y.1 (λ i k j. elim (cases_eq i axis) [
              | inl q ↦ (omega (arith, z, ap (λ v. get_or c.lo v 0) q, ap (λ v. get_or p v 0) q), omega (arith, u, ap (λ v. get_or c.hi v 0) q, ap (λ v. get_or p v 0) q))
              | inr q ↦ inside i (omega (arith, q)) j
            ]),
          ))
        ]
      ],
    )

-- the pieces outside a box within hold what the box holds and the inner one does not
pub SomeHolds-pieces_outside : (a c : Area) (p : List ℕ) → IsArea a → IsArea c → length c.lo ≡ length a.lo → Within c a → SomeHolds (pieces_outside a c) p ↔ (Holds a p × ¬ (Holds c p))
SomeHolds-pieces_outside a c p ha hc s w =
    let from = SomeHolds-pieces_from (length a.lo) 0 a c p (omega arith) ha hc s w in (
      λ x. ((from.0 x).0, λ held. (from.0 x).1 (λ i l k. held.between i (omega (arith, held.same)))),
      λ y. from.1 (y.0, λ inside. y.1 (record { same = omega (arith, y.0.same, s); between = λ i k. inside i (omega arith) (omega (arith, y.0.same, s)) })),
    )

Apart-one_or_none : (axis : ℕ) (rest c : Area) → Apart (pieces_below axis rest c) × Apart (pieces_above axis rest c)
Apart-one_or_none axis rest c = (
  elim (cases_lt (get_or rest.lo axis 0) (get_or c.lo axis 0)) [
    | inl less ↦ subst Apart (sym (pieces_below-less axis rest c less)) (λ p x y. y, tt)
    | inr not_less ↦ subst Apart (sym (pieces_below-not_less axis rest c not_less)) tt
  ],
  elim (cases_lt (get_or c.hi axis 0) (get_or rest.hi axis 0)) [
    | inl less ↦ subst Apart (sym (pieces_above-less axis rest c less)) (λ p x y. y, tt)
    | inr not_less ↦ subst Apart (sym (pieces_above-not_less axis rest c not_less)) tt
  ],
)

Apart-pieces_from : (n axis : ℕ) (rest c : Area) → n + axis ≡ length rest.lo → IsArea rest → IsArea c → length c.lo ≡ length rest.lo → Within c rest → Apart (pieces_from n axis rest c)
Apart-pieces_from zero axis rest c e hr hc s w = tt
Apart-pieces_from (suc n) axis rest c e hr hc s w =
    let h : Inner axis rest c = record { attribute = omega arith; rest_area = hr; area = hc; same = s; inside = w } in
    let r = Inner-rest_between axis rest c h in
    let len = length-set rest.lo axis (get_or c.lo axis 0) in
    let l : axis < length c.lo = omega arith in
    let one = Apart-one_or_none axis rest c in
    let later = Apart-pieces_from n (axis + 1) (rest_between axis rest c) c (omega (arith, len)) r.0 hc (omega (arith, len)) r.1 in
    Apart-append (pieces_below axis rest c ++ pieces_above axis rest c) _
    (Apart-append (pieces_below axis rest c) _ one.0 one.1 (λ p x y.
    absurd (omega (arith, ((SomeHolds-pieces_below axis rest c p h).0 x).1, ((SomeHolds-pieces_above axis rest c p h).0 y).1, hc.ordered axis l))))
    later
    (λ p x y.
    let t = (SomeHolds-pieces_from n (axis + 1) (rest_between axis rest c) c p (omega (arith, len)) r.0 hc (omega (arith, len)) r.1).0 y in
    let b = (Holds-rest_between axis rest c p h).0 t.0 in
    elim (SomeHolds-append_cases (pieces_below axis rest c) _ p x) [
      | inl z ↦ absurd (omega (arith, ((SomeHolds-pieces_below axis rest c p h).0 z).1, b.1))
      | inr z ↦ absurd (omega (arith, ((SomeHolds-pieces_above axis rest c p h).0 z).1, b.2))
    ])

pub Apart-pieces_outside : (a c : Area) → IsArea a → IsArea c → length c.lo ≡ length a.lo → Within c a → Apart (pieces_outside a c)
Apart-pieces_outside a c ha hc s w = Apart-pieces_from (length a.lo) 0 a c (omega arith) ha hc s w

length-one_or_none : (axis : ℕ) (rest c : Area) → (length (pieces_below axis rest c) ≤ 1) × (length (pieces_above axis rest c) ≤ 1)
length-one_or_none axis rest c = (
  elim (cases_lt (get_or rest.lo axis 0) (get_or c.lo axis 0)) [
    | inl less ↦ rw (pieces_below-less axis rest c less) (omega arith)
    | inr not_less ↦ rw (pieces_below-not_less axis rest c not_less) (omega arith)
  ],
  elim (cases_lt (get_or c.hi axis 0) (get_or rest.hi axis 0)) [
    | inl less ↦ rw (pieces_above-less axis rest c less) (omega arith)
    | inr not_less ↦ rw (pieces_above-not_less axis rest c not_less) (omega arith)
  ],
)

length-pieces_from : (n axis : ℕ) (rest c : Area) → length (pieces_from n axis rest c) ≤ 2 * n
length-pieces_from zero axis rest c = omega arith
length-pieces_from (suc n) axis rest c =
    let one = length-one_or_none axis rest c in
    omega (
      arith,
      one.0,
      one.1,
      length-pieces_from n (axis + 1) (rest_between axis rest c) c,
      length-append (pieces_below axis rest c ++ pieces_above axis rest c) (pieces_from n (axis + 1) (rest_between axis rest c) c),
      length-append (pieces_below axis rest c) (pieces_above axis rest c),
    )

pub length-pieces_outside : (a c : Area) → length (pieces_outside a c) ≤ 2 * length a.lo
length-pieces_outside a c = length-pieces_from (length a.lo) 0 a c

-- The loop over the attributes: the rest is what is left of the box once the first attributes are done, and
-- the pieces so far, followed by those of the rest, are all the pieces.
pub record IsPeeled (a c rest : Area) (axis : ℕ) (pieces : List Area) : Type 0 where
  pub same : length rest.lo ≡ length a.lo
  pub area : IsArea rest
  pub inside : Within c rest
  pub so_far : pieces ++ pieces_from (length a.lo - axis) axis rest c ≡ pieces_outside a c

regrouped : (ps bs us rs : List Area) → ps ++ bs ++ us ++ rs ≡ ps ++ ((bs ++ us) ++ rs)
regrouped ps bs us rs = simp append_assoc

pub Inner-from_peeled : (a c rest : Area) (axis : ℕ) (pieces : List Area) → axis < length a.lo → IsArea c → length c.lo ≡ length a.lo → IsPeeled a c rest axis pieces → Inner axis rest c
Inner-from_peeled a c rest axis pieces l hc s h =
    record { attribute = omega (arith, h.same); rest_area = h.area; area = hc; same = omega (arith, s, h.same); inside = h.inside }

-- at the beginning the rest is the whole box
pub peeled_none : (a c rest : Area) (pieces : List Area) → rest ≡ a → pieces ≡ [] → IsArea a → Within c a → IsPeeled a c rest 0 pieces
peeled_none a c rest pieces e none area inside =
    let all : length a.lo - 0 ≡ length a.lo = omega arith in
    subst (λ (t : Area). IsPeeled a c t 0 pieces) (sym e) (record {
      same = refl;
      area = area;
      inside = inside;
      so_far = ap (λ n. pieces ++ pieces_from n 0 a c) all ∙ ap (λ (us : List Area). us ++ pieces_outside a c) none;
    })

-- past the last attribute nothing more is left
pub peeled_all : (a c rest : Area) (axis : ℕ) (pieces : List Area) → length a.lo ≤ axis → IsPeeled a c rest axis pieces → pieces ≡ pieces_outside a c
peeled_all a c rest axis pieces end h =
    let none : length a.lo - axis ≡ 0 = omega (arith, end) in
    sym (append-nil pieces) ∙ ap (λ n. pieces ++ pieces_from n axis rest c) (sym none) ∙ h.so_far

pub peeled_more : (a c rest next : Area) (axis : ℕ) (pieces more : List Area) → axis < length a.lo → IsArea c → length c.lo ≡ length a.lo → IsPeeled a c rest axis pieces → next ≡ rest_between axis rest c → more ≡ pieces ++ pieces_below axis rest c ++ pieces_above axis rest c → IsPeeled a c next (axis + 1) more
peeled_more a c rest next axis pieces more l hc s h e k =
    let inner = Inner-from_peeled a c rest axis pieces l hc s h in
    let r = Inner-rest_between axis rest c inner in
    let n : length a.lo - axis ≡ suc (length a.lo - (axis + 1)) = omega arith in
    let later = pieces_from (length a.lo - (axis + 1)) (axis + 1) (rest_between axis rest c) c in
    let step : pieces ++ pieces_from (length a.lo - axis) axis rest c ≡ pieces ++ ((pieces_below axis rest c ++ pieces_above axis rest c) ++ later) = ap (λ m. pieces ++ pieces_from m axis rest c) n in
    subst (λ (t : Area). IsPeeled a c t (axis + 1) more) (sym e) (record {
      same = omega (arith, h.same, length-set rest.lo axis (get_or c.lo axis 0));
      area = r.0;
      inside = r.1;
      so_far = ap (λ (t : List Area). t ++ later) k ∙ regrouped pieces (pieces_below axis rest c) (pieces_above axis rest c) later ∙ sym step ∙ h.so_far;
    })

-- what one attribute's two steps leave, and the pieces that they add
pub rest_between-from_steps : (axis : ℕ) (rest c mid next : Area) → mid ≡ record { lo = set rest.lo axis (get_or c.lo axis 0); hi = rest.hi } → next ≡ record { lo = mid.lo; hi = set mid.hi axis (get_or c.hi axis 0) } → next ≡ rest_between axis rest c
rest_between-from_steps axis rest c mid next e k =
    k ∙ ap (λ (m : Area). record { lo = m.lo; hi = set m.hi axis (get_or c.hi axis 0) }) e

pub pieces-from_steps : (axis : ℕ) (rest c mid : Area) (pieces more most : List Area) → mid ≡ record { lo = set rest.lo axis (get_or c.lo axis 0); hi = rest.hi } → more ≡ pieces ++ pieces_below axis rest c → most ≡ more ++ cond (ltb (get_or c.hi axis 0) (get_or mid.hi axis 0)) (side_from mid axis (get_or c.hi axis 0 + 1) ∷ []) [] → most ≡ pieces ++ pieces_below axis rest c ++ pieces_above axis rest c
pieces-from_steps axis rest c mid pieces more most e k j =
    let add : Area → List Area → List Area = λ m ps. ps ++ cond (ltb (get_or c.hi axis 0) (get_or m.hi axis 0)) (side_from m axis (get_or c.hi axis 0 + 1) ∷ []) [] in
    let far : List ℕ → List Area = λ lo. (pieces ++ pieces_below axis rest c) ++ cond (ltb (get_or c.hi axis 0) (get_or rest.hi axis 0)) (record { lo = lo; hi = rest.hi } ∷ []) [] in
    j ∙ ap (add mid) k ∙ ap (λ m. add m (pieces ++ pieces_below axis rest c)) e ∙ ap far (set-set rest.lo axis (get_or c.lo axis 0) (get_or c.hi axis 0 + 1))

-- the three facts about the pieces, of boxes that meet
pub cover_from_pieces : (a o c : Area) (v : List Area) (p : List ℕ) → v ≡ pieces_outside a c → IsArea a → IsArea c → length c.lo ≡ length a.lo → Within c a → (Holds c p ↔ (Holds a p × Holds o p)) → Any (λ x. Holds x p) v ↔ (Holds a p × ¬ (Holds o p))
cover_from_pieces a o c v p e ha hc s w both =
    let some = SomeHolds-pieces_outside a c p ha hc s w in
    subst (λ (t : List Area). Any (λ x. Holds x p) t ↔ (Holds a p × ¬ (Holds o p))) (sym e) (
      λ x. (let y = some.0 (recursion_from_Any _ p x) in (y.0, λ in_o. y.1 (both.1 (y.0, in_o)))),
      λ y. Any-from_recursion _ p (some.1 (y.0, λ in_c. y.1 (both.0 in_c).1)),
    )

pub disjoint_from_pieces : (a c : Area) (v : List Area) → v ≡ pieces_outside a c → IsArea a → IsArea c → length c.lo ≡ length a.lo → Within c a → AllPairs Disjoint v
disjoint_from_pieces a c v e ha hc s w =
    subst (AllPairs Disjoint) (sym e) (AllPairs-from_recursion _ (Apart-pieces_outside a c ha hc s w))

pub count_from_pieces : (a c : Area) (v : List Area) → v ≡ pieces_outside a c → length v ≤ 2 * length a.lo
count_from_pieces a c v e = rw e (length-pieces_outside a c)

-- a box alone, where the two do not meet
pub cover_where_apart : (a o : Area) (v : List Area) (p : List ℕ) → v ≡ a ∷ [] → ¬ (Meets a o) → Any (λ x. Holds x p) v ↔ (Holds a p × ¬ (Holds o p))
cover_where_apart a o v p e apart =
    subst (λ (t : List Area). Any (λ x. Holds x p) t ↔ (Holds a p × ¬ (Holds o p))) (sym e) (
      λ x. (let held = (SomeHolds-one a p).0 (recursion_from_Any (a ∷ []) p x) in (held, λ in_o. apart (Meets-from_point a o p held in_o))),
      λ y. Any-from_recursion (a ∷ []) p (inl y.0),
    )
