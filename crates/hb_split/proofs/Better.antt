-- The better one of two planes.
use Rattle.std.proofs.Common.{◌≡◌, ℕ, ◌+◌, ◌<◌, ◌≤◌, ◌⊎◌, inl, inr, List, Option, Some, None, sym, arith, subst}
use Rattle.std.proofs.lemmas.Bool.{cases_lt}
use Rattle.hb_space.specs.declared.records.Record.{Record}
use Rattle.hb_split.specs.declared.planes.Candidate.{Candidate}
use Rattle.hb_split.specs.Choosing.{MayCut, NotBehind, IsBest, heavier_count}
use Rattle.hb_split.specs.Steps.{BestOf, IsBestOn, BestOn, heavier_at, BestStep}

pub fewer : (k a v : ℕ) (records : List Record) → a < k → MayCut (k + 1) a v records → MayCut k a v records
fewer k a v records lt m = record { attribute = lt; met = m.met; exceeds = m.exceeds }

pub more : (k a v : ℕ) (records : List Record) → MayCut k a v records → MayCut (k + 1) a v records
more k a v records m = let lt = m.attribute in record { attribute = omega (arith, lt); met = m.met; exceeds = m.exceeds }

-- a plane of one attribute more
split : (k a v : ℕ) (records : List Record) → MayCut (k + 1) a v records → MayCut k a v records ⊎ ((a ≡ k) × MayCut (k + 1) k v records)
split k a v records m = elim (cases_lt a k) [
  | inl lt ↦ inl (fewer k a v records lt m)
  | inr ge ↦ let at = m.attribute in let e : a ≡ k = omega (arith, at, ge) in inr (e, subst (λ (x : ℕ). MayCut (k + 1) x v records) e m)
]

-- the best one stays where the other isn't lighter
stays : (k : ℕ) (records : List Record) (best : Candidate) → BestOf k records (Some best)
    → ((v : ℕ) → MayCut (k + 1) k v records → best.count ≤ heavier_count k v records) → BestOf (k + 1) records (Some best)
stays k records best b lighter =
    let count = b.1.count in
    let at = b.0.may.attribute in (
      record {
        may = more k best.cut.axis best.cut.value records b.0.may;
        first = λ a v m. elim (split k a v records m) [
          | inl old ↦ b.0.first a v old
          | inr new ↦
              let le = lighter v new.1 in
              subst (λ (x : ℕ). NotBehind (heavier_count best.cut.axis best.cut.value records) best.cut.axis best.cut.value (heavier_count x v records) x v) (sym new.0)
              (elim (cases_lt (heavier_count best.cut.axis best.cut.value records) (heavier_count k v records)) [
                | inl lt ↦ inl lt
                | inr ge ↦ inr (omega (arith, count, le, ge), inl at)
              ])
        ];
      },
      b.1,
    )

-- what a best plane of one attribute has, at its own axis
own : (k : ℕ) (records : List Record) (other : Candidate) → IsBestOn k records other → IsBest (k + 1) k other.cut.value records → BestOf (k + 1) records (Some other)
own k records other o best = (subst (λ (x : ℕ). IsBest (k + 1) x other.cut.value records) (sym o.axis_of) best, o.told)

count_of : (k : ℕ) (records : List Record) (other : Candidate) → IsBestOn k records other → other.count ≡ heavier_count k other.cut.value records
count_of k records other o = subst (λ (x : ℕ). other.count ≡ heavier_count x other.cut.value records) o.axis_of o.told.count

pub best_stays : (k : ℕ) (records : List Record) (best other : Candidate) → BestOf k records (Some best) → IsBestOn k records other → best.count ≤ other.count → BestOf (k + 1) records (Some best)
best_stays k records best other b o le =
    let count = count_of k records other o in
    stays k records best b (λ v m. elim (o.first v m) [
      | inl lt ↦ omega (arith, count, le, lt)
      | inr same ↦ let e = same.0 in omega (arith, count, le, e)
    ])

pub best_alone : (k : ℕ) (records : List Record) (best : Candidate) → BestOf k records (Some best) → ((v : ℕ) → ¬ (MayCut (k + 1) k v records)) → BestOf (k + 1) records (Some best)
best_alone k records best b none = stays k records best b (λ v m. absurd (none v m))

pub other_wins : (k : ℕ) (records : List Record) (best other : Candidate) → BestOf k records (Some best) → IsBestOn k records other → other.count < best.count → BestOf (k + 1) records (Some other)
other_wins k records best other b o lighter =
    let count = count_of k records other o in
    let count' = b.1.count in
    own k records other o (record {
      may = o.may;
      first = λ a v m. elim (split k a v records m) [
        | inl old ↦ inl (elim (b.0.first a v old) [ inl lt ↦ omega (arith, count, count', lighter, lt) | inr same ↦ let e = same.0 in omega (arith, count, count', lighter, e) ])
        | inr new ↦ subst (λ (x : ℕ). NotBehind (heavier_count k other.cut.value records) k other.cut.value (heavier_count x v records) x v) (sym new.0) (o.first v new.1)
      ];
    })

pub other_alone : (k : ℕ) (records : List Record) (other : Candidate) → ((a v : ℕ) → ¬ (MayCut k a v records)) → IsBestOn k records other → BestOf (k + 1) records (Some other)
other_alone k records other none o = own k records other o (record {
  may = o.may;
  first = λ a v m. elim (split k a v records m) [
    | inl old ↦ absurd (none a v old)
    | inr new ↦ subst (λ (x : ℕ). NotBehind (heavier_count k other.cut.value records) k other.cut.value (heavier_count x v records) x v) (sym new.0) (o.first v new.1)
  ];
})

pub none_alone : (k : ℕ) (records : List Record) → ((a v : ℕ) → ¬ (MayCut k a v records)) → ((v : ℕ) → ¬ (MayCut (k + 1) k v records)) → (a v : ℕ) → ¬ (MayCut (k + 1) a v records)
none_alone k records none none' a v m = elim (split k a v records m) [ inl old ↦ none a v old | inr new ↦ none' v new.1 ]

-- a step that stays the best one
pub step_stays : (values : List ℕ) (at b : ℕ) → BestStep values at (Some b) → heavier_at values b ≤ heavier_at values at → BestStep values (at + 1) (Some b)
step_stays values at b h le =
    let below = h.0 in (
      omega (arith, below),
      h.1,
      λ i lt step. elim (cases_lt i at) [
        | inl old ↦ h.2 i old step
        | inr ge ↦ let e : i ≡ at = omega (arith, lt, ge) in subst (λ (x : ℕ). (heavier_at values b < heavier_at values x) ⊎ ((heavier_at values b ≡ heavier_at values x) × (b ≤ x))) (sym e)
            (elim (cases_lt (heavier_at values b) (heavier_at values at)) [ inl w ↦ inl w | inr g ↦ inr (omega (arith, le, g), omega (arith, below)) ])
      ],
    )

pub all_new : (k : ℕ) (records : List Record) (other : Option Candidate) → BestOf k records None → BestOn k records other → BestOf (k + 1) records other
all_new k records None none o = none_alone k records none o
all_new k records (Some other) none o = other_alone k records other none o
