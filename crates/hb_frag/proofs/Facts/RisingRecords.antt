-- Records in rising order, by recursion: there and back, one of them for each point, and one list for the same records.
use Rattle.std.proofs.Common.{◌≡◌, inl, inr, List, [], ◌∷◌, get_or, All, AllPairs, refl, sym, ap, ◌∙◌}
use Rattle.std.specs.List.{AllByRecursion, Contains}
use Rattle.std.proofs.lemmas.Cmp.{nat_list_cmp_total}
use Rattle.std.proofs.lemmas.List.Elements.{All-contains, All-from_recursion, All-head, All-tail, Contains-get_or, recursion_from_All}
use Rattle.std.proofs.lemmas.List.Kept.{AllPairs-cons}
use Rattle.hb_lemmas.proofs.Lists.{member_cases, no_member}
use Rattle.hb_lemmas.proofs.Pairs.{pairs_first, pairs_rest, pairs_none}
use Rattle.hb_space.proofs.Facts.PointOrder.{not_itself}
use Rattle.hb_space.specs.declared.records.Record.{Record}
use Rattle.hb_frag.specs.Rules.{Precedes}

-- records in rising order
abbrev pub Rise : List Record → Type 0
Rise [] = Unit {0}
Rise (r ∷ rest) = AllByRecursion (Precedes r) rest × Rise rest

pub ahead : (r : Record) (rest : List Record) → Rise (r ∷ rest) → All (Precedes r) rest
ahead r rest up = All-from_recursion (Precedes r) rest up.0

pub in_front : (r : Record) (rest : List Record) → All (Precedes r) rest → Rise rest → Rise (r ∷ rest)
in_front r rest all up = (recursion_from_All (Precedes r) rest all, up)

pub rising : (records : List Record) → Rise records → AllPairs Precedes records
rising [] up = pairs_none Precedes
rising (r ∷ rest) up = AllPairs-cons Precedes r rest (ahead r rest up) (rising rest up.1)

pub rises : (records : List Record) → AllPairs Precedes records → Rise records
rises [] pairs = tt
rises (r ∷ rest) pairs = in_front r rest (pairs_first Precedes r rest pairs) (rises rest (pairs_rest Precedes r rest pairs))

-- of two records one doesn't come before the other both ways
pub never_both_ways : (r s : Record) → Precedes r s → Precedes s r → ⊥
never_both_ways r s first second = not_itself r.key r.key refl (nat_list_cmp_total.trans r.key s.key r.key first second)

-- two of one point are one record
pub one_among : (xs : List Record) (r s : Record) → Rise xs → Contains xs r → Contains xs s → r.key ≡ s.key → r ≡ s
one_among [] r s up here there same = absurd (no_member r here)
one_among (x ∷ xs) r s up here there same = elim (member_cases x xs r here) [
  | inl first ↦ elim (member_cases x xs s there) [
    | inl second ↦ sym first ∙ second
    | inr later ↦ absurd (not_itself x.key s.key (ap (λ (r : Record). r.key) first ∙ same) (All-contains (Precedes x) xs s (ahead x xs up) later))
  ]
  | inr behind ↦ elim (member_cases x xs s there) [
    | inl second ↦ absurd (not_itself x.key r.key (ap (λ (r : Record). r.key) second ∙ sym same) (All-contains (Precedes x) xs r (ahead x xs up) behind))
    | inr later ↦ one_among xs r s up.1 behind later same
  ]
]

-- two lists of the same records are one
module _ (x y : Record) (xs ys : List Record) (up : Rise (x ∷ xs)) (on : Rise (y ∷ ys)) where
  same_head : Contains (y ∷ ys) x → Contains (x ∷ xs) y → y ≡ x
  same_head here there = elim (member_cases y ys x here) [
    | inl same ↦ same
    | inr later ↦ elim (member_cases x xs y there) [
      | inl same ↦ sym same
      | inr behind ↦ absurd (never_both_ways y x (All-contains (Precedes y) ys x (ahead y ys on) later) (All-contains (Precedes x) xs y (ahead x xs up) behind))
    ]
  ]

  rest_among : y ≡ x → All (Contains (y ∷ ys)) (x ∷ xs) → All (Contains ys) xs
  rest_among same all k d lt =
      let z = get_or xs k d in
      elim (member_cases y ys z (All-tail (Contains (y ∷ ys)) x xs all k d lt)) [
        | inl is ↦ absurd (not_itself x.key z.key (ap (λ (r : Record). r.key) (sym same ∙ is)) (All-contains (Precedes x) xs z (ahead x xs up) (Contains-get_or xs k d lt)))
        | inr later ↦ later
      ]

pub same_rising : (xs ys : List Record) → Rise xs → Rise ys → All (Contains ys) xs → All (Contains xs) ys → xs ≡ ys
same_rising [] [] up on here there = refl
same_rising [] (y ∷ ys) up on here there = absurd (no_member y (All-head (Contains []) y ys there))
same_rising (x ∷ xs) [] up on here there = absurd (no_member x (All-head (Contains []) x xs here))
same_rising (x ∷ xs) (y ∷ ys) up on here there =
    let same = same_head x y xs ys up on (All-head (Contains (y ∷ ys)) x xs here) (All-head (Contains (x ∷ xs)) y ys there) in
    let rest = same_rising xs ys up.1 on.1 (rest_among x y xs ys up on same here) (rest_among y x ys xs on up (sym same) there) in
    ap (λ (r : Record). r ∷ xs) (sym same) ∙ ap (λ (l : List Record). y ∷ l) rest
