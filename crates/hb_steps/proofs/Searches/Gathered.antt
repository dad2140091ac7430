-- What a search has found so far, once it took a leaf's records: of the box at hand what lies outside the leaf's box remains.
use Rattle.hb_steps.proofs.Searches.Names.{◌≡◌, ◌↔◌, ◌⊎◌, inl, inr, ℕ, List, [], ◌∷◌, ◌++◌, length, All, AllPairs, Any, Contains, sym, ◌∙◌, subst, cases_Bool, false≢true, All-contains, All-last, each_member, filter_keeps, Holds-from_test, Meets-from_point, test-from_Holds, Area, Holds, IsArea, Within, common_area, holds, pieces_outside, Record, RecordSet, IsBoxOf, HasFoundSoFar, IsAmong, IsGathering}
use Rattle.std.proofs.lemmas.List.Elements.{All-append, All-head, All-tail, Contains-append_cases, Contains-append_left, Contains-append_right}
use Rattle.hb_lemmas.proofs.Lists.{All-front}
use Rattle.hb_space.proofs.Facts.Boxes.{Holds-common_area, Holds-within, IsArea-common_area, Within-common_area, Within-from_points}
use Rattle.hb_space.proofs.Facts.Lists.{length-zip_by}
use Rattle.hb_space.proofs.Facts.Outside.{Any-from_recursion, Apart, SomeHolds, SomeHolds-append_cases, SomeHolds-append_left, SomeHolds-append_right, SomeHolds-pieces_outside, holds_at, recursion_from_Any}
use Rattle.hb_space.specs.Boxes.{Disjoint}
use Rattle.hb_steps.proofs.Machines.PieceBoxes.{pieces_are_boxes}
use Rattle.hb_steps.proofs.Searches.SortedRecords.{filter_tells}
use Rattle.hb_search.proofs.Facts.StaysApart.{stays_apart}
use Rattle.hb_view.specs.Within.{records_within}
use Rattle.hb_frag.specs.Rules.{Differ}
use Rattle.hb_lemmas.proofs.Pairs.{pairs_first, pairs_rest}

-- ---- boxes of which no two share a point

apart_of : (us : List Area) → AllPairs Disjoint us → Apart us
apart_of [] pairs = tt
apart_of (a ∷ us) pairs = (
  λ p here later. (let w = Any-from_recursion us p later in
      let apart : Disjoint a w.1 = subst (Disjoint a) w.3 (pairs_first Disjoint a us pairs w.0 w.1 w.2) in
      apart p here w.4),
  apart_of us (pairs_rest Disjoint a us pairs),
)

apart_across : (us vs : List Area) → Apart (us ++ vs) → (p : List ℕ) → SomeHolds us p → SomeHolds vs p → ⊥
apart_across [] vs apart p never there = never
apart_across (a ∷ us) vs apart p (inl here) there = apart.0 p here (SomeHolds-append_right us vs p there)
apart_across (a ∷ us) vs apart p (inr here) there = apart_across us vs apart.1 p here there

-- a box of a list that holds a point
some_by_member : (us : List Area) (a : Area) (p : List ℕ) → Contains us a → Holds a p → SomeHolds us p
some_by_member us a p (k, lt, is) held = holds_at us p k a lt (subst (λ (b : Area). Holds b p) (sym is) held)

-- some box of the list holds a point of as many attributes, or none does
some_or_none : (k : ℕ) (us : List Area) (p : List ℕ) → All (IsBoxOf k) us → length p ≡ k → SomeHolds us p ⊎ ¬ (SomeHolds us p)
some_or_none k [] p boxes long = inr (λ never. never)
some_or_none k (a ∷ us) p boxes long =
    let box = All-head (IsBoxOf k) a us boxes in
    elim (cases_Bool (holds a p)) [
      | inl test ↦ inl (inl (Holds-from_test a p test))
      | inr off ↦ elim (some_or_none k us p (All-tail (IsBoxOf k) a us boxes) long) [
        | inl later ↦ inl (inr later)
        | inr none ↦ inr (λ some. elim some [ inl here ↦ false≢true (sym off ∙ test-from_Holds a p box.0 here) | inr later ↦ none later ])
      ]
    ]

-- ---- a search at a leaf

-- a leaf of records, which lie in its box and are of different points
pub record IsLeafOf (k : ℕ) (records : List Record) (area : Area) : Type 0 where
  pub box : IsBoxOf k area
  pub inside : (r : Record) → Contains records r → Holds area r.key
  pub once : AllPairs Differ records

module _ (k : ℕ) (front : List Area) (at_hand : Area) (found records : List Record) (area : Area) (p : List ℕ) (boxes : All (IsBoxOf k) (front ++ at_hand ∷ [])) (leaf : IsLeafOf k records area) (in_hand : Holds at_hand p) (in_leaf : Holds area p)
    (gathering : IsGathering (front ++ at_hand ∷ []) found) where
  hand : IsBoxOf k at_hand
  hand = All-last (IsBoxOf k) front at_hand boxes

  as_long : length at_hand.lo ≡ length area.lo
  as_long = hand.1 ∙ sym leaf.box.1

  abbrev both : Area
  both = common_area at_hand area

  both_is : IsArea both
  both_is = IsArea-common_area at_hand area hand.0 leaf.box.0 as_long (Meets-from_point at_hand area p in_hand in_leaf)

  both_long : length both.lo ≡ length at_hand.lo
  both_long = length-zip_by _ at_hand.lo area.lo as_long

  both_within : Within both at_hand
  both_within = (Within-common_area at_hand area hand.0 leaf.box.0 as_long (Meets-from_point at_hand area p in_hand in_leaf)).0

  abbrev pieces : List Area
  pieces = pieces_outside at_hand both

  abbrev more : List Record
  more = records_within at_hand records

  -- what the pieces hold
  piece_tells : (q : List ℕ) → SomeHolds pieces q ↔ (Holds at_hand q × ¬ (Holds both q))
  piece_tells q = SomeHolds-pieces_outside at_hand both q hand.0 both_is both_long both_within

  pieces_fit : All (IsBoxOf k) pieces
  pieces_fit = pieces_are_boxes k at_hand area p hand leaf.box in_hand in_leaf

  all_apart : Apart (front ++ at_hand ∷ [])
  all_apart = apart_of (front ++ at_hand ∷ []) gathering.apart

  -- a record that is taken lies in the box at hand
  taken_in_hand : (r : Record) → Contains more r → Contains records r × Holds at_hand r.key
  taken_in_hand r there =
      let is = filter_tells (λ (r : Record). holds at_hand r.key) records r there in
      let in_area = leaf.inside r is.0 in
      (is.0, Holds-from_test at_hand r.key is.1)

  -- what the boxes hold that remain, they held before
  held_before : (q : List ℕ) → SomeHolds (front ++ pieces) q → SomeHolds (front ++ at_hand ∷ []) q
  held_before q some = elim (SomeHolds-append_cases front pieces q some) [
    | inl here ↦ SomeHolds-append_left front (at_hand ∷ []) q here
    | inr there ↦ SomeHolds-append_right front (at_hand ∷ []) q (inl ((piece_tells q).0 there).0)
  ]

  -- and what the box at hand and the leaf's hold, they don't
  none_after : (q : List ℕ) → Holds at_hand q → Holds area q → SomeHolds (front ++ pieces) q → ⊥
  none_after q here leafy some = elim (SomeHolds-append_cases front pieces q some) [
    | inl other ↦ apart_across front (at_hand ∷ []) all_apart q other (inl here)
    | inr piece ↦ ((piece_tells q).0 piece).1 ((Holds-common_area at_hand area q hand.0 leaf.box.0 as_long).1 (here, leafy))
  ]

  pub gathering_after : IsGathering (front ++ pieces) (found ++ more)
  gathering_after = stays_apart front found records at_hand area gathering hand.0 leaf.box.0 as_long (Meets-from_point at_hand area p in_hand in_leaf) leaf.inside leaf.once

  -- ---- by the contents of a file

  module _ (n : RecordSet) (box : Area) (whole : IsBoxOf k box) (all_there : (r : Record) → Holds area r.key → Contains records r ↔ IsAmong n r) (so_far : HasFoundSoFar n box (front ++ at_hand ∷ []) found) where
    hand_within : Within at_hand box
    hand_within = All-last (λ (a : Area). Within a box) front at_hand so_far.within

    hand_inside : (q : List ℕ) → Holds at_hand q → Holds box q
    hand_inside q held = Holds-within at_hand box q (hand.1 ∙ sym whole.1) hand_within held

    within_after : All (λ (a : Area). Within a box) (front ++ pieces)
    within_after =
        All-append (λ (a : Area). Within a box) front pieces (All-front (λ (a : Area). Within a box) front (at_hand ∷ []) so_far.within)
        (each_member (λ (a : Area). Within a box) pieces (λ a there.
        Within-from_points a box (All-contains (IsBoxOf k) pieces a pieces_fit there).0 (λ q held. hand_inside q ((piece_tells q).0 (some_by_member pieces a q there held)).0)))

    to_contents : (r : Record) → Contains (found ++ more) r → IsAmong n r × Holds box r.key × ¬ (Any (λ (a : Area). Holds a r.key) (front ++ pieces))
    to_contents r there = elim (Contains-append_cases found more r there) [
      | inl old ↦ (let is = (so_far.exact r).0 old in
          (is.0, is.1, λ some. is.2 (Any-from_recursion (front ++ at_hand ∷ []) r.key (held_before r.key (recursion_from_Any (front ++ pieces) r.key some)))))
      | inr new ↦ (let is = taken_in_hand r new in
          let leafy = leaf.inside r is.0 in
          ((all_there r leafy).0 is.0, hand_inside r.key is.1, λ some. none_after r.key is.1 leafy (recursion_from_Any (front ++ pieces) r.key some)))
    ]

    -- a record of the box at hand that no piece holds is the leaf's
    taken : (r : Record) → IsAmong n r → Holds at_hand r.key → ¬ (SomeHolds pieces r.key) → Contains more r
    taken r among here none = elim (cases_Bool (holds area r.key)) [
      | inl test ↦
          let leafy = Holds-from_test area r.key test in
          filter_keeps (λ (r : Record). holds at_hand r.key) records r ((all_there r leafy).1 among) (test-from_Holds at_hand r.key hand.0 here)
      | inr off ↦ absurd (none ((piece_tells r.key).1 (here, λ in_both. false≢true (sym off ∙ test-from_Holds area r.key leaf.box.0 ((Holds-common_area at_hand area r.key hand.0 leaf.box.0 as_long).0 in_both).1))))
    ]

    from_contents : (r : Record) → IsAmong n r → Holds box r.key → ¬ (Any (λ (a : Area). Holds a r.key) (front ++ pieces)) → Contains (found ++ more) r
    from_contents r among held none = elim (some_or_none k (front ++ at_hand ∷ []) r.key boxes (held.same ∙ whole.1)) [
      | inr nowhere ↦ Contains-append_left found more r ((so_far.exact r).1 (among, held, λ some. nowhere (recursion_from_Any (front ++ at_hand ∷ []) r.key some)))
      | inl some ↦ elim (SomeHolds-append_cases front (at_hand ∷ []) r.key some) [
        | inl here ↦ absurd (none (Any-from_recursion (front ++ pieces) r.key (SomeHolds-append_left front pieces r.key here)))
        | inr last ↦ elim last [
          | inl there ↦ Contains-append_right found more r (taken r among there (λ piece. none (Any-from_recursion (front ++ pieces) r.key (SomeHolds-append_right front pieces r.key piece))))
          | inr never ↦ absurd never
        ]
      ]
    ]

    pub gathered : HasFoundSoFar n box (front ++ pieces) (found ++ more)
    gathered = record {
      within = within_after;
      gathering = gathering_after;
      exact = λ r. (to_contents r, λ is. from_contents r is.0 is.1 is.2);
    }
