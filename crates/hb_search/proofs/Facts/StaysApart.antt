-- What remains of a search's boxes and what it found stay apart at a leaf of records.
use Rattle.std.proofs.Common.{◌≡◌, ℕ, ◌<◌, true, List, [], ◌∷◌, ◌++◌, length, get_or, All, AllPairs, refl, subst}
use Rattle.std.specs.List.{Contains}
use Rattle.std.proofs.lemmas.List.Elements.{All-contains, Contains-get_or, filter_passes}
use Rattle.std.proofs.lemmas.List.{get_or_default}
use Rattle.std.proofs.lemmas.List.Kept.{AllPairs-filter}
use Rattle.hb_lemmas.proofs.Lists.{All-front, All-last, All-parts, All-one, filter_has}
use Rattle.hb_lemmas.proofs.Pairs.{pairs_append, pairs_parts}
use Rattle.hb_search.specs.Gathering.{boxes_then}
use Rattle.hb_view.specs.Within.{records_within}
use Rattle.hb_frag.specs.Rules.{Differ}
use Rattle.hb_search.specs.Searching.{IsGathering}
use Rattle.hb_space.proofs.Facts.Boxes.{Holds-common_area, Holds-from_test, IsArea-common_area, Within-common_area, lo_held}
use Rattle.hb_space.proofs.Facts.Outside.{cover_from_pieces, disjoint_from_pieces}
use Rattle.hb_space.specs.Boxes.{Area, Disjoint, Holds, IsArea, Meets, Within, common_area, holds, pieces_outside}
use Rattle.hb_space.specs.declared.records.Record.{Record}

-- a leaf whose records lie in its box and are of different points
module _ (front : List Area) (found records : List Record) (at_hand area : Area) (gathering : IsGathering (front ++ at_hand ∷ []) found) (hand_is : IsArea at_hand) (leaf_is : IsArea area) (same : length at_hand.lo ≡ length area.lo) (meets : Meets at_hand area) (inside : (r : Record) → Contains records r → Holds area r.key) (once : AllPairs Differ records) where
  abbrev taken : List Record
  taken = records_within at_hand records

  -- what is taken lies in the leaf's box, and in the box at hand, in which nothing lies that was found before
  in_leaf : (s : Record) → Contains taken s → Holds area s.key
  in_leaf s there = inside s (filter_has (λ r. holds at_hand r.key) records s there)

  in_hand : (s : Record) → Contains taken s → Holds at_hand s.key
  in_hand s there = Holds-from_test at_hand s.key (All-contains (λ r. holds at_hand r.key ≡ true) taken s (filter_passes (λ r. holds at_hand r.key) records) there)

  out_of_hand : (r : Record) → Contains found r → ¬ (Holds at_hand r.key)
  out_of_hand r there = All-last (λ a. ¬ (Holds a r.key)) front at_hand (All-contains (λ s. All (λ a. ¬ (Holds a s.key)) (front ++ at_hand ∷ [])) found r gathering.outside there)

  all_once : AllPairs Differ (found ++ taken)
  all_once = pairs_append Differ found taken gathering.once (AllPairs-filter Differ (λ r. holds at_hand r.key) records once)
      (λ k d lt i e within is. out_of_hand (get_or found k d) (Contains-get_or found k d lt) (subst (Holds at_hand) is (in_hand (get_or taken i e) (Contains-get_or taken i e within))))

  abbrev shared : Area
  shared = common_area at_hand area

  abbrev pieces : List Area
  pieces = pieces_outside at_hand shared

  shared_is : IsArea shared
  shared_is = IsArea-common_area at_hand area hand_is leaf_is same meets

  inner : Within shared at_hand
  inner = (Within-common_area at_hand area hand_is leaf_is same meets).0

  attributes : length shared.lo ≡ length at_hand.lo
  attributes = ((Holds-common_area at_hand area shared.lo hand_is leaf_is same).0 (lo_held shared shared_is)).0.same

  piece_at : (k : ℕ) (d : Area) → k < length pieces → (p : List ℕ) → Holds (get_or pieces k d) p → Holds at_hand p × ¬ (Holds area p)
  piece_at k d lt p inside = (cover_from_pieces at_hand area shared pieces p refl hand_is shared_is attributes inner (Holds-common_area at_hand area p hand_is leaf_is same)).0 (k, get_or pieces k d, lt, get_or_default pieces k (get_or pieces k d) d lt, inside)

  fronts : AllPairs Disjoint front × All (λ f. Disjoint f at_hand) front
  fronts =
      let parts = pairs_parts Disjoint front (at_hand ∷ []) gathering.apart in
      (parts.0, λ k d lt. (All-one (Disjoint (get_or front k d)) at_hand).0 (parts.1 k d lt))

  apart_then : AllPairs Disjoint (front ++ pieces)
  apart_then = pairs_append Disjoint front pieces fronts.0 (disjoint_from_pieces at_hand shared pieces refl hand_is shared_is attributes inner) (λ i e low k d lt p in_front in_piece. fronts.1 i e low p in_front (piece_at k d lt p in_piece).0)

  of_found : All (λ r. All (λ a. ¬ (Holds a r.key)) (front ++ pieces)) found
  of_found i e low =
      let key = (get_or found i e).key in
      (All-parts (λ a. ¬ (Holds a key)) front pieces).1 (
        All-front (λ a. ¬ (Holds a key)) front (at_hand ∷ []) (gathering.outside i e low),
        λ k d lt inside. All-last (λ a. ¬ (Holds a key)) front at_hand (gathering.outside i e low) (piece_at k d lt key inside).0,
      )

  of_taken : All (λ r. All (λ a. ¬ (Holds a r.key)) (front ++ pieces)) taken
  of_taken i e low =
      let key = (get_or taken i e).key in
      let there = Contains-get_or taken i e low in
      (All-parts (λ a. ¬ (Holds a key)) front pieces).1 (
        λ k d lt inside. fronts.1 k d lt key inside (in_hand (get_or taken i e) there),
        λ k d lt inside. (piece_at k d lt key inside).1 (in_leaf (get_or taken i e) there),
      )

  pub stays_apart : IsGathering (boxes_then front at_hand area) (found ++ taken)
  stays_apart = record {
    apart = apart_then;
    once = all_once;
    outside = (All-parts (λ r. All (λ a. ¬ (Holds a r.key)) (front ++ pieces)) found taken).1 (of_found, of_taken);
  }
