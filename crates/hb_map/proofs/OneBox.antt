-- Each point lies in exactly one of the boxes that a map prints with records.
use Rattle.std.proofs.Common.{◌≡◌, ◌≢◌, ℕ, zero, suc, ◌+◌, ◌≤◌, ◌⊎◌, true, false, cond, List, [], ◌∷◌, flat_map, map, slice_get, Some, inl, inr, refl, sym, ap, subst, ◌∙◌, arith}
use Rattle.std.specs.List.{count_by, sum_by, AllByRecursion}
use Rattle.std.proofs.lemmas.Bool.{cases_eq}
use Rattle.std.proofs.lemmas.List.Sums.{sum_by-append, sum_by-cons}
use Rattle.std.proofs.lemmas.List.Elements.{All-from_recursion, recursion_from_All}
use Rattle.hb_space.specs.Boxes.{Area, IsArea, holds}
use Rattle.hb_space.proofs.Facts.Boxes.{Holds-from_test, test-from_Holds}
use Rattle.hb_frag.specs.declared.pages.LivePage.{LivePage}
use Rattle.hb_frag.specs.declared.pages.Page.{Page}
use Rattle.hb_frag.specs.declared.pages.Page.TheVariants.{Live, Free}
use Rattle.hb_frag.specs.Leaves.{DirectlyHolds, Placed, leaves_of, siblings}
use Rattle.hb_frag.specs.Rules.{BelongsAt}
use Rattle.hb_frag.proofs.Facts.Tiles.{leaves_placed, tiles_areas}
use Rattle.hb_ops.specs.Files.{FileState, live_page}
use Rattle.hb_ops.specs.Sound.{IsSound}
use Rattle.hb_sound.specs.Laws.{EachPointIsHeld, NoPointIsHeldTwice, PagesHaveBoxes}
use Rattle.hb_sound.specs.PointWalks.{HasOn, IsPointOf}
use Rattle.hb_sound.proofs.Facts.PagePlaces.{live_there, place_of}
use Rattle.hb_map.specs.Boxes.{EachPointHasOneBox, boxes_of_records, record_boxes}
use Rattle.hb_map.proofs.HeldCounts.{HoldsNot, by_holes, by_records, hole_areas, none_above, none_counts, none_holds, one_if, one_leaf, two_kinds}

-- a sum in which one place counts 1 and no other counts
sum_none : (f : Page → ℕ) (pages : List Page) → ((n : ℕ) (q : Page) → slice_get pages n ≡ Some q → f q ≡ 0) → sum_by f pages ≡ 0
sum_none f [] none = refl
sum_none f (q ∷ rest) none =
    let whole = sum_by-cons f q rest in
    let here = none zero q refl in
    let later = sum_none f rest (λ n r there. none (suc n) r there) in
    omega (arith, whole, here, later)

sum_one : (f : Page → ℕ) (pages : List Page) (place : ℕ) (page : Page) → slice_get pages place ≡ Some page → f page ≡ 1 → ((n : ℕ) (q : Page) → slice_get pages n ≡ Some q → n ≢ place → f q ≡ 0) → sum_by f pages ≡ 1
sum_one f [] place page there one none = absurd (let no : ⊥ = cc in no)
sum_one f (q ∷ rest) zero page there one none =
    let whole = sum_by-cons f q rest in
    let same : q ≡ page = cc in
    let here : f q ≡ 1 = ap f same ∙ one in
    let later = sum_none f rest (λ n r there. none (suc n) r there (λ same. omega (arith, same))) in
    omega (arith, whole, here, later)
sum_one f (q ∷ rest) (suc place) page there one none =
    let whole = sum_by-cons f q rest in
    let here = none zero q refl (λ same. omega (arith, same)) in
    let later = sum_one f rest place page there one (λ n r there apart. none (suc n) r there (λ same. apart (omega (arith, same)))) in
    omega (arith, whole, here, later)

over_pages : (p : List ℕ) (pages : List Page) → count_by (λ (a : Area). holds a p) (flat_map record_boxes pages) ≡ sum_by (λ (q : Page). count_by (λ (a : Area). holds a p) (record_boxes q)) pages
over_pages p [] = refl
over_pages p (q ∷ rest) =
    let both = sum_by-append (λ (a : Area). cond (holds a p) 1 0) (record_boxes q) (flat_map record_boxes rest) in
    let whole = sum_by-cons (λ (q : Page). count_by (λ (a : Area). holds a p) (record_boxes q)) q rest in
    let later = over_pages p rest in
    omega (arith, both, whole, later)

module _ (boxes : PagesHaveBoxes) (s : FileState) (p : List ℕ) (sound : IsSound s) (some : 1 ≤ s.meta.k) (few : s.meta.k ≤ 4) (point : IsPointOf s p) where
  -- the kinds of a page's leaves
  kinds : (id : ℕ) (page : LivePage) → live_page s id ≡ Some page → AllByRecursion (BelongsAt page.level) (map (λ l. l.leaf) (leaves_of page.frag page.area))
  kinds id page live =
      subst (AllByRecursion (BelongsAt page.level)) (sym (leaves_placed page.frag page.area)) (recursion_from_All (BelongsAt page.level) _ (sound.well_made id page live).filled.kinds)

  -- its holes are boxes
  holes_are_boxes : (id : ℕ) (page : LivePage) → live_page s id ≡ Some page → AllByRecursion (λ (h : ℕ × Area). IsArea h.1) (siblings (leaves_of page.frag page.area))
  holes_are_boxes id page live =
      hole_areas (leaves_of page.frag page.area) (recursion_from_All (λ (l : Placed). IsArea l.area) _ (tiles_areas page.frag page.area (boxes s id page sound some few live) (sound.well_made id page live).well_cut))

  -- on level 0: one leaf, with records or a hole, where the page's box holds the point
  on_level : (id : ℕ) (page : LivePage) → live_page s id ≡ Some page → page.level ≡ 0 → by_records p (leaves_of page.frag page.area) + by_holes p (leaves_of page.frag page.area) ≡ cond (holds page.area p) 1 0
  on_level id page live on =
      let made = sound.well_made id page live in
      let one = one_leaf page.frag page.area p (boxes s id page sound some few live) made.well_cut (point.attributes ∙ sym made.fits.attributes) in
      sym (two_kinds p (leaves_of page.frag page.area) (subst (λ (level : ℕ). AllByRecursion (BelongsAt level) (map (λ l. l.leaf) (leaves_of page.frag page.area))) on (kinds id page live))) ∙ one

  -- the page that directly holds the point has one such box
  at_home : (id : ℕ) (page : LivePage) → live_page s id ≡ Some page → page.level ≡ 0 → DirectlyHolds page p → by_records p (leaves_of page.frag page.area) ≡ 1
  at_home id page live on direct =
      let box = boxes s id page sound some few live in
      let held : one_if (holds page.area p) ≡ 1 = ap one_if (test-from_Holds page.area p box direct.inside) in
      let none = none_counts p (siblings (leaves_of page.frag page.area)) (holes_are_boxes id page live) (recursion_from_All (HoldsNot p) _ direct.not_given) in
      let sum = on_level id page live on in
      omega (arith, held, none, sum)

  -- any other page has none
  away : (id : ℕ) (page : LivePage) → live_page s id ≡ Some page → (by_records p (leaves_of page.frag page.area) ≡ 0) ⊎ HasOn s 0 p id
  away id page live = elim (cases_eq page.level 0) [
    | inr above ↦ inl (none_above page.level p (leaves_of page.frag page.area) above (kinds id page live))
    | inl on ↦
        let sum = on_level id page live on in
        let box = boxes s id page sound some few live in
        elim (holds page.area p) as (λ b. holds page.area p ≡ b → (by_records p (leaves_of page.frag page.area) ≡ 0) ⊎ HasOn s 0 p id) [
          | false ↦ λ test.
              let none : one_if (holds page.area p) ≡ 0 = ap one_if test in
              inl (omega (arith, sum, none))
          | true ↦ λ test.
              let one : one_if (holds page.area p) ≡ 1 = ap one_if test in
              elim (cases_eq (by_holes p (leaves_of page.frag page.area)) 0) [
                | inr some_hole ↦ inl (omega (arith, sum, one, some_hole))
                | inl no_hole ↦ inr (record {
                  page = page;
                  live = live;
                  on = on;
                  direct = record { inside = Holds-from_test page.area p test; not_given = All-from_recursion (HoldsNot p) _ (none_holds p (siblings (leaves_of page.frag page.area)) (holes_are_boxes id page live) no_hole) };
                })
              ]
        ] refl
  ]

  -- all pages together have one
  in_all : ((id other : ℕ) → HasOn s 0 p id → HasOn s 0 p other → id ≡ other) → (id : ℕ) → HasOn s 0 p id → count_by (λ (a : Area). holds a p) (boxes_of_records s) ≡ 1
  in_all alone id here =
      let place = place_of s id here.page here.live in
      over_pages p s.pages ∙ sum_one (λ (q : Page). count_by (λ (a : Area). holds a p) (record_boxes q)) s.pages place.0 (Live here.page) place.2 (at_home id here.page here.live here.on here.direct) (none_elsewhere place.0 place.1)
    where
      none_elsewhere : (place : ℕ) → id ≡ suc place → (n : ℕ) (q : Page) → slice_get s.pages n ≡ Some q → n ≢ place → count_by (λ (a : Area). holds a p) (record_boxes q) ≡ 0
      none_elsewhere place is n (Free next) there apart = refl
      none_elsewhere place is n (Live page) there apart = elim (away (suc n) page (live_there s n page there)) [
        | inl none ↦ none
        | inr other ↦ let same = alone (suc n) id other here in absurd (apart (omega (arith, same, is)))
      ]

pub one_box : EachPointIsHeld → NoPointIsHeldTwice → PagesHaveBoxes → EachPointHasOneBox
one_box each twice boxes s p sound some few point =
    let top = sound.rooted.top in
    let held = each s 0 p sound point (omega (arith, top.2)) in
    in_all boxes s p sound some few point (λ id other one two. twice s 0 p id other sound point one two) held.0 held.1
