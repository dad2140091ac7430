-- Rule 9: from the facts to the pages.
use Rattle.std.proofs.Common.{◌≡◌, ◌≢◌, ◌⊎◌, inl, inr, ℕ, zero, suc, ◌+◌, ◌-◌, ◌<◌, ◌≤◌, Bool, if◌then◌else◌, List, [], ◌∷◌, replicate, Option, Some, None, option_map, slice_get, slice_set, slice_index, Contains, refl, sym, ap, ◌∙◌, subst, arith}
use Rattle.std.proofs.lemmas.Bool.{cases_eq, cases_lt, ne_eqb}
use Rattle.std.proofs.lemmas.List.{get_or-set_same}
use Rattle.std.proofs.lemmas.List.Elements.{Contains-append_cases, Contains-append_right}
use Rattle.hb_space.specs.Boxes.{Area, side_below, side_from, whole_area}
use Rattle.hb_frag.specs.declared.leaves.Leaf.{Leaf}
use Rattle.hb_frag.specs.declared.leaves.Leaf.TheVariants.{Records, Child, Sibling}
use Rattle.hb_frag.specs.declared.pages.LivePage.{LivePage}
use Rattle.hb_frag.specs.declared.pages.Page.{Page}
use Rattle.hb_frag.specs.declared.pages.Page.TheVariants as pages
use Rattle.hb_frag.specs.Leaves.{Placed, IsWellCut, WellCut, leaves_of, siblings, siblings_of}
use Rattle.hb_frag.specs.Rules.{Fits, IsFilledRight, IsSiblingTip}
use Rattle.hb_frag.specs.Trees.{Tree, Tip, Cut}
use Rattle.hb_layout.specs.declared.meta.Meta.{Meta}
use Rattle.hb_ops.specs.Files.{FileState, if_live, live_page}
use Rattle.hb_ops.specs.Sound.{BreaksFirst, FitsFile, IsCovered, SiblingsMatch, count_name, times_named, HasSame}
use Rattle.hb_sound.specs.declared.page_facts.Seen.{Seen}
use Rattle.hb_sound.specs.declared.page_facts.Fact.{Fact}
use Rattle.hb_sound.specs.declared.page_facts.Fact.TheVariants.{Live, Free}
use Rattle.hb_sound.specs.declared.names.Times.{Times}
use Rattle.hb_sound.specs.declared.names.Times.TheVariants.{Never, Once, Often}
use Rattle.hb_sound.specs.Names.{IsLoose, LacksFirst, KeepsSix, NamesLoose}
use Rattle.hb_sound.specs.Covers.{AreBelow, HasBox, IsCoverBreak, LacksLevel, SeesSome, SeesLoose}
use Rattle.hb_sound.specs.Facts.{AreFactsOf, if_seen, more, once_more, seen_at}
use Rattle.hb_sound.specs.Told.{item_at, file_with}
use Rattle.hb_sound.proofs.Bridge.{live_seen, page_item, seen_live}
use Rattle.hb_lemmas.proofs.Lists.{only_one}
use Rattle.hb_sound.proofs.Levels.{seen_fact}
use Rattle.hb_ops.proofs.Facts.PlacedLaws.{placed}
use Rattle.hb_ops.proofs.Facts.KnownBoxes.{known_area}

-- how often sibling leaves name each page, as counts that go up to two
abbrev pub IsNamedBy : List Fact → List Page → List Times → Type 0
IsNamedBy facts list named = (id : ℕ) → item_at named id ≡ option_map (λ fact. more (times_named id list) Never) (item_at facts id)

-- the rules 3 to 5 of a page
record KeepsThree (page : LivePage) (meta : Meta) : Type 0 where
  fits : Fits page meta.k meta.height
  cut : WellCut page
  filled : IsFilledRight page meta.dcap meta.icap

of_ten : (page : LivePage) (meta : Meta) → BreaksFirst 10 page meta → KeepsThree page meta
of_ten page meta (inl three) = absurd (let e = three.0 in omega (arith, e))
of_ten page meta (inr (inl four)) = absurd (let e = four.0 in omega (arith, e))
of_ten page meta (inr (inr (inl five))) = absurd (let e = five.0 in omega (arith, e))
of_ten page meta (inr (inr (inr (inl six)))) = absurd (let e = six.0 in omega (arith, e))
of_ten page meta (inr (inr (inr (inr ten)))) = record { fits = ten.1; cut = ten.2; filled = ten.3 }

keeps_three : (page : LivePage) (meta : Meta) → FitsFile meta page ⊎ BreaksFirst 10 page meta → KeepsThree page meta
keeps_three page meta (inl own) = record { fits = own.fits; cut = own.well_cut; filled = own.filled }
keeps_three page meta (inr ten) = of_ten page meta ten

pub are_below : (meta : Meta) (facts : List Fact) (list : List Page) → AreFactsOf meta facts list → KeepsSix (file_with meta list) → AreBelow meta.height facts
are_below meta facts list are keeps id seen e =
    let page = live_seen meta facts list are id seen e in
    let three = keeps_three page.0 meta (keeps.2 id page.0 page.1) in
    omega (arith, page.2.level, three.fits.level)

-- a count that goes up to two is one exactly for one
more_two : (n : ℕ) → more (suc (suc n)) Never ≡ Often
more_two zero = refl
more_two (suc n) = ap once_more (more_two n)

once_is : (n : ℕ) → more n Never ≡ Once → n ≡ 1
once_is zero e = absurd (let never : Never ≡ Once = e in cc)
once_is (suc zero) e = refl
once_is (suc (suc n)) e = absurd (let never : Often ≡ Once = sym (more_two n) ∙ e in cc)

-- a fact with a box
cases_box : (level : ℕ) (area : Area) (fact : Fact) → HasBox level area fact ⊎ (¬ (HasBox level area fact))
cases_box level area (Free next) = inr (λ never. never)
cases_box level area (Live seen) = elim (cases_eq seen.level level) [
  | inl same ↦ elim (known_area seen.area area) [ inl boxed ↦ inl (same, boxed) | inr other ↦ inr (λ h. other h.1) ]
  | inr apart ↦ inr (λ h. apart h.0)
]

-- some fact is so, or none
find_place : (q : Fact → Type 0) → ((fact : Fact) → q fact ⊎ (¬ (q fact))) → (facts : List Fact) → ((n : ℕ) × SeesSome q facts (suc n)) ⊎ ((n : ℕ) → ¬ (SeesSome q facts (suc n)))
find_place q cases [] = inr (λ n sees. let never : None ≡ Some sees.0 = sees.1 in cc)
find_place q cases (first ∷ rest) = elim (cases first) [
  | inl holds ↦ inl (0, (first, refl, holds))
  | inr fails ↦ elim (find_place q cases rest) [ inl behind ↦ inl (suc behind.0, behind.1) | inr none ↦ inr (beyond fails none) ]
]
  where
    beyond : ¬ (q first) → ((n : ℕ) → ¬ (SeesSome q rest (suc n))) → (n : ℕ) → ¬ (SeesSome q (first ∷ rest) (suc n))
    beyond fails none zero sees = let e : Some first ≡ Some sees.0 = sees.1 in let is : sees.0 ≡ first = cc in fails (subst q is sees.2)
    beyond fails none (suc n) sees = none n sees

none_sees : (q : Fact → Type 0) (facts : List Fact) → ((n : ℕ) → ¬ (SeesSome q facts (suc n))) → (id : ℕ) → ¬ (SeesSome q facts id)
none_sees q facts none zero sees = let never : None ≡ Some sees.0 = sees.1 in cc
none_sees q facts none (suc n) sees = none n sees

boxed_fact : (level : ℕ) (area : Area) (fact : Fact) (o : Option Fact) → o ≡ Some fact → HasBox level area fact → (seen : Seen) × (if_seen o ≡ Some seen) × (seen.level ≡ level) × (seen.area ≡ area)
boxed_fact level area (Live seen) o e h = (seen, ap if_seen e, h.0, h.1)
boxed_fact level area (Free next) o e h = absurd h

module _ (meta : Meta) (facts : List Fact) (list : List Page) (are : AreFactsOf meta facts list) where
  abbrev file : FileState
  file = file_with meta list

  -- a page of this level and box is in use exactly where one is seen
  has_seen : (level name : ℕ) (area : Area) → HasSame file level name area → SeesSome (HasBox level area) facts name
  has_seen level name area has =
      let seen = seen_live meta facts list are name has.0 has.1 in
      (Live seen.0, seen_fact (item_at facts name) seen.0 seen.1, (seen.2.level ∙ has.2, seen.2.area ∙ has.3))

  seen_has : (level name : ℕ) (area : Area) → SeesSome (HasBox level area) facts name → HasSame file level name area
  seen_has level name area sees =
      let there = boxed_fact level area sees.0 (item_at facts name) sees.1 sees.2 in
      let page = live_seen meta facts list are name there.0 there.1 in
      (page.0, page.1, sym page.2.level ∙ there.2, sym page.2.area ∙ there.3)

  to_lacks : LacksLevel facts meta.height (whole_area meta.k) → LacksFirst file
  to_lacks lacks = (lacks.0, lacks.1, λ id page e level area. lacks.2 id (has_seen lacks.0 id (whole_area meta.k) (page, e, level, area)))

  from_lacks : LacksFirst file → LacksLevel facts meta.height (whole_area meta.k)
  from_lacks lacks = (lacks.0, lacks.1, λ id sees. let has = seen_has lacks.0 id (whole_area meta.k) sees in lacks.2 id has.0 has.1 has.2 has.3)

  module _ (named : List Times) (names : IsNamedBy facts list named) where
    times_seen : (id : ℕ) (seen : Seen) → seen_at facts id ≡ Some seen → item_at named id ≡ Some (more (times_named id list) Never)
    times_seen id seen e = names id ∙ ap (option_map (λ (fact : Fact). more (times_named id list) Never)) (seen_fact (item_at facts id) seen e)

    to_is_loose : (id : ℕ) → SeesLoose facts named (whole_area meta.k) id → IsLoose file id
    to_is_loose id sees =
        let seen = sees.0 in
        let page = live_seen meta facts list are id seen sees.2 in
        let counted : Some sees.1 ≡ Some (more (times_named id list) Never) = sym sees.3 ∙ times_seen id seen sees.2 in
        let times : sees.1 ≡ more (times_named id list) Never = cc in (
          page.0,
          page.1,
          elim sees.4 [
            | inl beside ↦
                let boxed : page.0.area ≡ whole_area meta.k = sym page.2.area ∙ beside.0 in
                let has = seen_has seen.level beside.1 (whole_area meta.k) beside.3 in
                inl (boxed, beside.1, beside.2, (has.0, has.1, has.2 ∙ page.2.level, has.3 ∙ sym boxed))
            | inr less ↦ inr (λ e. less.0 (page.2.area ∙ e), λ e. less.1 (times ∙ ap (λ (n : ℕ). more n Never) e))
          ],
        )

    from_is_loose : (id : ℕ) → IsLoose file id → SeesLoose facts named (whole_area meta.k) id
    from_is_loose id loose =
        let page = loose.0 in
        let seen = seen_live meta facts list are id page loose.1 in (
          seen.0,
          more (times_named id list) Never,
          seen.1,
          times_seen id seen.0 seen.1,
          elim loose.2 [
            | inl beside ↦
                let has = beside.3 in
                inl (
                  seen.2.area ∙ beside.0,
                  beside.1,
                  beside.2,
                  has_seen seen.0.level beside.1 (whole_area meta.k) (has.0, has.1, has.2 ∙ sym seen.2.level, has.3 ∙ beside.0),
                )
            | inr less ↦ inr (λ e. less.0 (sym seen.2.area ∙ e), λ e. less.1 (once_is (times_named id list) e))
          ],
        )

    loose_uncovered : (id : ℕ) → IsLoose file id → IsCovered file → ⊥
    loose_uncovered id loose covered = elim loose.2 [
      | inl beside ↦
          let has = beside.3 in
          let e = covered.alone id beside.1 loose.0 has.0 loose.1 has.1 (sym has.2) beside.0 (has.3 ∙ beside.0) in
          absurd (omega (arith, e, beside.2))
      | inr less ↦ less.1 (covered.named_once id loose.0 loose.1 less.0)
    ]

    lacks_uncovered : LacksFirst file → IsCovered file → ⊥
    lacks_uncovered lacks covered =
        let first = covered.first lacks.0 lacks.1 in lacks.2 first.0 first.1 first.2 first.3 first.4

pub to_loose : (meta : Meta) (facts : List Fact) (list : List Page) (named : List Times) → AreFactsOf meta facts list → KeepsSix (file_with meta list) → SiblingsMatch (file_with meta list) → IsNamedBy facts list named
    → (id : ℕ) → IsCoverBreak meta facts named (Some id) → (¬ (IsCovered (file_with meta list))) × NamesLoose (file_with meta list) id
to_loose meta facts list named are keeps match names id (inl lacks) =
    let first = to_lacks meta facts list are lacks.1 in
    (lacks_uncovered meta facts list are named names first, inl (lacks.0, first))
to_loose meta facts list named are keeps match names id (inr loose) =
    let here = to_is_loose meta facts list are named names id loose.1.here in (
      loose_uncovered meta facts list are named names id here,
      inr (
        λ lacks. loose.0 (from_lacks meta facts list are lacks),
        record { here = here; least = λ other at. loose.1.least other (from_is_loose meta facts list are named names other at) },
      ),
    )

-- a sibling leaf with this box names the page
record IsNaming (id : ℕ) (all : List Placed) (a : Area) : Type 0 where
  name : Contains (siblings all) (id, a)
  leaf : Contains all (placed (Sibling id) a)

-- a page that is named at all has a leaf that names it
naming : (id : ℕ) (all : List Placed) → count_name id (siblings all) ≢ 0 → (a : Area) × IsNaming id all a
naming id [] some = absurd (some refl)
naming id (first ∷ rest) some = by_leaf (naming id rest) first.leaf first.area some
  where
    leaf_behind : (leaf : Leaf) (area a : Area) → IsNaming id rest a → Contains (placed leaf area ∷ rest) (placed (Sibling id) a)
    leaf_behind leaf area a is = Contains-append_right (placed leaf area ∷ []) rest (placed (Sibling id) a) is.leaf

    by_leaf : (count_name id (siblings rest) ≢ 0 → (a : Area) × IsNaming id rest a) → (leaf : Leaf) (area : Area)
        → count_name id (siblings (placed leaf area ∷ rest)) ≢ 0 → (a : Area) × IsNaming id (placed leaf area ∷ rest) a
    by_leaf again (Records records) area some =
        let n = again some in (n.0, record { name = n.1.name; leaf = leaf_behind (Records records) area n.0 n.1 })
    by_leaf again (Child page) area some =
        let n = again some in (n.0, record { name = n.1.name; leaf = leaf_behind (Child page) area n.0 n.1 })
    by_leaf again (Sibling page) area some = elim (cases_eq page id) [
      | inl same ↦
          let Q : ℕ → Type 0 = λ n. IsNaming n (placed (Sibling page) area ∷ rest) area in
          (area, subst Q same (record { name = (0, omega arith, refl); leaf = (0, omega arith, refl) }))
      | inr apart ↦
          let e = ap (λ (b : Bool). (if b then 1 else 0) + count_name id (siblings rest)) (ne_eqb page id apart) in
          let n = again (λ z. some (omega (arith, e, z))) in
          (n.0, record { name = Contains-append_right ((page, area) ∷ []) (siblings rest) (id, n.0) n.1.name; leaf = leaf_behind (Sibling page) area n.0 n.1 })
    ]

-- a page at a place of the list, with a leaf that names the page
abbrev IsNamer : List Page → ℕ → ℕ → LivePage → Area → Type 0
IsNamer list id n host a = (slice_get list n ≡ Some (pages.Live host)) × IsNaming id (leaves_of host.frag host.area) a

namer : (id : ℕ) (list : List Page) → times_named id list ≢ 0 → (n : ℕ) × (host : LivePage) × (a : Area) × IsNamer list id n host a
namer id [] some = absurd (some refl)
namer id (pages.Free next ∷ rest) some =
    let behind = namer id rest some in
    (suc behind.0, behind.1, behind.2, behind.3)
namer id (pages.Live page ∷ rest) some = elim (cases_eq (count_name id (siblings_of page)) 0) [
  | inl none ↦
      let behind = namer id rest (λ z. some (omega (arith, none, z))) in
      (suc behind.0, behind.1, behind.2, behind.3)
  | inr here ↦
      let leaf = naming id (leaves_of page.frag page.area) here in
      (0, page, leaf.0, (refl, leaf.1))
]

-- the greatest values of a box, summed up: a cut makes them less
abbrev total : List ℕ → ℕ
total [] = 0
total (x ∷ xs) = x + total xs

sum_less : (xs : List ℕ) (i y : ℕ) → y < slice_index xs i → total (slice_set xs i y) < total xs
sum_less [] i y lt = absurd (let lt_zero : y < 0 = lt in omega (arith, lt_zero))
sum_less (x ∷ xs) zero y lt = let less : y < x = lt in omega (arith, less)
sum_less (x ∷ xs) (suc i) y lt = let less = sum_less xs i y lt in omega (arith, less)

abbrev is_cut : Tree → ℕ
is_cut (Tip leaf) = 0
is_cut (Cut axis value left right) = 1

-- A leaf whose least values are all 0 lies below each cut on its way, so its page has the same least values; and behind a
-- cut the page has greater ones among the greatest. The page's box need not be one for this.
grows : (tree : Tree) (area : Area) (leaf : Leaf) (a : Area) → IsWellCut tree area → Contains (leaves_of tree area) (placed leaf a)
    → ((i : ℕ) → slice_index a.lo i ≡ 0) → (a.lo ≡ area.lo) × (total a.hi + is_cut tree ≤ total area.hi)
grows (Tip own) area leaf a cut h zeros =
    let is = only_one {X = Placed} (placed own area) (placed leaf a) h in
    let same : area ≡ a = ap (λ (p : Placed). p.area) is in
    let high : total area.hi ≡ total a.hi = ap (λ (x : Area). total x.hi) same in
    (sym (ap (λ (x : Area). x.lo) same), omega (arith, high))
grows (Cut axis value left right) area leaf a cut h zeros =
    let below = side_below area axis value in
    let from = side_from area axis value in
    elim (Contains-append_cases (leaves_of left below) (leaves_of right from) (placed leaf a) h) [
      | inl here ↦
          let up = grows left below leaf a cut.1 here zeros in
          let less = sum_less area.hi axis (value - 1) (omega (arith, cut.0.above_least, cut.0.up_to_greatest)) in
          (up.0, omega (arith, up.1, less))
      | inr here ↦
          let up = grows right from leaf a cut.2 here zeros in
          let low : slice_index from.lo axis ≡ value = get_or-set_same area.lo axis value 0 cut.0.attribute in
          let is : slice_index a.lo axis ≡ slice_index from.lo axis = ap (λ (l : List ℕ). slice_index l axis) up.0 in
          absurd (omega (arith, low, is, zeros axis, cut.0.above_least))
    ]

-- a page with a sibling leaf that isn't a lone one is cut
sibling_cut : (tree : Tree) (area : Area) (name : ℕ) (a : Area) → Contains (leaves_of tree area) (placed (Sibling name) a) → ¬ (IsSiblingTip tree) → is_cut tree ≡ 1
sibling_cut (Cut axis value left right) area name a h own = refl
sibling_cut (Tip leaf) area name a h own =
    let is : leaf ≡ Sibling name = ap (λ (p : Placed). p.leaf) (only_one {X = Placed} (placed leaf area) (placed (Sibling name) a) h) in
    let Q : Leaf → Type 0 = λ l. IsSiblingTip (Tip l) in
    absurd (own (subst Q (sym is) tt))

zero_lows : (k i : ℕ) → slice_index (replicate k 0) i ≡ 0
zero_lows zero i = refl
zero_lows (suc k) zero = refl
zero_lows (suc k) (suc i) = zero_lows k i

-- what the greatest values of all pages of the list sum up to
abbrev all_highs : List Page → ℕ
all_highs [] = 0
all_highs (pages.Live page ∷ rest) = total page.area.hi + all_highs rest
all_highs (pages.Free next ∷ rest) = all_highs rest

highs_within : (list : List Page) (n : ℕ) (page : LivePage) → if_live (slice_get list n) ≡ Some page → total page.area.hi ≤ all_highs list
highs_within [] n page e = let never : None ≡ Some page = e in cc
highs_within (pages.Live own ∷ rest) zero page e =
    let is : own ≡ page = cc in
    omega (arith, ap (λ (p : LivePage). total p.area.hi) is)
highs_within (pages.Free next ∷ rest) zero page e = let never : None ≡ Some page = e in cc
highs_within (pages.Live own ∷ rest) (suc n) page e = let le = highs_within rest n page e in omega (arith, le)
highs_within (pages.Free next ∷ rest) (suc n) page e = highs_within rest n page e

item_highs : (list : List Page) (id : ℕ) (page : LivePage) → if_live (item_at list id) ≡ Some page → total page.area.hi ≤ all_highs list
item_highs list zero page e = absurd (let never : None ≡ Some page = e in cc)
item_highs list (suc n) page e = highs_within list n page e

-- what is seen of the page that names another
record IsAbove (file : FileState) (id : ℕ) (page host : LivePage) : Type 0 where
  live : live_page file id ≡ Some host
  lows : host.area.lo ≡ page.area.lo
  more_high : total page.area.hi < total host.area.hi

module _ (meta : Meta) (list : List Page) (keeps : KeepsSix (file_with meta list)) (match : SiblingsMatch (file_with meta list)) where
  above : (id : ℕ) (page : LivePage) → live_page (file_with meta list) id ≡ Some page → page.area.lo ≡ replicate meta.k 0 → times_named id list ≢ 0
      → (other : ℕ) × (host : LivePage) × IsAbove (file_with meta list) other page host
  above id page e lows some =
      let by = namer id list some in
      let host = by.1 in
      let live : live_page (file_with meta list) (suc by.0) ≡ Some host = ap if_live (page_item list (suc by.0) ∙ by.3.0) in
      let three = keeps_three host meta (keeps.2 (suc by.0) host live) in
      let there = match (suc by.0) host id by.2 live by.3.1.name in
      let found : Some there.0 ≡ Some page = sym there.1 ∙ e in
      let is : there.0 ≡ page = cc in
      let boxed : by.2 ≡ page.area = sym there.3 ∙ ap (λ (p : LivePage). p.area) is in
      let leaf_lows : by.2.lo ≡ replicate meta.k 0 = ap (λ (x : Area). x.lo) boxed ∙ lows in
      let up = grows host.frag host.area (Sibling id) by.2 three.cut by.3.1.leaf (λ i. ap (λ (l : List ℕ). slice_index l i) leaf_lows ∙ zero_lows meta.k i) in
      let one = sibling_cut host.frag host.area id by.2 by.3.1.leaf three.filled.own in
      let high : total by.2.hi ≡ total page.area.hi = ap (λ (x : Area). total x.hi) boxed in
      (suc by.0, host, record { live = live; lows = sym up.0 ∙ ap (λ (x : Area). x.lo) boxed; more_high = omega (arith, high, one, up.1) })

  -- Above a page as great as the whole space stand ever greater ones, each of which is named, and there's no end to it.
  module _ (once : (id : ℕ) (page : LivePage) → live_page (file_with meta list) id ≡ Some page → page.area ≢ whole_area meta.k → times_named id list ≡ 1) where
    climb : (n whole id : ℕ) (page : LivePage) → total (whole_area meta.k).hi ≡ whole → live_page (file_with meta list) id ≡ Some page → page.area.lo ≡ replicate meta.k 0 → whole ≤ total page.area.hi
        → all_highs list < total page.area.hi + n → times_named id list ≢ 0 → ⊥
    climb zero whole id page is e lows great far some = omega (arith, item_highs list id page (ap if_live (sym (page_item list id)) ∙ e), far)
    climb (suc n) whole id page is e lows great far some =
        let up = above id page e lows some in
        let greater = up.2.more_high in
        let host = up.1 in
        let other : host.area ≢ whole_area meta.k = λ same. omega (arith, ap (λ (x : Area). total x.hi) same, is, greater, great) in
        let one = once up.0 host up.2.live other in
        climb n whole up.0 host is up.2.live (up.2.lows ∙ lows) (omega (arith, greater, great)) (omega (arith, greater, far)) (λ z. omega (arith, one, z))

    not_named : (id : ℕ) (page : LivePage) → live_page (file_with meta list) id ≡ Some page → page.area ≡ whole_area meta.k → times_named id list ≡ 0
    not_named id page e boxed = elim (cases_eq (times_named id list) 0) [
      | inl none ↦ none
      | inr some ↦
          let high : total page.area.hi ≡ total (whole_area meta.k).hi = ap (λ (x : Area). total x.hi) boxed in
          absurd (climb (all_highs list + 1) (total (whole_area meta.k).hi) id page refl e (ap (λ (x : Area). x.lo) boxed) (omega (arith, high)) (omega arith) some)
    ]

pub to_covered : (meta : Meta) (facts : List Fact) (list : List Page) (named : List Times) → AreFactsOf meta facts list → KeepsSix (file_with meta list) → SiblingsMatch (file_with meta list)
    → IsNamedBy facts list named → IsCoverBreak meta facts named None → IsCovered (file_with meta list)
to_covered meta facts list named are keeps match names none =
    let whole = whole_area meta.k in
    let no_loose : (id : ℕ) → IsLoose (file_with meta list) id → ⊥ = λ id loose. none.1 id (from_is_loose meta facts list are named names id loose) in
    let once : (id : ℕ) (page : LivePage) → live_page (file_with meta list) id ≡ Some page → page.area ≢ whole → times_named id list ≡ 1 =
    λ id page e other. elim (cases_eq (times_named id list) 1) [
      | inl one ↦ one
      | inr apart ↦ absurd (no_loose id (page, e, inr (other, apart)))
    ] in
    record {
      first = λ level below. elim (find_place (HasBox level whole) (cases_box level whole) facts) [
        | inl there ↦ let has = seen_has meta facts list are level (suc there.0) whole there.1 in (suc there.0, has.0, has.1, has.2, has.3)
        | inr never ↦ absurd (none.0 (level, below, none_sees (HasBox level whole) facts never))
      ];
      alone = λ id other page same e f levels boxed too. elim (cases_lt id other) [
        | inl lt ↦ absurd (no_loose other (same, f, inl (too, id, lt, (page, e, levels, boxed ∙ sym too))))
        | inr ge ↦ elim (cases_lt other id) [
          | inl lt ↦ absurd (no_loose id (page, e, inl (boxed, other, lt, (same, f, sym levels, too ∙ sym boxed))))
          | inr le ↦ omega (arith, ge, le)
        ]
      ];
      not_named = not_named meta list keeps match once;
      named_once = once;
    }
