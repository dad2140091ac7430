-- A search at a page that is read from its bytes.
use Rattle.std.proofs.Common.{◌≡◌, ◌⊎◌, inl, ℕ, ◌-◌, ◌<◌, List, [], ◌∷◌, ◌++◌, length, Option, Some, None, refl, sym, ap, subst, ◌∙◌, arith}
use Rattle.std.specs.List.{slice_get}
use Rattle.std.specs.Option.{IfSome, MatchOption, option_map}
use Rattle.std.specs.Result.{IfOk, OnErr}
use Rattle.std.specs.declared.result.Result.{Result}
use Rattle.std.specs.declared.result.Result.TheVariants.{Ok, Err}
use Rattle.std.proofs.lemmas.Option.{same_Some}
use Rattle.hb_activity.specs.Deciding.{deed_of}
use Rattle.hb_activity.specs.Deeds.{Deed}
use Rattle.hb_activity.specs.Passing.{PassesOn}
use Rattle.hb_activity.specs.Walks.{IsSessionWalk, MeetsRecords, goal_of, walk_holding, walk_point}
use Rattle.hb_activity.specs.Wanting.{HasLeafAt}
use Rattle.hb_activity.specs.declared.activities.Activity.{Activity}
use Rattle.hb_activity.specs.declared.activities.Activity.TheVariants as at
use Rattle.hb_activity.specs.declared.deciding.Next.{Next}
use Rattle.hb_frag.specs.Leaves.{Placed, WellCut, leaf_at, leaves_of}
use Rattle.hb_frag.specs.declared.leaves.Leaf.{Leaf}
use Rattle.hb_frag.specs.declared.leaves.Leaf.TheVariants.{Records, Child, Sibling}
use Rattle.hb_frag.specs.declared.pages.LivePage.{LivePage}
use Rattle.hb_frag.specs.declared.pages.Page.{Page}
use Rattle.hb_frag.specs.declared.pages.Page.TheVariants.{Live, Free}
use Rattle.hb_layout.specs.declared.meta.Meta.{Meta}
use Rattle.hb_search.proofs.AskedSearches.{gathers}
use Rattle.hb_search.proofs.LeafAhead.{first_holds, leaf_behind}
use Rattle.hb_search.specs.Gathering.{GoesBehind, IsLeafBehind, MayGather, SearchesAnyhow, StandsAtLeaf}
use Rattle.hb_search.specs.Searching.{GathersNow, MaySearchIn, SearchRowIn, SearchesInside, StaysGathering}
use Rattle.hb_set.specs.declared.commands.Command.{Command}
use Rattle.hb_set.specs.declared.commands.Command.TheVariants.{Insert, Delete, Lookup, Search}
use Rattle.hb_set.specs.declared.scripts.Line.{Line}
use Rattle.hb_space.specs.Boxes.{Area, Holds, IsArea}
use Rattle.hb_space.specs.declared.records.Record.{Record}
use Rattle.hb_view.specs.Views.{IsLiveAnd}
use Rattle.hb_view.specs.Within.{TakesFound, TakesWithin, records_within}

-- of a page in use, what follows of one fact, and of two
pub so : (v : Page) (P Q : LivePage → Type 0) → ((page : LivePage) → P page → Q page) → IsLiveAnd v P → IsLiveAnd v Q
so (Live page) P Q f h = f page h
so (Free next) P Q f h = absurd h

pub so_both : (v : Page) (P Q R : LivePage → Type 0) → ((page : LivePage) → P page → Q page → R page) → IsLiveAnd v P → IsLiveAnd v Q → IsLiveAnd v R
so_both (Live page) P Q R f h k = f page h k
so_both (Free next) P Q R f h k = absurd h

-- what is so whatever the page
pub out_of : (v : Page) (P : LivePage → Type 0) (A : Type 0) → ((page : LivePage) → P page → A) → IsLiveAnd v P → A
out_of (Live page) P A f h = f page h
out_of (Free next) P A f h = absurd h

-- ---- what a search may be asked, and how it passes on

walks_at : (state : Activity) (page : LivePage) → MaySearchIn state page → IsSessionWalk state
walks_at (at.SessionWalk line held rest found) page asked = tt
walks_at other page asked = absurd asked.3

looks_at : (command : Command) (rest : List Area) (page : LivePage) → WellCut page → SearchesInside page command rest → MatchOption (goal_of command rest) ⊥ (HasLeafAt page)
looks_at (Search area) rest page cut inside = by (goal_of (Search area) rest) inside
  where
    by : (goal : Option (List ℕ)) → MatchOption goal ⊥ (Holds page.area) → MatchOption goal ⊥ (HasLeafAt page)
    by None none = absurd none
    by (Some p) held = record { well_cut = cut; held = held }
looks_at (Insert rec) rest page cut inside = absurd inside
looks_at (Delete point) rest page cut inside = absurd inside
looks_at (Lookup point) rest page cut inside = absurd inside

can_look_at : (state : Activity) (page : LivePage) → MaySearchIn state page → MatchOption (walk_point state) ⊥ (HasLeafAt page)
can_look_at (at.SessionWalk line held rest found) page asked = looks_at line.command rest page asked.2.well_cut asked.3.0
can_look_at other page asked = absurd asked.3

module _ (v : Page) (state : Activity) (asked : IsLiveAnd v (MaySearchIn state)) where
  pub walks : IsSessionWalk state
  walks = out_of v (MaySearchIn state) (IsSessionWalk state) (walks_at state) asked

  pub can_look : IsLiveAnd v (λ page. MatchOption (walk_point state) ⊥ (HasLeafAt page))
  can_look = so v (MaySearchIn state) _ (can_look_at state) asked

  pub has_low_level : IsLiveAnd v (λ page. page.level < 255)
  has_low_level = so v (MaySearchIn state) (λ page. page.level < 255) (λ page h. (let few = h.1.few_levels in let lt = h.2.fits.level in omega (arith, few, lt))) asked

  -- the walk's point has records below it
  abbrev pub EndsHere : Type 0
  EndsHere = IsLiveAnd v (λ page. MatchOption (walk_point state) ⊥ (MeetsRecords page))

  pub gathers_now : EndsHere → IsLiveAnd v (GathersNow state)
  gathers_now ends = so_both v (MaySearchIn state) (λ page. MatchOption (walk_point state) ⊥ (MeetsRecords page)) (GathersNow state) (by state) asked ends
    where
      by : (state : Activity) (page : LivePage) → MaySearchIn state page → MatchOption (walk_point state) ⊥ (MeetsRecords page) → GathersNow state page
      by (at.SessionWalk line held rest found) page asked ends = ends
      by other page asked ends = absurd asked.3

  pub may_gather : (back : Activity) → back ≡ state → EndsHere → IsLiveAnd v (MayGather back)
  may_gather back same ends =
      subst (λ (a : Activity). IsLiveAnd v (MayGather a)) (sym same) (so_both v (MaySearchIn state) (λ page. MatchOption (walk_point state) ⊥ (MeetsRecords page)) (MayGather state) (by state) asked ends)
    where
      by : (state : Activity) (page : LivePage) → MaySearchIn state page → MatchOption (walk_point state) ⊥ (MeetsRecords page) → MayGather state page
      by (at.SessionWalk line held rest found) page asked ends = record {
        well_cut = asked.2.well_cut;
        in_order = asked.2.in_order;
        inside = asked.3.0;
        gathering = asked.3.1;
        records = ends;
      }
      by other page asked ends = absurd asked.3

  -- it passes on
  abbrev pub PassesHere : ℕ → Next → Type 0
  PassesHere id next = IsLiveAnd v (λ page. MatchOption (walk_point state) ⊥ (λ p. PassesOn page p (walk_holding id state) (deed_of state next)))

  pub passes_so : (id : ℕ) (next : Next) → PassesHere id next → IsLiveAnd v (λ page. SearchRowIn state id page next)
  passes_so id next passes = so_both v (MaySearchIn state) (λ page. MatchOption (walk_point state) ⊥ (λ p. PassesOn page p (walk_holding id state) (deed_of state next))) (λ page. SearchRowIn state id page next) (by state) asked passes
    where
      passed : (page : LivePage) (after : Activity) (deed : Deed) (goal : Option (List ℕ)) (Does : List ℕ → Type 0) → MatchOption goal ⊥ (λ p. PassesOn page p after deed) → MatchOption goal ⊥ (λ p. PassesOn page p after deed ⊎ Does p)
      passed page after deed None Does h = absurd h
      passed page after deed (Some p) Does h = inl h

      by : (state : Activity) (page : LivePage) → MaySearchIn state page → MatchOption (walk_point state) ⊥ (λ p. PassesOn page p (walk_holding id state) (deed_of state next)) → SearchRowIn state id page next
      by (at.SessionWalk line held rest found) page asked passes = λ meta free. passed page (at.SessionWalk line (Some id) rest found) (deed_of (at.SessionWalk line held rest found) next) (goal_of line.command rest) _ passes
      by other page asked passes = absurd asked.3

  pub stays_on : (id : ℕ) (next : Next) → PassesHere id next → StaysGathering next.then
  stays_on id next passes = out_of v (λ page. MaySearchIn state page × MatchOption (walk_point state) ⊥ (λ p. PassesOn page p (walk_holding id state) (deed_of state next))) (StaysGathering next.then) (λ page h. by state page h.0 h.1)
      (so_both v (MaySearchIn state) (λ page. MatchOption (walk_point state) ⊥ (λ p. PassesOn page p (walk_holding id state) (deed_of state next))) (λ page. MaySearchIn state page × MatchOption (walk_point state) ⊥ (λ p. PassesOn page p (walk_holding id state) (deed_of state next))) (λ page h k. (h, k)) asked passes)
    where
      held_next : (page : LivePage) (after : Activity) (deed : Deed) (goal : Option (List ℕ)) → MatchOption goal ⊥ (λ p. PassesOn page p after deed) → deed.next ≡ after
      held_next page after deed None h = absurd h
      held_next page after deed (Some p) h = ap (λ (d : Deed). d.next) h.deed_is

      by : (state : Activity) (page : LivePage) → MaySearchIn state page → MatchOption (walk_point state) ⊥ (λ p. PassesOn page p (walk_holding id state) (deed_of state next)) → StaysGathering next.then
      by (at.SessionWalk line held rest found) page asked passes =
          subst StaysGathering (sym (held_next page (at.SessionWalk line (Some id) rest found) (deed_of (at.SessionWalk line held rest found) next) (goal_of line.command rest) passes)) asked.3.1
      by other page asked passes = absurd asked.3

-- ---- at a leaf of records

-- What was taken of the leaf at the corner of the last box that remains is what of it lies in that box.
record TakesHere (page : LivePage) (command : Command) (rest : List Area) (found after : List Record) (at_hand area : Area) : Type 0 where
  records : List Record
  goal : goal_of command rest ≡ Some at_hand.lo
  leaf : leaf_at page at_hand.lo ≡ Some (record { leaf = Records records; area = area })
  taken : after ≡ found ++ records_within at_hand records

goal_last : (command : Command) (rest : List Area) (page : LivePage) (at_hand : Area) → SearchesInside page command rest → slice_get rest (length rest - 1) ≡ Some at_hand → goal_of command rest ≡ Some at_hand.lo
goal_last (Search area) rest page at_hand inside last = ap (option_map (λ a. a.lo)) last
goal_last (Insert rec) rest page at_hand inside last = absurd inside
goal_last (Delete point) rest page at_hand inside last = absurd inside
goal_last (Lookup point) rest page at_hand inside last = absurd inside

module _ (page : LivePage) (command : Command) (rest : List Area) (found before after : List Record) (at_hand area : Area) (corner : List ℕ) (stands : StandsAtLeaf command rest found page) (last : slice_get rest (length rest - 1) ≡ Some at_hand) (is_corner : corner ≡ at_hand.lo) (was : before ≡ found) where
  takes_here : TakesFound at_hand (leaf_at page corner) before after (Some area) → TakesHere page command rest found after at_hand area
  takes_here takes = by takes.placed.leaf refl takes.takes
    where
      by : (leaf : Leaf) → takes.placed.leaf ≡ leaf → TakesWithin at_hand leaf takes.placed.area before after (Some area) → TakesHere page command rest found after at_hand area
      by (Records records) is (taken, told) =
          let box : area ≡ takes.placed.area = same_Some area takes.placed.area told in
          let made : Leaf → Area → Placed = λ l a. record { leaf = l; area = a } in
          record {
            records = records;
            goal = goal_last command rest page at_hand stands.inside last;
            leaf = ap (leaf_at page) (sym is_corner) ∙ takes.found ∙ ap (λ (l : Leaf). Some (made l takes.placed.area)) is ∙ ap (λ (a : Area). Some (made (Records records) a)) (sym box);
            taken = taken ∙ ap (λ (l : List Record). l ++ records_within at_hand records) was;
          }
      by (Child name) is (taken, told) = absurd (let never : ⊥ = cc in never)
      by (Sibling name) is (taken, told) = absurd (let never : ⊥ = cc in never)

  behind : IsArea at_hand → IsArea area → TakesHere page command rest found after at_hand area → IsLeafBehind rest after area
  behind hand_is leaf_is takes =
      leaf_behind page rest found takes.records area at_hand stands.in_order stands.gathering last hand_is leaf_is takes.leaf (first_holds at_hand.lo (leaves_of page.frag page.area) (record { leaf = Records takes.records; area = area }) takes.leaf) after takes.taken

module _ (v : Page) (line : Line) (rest : List Area) (found before after : List Record) (at_hand area : Area) (corner : List ℕ) (told : Option Area) (stands : IsLiveAnd v (StandsAtLeaf line.command rest found)) (last : slice_get rest (length rest - 1) ≡ Some at_hand) (is_corner : corner ≡ at_hand.lo) (was : before ≡ found) (takes : IsLiveAnd v (λ page. TakesFound at_hand (leaf_at page corner) before after told)) (is_told : told ≡ Some area) where
  taken : IsLiveAnd v (λ page. StandsAtLeaf line.command rest found page × TakesHere page line.command rest found after at_hand area)
  taken = so_both v (StandsAtLeaf line.command rest found) (λ page. TakesFound at_hand (leaf_at page corner) before after told) (λ page. StandsAtLeaf line.command rest found page × TakesHere page line.command rest found after at_hand area)
      (λ page s t. (s, takes_here page line.command rest found before after at_hand area corner s last is_corner was (subst (TakesFound at_hand (leaf_at page corner) before after) is_told t))) stands takes

  pub goes_behind : IsArea at_hand → IfSome told IsArea → IsLeafBehind rest after area
  goes_behind hand_is box_is = out_of v (λ page. StandsAtLeaf line.command rest found page × TakesHere page line.command rest found after at_hand area) (IsLeafBehind rest after area)
      (λ page h. behind page line.command rest found before after at_hand area corner h.0 last is_corner was hand_is (subst (λ (o : Option Area). IfSome o IsArea) is_told box_is) h.1) taken

  pub searches_if : {E : Type 0} (result : Result Next E) → IfOk result (λ next. (meta : Meta) → GoesBehind meta line rest after area next) → IfOk result (λ next. IsLiveAnd v (SearchesAnyhow line rest found next))
  searches_if (Ok next) by = so v (λ page. StandsAtLeaf line.command rest found page × TakesHere page line.command rest found after at_hand area) (SearchesAnyhow line rest found next)
      (λ page h meta id. gathers meta line rest found after h.1.records id page next at_hand.lo at_hand area h.1.goal h.1.leaf last h.1.taken (by meta)) taken
  searches_if (Err why) by = tt

-- the session that asked
pub same_row : (v : Page) (state back : Activity) (id : ℕ) {E : Type 0} (result : Result Next E) → back ≡ state → IfOk result (λ next. (id : ℕ) → IsLiveAnd v (λ page. SearchRowIn back id page next)) → IfOk result (λ next. IsLiveAnd v (λ page. SearchRowIn state id page next))
same_row v state back id (Ok next) same row = subst (λ (a : Activity). IsLiveAnd v (λ page. SearchRowIn a id page next)) same (row id)
same_row v state back id (Err why) same row = tt

pub asked_row : (v : Page) (state : Activity) (line : Line) (held : Option ℕ) (rest : List Area) (found : List Record) {E : Type 0} (result : Result Next E) → state ≡ at.SessionWalk line held rest found → IfOk result (λ next. IsLiveAnd v (SearchesAnyhow line rest found next)) → IfOk result (λ next. (id : ℕ) → IsLiveAnd v (λ page. SearchRowIn state id page next))
asked_row v state line held rest found (Ok next) is by = λ id.
    subst (λ (a : Activity). IsLiveAnd v (λ page. SearchRowIn a id page next)) (sym is)
    (so v (SearchesAnyhow line rest found next) (λ page. SearchRowIn (at.SessionWalk line held rest found) id page next) (λ page any meta free. any meta id held ((id, page) ∷ []) free) by)
asked_row v state line held rest found (Err why) is by = tt

-- whatever an error is
pub on_err : {T E P : Type 0} (result : Result T E) → P → OnErr result P
on_err (Ok x) p = tt
on_err (Err why) p = p
