-- The parent at which a consolidator stands names the pages that it knows, after each of its rows, and while another one steps.
use Rattle.hb_steps.proofs.Walks.Names.{◌≡◌, ◌⊎◌, inl, inr, ℕ, suc, ◌-◌, ◌<◌, ◌==◌, not, ◌&&◌, Bool, true, false, cond, List, [], ◌∷◌, Option, Some, None, IsSome, IfSome, IsTrue, refl, sym, ap, ◌∙◌, subst, arith, live_held, HasHeld, same_Some, none-some, cases_Bool, eq-eqb, All-cons, All-contains, All-head, Leaf, Records, Child, Sibling, LivePage, Live, Meta, Wanted, Mode, Shared, Update, Exclusive, Job, Activity, Deed, latch_on, walk_held, wanted_of, wanted_page, names_child, of_page, HoldsNothing, MergesOn, now, looked_live, AtParent, NamesKnown, PairHeld, merging_at, Machine, live_here, latches_held, mode_among, first_named, leaves, siblings_of, BelongsAt, Area, IsGoodPage, StoreState, at_itself, WalksInSpace, one_value}
use Rattle.std.proofs.Common.{◌+◌, ◌||◌, filter, slice_get, All, option_map}
use Rattle.std.specs.List.{list_any}
use Rattle.std.proofs.lemmas.Bool.{and_parts}
use Rattle.std.proofs.lemmas.List.Elements.{All-nil}
use Rattle.hb_terms.specs.declared.merging.MergePlan.{MergePlan}
use Rattle.hb_terms.specs.declared.merging.MergePlan.TheVariants as plans
use Rattle.hb_activity.specs.declared.activities.Activity.TheVariants as at
use Rattle.hb_consol.specs.ConsolidatorRows.{after_try, children_of, first_one, one_behind, one_on, pair_among, pair_from, scans, tries}
use Rattle.hb_consol.specs.MergeRows.{after_keep}
use Rattle.hb_ops.proofs.Facts.NamedChildren.{named_leaf}
use Rattle.hb_steps.proofs.Table.MergerMoves.{StaysMerger, decided}
use Rattle.hb_steps.proofs.Table.NextPlaces.{AsksFor}
use Rattle.hb_steps.specs.KeptMerges.{IsMerging, KeepsPair, knows}
use Rattle.hb_steps.specs.Machines.{sight}
use Rattle.hb_steps.specs.Rows.{RowAt}
use Rattle.hb_frag.specs.Leaves.{child_names, firsts}
use Rattle.hb_lemmas.proofs.Options.{at_value}

-- ---- in a memory that has its pages

pub record PlaceStays (old new : StoreState) (place : AtParent) : Type 0 where
  pub parent : (page : LivePage) → live_here old place.parent ≡ Some page → live_here new place.parent ≡ Some page
  pub pair : (pair : PairHeld) → place.pair ≡ Some pair → (page : LivePage) → live_here old pair.keep ≡ Some page → live_here new pair.keep ≡ Some page

pub names_still : (old new : StoreState) (place : AtParent) → NamesKnown old place → PlaceStays old new place → NamesKnown new place
names_still old new place named stays = record {
  page = named.page;
  live = stays.parent named.page named.live;
  level = named.level;
  names = named.names;
  pair = by place.pair stays.pair named.pair;
}
  where
    by : (o : Option PairHeld) → ((pair : PairHeld) → o ≡ Some pair → (page : LivePage) → live_here old pair.keep ≡ Some page → live_here new pair.keep ≡ Some page) → IfSome o (KeepsPair old named.page) → IfSome o (KeepsPair new named.page)
    by None moves kept = tt
    by (Some pair) moves kept = record { page = kept.page; live = moves pair refl kept.page kept.live; level = kept.level; gave = kept.gave }

pub named_again : (old new : StoreState) (o : Option AtParent) → ((place : AtParent) → o ≡ Some place → PlaceStays old new place) → IfSome o (NamesKnown old) → IfSome o (NamesKnown new)
named_again old new None stays named = tt
named_again old new (Some place) stays named = names_still old new place named (stays place refl)

pub none_named : (st : StoreState) (o : Option AtParent) → o ≡ None → IfSome o (NamesKnown st)
none_named st o none = subst (λ (p : Option AtParent). IfSome p (NamesKnown st)) (sym none) tt

-- ---- the latches on these pages

pub record PlaceLatched (st : StoreState) (activity : Activity) (place : AtParent) : Type 0 where
  pub parent : (mode : Mode) × (mode_among place.parent (latches_held st activity) ≡ Some mode)
  pub pair : (pair : PairHeld) → place.pair ≡ Some pair → (mode : Mode) × (mode_among pair.keep (latches_held st activity) ≡ Some mode)

latched_as : (st : StoreState) (activity : Activity) (job : Job) (parent : ℕ) (known : List ℕ) (pair : Option PairHeld) (place : AtParent) → knows job parent known pair ≡ Some place → (mode : Mode) × (mode_among parent (latches_held st activity) ≡ Some mode)
    → ((held : PairHeld) → pair ≡ Some held → (mode : Mode) × (mode_among held.keep (latches_held st activity) ≡ Some mode)) → PlaceLatched st activity place
latched_as st activity job parent known pair place is first second =
    let same : record { job = job; parent = parent; known = known; pair = pair } ≡ place = cc in
    subst (PlaceLatched st activity) same (record { parent = first; pair = second })

no_pair : (Goal : PairHeld → Type 0) (held : PairHeld) → None ≡ Some held → Goal held
no_pair Goal held is = absurd (none-some held is)

-- one of two latches is on the second page
second_mode : (first id : ℕ) (mode other : Mode) → (found : Mode) × (mode_among id (latch_on first mode ∷ latch_on id other ∷ []) ≡ Some found)
second_mode first id mode other = elim (cases_Bool (first == id)) [
  | inl here ↦ (mode, ap (λ (b : Bool). cond b (Some mode) (cond (id == id) (Some other) None)) here)
  | inr off ↦ (other, ap (λ (b : Bool). cond b (Some mode) (cond (id == id) (Some other) None)) off ∙ at_itself id (Some other) None)
]

pair_latched : (st : StoreState) (activity : Activity) (pair held : PairHeld) → (mode : Mode) × (mode_among pair.keep (latches_held st activity) ≡ Some mode) → Some pair ≡ Some held → (mode : Mode) × (mode_among held.keep (latches_held st activity) ≡ Some mode)
pair_latched st activity pair held latch is =
    let same : pair ≡ held = cc in
    subst (λ (p : PairHeld). (mode : Mode) × (mode_among p.keep (latches_held st activity) ≡ Some mode)) same latch

nowhere : (st : StoreState) (activity : Activity) (place : AtParent) → None ≡ Some place → PlaceLatched st activity place
nowhere st activity place is = absurd (none-some place is)

pub place_latched : (st : StoreState) (activity : Activity) (place : AtParent) → merging_at activity ≡ Some place → PlaceLatched st activity place
place_latched st (at.ConsolidatorScan job parent child) place is = latched_as st (at.ConsolidatorScan job parent child) job parent _ _ place is (Update, at_itself parent (Some Update) None) (no_pair _)
place_latched st (at.ConsolidatorTry job parent keep gone leaf) place is =
    let trying : Activity = at.ConsolidatorTry job parent keep gone leaf in
    latched_as st trying job parent _ _ place is (Update, at_itself parent (Some Update) (cond (keep == parent) (Some Shared) None)) (λ held same. pair_latched st trying (record { keep = keep; gone = gone; leaf = Some leaf }) held (second_mode parent keep Update Shared) same)
place_latched st (at.ConsolidatorPromote job parent keep gone) place is = latched_as st (at.ConsolidatorPromote job parent keep gone) job parent _ _ place is (Update, at_itself parent (Some Update) None) (no_pair _)
place_latched st (at.ConsolidatorKeep job parent keep gone) place is = latched_as st (at.ConsolidatorKeep job parent keep gone) job parent _ _ place is (Exclusive, at_itself parent (Some Exclusive) None) (no_pair _)
place_latched st (at.ConsolidatorDecide job parent keep gone) place is =
    let deciding : Activity = at.ConsolidatorDecide job parent keep gone in
    latched_as st deciding job parent _ _ place is (Exclusive, at_itself parent (Some Exclusive) (cond (keep == parent) (Some Exclusive) None)) (λ held same. pair_latched st deciding (record { keep = keep; gone = gone; leaf = None }) held (second_mode parent keep Exclusive Exclusive) same)
place_latched st at.SessionIdle place is = nowhere st at.SessionIdle place is
place_latched st (at.SessionWalk line held rest found) place is = nowhere st (at.SessionWalk line held rest found) place is
place_latched st (at.SessionSplit line held) place is = nowhere st (at.SessionSplit line held) place is
place_latched st (at.SessionPut line source fresh) place is = nowhere st (at.SessionPut line source fresh) place is
place_latched st (at.SessionAwait line reply order) place is = nowhere st (at.SessionAwait line reply order) place is
place_latched st at.PosterIdle place is = nowhere st at.PosterIdle place is
place_latched st (at.PosterGrow job) place is = nowhere st (at.PosterGrow job) place is
place_latched st (at.PosterWalk job held) place is = nowhere st (at.PosterWalk job held) place is
place_latched st (at.PosterChild job parent) place is = nowhere st (at.PosterChild job parent) place is
place_latched st (at.PosterPromote job parent) place is = nowhere st (at.PosterPromote job parent) place is
place_latched st (at.PosterAgain job parent) place is = nowhere st (at.PosterAgain job parent) place is
place_latched st at.ConsolidatorIdle place is = nowhere st at.ConsolidatorIdle place is
place_latched st (at.ConsolidatorWalk job held) place is = nowhere st (at.ConsolidatorWalk job held) place is
place_latched st at.Flusher place is = nowhere st at.Flusher place is

-- ---- the names of a page

module _ (id : ℕ) where
  abbrev is_it : ℕ → Bool
  is_it name = name == id

  any_filtered : (keep : ℕ → Bool) (names : List ℕ) → list_any is_it (filter keep names) ≡ true → list_any is_it names ≡ true
  any_filtered keep [] some = some
  any_filtered keep (name ∷ rest) some = elim (keep name) as (λ b. list_any is_it (cond b (name ∷ filter keep rest) (filter keep rest)) ≡ true → (is_it name || list_any is_it rest) ≡ true) [
    | true ↦ elim (is_it name) as (λ b. (b || list_any is_it (filter keep rest)) ≡ true → (b || list_any is_it rest) ≡ true) [
      | true ↦ λ found. refl
      | false ↦ λ found. any_filtered keep rest found
    ]
    | false ↦ λ found. later name rest (any_filtered keep rest found)
  ] some
    where
      later : (name : ℕ) (rest : List ℕ) → list_any is_it rest ≡ true → (is_it name || list_any is_it rest) ≡ true
      later name rest found = elim (is_it name) as (λ b. (b || list_any is_it rest) ≡ true) [ true ↦ refl | false ↦ found ]

  -- each name that is listed once is a name
  any_first : (names : List ℕ) → list_any is_it (firsts names) ≡ true → list_any is_it names ≡ true
  any_first [] some = some
  any_first (name ∷ rest) some = elim (is_it name) as (λ b. (b || list_any is_it (filter (λ other. not (other == name)) (firsts rest))) ≡ true → (b || list_any is_it rest) ≡ true) [
    | true ↦ λ found. refl
    | false ↦ λ found. any_first rest (any_filtered (λ other. not (other == name)) (firsts rest) found)
  ] some

  first_listed : (names : List ℕ) → first_one names ≡ Some id → list_any is_it names ≡ true
  first_listed [] none = absurd (none-some id none)
  first_listed (name ∷ rest) is =
      let same : name ≡ id = cc in
      ap (λ (b : Bool). b || list_any is_it rest) (eq-eqb name id same)

  behind_listed : (child : ℕ) (names : List ℕ) → one_behind child names ≡ Some id → list_any is_it names ≡ true
  behind_listed child [] none = absurd (none-some id none)
  behind_listed child (name ∷ rest) is = later (elim (name == child) as (λ b. cond b (first_one rest) (one_behind child rest) ≡ Some id → list_any is_it rest ≡ true) [
    | true ↦ λ here. first_listed rest here
    | false ↦ λ there. behind_listed child rest there
  ] is)
    where
      later : list_any is_it rest ≡ true → (is_it name || list_any is_it rest) ≡ true
      later found = elim (is_it name) as (λ b. (b || list_any is_it rest) ≡ true) [ true ↦ refl | false ↦ found ]

-- a pair: the parent names its second page, and the leaf stands at its place
pub record IsPair (parent : LivePage) (ls : List Leaf) (gone leaf : ℕ) : Type 0 where
  pub named : IsTrue (names_child parent gone)
  pub at_place : slice_get ls leaf ≡ Some (Sibling gone)

pair_on : (parent : LivePage) (first : Leaf) (rest : List Leaf) (gone leaf : ℕ) (o : Option (ℕ × ℕ)) → ((gone leaf : ℕ) → o ≡ Some (gone, leaf) → IsPair parent rest gone leaf) → one_on o ≡ Some (gone, leaf) → IsPair parent (first ∷ rest) gone leaf
pair_on parent first rest gone leaf None later is = absurd (none-some (gone, leaf) is)
pair_on parent first rest gone leaf (Some (page, place)) later is =
    let one : ℕ × ℕ = (page, place + 1) in
    let two : ℕ × ℕ = (gone, leaf) in
    let whole : one ≡ two = cc in
    let found = later page place refl in
    subst (λ (p : ℕ × ℕ). IsPair parent (first ∷ rest) p.0 p.1) whole (record { named = found.named; at_place = ap (slice_get (first ∷ rest)) (next place) ∙ found.at_place })
  where
    next : (n : ℕ) → n + 1 ≡ suc n
    next n = omega arith

pair_found : (parent : LivePage) (from : ℕ) (ls : List Leaf) (gone leaf : ℕ) → pair_among parent from ls ≡ Some (gone, leaf) → IsPair parent ls gone leaf
pair_found parent from [] gone leaf is = absurd (none-some (gone, leaf) is)
pair_found parent from (Records records ∷ rest) gone leaf is = pair_on parent (Records records) rest gone leaf (pair_among parent (from - 1) rest) (pair_found parent (from - 1) rest) is
pair_found parent from (Child page ∷ rest) gone leaf is = pair_on parent (Child page) rest gone leaf (pair_among parent (from - 1) rest) (pair_found parent (from - 1) rest) is
pair_found parent from (Sibling page ∷ rest) gone leaf is = elim (cases_Bool ((from == 0) && names_child parent page)) [
  | inl here ↦
      let one : ℕ × ℕ = (page, 0) in
      let two : ℕ × ℕ = (gone, leaf) in
      let found : Some one ≡ Some two = sym (ap (λ (b : Bool). cond b (Some (page, 0)) (one_on (pair_among parent (from - 1) rest))) here) ∙ is in
      let whole : one ≡ two = cc in
      subst (λ (p : ℕ × ℕ). IsPair parent (Sibling page ∷ rest) p.0 p.1) whole (record { named = (and_parts (from == 0) (names_child parent page) here).1; at_place = refl })
  | inr off ↦ pair_on parent (Sibling page) rest gone leaf (pair_among parent (from - 1) rest) (pair_found parent (from - 1) rest) (sym (ap (λ (b : Bool). cond b (Some (page, 0)) (one_on (pair_among parent (from - 1) rest))) off) ∙ is)
]

-- ---- where a row leaves the consolidator

pub record HasMergePlace (st : StoreState) (next : Activity) : Type 0 where
  pub place : AtParent
  pub is : merging_at next ≡ Some place
  pub named : NamesKnown st place

-- a page that names a child is above the records
pub above_records : (meta : Meta) (page : LivePage) (name : ℕ) → IsGoodPage meta (Live page) → IsTrue (names_child page name) → 0 < page.level
above_records meta page name good named = All-contains (BelongsAt page.level) (leaves page.frag) (Child name) good.1.filled.kinds (named_leaf name (leaves page.frag) named)

-- what a machine knows of the place of its actor, and that the pages of that place stay where they came into memory
pub known_at : (m : Machine) (actor : ℕ) → WalksInSpace m → (place : AtParent) → merging_at (m.activity actor) ≡ Some place → NamesKnown m.store place
known_at m actor walks place is = at_value (merging_at (m.activity actor)) (NamesKnown m.store) place is (walks.merging actor)

pub place_stays : (m : Machine) (actor : ℕ) (st : StoreState) → HasHeld m actor st → (place : AtParent) → merging_at (m.activity actor) ≡ Some place → PlaceStays m.store st place
place_stays m actor st has place is =
    let latched = place_latched m.store (m.activity actor) place is in
    record {
      parent = λ page live. live_held m actor st has place.parent latched.parent.0 page latched.parent.1 live;
      pair = λ pair pair_is page live. let latch = latched.pair pair pair_is in live_held m actor st has pair.keep latch.0 page latch.1 live;
    }

-- What is known of the place stands in the memory before the step, and what came into memory has the same pages there.
module _ (m : Machine) (actor : ℕ) (fetched : StoreState) (good : (id : ℕ) (page : LivePage) → live_here fetched id ≡ Some page → IsGoodPage m.store.meta (Live page))
    (known : (place : AtParent) → merging_at (m.activity actor) ≡ Some place → NamesKnown m.store place) (stays : (place : AtParent) → merging_at (m.activity actor) ≡ Some place → PlaceStays m.store fetched place) where
  before : (place : AtParent) → merging_at (m.activity actor) ≡ Some place → NamesKnown fetched place
  before place is = names_still m.store fetched place (known place is) (stays place is)

  abbrev here : Machine
  here = now m actor fetched

  abbrev Lands : Activity → Type 0
  Lands next = HoldsNothing next ⊎ HasMergePlace fetched next

  idle : Lands at.ConsolidatorIdle
  idle = inl (record { walk = refl; latches = λ st. refl; merging = refl })

  -- a parent of the job's level
  abbrev IsParent : Job → ℕ → LivePage → Type 0
  IsParent job parent above = (live_here fetched parent ≡ Some above) × (above.level ≡ job.level)

  scan_lands : (job : Job) (parent : ℕ) (above : LivePage) (child : Option ℕ) → IsParent job parent above → ((id : ℕ) → child ≡ Some id → IsTrue (names_child above id)) → Lands (scans job parent child).next
  scan_lands job parent above None is named = idle
  scan_lands job parent above (Some child) (live, level) named = inr (record {
    place = _;
    is = refl;
    named = record { page = above; live = live; level = level; names = All-cons (λ id. IsTrue (names_child above id)) child [] (named child refl) (All-nil _); pair = tt };
  })

  behind_named : (above : LivePage) (keep id : ℕ) → one_behind keep (children_of above) ≡ Some id → IsTrue (names_child above id)
  behind_named above keep id is = any_first id (child_names (leaves above.frag)) (behind_listed id keep (children_of above) is)

  try_lands : (job : Job) (parent keep : ℕ) (above kept : LivePage) (from : ℕ) → IsParent job parent above → IsTrue (names_child above keep) → live_here fetched keep ≡ Some kept → kept.level + 1 ≡ above.level → Lands (tries job parent above keep (pair_from above kept from)).next
  try_lands job parent keep above kept from (live, level) named kept_live below = by (pair_from above kept from) (pair_found above from (leaves kept.frag))
    where
      by : (pair : Option (ℕ × ℕ)) → ((gone leaf : ℕ) → pair ≡ Some (gone, leaf) → IsPair above (leaves kept.frag) gone leaf) → Lands (tries job parent above keep pair).next
      by None found = scan_lands job parent above (one_behind keep (children_of above)) (live, level) (behind_named above keep)
      by (Some (gone, leaf)) found =
          let pair = found gone leaf refl in
          inr (record {
            place = _;
            is = refl;
            named = record {
              page = above;
              live = live;
              level = level;
              names = All-cons (λ id. IsTrue (names_child above id)) keep (gone ∷ []) named (All-cons (λ id. IsTrue (names_child above id)) gone [] pair.named (All-nil _));
              pair = record { page = kept; live = kept_live; level = below; gave = pair.at_place };
            };
          })

  -- what was known of the place, of the page that the row has
  known_as : (job : Job) (parent : ℕ) (names : List ℕ) (pair : Option PairHeld) (above : LivePage) → merging_at (m.activity actor) ≡ knows job parent names pair → live_here fetched parent ≡ Some above
      → IsParent job parent above × All (λ id. IsTrue (names_child above id)) names
  known_as job parent names pair above is live =
      let named = before _ is in
      let same = one_value (live_here fetched parent) named.page above named.live live in
      ((live, ap (λ (q : LivePage). q.level) (sym same) ∙ named.level), subst (λ (q : LivePage). All (λ id. IsTrue (names_child q id)) names) same named.names)

  plan_lands : (job : Job) (parent keep gone leaf : ℕ) (above kept : LivePage) (plan : MergePlan) → m.activity actor ≡ at.ConsolidatorTry job parent keep gone leaf → live_here fetched parent ≡ Some above → live_here fetched keep ≡ Some kept → Lands (after_try job parent keep gone leaf above kept plan).next
  plan_lands job parent keep gone leaf above kept plan is live kept_live = by plan
    where
      about : IsParent job parent above × All (λ id. IsTrue (names_child above id)) (keep ∷ gone ∷ [])
      about = known_as job parent (keep ∷ gone ∷ []) _ above (ap merging_at is) live

      below : kept.level + 1 ≡ above.level
      below =
          let named : NamesKnown fetched (record { job = job; parent = parent; known = keep ∷ gone ∷ []; pair = Some (record { keep = keep; gone = gone; leaf = Some leaf }) }) = before _ (ap merging_at is) in
          let over : named.page.level ≡ above.level = ap (λ (q : LivePage). q.level) (one_value (live_here fetched parent) named.page above named.live live) in
          let same : named.pair.page.level ≡ kept.level = ap (λ (q : LivePage). q.level) (one_value (live_here fetched keep) named.pair.page kept named.pair.live kept_live) in
          let one = named.pair.level in
          omega (arith, over, same, one)

      on : Lands (tries job parent above keep (pair_from above kept (leaf + 1))).next
      on = try_lands job parent keep above kept (leaf + 1) about.0 (All-head (λ id. IsTrue (names_child above id)) keep (gone ∷ []) about.1) kept_live below

      by : (plan : MergePlan) → Lands (after_try job parent keep gone leaf above kept plan).next
      by plans.Merge = inr (record { place = _; is = refl; named = record { page = above; live = live; level = about.0.1; names = about.1; pair = tt } })
      by plans.NotContained = on
      by plans.ManyParents = on
      by plans.TooHeavy = on

  -- it was so before the step
  stood : (job : Job) (parent : ℕ) (names : List ℕ) (pair : Option PairHeld) (above : LivePage) → merging_at (m.activity actor) ≡ knows job parent names pair → live_here fetched parent ≡ Some above → live_here m.store parent ≡ Some above
  stood job parent names pair above is live =
      let named = known _ is in
      named.live ∙ ap (λ (q : LivePage). Some q) (one_value (live_here fetched parent) named.page above ((stays _ is).parent named.page named.live) live)

  -- a page that is at hand as a child of the parent is one level below it
  one_below : (activity : Activity) (id named : ℕ) (mode : Mode) (page above : LivePage) → m.activity actor ≡ activity → AsksFor m actor id page
      → ((o : Option LivePage) → wanted_of activity m.store.meta o ≡ option_map (λ (page : LivePage). wanted_page named (page.level - 1) mode) o) → looked_live m.store activity ≡ Some above → 0 < above.level → page.level + 1 ≡ above.level
  one_below activity id named mode page above is asks by_name looked some =
      let wants : wanted_of activity m.store.meta (looked_live m.store activity) ≡ Some asks.wanted = subst (λ (a : Activity). wanted_of a m.store.meta (looked_live m.store a) ≡ Some asks.wanted) is asks.wants in
      let there : Some (wanted_page named (above.level - 1) mode) ≡ Some asks.wanted = ap (option_map (λ (page : LivePage). wanted_page named (page.level - 1) mode)) (sym looked) ∙ sym (by_name (looked_live m.store activity)) ∙ wants in
      let level : above.level - 1 ≡ asks.wanted.level = ap (λ (w : Wanted). w.level) (same_Some (wanted_page named (above.level - 1) mode) asks.wanted there) in
      let found = asks.level in
      omega (arith, level, found, some)

  keep_lands : (job : Job) (parent keep gone id : ℕ) (page : LivePage) (area : Option Area) → first_named gone (siblings_of page) ≡ area → m.activity actor ≡ at.ConsolidatorKeep job parent keep gone → AsksFor m actor id page → live_here fetched keep ≡ Some page → Lands (after_keep job parent keep gone area).next
  keep_lands job parent keep gone id page None found is asks live = idle
  keep_lands job parent keep gone id page (Some area) found is asks live =
      let keeping : Activity = at.ConsolidatorKeep job parent keep gone in
      let named = before _ (ap merging_at is) in
      let some = above_records m.store.meta named.page keep (good parent named.page named.live) (All-head (λ (name : ℕ). IsTrue (names_child named.page name)) keep (gone ∷ []) named.names) in
      let below = one_below keeping id keep Exclusive page named.page is asks (λ o. refl) (stood job parent (keep ∷ gone ∷ []) None named.page (ap merging_at is) named.live) some in
      inr (record {
        place = _;
        is = refl;
        named = record { page = named.page; live = named.live; level = named.level; names = named.names; pair = record { page = page; live = live; level = below; gave = subst (λ (o : Option Area). IsSome o) (sym found) refl } };
      })

  landed : (deed other : Deed) → deed ≡ other → Lands other.next → Lands deed.next
  landed deed other is lands = subst (λ (d : Deed). Lands d.next) (sym is) lands

  -- the page at hand is the one that the activity names
  at_named : (activity : Activity) (id named : ℕ) (level : LivePage → ℕ) (mode : Mode) (page : LivePage) → m.activity actor ≡ activity → AsksFor m actor id page
      → ((o : Option LivePage) → wanted_of activity m.store.meta o ≡ option_map (λ (page : LivePage). wanted_page named (level page) mode) o) → live_here fetched id ≡ Some page → live_here fetched named ≡ Some page
  at_named activity id named level mode page is asks by_name live =
      let wants : wanted_of activity m.store.meta (looked_live m.store activity) ≡ Some asks.wanted = subst (λ (a : Activity). wanted_of a m.store.meta (looked_live m.store a) ≡ Some asks.wanted) is asks.wants in
      let same = of_page named level mode (looked_live m.store activity) asks.wanted (sym (by_name (looked_live m.store activity)) ∙ wants) in
      ap (live_here fetched) (sym same.0 ∙ asks.page) ∙ live

  -- a walk that goes on holds a page, and so doesn't arrive
  stays_none : (id : ℕ) (activity : Activity) (deed : Deed) → StaysMerger activity deed → walk_held deed.next ≡ Some id → ⊥
  stays_none id activity deed stays walks = none-some id (sym (ap (λ (d : Deed). walk_held d.next) stays.is ∙ stays.after.walk) ∙ walks)

  lands : (activity : Activity) (id : ℕ) (page : LivePage) (deed : Deed) → m.activity actor ≡ activity → AsksFor m actor id page → live_here fetched id ≡ Some page → IsMerging activity → RowAt activity (sight here) id page deed → StaysMerger activity deed → Lands deed.next
  lands (at.ConsolidatorWalk job held) id page deed is asks live kind (inl row) stays =
      landed deed _ row.deed_is (scan_lands job id page (first_one (children_of page)) (live, row.level) (λ child first. any_first child (child_names (leaves page.frag)) (first_listed child (children_of page) first)))
  lands (at.ConsolidatorWalk job held) id page deed is asks live kind (inr row) stays = absurd (stays_none id _ deed stays (ap (λ (d : Deed). walk_held d.next) row.passes.deed_is))
  lands (at.ConsolidatorScan job parent child) id page deed is asks live kind row stays =
      let scan : Activity = at.ConsolidatorScan job parent child in
      let about = known_as job parent (child ∷ []) None row.above (ap merging_at is) row.live in
      let named : IsTrue (names_child row.above child) = All-head (λ (name : ℕ). IsTrue (names_child row.above name)) child [] about.1 in
      let below = one_below scan id child Shared page row.above is asks (λ o. refl) (stood job parent (child ∷ []) None row.above (ap merging_at is) row.live) (above_records m.store.meta row.above child (good parent row.above row.live) named) in
      landed deed _ row.deed_is (try_lands job parent child row.above page 0 about.0 named (at_named scan id child _ Shared page is asks (λ o. refl) live) below)
  lands (at.ConsolidatorTry job parent keep gone leaf) id page deed is asks live kind row stays = landed deed _ row.deed_is (plan_lands job parent keep gone leaf row.has.above row.has.kept row.has.plan is row.has.above_live row.has.kept_live)
  lands (at.ConsolidatorPromote job parent keep gone) id page deed is asks live kind row stays =
      let named = before _ (ap merging_at is) in
      landed deed _ row (inr (record { place = _; is = refl; named = record { page = named.page; live = named.live; level = named.level; names = named.names; pair = tt } }))
  lands (at.ConsolidatorKeep job parent keep gone) id page deed is asks live kind row stays =
      let keeping : Activity = at.ConsolidatorKeep job parent keep gone in
      landed deed _ row (keep_lands job parent keep gone id page (first_named gone (siblings_of page)) refl is asks (at_named keeping id keep _ Exclusive page is asks (λ o. refl) live))
  lands (at.ConsolidatorDecide job parent keep gone) id page deed is asks live kind row stays = landed deed _ (decided (sight here) job parent keep gone row.has.above row.has.plan deed (ap (λ (d : Deed). d.op) stays.is) row.does_it) idle
  lands activity id page deed is asks live kind row stays = absurd kind

  pub merged_place : (deed : Deed) → MergesOn m actor here deed → Lands deed.next
  merged_place deed on = lands on.activity on.id on.page deed on.before on.asks on.live on.kind on.row on.stays
