-- The page that a step latches comes later than those that its actor holds, over every disk. So it is none of them.
use Rattle.hb_steps.proofs.Walks.Names.{◌≡◌, ◌≢◌, ◌⊎◌, inl, inr, ℕ, ◌-◌, ◌<◌, Bool, cond, List, [], ◌∷◌, Option, Some, None, IsSome, IsTrue, refl, sym, ap, ◌∙◌, subst, arith, Contains, option_and_then, same_Some, All-contains, All-head, All-tail, place_member, Leaf, Records, Child, Sibling, LivePage, Live, Meta, Mode, Shared, Update, Exclusive, Job, Wanted, Activity, latch_on, walk_latch, IsLater, goal_of, job_mode, session_mode, walk_held, child_of, in_mode, named_child, named_page, walk_next, wanted_of, wanted_page, names_child, first_among, first_box_among, own_there, of_page, sibling_fewer, AnyPage, HasItsBox, asked_box, box_at, box_by_leaf, looked_live, wanted_by, Brings, MachineKeeps, AtParent, PairHeld, merging_at, at_parent, Machine, live_here, with_disk, latches_held, mode_among, Promotes, Placed, first_named, leaf_at, leaves, leaves_of, siblings_of, BelongsAt, IsActor, if_live, leaf_is_sibling, placed, Area, volume, IsGoodPage, StoreState}
use Rattle.std.specs.List.{slice_get}
use Rattle.std.specs.Option.{option_map}
use Rattle.std.proofs.lemmas.Bool.{ne_eqb}
use Rattle.hb_activity.specs.declared.holding.Latch.{Latch}
use Rattle.hb_activity.specs.declared.activities.Activity.TheVariants as at
use Rattle.hb_steps.proofs.Files.AskedPages.{leaf_of_place}
use Rattle.hb_steps.proofs.Latches.SameLatches.{walk_latched}
use Rattle.hb_steps.proofs.Walks.MergesKept.{above_records, place_latched, known_at}
use Rattle.hb_steps.proofs.Walks.WalksKept.{IsAtParent, parent_latched}
use Rattle.hb_steps.specs.Asking.{box_of_place, box_of_sibling, this_box}
use Rattle.hb_steps.specs.MachineLaws.{NoPageIsLatchedTwice, WalksLeadOn}
use Rattle.hb_steps.specs.Rows.{IsAtHand}
use Rattle.hb_ops.proofs.Facts.PlacedLaws.{placed_is_leaf}
use Rattle.hb_store.specs.States.{in_memory}
use Rattle.hb_ops.proofs.Facts.PageNumberLaws.{live_so}

-- ---- a page that is found of the level and the box by which another one names it

module _ (meta : Meta) (held : LivePage) (good : IsGoodPage meta (Live held)) (page : LivePage) where
  child_found : (name : ℕ) (area : Area) → Contains (leaves_of held.frag held.area) (placed (Child name) area) → page.level ≡ held.level - 1 → page.level < held.level
  child_found name area among on =
      let above : 0 < held.level = All-contains (BelongsAt held.level) (leaves held.frag) (Child name) good.1.filled.kinds (placed_is_leaf held.frag held.area (placed (Child name) area) among) in
      omega (arith, above, on)

  pub sibling_found : (name : ℕ) (area : Area) → Contains (siblings_of held) (name, area) → page.level ≡ held.level → page.area ≡ area → IsLater held page
  sibling_found name area has on box = inr (on, subst (λ (a : Area). volume a < volume held.area) (sym box) (sibling_fewer held.frag held.area name area good.1.well_cut good.1.filled.own has))

  leaf_found : (mode : ℕ → Mode) (leaf : Leaf) (area : Area) (wanted : Wanted) → Contains (leaves_of held.frag held.area) (placed leaf area) → in_mode mode (named_page held.level leaf) ≡ Some wanted → page.level ≡ wanted.level
      → HasItsBox (box_by_leaf (placed leaf area)) page → IsLater held page
  leaf_found mode (Records records) area wanted among wants on box = cc
  leaf_found mode (Child name) area wanted among wants on box =
      inl (child_found name area among (let same : wanted_page name (held.level - 1) (mode (held.level - 1)) ≡ wanted = cc in on ∙ ap (λ (w : Wanted). w.level) (sym same)))
  leaf_found mode (Sibling name) area wanted among wants on box =
      sibling_found name area (leaf_is_sibling (leaves_of held.frag held.area) name area among) (let same : wanted_page name held.level (mode held.level) ≡ wanted = cc in on ∙ ap (λ (w : Wanted). w.level) (sym same)) box

  at_leaf : (mode : ℕ → Mode) (p : List ℕ) (wanted : Wanted) (o : Option Placed) → leaf_at held p ≡ o → in_mode mode (option_and_then (λ (l : Placed). named_page held.level l.leaf) o) ≡ Some wanted → page.level ≡ wanted.level
      → HasItsBox (option_and_then box_by_leaf o) page → IsLater held page
  at_leaf mode p wanted None is wants on box = cc
  at_leaf mode p wanted (Some l) is wants on box = leaf_found mode l.leaf l.area wanted (first_among p (leaves_of held.frag held.area) l is) wants on box

  -- the next page of a walk
  walk_found : (mode : ℕ → Mode) (walk_meta : Meta) (id : ℕ) (goal : Option (List ℕ)) (now then : Option LivePage) (wanted : Wanted) → now ≡ Some held → then ≡ Some held → in_mode mode (walk_next goal (Some id) walk_meta now) ≡ Some wanted
      → page.level ≡ wanted.level → HasItsBox (box_at then goal) page → IsLater held page
  walk_found mode walk_meta id None now then wanted is was wants on box = cc
  walk_found mode walk_meta id (Some p) now then wanted is was wants on box =
      at_leaf mode p wanted (leaf_at held p) refl (subst (λ (o : Option LivePage). in_mode mode (walk_next (Some p) (Some id) walk_meta o) ≡ Some wanted) is wants) on
      (subst (λ (o : Option LivePage). HasItsBox (box_at o (Some p)) page) was box)

  -- the child of a poster's parent
  only_child : (leaf : Leaf) (area : Area) (wanted : Wanted) → Contains (leaves_of held.frag held.area) (placed leaf area) → in_mode (λ level. Shared) (named_child held.level leaf) ≡ Some wanted → page.level ≡ wanted.level → page.level < held.level
  only_child (Records records) area wanted among wants on = cc
  only_child (Child name) area wanted among wants on = child_found name area among (let same : wanted_page name (held.level - 1) Shared ≡ wanted = cc in on ∙ ap (λ (w : Wanted). w.level) (sym same))
  only_child (Sibling name) area wanted among wants on = cc

  child_at : (p : List ℕ) (wanted : Wanted) (o : Option Placed) → leaf_at held p ≡ o → in_mode (λ level. Shared) (option_and_then (λ (l : Placed). named_child held.level l.leaf) o) ≡ Some wanted → page.level ≡ wanted.level → page.level < held.level
  child_at p wanted None is wants on = cc
  child_at p wanted (Some l) is wants on = only_child l.leaf l.area wanted (first_among p (leaves_of held.frag held.area) l is) wants on

  below_found : (p : List ℕ) (now : Option LivePage) (wanted : Wanted) → now ≡ Some held → in_mode (λ level. Shared) (option_and_then (λ (page : LivePage). child_of page p) now) ≡ Some wanted → page.level ≡ wanted.level → page.level < held.level
  below_found p now wanted is wants on = child_at p wanted (leaf_at held p) refl (subst (λ (o : Option LivePage). in_mode (λ level. Shared) (option_and_then (λ (page : LivePage). child_of page p) o) ≡ Some wanted) is wants) on

  -- a child that a consolidator's parent names
  named_found : (name : ℕ) (mode : Mode) (now : Option LivePage) (wanted : Wanted) → now ≡ Some held → IsTrue (names_child held name) → option_map (λ (page : LivePage). wanted_page name (page.level - 1) mode) now ≡ Some wanted → page.level ≡ wanted.level → page.level < held.level
  named_found name mode now wanted is named wants on =
      let some = above_records meta held name good named in
      let same = same_Some (wanted_page name (held.level - 1) mode) wanted (ap (option_map (λ (page : LivePage). wanted_page name (page.level - 1) mode)) (sym is) ∙ wants) in
      let level : held.level - 1 ≡ wanted.level = ap (λ (w : Wanted). w.level) same in
      omega (arith, some, level, on)

  -- the page to go, by the leaf that is tried, and by the first leaf to it
  tried_found : (name place : ℕ) (then : Option LivePage) → then ≡ Some held → slice_get (leaves held.frag) place ≡ Some (Sibling name) → page.level ≡ held.level → HasItsBox (box_of_place then place) page → IsLater held page
  tried_found name place then is there on box =
      let at_place = leaf_of_place held.frag held.area place (Sibling name) there in
      let leaf : Sibling name ≡ at_place.0.leaf = sym at_place.2 in
      let among : Contains (leaves_of held.frag held.area) (placed (Sibling name) at_place.0.area) = subst (λ (x : Leaf). Contains (leaves_of held.frag held.area) (placed x at_place.0.area)) (sym leaf) (place_member (leaves_of held.frag held.area) place at_place.0 at_place.1) in
      let found : HasItsBox (option_and_then box_by_leaf (Some at_place.0)) page = subst (λ (o : Option Placed). HasItsBox (option_and_then box_by_leaf o) page) at_place.1 (subst (λ (o : Option LivePage). HasItsBox (box_of_place o place) page) is box) in
      let exact : HasItsBox (box_by_leaf (placed (Sibling name) at_place.0.area)) page = subst (λ (x : Leaf). HasItsBox (box_by_leaf (placed x at_place.0.area)) page) (sym leaf) found in
      sibling_found name at_place.0.area (leaf_is_sibling (leaves_of held.frag held.area) name at_place.0.area among) on exact

  given_found : (name : ℕ) (then : Option LivePage) → then ≡ Some held → IsSome (first_named name (siblings_of held)) → page.level ≡ held.level → HasItsBox (box_of_sibling then name) page → IsLater held page
  given_found name then is gave on box = by (first_named name (siblings_of held)) refl gave (subst (λ (o : Option LivePage). HasItsBox (box_of_sibling o name) page) is box)
    where
      by : (o : Option Area) → first_named name (siblings_of held) ≡ o → IsSome o → HasItsBox (option_map this_box o) page → IsLater held page
      by None found some box = cc
      by (Some area) found some box = sibling_found name area (first_box_among name (siblings_of held) area found) on box

-- ---- the latches of an actor

pub never_later : (a b : LivePage) → a ≡ b → IsLater a b → ⊥
never_later a b same (inl lower) = let level = ap (λ (p : LivePage). p.level) same in omega (arith, level, lower)
never_later a b same (inr (on, fewer)) = let points = ap (λ (p : LivePage). volume p.area) same in omega (arith, points, fewer)

off_one : (id : ℕ) (mode : Mode) (other : ℕ) (rest : List Latch) → id ≢ other → mode_among other (latch_on id mode ∷ rest) ≡ mode_among other rest
off_one id mode other rest off = ap (λ (b : Bool). cond b (Some mode) (mode_among other rest)) (ne_eqb id other off)

module _ (m : Machine) (actor : ℕ) (fetched : StoreState) (may : IsActor actor) (keeps : MachineKeeps m) (brings : Brings m AnyPage fetched) where
  pub good_here : (id : ℕ) (page : LivePage) → live_here m.store id ≡ Some page → IsGoodPage m.store.meta (Live page)
  good_here id page live = (keeps.pages_of_file id (Live page) (live_so (in_memory m.store id) page live)).2

  -- a page that the actor holds stays
  pub walked_there : (held : ℕ) (before : LivePage) → walk_held (m.activity actor) ≡ Some held → live_here m.store held ≡ Some before → live_here fetched held ≡ Some before
  walked_there held before walks live = let latch = walk_latched (m.activity actor) m.store held before walks live in own_there m AnyPage fetched brings actor held latch.0 before keeps.latches_fit may latch.1 live

  -- ---- what a walk finds

  module _ (held : ℕ) (before : LivePage) (wanted : Wanted) (page : LivePage) (live : live_here m.store held ≡ Some before) (there : live_here fetched held ≡ Some before) (on : page.level ≡ wanted.level) where
    goes_on : (id : ℕ) (goal : Option (List ℕ)) (mode : ℕ → Mode) → id ≡ held → in_mode mode (walk_next goal (Some id) m.store.meta (live_here m.store id)) ≡ Some wanted
        → HasItsBox (box_at (live_here fetched id) goal) page → IsLater before page
    goes_on id goal mode same wants box =
        walk_found m.store.meta before (good_here held before live) page mode m.store.meta id goal (live_here m.store id) (live_here fetched id) wanted (ap (live_here m.store) same ∙ live) (ap (live_here fetched) same ∙ there) wants on box

    leads : (activity : Activity) → walk_held activity ≡ Some held → wanted_of activity m.store.meta (looked_live m.store activity) ≡ Some wanted → HasItsBox (asked_box activity fetched) page → IsLater before page
    leads (at.SessionWalk line (Some id) rest found) holds wants box = goes_on id (goal_of line.command rest) (session_mode line.command) (same_Some id held holds) wants box
    leads (at.PosterWalk job (Some id)) holds wants box = goes_on id (Some job.point) (job_mode job) (same_Some id held holds) wants box
    leads (at.ConsolidatorWalk job (Some id)) holds wants box = goes_on id (Some job.point) (job_mode job) (same_Some id held holds) wants box
    leads activity holds wants box = cc

  -- ---- the page at hand is none that the actor holds

  module _ (wanted : Wanted) (page : LivePage) (wants_it : wanted_by m actor ≡ Some wanted) (hand : IsAtHand (with_disk fetched m.files m.clock m) (m.activity actor) wanted page) where
    abbrev Wants : Activity → Type 0
    Wants activity = wanted_of activity m.store.meta (looked_live m.store activity) ≡ Some wanted

    abbrev Found : Activity → Type 0
    Found activity = HasItsBox (asked_box activity fetched) page

    apart : (id : ℕ) (mode : Mode) (before : LivePage) → mode_among id (latches_held m.store (m.activity actor)) ≡ Some mode → live_here m.store id ≡ Some before → IsLater before page → id ≢ wanted.page
    apart id mode before among live later same =
        never_later before page (same_Some before page (sym (own_there m AnyPage fetched brings actor id mode before keeps.latches_fit may among live) ∙ ap (live_here fetched) same ∙ hand.live)) later

    -- an actor that walks
    of_walk : (held : ℕ) (its : ℕ → Mode) → walk_held (m.activity actor) ≡ Some held → mode_among wanted.page (walk_latch (Some held) (live_here m.store held) its) ≡ None
    of_walk held its walks =
        let one = keeps.latches_fit.walking actor held walks in
        let live : live_here m.store held ≡ Some one.0 = ap if_live one.1 in
        let latch = walk_latched (m.activity actor) m.store held one.0 walks live in
        let later = leads held one.0 wanted page live (walked_there held one.0 walks live) hand.level (m.activity actor) walks wants_it hand.box in
        subst (λ (o : Option LivePage). mode_among wanted.page (walk_latch (Some held) o its) ≡ None) (sym live) (off_one held (its one.0.level) wanted.page [] (apart held latch.0 one.0 latch.1 live later))

    -- a poster at a parent
    of_parent : (job : Job) (parent : ℕ) (its : Mode) → IsAtParent (m.activity actor) job parent → in_mode (λ level. Shared) (option_and_then (λ (page : LivePage). child_of page job.point) (live_here m.store parent)) ≡ Some wanted
        → mode_among wanted.page (latch_on parent its ∷ []) ≡ None
    of_parent job parent its stands wants =
        let one = keeps.walk_in_space.parents actor job parent stands in
        let latch = parent_latched m.store (m.activity actor) job parent stands in
        let lower = below_found m.store.meta one.0 (good_here parent one.0 one.1) page job.point (live_here m.store parent) wanted one.1 wants hand.level in
        off_one parent its wanted.page [] (apart parent latch.0 one.0 latch.1 one.1 (inl lower))

    -- a consolidator at a parent
    above_it : (place : AtParent) → (is : merging_at (m.activity actor) ≡ Some place) → page.level < (known_at m actor keeps.walk_in_space place is).page.level → place.parent ≢ wanted.page
    above_it place is lower =
        let known = known_at m actor keeps.walk_in_space place is in
        let latch = (place_latched m.store (m.activity actor) place is).parent in
        apart place.parent latch.0 known.page latch.1 known.live (inl lower)

    beside_it : (place : AtParent) (pair : PairHeld) (kept : LivePage) → merging_at (m.activity actor) ≡ Some place → place.pair ≡ Some pair → live_here m.store pair.keep ≡ Some kept → IsLater kept page → pair.keep ≢ wanted.page
    beside_it place pair kept is has live later =
        let latch = (place_latched m.store (m.activity actor) place is).pair pair has in
        apart pair.keep latch.0 kept latch.1 live later

    kept_there : (place : AtParent) (pair : PairHeld) (kept : LivePage) → merging_at (m.activity actor) ≡ Some place → place.pair ≡ Some pair → live_here m.store pair.keep ≡ Some kept → live_here fetched pair.keep ≡ Some kept
    kept_there place pair kept is has live =
        let latch = (place_latched m.store (m.activity actor) place is).pair pair has in
        own_there m AnyPage fetched brings actor pair.keep latch.0 kept keeps.latches_fit may latch.1 live

    off_both : (parent keep : ℕ) (its other : Mode) → parent ≢ wanted.page → keep ≢ wanted.page → mode_among wanted.page (latch_on parent its ∷ latch_on keep other ∷ []) ≡ None
    off_both parent keep its other above beside = off_one parent its wanted.page (latch_on keep other ∷ []) above ∙ off_one keep other wanted.page [] beside

    abbrev Alone : Activity → Type 0
    Alone activity = (mode_among wanted.page (latches_held m.store activity) ≡ None) ⊎ Promotes activity wanted.page

    alone : (activity : Activity) → m.activity actor ≡ activity → Wants activity → Found activity → Alone activity
    alone (at.SessionWalk line None rest found) is wants box = inl refl
    alone (at.SessionWalk line (Some held) rest found) is wants box = inl (of_walk held (session_mode line.command) (ap walk_held is))
    alone (at.PosterWalk job None) is wants box = inl refl
    alone (at.PosterWalk job (Some held)) is wants box = inl (of_walk held (job_mode job) (ap walk_held is))
    alone (at.ConsolidatorWalk job None) is wants box = inl refl
    alone (at.ConsolidatorWalk job (Some held)) is wants box = inl (of_walk held (job_mode job) (ap walk_held is))
    alone (at.PosterGrow job) is wants box = inl refl
    alone (at.PosterChild job parent) is wants box = inl (of_parent job parent Update (inl is) wants)
    alone (at.PosterAgain job parent) is wants box = inl (of_parent job parent Exclusive (inr (inr is)) wants)
    alone (at.PosterPromote job parent) is wants box = inr (of_page parent (λ page. page.level) Exclusive (live_here m.store parent) wanted wants).0
    alone (at.ConsolidatorPromote job parent keep gone) is wants box = inr (of_page parent (λ page. page.level) Exclusive (live_here m.store parent) wanted wants).0
    alone (at.ConsolidatorScan job parent child) is wants box =
        let place = at_parent job parent (child ∷ []) None in
        let known = known_at m actor keeps.walk_in_space place (ap merging_at is) in
        let named : IsTrue (names_child known.page child) = All-head (λ (id : ℕ). IsTrue (names_child known.page id)) child [] known.names in
        let lower = named_found m.store.meta known.page (good_here parent known.page known.live) page child Shared (live_here m.store parent) wanted known.live named wants hand.level in
        inl (off_one parent Update wanted.page [] (above_it place (ap merging_at is) lower))
    alone (at.ConsolidatorTry job parent keep gone leaf) is wants box =
        let pair : PairHeld = record { keep = keep; gone = gone; leaf = Some leaf } in
        let place = at_parent job parent (keep ∷ gone ∷ []) (Some pair) in
        let known = known_at m actor keeps.walk_in_space place (ap merging_at is) in
        let kept = known.pair.page in
        let same = same_Some (wanted_page gone kept.level Shared) wanted (ap (option_map (λ (page : LivePage). wanted_page gone page.level Shared)) (sym known.pair.live) ∙ wants) in
        let on : page.level ≡ kept.level = hand.level ∙ ap (λ (w : Wanted). w.level) (sym same) in
        let below = known.pair.level in
        let lower : page.level < known.page.level = omega (arith, on, below) in
        let later = tried_found m.store.meta kept (good_here keep kept known.pair.live) page gone leaf (live_here fetched keep) (kept_there place pair kept (ap merging_at is) refl known.pair.live) known.pair.gave on box in
        inl (off_both parent keep Update Shared (above_it place (ap merging_at is) lower) (beside_it place pair kept (ap merging_at is) refl known.pair.live later))
    alone (at.ConsolidatorKeep job parent keep gone) is wants box =
        let place = at_parent job parent (keep ∷ gone ∷ []) None in
        let known = known_at m actor keeps.walk_in_space place (ap merging_at is) in
        let named : IsTrue (names_child known.page keep) = All-head (λ (id : ℕ). IsTrue (names_child known.page id)) keep (gone ∷ []) known.names in
        let lower = named_found m.store.meta known.page (good_here parent known.page known.live) page keep Exclusive (live_here m.store parent) wanted known.live named wants hand.level in
        inl (off_one parent Exclusive wanted.page [] (above_it place (ap merging_at is) lower))
    alone (at.ConsolidatorDecide job parent keep gone) is wants box =
        let pair : PairHeld = record { keep = keep; gone = gone; leaf = None } in
        let place = at_parent job parent (keep ∷ gone ∷ []) (Some pair) in
        let known = known_at m actor keeps.walk_in_space place (ap merging_at is) in
        let kept = known.pair.page in
        let named : IsTrue (names_child known.page gone) = All-head (λ (id : ℕ). IsTrue (names_child known.page id)) gone [] (All-tail (λ (id : ℕ). IsTrue (names_child known.page id)) keep (gone ∷ []) known.names) in
        let lower = named_found m.store.meta known.page (good_here parent known.page known.live) page gone Exclusive (live_here m.store parent) wanted known.live named wants hand.level in
        let same = same_Some (wanted_page gone (known.page.level - 1) Exclusive) wanted (ap (option_map (λ (page : LivePage). wanted_page gone (page.level - 1) Exclusive)) (sym known.live) ∙ wants) in
        let level : page.level ≡ known.page.level - 1 = hand.level ∙ ap (λ (w : Wanted). w.level) (sym same) in
        let below = known.pair.level in
        let on : page.level ≡ kept.level = omega (arith, level, below) in
        let later = given_found m.store.meta kept (good_here keep kept known.pair.live) page gone (live_here fetched keep) (kept_there place pair kept (ap merging_at is) refl known.pair.live) known.pair.gave on box in
        inl (off_both parent keep Exclusive Exclusive (above_it place (ap merging_at is) lower) (beside_it place pair kept (ap merging_at is) refl known.pair.live later))
    alone activity is wants box = cc

pub walks_lead_on : WalksLeadOn
walks_lead_on m actor fetched held before wanted page may keeps brings walks live wants hand =
    leads m actor fetched may keeps brings held before wanted page live (walked_there m actor fetched may keeps brings held before walks live) hand.level (m.activity actor) walks wants hand.box

pub no_page_is_latched_twice : NoPageIsLatchedTwice
no_page_is_latched_twice m actor fetched wanted page may keeps brings wants hand = elim (alone m actor fetched may keeps brings wanted page wants hand (m.activity actor) refl wants hand.box) [
  | inl none ↦ inl none
  | inr promotes ↦ inr promotes
]
