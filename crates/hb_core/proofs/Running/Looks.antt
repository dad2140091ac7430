-- The page into which an actor's next step looks is in memory, as it was before other pages came, and can be looked into.
use Rattle.hb_core.proofs.Running.Names.{◌≡◌, inl, inr, ℕ, List, Option, Some, None, IfSome, IsSome, refl, sym, ap, ◌∙◌, subst, option_and_then, false≢true, same_Some, Child, LivePage, Live, Mode, IsActor, Meta, live_so, if_live, Holds, Job, Activity, LeadsBelow, goal_of, walk_held, walk_point, HasLeafAt, asked_box, box_at, box_of_child, box_of_place, box_of_sibling, whole_box, wanted_of, IsGoodPage, StoreState, in_memory, looked_live, wanted_by, Brings, MachineKeeps, AtParent, NamesKnown, PairHeld, merging_at, MayLook, wanted_in, Machine, live_here, latches_held, mode_among}
use Rattle.hb_steps.proofs.Memory.BroughtPages.{held_come}
use Rattle.hb_steps.proofs.Latches.SameLatches.{live_held}
use Rattle.hb_ops.proofs.Facts.Tips.{first_held}
use Rattle.hb_activity.specs.declared.activities.Activity.TheVariants as at
use Rattle.hb_activity.specs.Wanting.{CanLook, LooksIntoPage, looked_at}
use Rattle.hb_steps.proofs.Latches.SameLatches.{walk_latched}
use Rattle.hb_steps.proofs.Walks.MergesKept.{named_again, place_latched, known_at, place_stays}
use Rattle.hb_steps.proofs.Walks.WalksKept.{IsAtParent, parent_latched}
use Rattle.hb_steps.specs.Asking.{looked_page}

-- a page in use that the actor holds, with the point at whose leaf it looks in its box
pub record LooksInto (st : StoreState) (activity : Activity) (id : ℕ) : Type 0 where
  pub page : LivePage
  pub live : live_here st id ≡ Some page
  pub mode : Mode
  pub latched : mode_among id (latches_held st activity) ≡ Some mode
  pub holds : IfSome (looked_at activity) (Holds page.area)

module _ (m : Machine) (actor : ℕ) (may : IsActor actor) (keeps : MachineKeeps m) where
  abbrev Looks : Activity → Type 0
  Looks activity = (id : ℕ) → looked_page activity ≡ Some id → LooksInto m.store activity id

  -- the page that a walk holds
  walks_into : (activity : Activity) (held : ℕ) → m.activity actor ≡ activity → walk_held activity ≡ Some held
      → ((page : LivePage) → IfSome (walk_point activity) (Holds page.area) → IfSome (looked_at activity) (Holds page.area)) → LooksInto m.store activity held
  walks_into activity held is walks point =
      let held_by : walk_held (m.activity actor) ≡ Some held = ap walk_held is ∙ walks in
      let one = keeps.latches_fit.walking actor held held_by in
      let live : live_here m.store held ≡ Some one.0 = ap if_live one.1 in
      let latch = walk_latched activity m.store held one.0 walks live in
      record {
        page = one.0;
        live = live;
        mode = latch.0;
        latched = latch.1;
        holds = point one.0 (subst (λ (a : Activity). IfSome (walk_point a) (Holds one.0.area)) is (keeps.walk_in_space.held actor held one.0 held_by live));
      }

  -- the parent that a poster holds
  parent_into : (activity : Activity) (job : Job) (parent : ℕ) → m.activity actor ≡ activity → IsAtParent activity job parent
      → ((page : LivePage) → Holds page.area job.point → IfSome (looked_at activity) (Holds page.area)) → LooksInto m.store activity parent
  parent_into activity job parent is stands point = by (keeps.walk_in_space.parents actor job parent (subst (λ (a : Activity). IsAtParent a job parent) (sym is) stands))
    where
      by : (page : LivePage) × (live_here m.store parent ≡ Some page) × (page.level ≡ job.level) × LeadsBelow page job → LooksInto m.store activity parent
      by (page, live, level, (child, area, leaf)) =
          let latch = parent_latched m.store activity job parent stands in
          let good = (keeps.pages_of_file parent (Live page) (live_so (in_memory m.store parent) page live)).2 in
          record {
            page = page;
            live = live;
            mode = latch.0;
            latched = latch.1;
            holds = point page (first_held job.point page.frag page.area (record { leaf = Child child; area = area }) good.1.well_cut leaf);
          }

  -- the pages that a consolidator holds
  merger_into : (activity : Activity) (place : AtParent) → m.activity actor ≡ activity → merging_at activity ≡ Some place → looked_at activity ≡ None → LooksInto m.store activity place.parent
  merger_into activity place is at_place none =
      let known = known_at m actor keeps.walk_in_space place (ap merging_at is ∙ at_place) in
      let latch = (place_latched m.store activity place at_place).parent in
      record { page = known.page; live = known.live; mode = latch.0; latched = latch.1; holds = subst (λ (o : Option (List ℕ)). IfSome o (Holds known.page.area)) (sym none) tt }

  tries_into : (activity : Activity) (job : Job) (parent : ℕ) (names : List ℕ) (pair : PairHeld) → m.activity actor ≡ activity
      → merging_at activity ≡ Some (record { job = job; parent = parent; known = names; pair = Some pair }) → looked_at activity ≡ None → LooksInto m.store activity pair.keep
  tries_into activity job parent names pair is at_place none =
      let place : AtParent = record { job = job; parent = parent; known = names; pair = Some pair } in
      let kept = (known_at m actor keeps.walk_in_space place (ap merging_at is ∙ at_place)).pair in
      let latch = (place_latched m.store activity place at_place).pair pair refl in
      record { page = kept.page; live = kept.live; mode = latch.0; latched = latch.1; holds = subst (λ (o : Option (List ℕ)). IfSome o (Holds kept.page.area)) (sym none) tt }

  looks_by : (activity : Activity) → m.activity actor ≡ activity → Looks activity
  looks_by (at.SessionWalk line (Some held) rest found) is id page = subst (LooksInto m.store (at.SessionWalk line (Some held) rest found)) (same_Some held id page) (walks_into (at.SessionWalk line (Some held) rest found) held is refl (λ page holds. holds))
  looks_by (at.PosterWalk job (Some held)) is id page = subst (LooksInto m.store (at.PosterWalk job (Some held))) (same_Some held id page) (walks_into (at.PosterWalk job (Some held)) held is refl (λ page holds. holds))
  looks_by (at.ConsolidatorWalk job (Some held)) is id page = subst (LooksInto m.store (at.ConsolidatorWalk job (Some held))) (same_Some held id page) (walks_into (at.ConsolidatorWalk job (Some held)) held is refl (λ page holds. holds))
  looks_by (at.PosterChild job parent) is id page = subst (LooksInto m.store (at.PosterChild job parent)) (same_Some parent id page) (parent_into (at.PosterChild job parent) job parent is (inl refl) (λ page holds. holds))
  looks_by (at.PosterPromote job parent) is id page = subst (LooksInto m.store (at.PosterPromote job parent)) (same_Some parent id page) (parent_into (at.PosterPromote job parent) job parent is (inr (inl refl)) (λ page holds. tt))
  looks_by (at.PosterAgain job parent) is id page = subst (LooksInto m.store (at.PosterAgain job parent)) (same_Some parent id page) (parent_into (at.PosterAgain job parent) job parent is (inr (inr refl)) (λ page holds. holds))
  looks_by (at.ConsolidatorScan job parent child) is id page = subst (LooksInto m.store (at.ConsolidatorScan job parent child)) (same_Some parent id page) (merger_into (at.ConsolidatorScan job parent child) _ is refl refl)
  looks_by (at.ConsolidatorTry job parent keep gone leaf) is id page = subst (LooksInto m.store (at.ConsolidatorTry job parent keep gone leaf)) (same_Some keep id page) (tries_into (at.ConsolidatorTry job parent keep gone leaf) job parent _ (record { keep = keep; gone = gone; leaf = Some leaf }) is refl refl)
  looks_by (at.ConsolidatorPromote job parent keep gone) is id page = subst (LooksInto m.store (at.ConsolidatorPromote job parent keep gone)) (same_Some parent id page) (merger_into (at.ConsolidatorPromote job parent keep gone) _ is refl refl)
  looks_by (at.ConsolidatorKeep job parent keep gone) is id page = subst (LooksInto m.store (at.ConsolidatorKeep job parent keep gone)) (same_Some parent id page) (merger_into (at.ConsolidatorKeep job parent keep gone) _ is refl refl)
  looks_by (at.ConsolidatorDecide job parent keep gone) is id page = subst (LooksInto m.store (at.ConsolidatorDecide job parent keep gone)) (same_Some parent id page) (merger_into (at.ConsolidatorDecide job parent keep gone) _ is refl refl)
  looks_by activity is id page = cc

  pub looks : Looks (m.activity actor)
  looks = looks_by (m.activity actor) refl

-- who looks into a page says which
names_looked : (activity : Activity) → LooksIntoPage activity → IsSome (looked_page activity)
names_looked (at.PosterChild job parent) into = refl
names_looked (at.PosterAgain job parent) into = refl
names_looked (at.PosterPromote job parent) into = refl
names_looked (at.ConsolidatorPromote job parent keep gone) into = refl
names_looked (at.ConsolidatorScan job parent child) into = refl
names_looked (at.ConsolidatorTry job parent keep gone leaf) into = refl
names_looked (at.ConsolidatorKeep job parent keep gone) into = refl
names_looked (at.ConsolidatorDecide job parent keep gone) into = refl
names_looked (at.SessionWalk line held rest found) into = into
names_looked (at.PosterWalk job held) into = into
names_looked (at.ConsolidatorWalk job held) into = into
names_looked activity into = absurd (false≢true into)

module _ (m : Machine) (actor : ℕ) (may : IsActor actor) (keeps : MachineKeeps m) (st : StoreState)
    (stays : (id : ℕ) (mode : Mode) (page : LivePage) → mode_among id (latches_held m.store (m.activity actor)) ≡ Some mode → live_here m.store id ≡ Some page → live_here st id ≡ Some page) where
  looked_into : (id : ℕ) → looked_page (m.activity actor) ≡ Some id → (into : LooksInto m.store (m.activity actor) id) × (live_here st id ≡ Some into.page)
  looked_into id is = let into = looks m actor may keeps id is in (into, stays id into.mode into.page into.latched into.live)

  same_by : (o : Option ℕ) → looked_page (m.activity actor) ≡ o → option_and_then (live_here st) o ≡ option_and_then (live_here m.store) o
  same_by None is = refl
  same_by (Some id) is = let both = looked_into id is in both.1 ∙ sym both.0.live

  pub looked_same : looked_live st (m.activity actor) ≡ looked_live m.store (m.activity actor)
  looked_same = same_by (looked_page (m.activity actor)) refl

  abbrev Given : Option ℕ → Type 0
  Given o = IsSome (option_and_then (live_here st) o)

  given_by : (o : Option ℕ) → looked_page (m.activity actor) ≡ o → IsSome o → Given o
  given_by None is some = absurd (false≢true some)
  given_by (Some id) is some = subst (λ (o : Option LivePage). IsSome o) (sym (looked_into id is).1) refl

  leaf_by : (page : LivePage) (o : Option (List ℕ)) → IsGoodPage m.store.meta (Live page) → IfSome o (Holds page.area) → IfSome o (HasLeafAt page)
  leaf_by page None good holds = tt
  leaf_by page (Some p) good holds = record { well_cut = good.1.well_cut; held = holds }

  readable_by : (o : Option ℕ) → looked_page (m.activity actor) ≡ o → CanLook (m.activity actor) (option_and_then (live_here st) o)
  readable_by None is = tt
  readable_by (Some id) is =
      let both = looked_into id is in
      let into = both.0 in
      let good = (keeps.pages_of_file id (Live into.page) (live_so (in_memory m.store id) into.page into.live)).2 in
      subst (CanLook (m.activity actor)) (sym both.1) (leaf_by into.page (looked_at (m.activity actor)) good into.holds)

  pub may_look_then : MayLook st (m.activity actor)
  may_look_then = record {
    given = λ into. given_by (looked_page (m.activity actor)) refl (names_looked (m.activity actor) into);
    readable = readable_by (looked_page (m.activity actor)) refl;
  }

-- where nothing came
pub may_look_now : (m : Machine) (actor : ℕ) → IsActor actor → MachineKeeps m → MayLook m.store (m.activity actor)
may_look_now m actor may keeps = may_look_then m actor may keeps m.store (λ id mode page latched live. live)

module _ (m : Machine) (actor : ℕ) (may : IsActor actor) (keeps : MachineKeeps m) (needs : ℕ → Type 0) (st : StoreState) (brings : Brings m needs st) where
  -- a page that the actor holds stays
  pub held_stays : (id : ℕ) (mode : Mode) (page : LivePage) → mode_among id (latches_held m.store (m.activity actor)) ≡ Some mode → live_here m.store id ≡ Some page → live_here st id ≡ Some page
  held_stays = live_held m actor st (held_come m needs st brings actor)

  pub may_look : MayLook st (m.activity actor)
  may_look = may_look_then m actor may keeps st held_stays

  pub looked_stays : looked_live st (m.activity actor) ≡ looked_live m.store (m.activity actor)
  looked_stays = looked_same m actor may keeps st held_stays

  -- so it wants the same
  pub wants_same : wanted_in st (m.activity actor) ≡ wanted_by m actor
  wants_same =
      ap (λ (meta : Meta). wanted_of (m.activity actor) meta (looked_live st (m.activity actor))) (ap (λ (s : StoreState). s.meta) brings.rest)
      ∙ ap (wanted_of (m.activity actor) m.store.meta) looked_stays

  -- and what a consolidator knows it knows still
  pub names_stay : IfSome (merging_at (m.activity actor)) (NamesKnown st)
  names_stay = named_again m.store st (merging_at (m.activity actor)) (place_stays m actor st (held_come m needs st brings actor)) (keeps.walk_in_space.merging actor)

  -- and asks for the same box
  looked_box : (activity : Activity) (id : ℕ) → m.activity actor ≡ activity → looked_page activity ≡ Some id → live_here st id ≡ live_here m.store id
  looked_box activity id is page = let into = looks m actor may keeps id (ap looked_page is ∙ page) in held_stays id into.mode into.page into.latched into.live ∙ sym into.live

  same_whole : Some (whole_box st.meta.k) ≡ Some (whole_box m.store.meta.k)
  same_whole = ap (λ (s : StoreState). Some (whole_box s.meta.k)) brings.rest

  asks_by : (activity : Activity) → m.activity actor ≡ activity → asked_box activity st ≡ asked_box activity m.store
  asks_by (at.SessionWalk line None rest found) is = same_whole
  asks_by (at.SessionWalk line (Some held) rest found) is = ap (λ (o : Option LivePage). box_at o (goal_of line.command rest)) (looked_box (at.SessionWalk line (Some held) rest found) held is refl)
  asks_by (at.PosterWalk job None) is = same_whole
  asks_by (at.PosterWalk job (Some held)) is = ap (λ (o : Option LivePage). box_at o (Some job.point)) (looked_box (at.PosterWalk job (Some held)) held is refl)
  asks_by (at.PosterChild job parent) is = ap (λ (o : Option LivePage). box_at o (Some job.point)) (looked_box (at.PosterChild job parent) parent is refl)
  asks_by (at.PosterAgain job parent) is = ap (λ (o : Option LivePage). box_at o (Some job.point)) (looked_box (at.PosterAgain job parent) parent is refl)
  asks_by (at.PosterPromote job parent) is = refl
  asks_by (at.ConsolidatorWalk job None) is = same_whole
  asks_by (at.ConsolidatorWalk job (Some held)) is = ap (λ (o : Option LivePage). box_at o (Some job.point)) (looked_box (at.ConsolidatorWalk job (Some held)) held is refl)
  asks_by (at.ConsolidatorScan job parent child) is = ap (λ (o : Option LivePage). box_of_child o child) (looked_box (at.ConsolidatorScan job parent child) parent is refl)
  asks_by (at.ConsolidatorTry job parent keep gone leaf) is = ap (λ (o : Option LivePage). box_of_place o leaf) (looked_box (at.ConsolidatorTry job parent keep gone leaf) keep is refl)
  asks_by (at.ConsolidatorPromote job parent keep gone) is = refl
  asks_by (at.ConsolidatorKeep job parent keep gone) is = ap (λ (o : Option LivePage). box_of_child o keep) (looked_box (at.ConsolidatorKeep job parent keep gone) parent is refl)
  asks_by (at.ConsolidatorDecide job parent keep gone) is =
      let into = tries_into m actor may keeps (at.ConsolidatorDecide job parent keep gone) job parent _ (record { keep = keep; gone = gone; leaf = None }) is refl refl in
      let kept = subst (λ (a : Activity). mode_among keep (latches_held m.store a) ≡ Some into.mode) (sym is) into.latched in
      ap (λ (o : Option LivePage). box_of_sibling o gone) (held_stays keep into.mode into.page kept into.live ∙ sym into.live)
  asks_by activity is = same_whole

  pub asks_same : asked_box (m.activity actor) st ≡ asked_box (m.activity actor) m.store
  asks_same = asks_by (m.activity actor) refl
