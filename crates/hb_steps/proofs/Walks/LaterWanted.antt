-- The page that a step wants comes later than each one that its actor holds.
use Rattle.hb_steps.proofs.Walks.Names.{◌≡◌, ◌⊎◌, inl, inr, ℕ, ◌==◌, ◌-◌, ◌<◌, true, false, cond, List, [], ◌∷◌, Option, Some, None, IsSome, IsTrue, refl, sym, ap, ◌∙◌, subst, arith, eqb-true, Contains, All-head, All-tail, option_and_then, none-some, place_member, Leaf, Records, Child, Sibling, LivePage, Meta, Mode, Shared, Update, Exclusive, Job, Wanted, Activity, latch_on, walk_latch, IsLater, goal_of, job_mode, session_mode, walk_held, child_of, in_mode, named_child, named_page, walk_next, wanted_of, wanted_page, names_child, first_among, first_box_among, sibling_fewer, looked_live, HasSoundFile, LatchesFit, WalksInSpace, NamesKnown, PairHeld, merging_at, at_parent, Files, Machine, current_file, live_here, latches_held, mode_among, ComesLater, Promotes, WantsItsOwn, Placed, first_named, leaf_at, leaves, leaves_of, siblings_of, IsActor, FileState, if_live, live_page, leaf_is_sibling, placed, IsSound, Area, volume}
use Rattle.std.specs.List.{All, slice_get}
use Rattle.std.specs.Option.{option_map}
use Rattle.hb_activity.specs.declared.activities.Activity.TheVariants as at
use Rattle.hb_steps.proofs.Files.AskedPages.{named_with_box}
use Rattle.hb_steps.specs.WaitingLaws.{WantedComesLater}
use Rattle.hb_ops.proofs.Facts.PlacedLaws.{placed_leaf}
use Rattle.hb_steps.proofs.Walks.MergesKept.{known_at}
use Rattle.hb_steps.proofs.Facts.LaterPages.{file_sound, shown_live}

-- ---- in a sound file the pages that a page names come later

module _ (s : FileState) (sound : IsSound s) (id : ℕ) (page : LivePage) (live : live_page s id ≡ Some page) where
  after : (name other : ℕ) (named : LivePage) → name ≡ other → live_page s name ≡ Some named → IsLater page named → ComesLater s id other
  after name other named is there later = subst (ComesLater s id) is (record { page = page; named = named; live = live; live_named = there; later = later })

  pub child_later : (name other : ℕ) (area : Area) → Contains (leaves_of page.frag page.area) (placed (Child name) area) → name ≡ other → ComesLater s id other
  child_later name other area among is =
      let named = sound.children id page name area live among in
      after name other named.0 is named.1 (inl (omega (arith, named.2)))

  sibling_after : (name other : ℕ) (area : Area) → Contains (siblings_of page) (name, area) → name ≡ other → ComesLater s id other
  sibling_after name other area has is =
      let named = sound.siblings id page name area live has in
      let made = sound.well_made id page live in
      let fewer = sibling_fewer page.frag page.area name area made.well_cut made.filled.own has in
      after name other named.0 is named.1 (inr (named.2, subst (λ (a : Area). volume a < volume page.area) (sym named.3) fewer))

  pub sibling_later : (name other : ℕ) (area : Area) → Contains (leaves_of page.frag page.area) (placed (Sibling name) area) → name ≡ other → ComesLater s id other
  sibling_later name other area among is = sibling_after name other area (leaf_is_sibling (leaves_of page.frag page.area) name area among) is

  leaf_later : (mode : ℕ → Mode) (leaf : Leaf) (area : Area) (wanted : Wanted) → Contains (leaves_of page.frag page.area) (placed leaf area) → in_mode mode (named_page page.level leaf) ≡ Some wanted → ComesLater s id wanted.page
  leaf_later mode (Records records) area wanted among wants = cc
  leaf_later mode (Child name) area wanted among wants = child_later name wanted.page area among (let same : wanted_page name (page.level - 1) (mode (page.level - 1)) ≡ wanted = cc in ap (λ (w : Wanted). w.page) same)
  leaf_later mode (Sibling name) area wanted among wants = sibling_later name wanted.page area among (let same : wanted_page name page.level (mode page.level) ≡ wanted = cc in ap (λ (w : Wanted). w.page) same)

  at_leaf : (mode : ℕ → Mode) (p : List ℕ) (wanted : Wanted) (o : Option Placed) → leaf_at page p ≡ o → in_mode mode (option_and_then (λ (l : Placed). named_page page.level l.leaf) o) ≡ Some wanted → ComesLater s id wanted.page
  at_leaf mode p wanted None is wants = cc
  at_leaf mode p wanted (Some l) is wants = leaf_later mode l.leaf l.area wanted (first_among p (leaves_of page.frag page.area) l is) wants

  only_child : (leaf : Leaf) (area : Area) (wanted : Wanted) → Contains (leaves_of page.frag page.area) (placed leaf area) → in_mode (λ level. Shared) (named_child page.level leaf) ≡ Some wanted → ComesLater s id wanted.page
  only_child (Records records) area wanted among wants = cc
  only_child (Child name) area wanted among wants = child_later name wanted.page area among (let same : wanted_page name (page.level - 1) Shared ≡ wanted = cc in ap (λ (w : Wanted). w.page) same)
  only_child (Sibling name) area wanted among wants = cc

  at_child : (p : List ℕ) (wanted : Wanted) (o : Option Placed) → leaf_at page p ≡ o → in_mode (λ level. Shared) (option_and_then (λ (l : Placed). named_child page.level l.leaf) o) ≡ Some wanted → ComesLater s id wanted.page
  at_child p wanted None is wants = cc
  at_child p wanted (Some l) is wants = only_child l.leaf l.area wanted (first_among p (leaves_of page.frag page.area) l is) wants

  -- what a walk that holds the page wants, and a poster whose parent it is
  pub walk_later : (mode : ℕ → Mode) (meta : Meta) (goal : Option (List ℕ)) (now : Option LivePage) (wanted : Wanted) → now ≡ Some page → in_mode mode (walk_next goal (Some id) meta now) ≡ Some wanted → ComesLater s id wanted.page
  walk_later mode meta None now wanted is wants = cc
  walk_later mode meta (Some p) now wanted is wants = at_leaf mode p wanted (leaf_at page p) refl (subst (λ (o : Option LivePage). in_mode mode (walk_next (Some p) (Some id) meta o) ≡ Some wanted) is wants)

  pub below_later : (p : List ℕ) (now : Option LivePage) (wanted : Wanted) → now ≡ Some page → in_mode (λ level. Shared) (option_and_then (λ (page : LivePage). child_of page p) now) ≡ Some wanted → ComesLater s id wanted.page
  below_later p now wanted is wants = at_child p wanted (leaf_at page p) refl (subst (λ (o : Option LivePage). in_mode (λ level. Shared) (option_and_then (λ (page : LivePage). child_of page p) o) ≡ Some wanted) is wants)

  -- what a consolidator tries, and what it decides on
  pub tried_later : (name other place : ℕ) → slice_get (leaves page.frag) place ≡ Some (Sibling name) → name ≡ other → ComesLater s id other
  tried_later name other place there is =
      let one = placed_leaf page.frag page.area (Sibling name) (place_member (leaves page.frag) place (Sibling name) there) in
      sibling_later name other one.0 one.1 is

  pub given_later : (name other : ℕ) → IsSome (first_named name (siblings_of page)) → name ≡ other → ComesLater s id other
  given_later name other gave is = by (first_named name (siblings_of page)) refl gave
    where
      by : (o : Option Area) → first_named name (siblings_of page) ≡ o → IsSome o → ComesLater s id other
      by None none some = cc
      by (Some area) there some = sibling_after name other area (first_box_among name (siblings_of page) area there) is

-- ---- of the latches of an activity

-- a page names a child
abbrev IsNamed : LivePage → ℕ → Type 0
IsNamed page name = IsTrue (names_child page name)

second_named : (page : LivePage) (first second : ℕ) → All (IsNamed page) (first ∷ second ∷ []) → IsNamed page second
second_named page first second all = All-head (IsNamed page) second [] (All-tail (IsNamed page) first (second ∷ []) all)

one_among : (page : ℕ) (its : Mode) (id : ℕ) (mode : Mode) → mode_among id (latch_on page its ∷ []) ≡ Some mode → (page ≡ id) × (its ≡ mode)
one_among page its id mode is =
    elim (page == id) as (λ b. (page == id) ≡ b → cond b (Some its) None ≡ Some mode → (page ≡ id) × (its ≡ mode)) [
      | true ↦ λ same e. (eqb-true page id same, cc)
      | false ↦ λ other e. cc
    ] refl is

walk_among : (held : ℕ) (page : Option LivePage) (its : ℕ → Mode) (id : ℕ) (mode : Mode) → mode_among id (walk_latch (Some held) page its) ≡ Some mode → held ≡ id
walk_among held None its id mode is = absurd (none-some mode is)
walk_among held (Some page) its id mode is = (one_among held (its page.level) id mode is).0

module _ (m : Machine) (files : Files) (actor id : ℕ) (mode : Mode) (wanted : Wanted) (may : IsActor actor) (fit : LatchesFit m) (has : HasSoundFile m files) (walks : WalksInSpace m) where
  abbrev Comes : Type 0
  Comes = ComesLater (current_file files) id wanted.page ⊎ WantsItsOwn m actor id mode wanted

  of_walk : (held : ℕ) (goal : Option (List ℕ)) (its : ℕ → Mode) (page : Option LivePage) → walk_held (m.activity actor) ≡ Some held → in_mode its (walk_next goal (Some held) m.store.meta (live_here m.store held)) ≡ Some wanted
      → mode_among id (walk_latch (Some held) page its) ≡ Some mode → Comes
  of_walk held goal its page walking wants holds =
      let one = fit.walking actor held walking in
      inl (subst (λ (q : ℕ). ComesLater (current_file files) q wanted.page) (walk_among held page its id mode holds)
      (walk_later (current_file files) (file_sound m files has) held one.0 (shown_live m.store (current_file files) has.shown held one.0 (ap if_live one.1)) its m.store.meta goal (live_here m.store held) wanted (ap if_live one.1) wants))

  of_parent : (job : Job) (parent : ℕ) (its : Mode) (page : LivePage) → live_here m.store parent ≡ Some page → in_mode (λ level. Shared) (option_and_then (λ (page : LivePage). child_of page job.point) (live_here m.store parent)) ≡ Some wanted
      → mode_among id (latch_on parent its ∷ []) ≡ Some mode → Comes
  of_parent job parent its page live wants holds =
      inl (subst (λ (q : ℕ). ComesLater (current_file files) q wanted.page) (one_among parent its id mode holds).0
      (below_later (current_file files) (file_sound m files has) parent page (shown_live m.store (current_file files) has.shown parent page live) job.point (live_here m.store parent) wanted live wants))

  promoted : (parent : ℕ) (page : Option LivePage) → option_map (λ (page : LivePage). wanted_page parent page.level Exclusive) page ≡ Some wanted → parent ≡ wanted.page
  promoted parent None wants = cc
  promoted parent (Some page) wants = let same : wanted_page parent page.level Exclusive ≡ wanted = cc in ap (λ (w : Wanted). w.page) same

  of_promotion : (parent : ℕ) (page : Option LivePage) → Promotes (m.activity actor) parent → option_map (λ (page : LivePage). wanted_page parent page.level Exclusive) page ≡ Some wanted → mode_among id (latch_on parent Update ∷ []) ≡ Some mode → Comes
  of_promotion parent page promotes wants holds =
      let one = one_among parent Update id mode holds in
      inr (record {
        promotes = subst (Promotes (m.activity actor)) one.0 promotes;
        same = sym (promoted parent page wants) ∙ one.0;
        update = sym one.1;
      })

  -- a page that a consolidator's parent names
  wanted_is : (name : ℕ) (level : LivePage → ℕ) (its : Mode) (o : Option LivePage) → option_map (λ (page : LivePage). wanted_page name (level page) its) o ≡ Some wanted → name ≡ wanted.page
  wanted_is name level its None wants = cc
  wanted_is name level its (Some page) wants = let same : wanted_page name (level page) its ≡ wanted = cc in ap (λ (w : Wanted). w.page) same

  of_names : (job : Job) (parent : ℕ) (names : List ℕ) (pair : Option PairHeld) (its : Mode) (known : NamesKnown m.store (at_parent job parent names pair)) (name : ℕ) → IsNamed known.page name → name ≡ wanted.page
      → mode_among id (latch_on parent its ∷ []) ≡ Some mode → Comes
  of_names job parent names pair its known name named is holds =
      let one = named_with_box known.page name named in
      inl (subst (λ (q : ℕ). ComesLater (current_file files) q wanted.page) (one_among parent its id mode holds).0
      (child_later (current_file files) (file_sound m files has) parent known.page (shown_live m.store (current_file files) has.shown parent known.page known.live) name wanted.page one.0 one.1 is))

  of_both : (parent keep : ℕ) (its other : Mode) → (mode_among id (latch_on parent its ∷ []) ≡ Some mode → Comes) → (mode_among id (latch_on keep other ∷ []) ≡ Some mode → Comes)
      → mode_among id (latch_on parent its ∷ latch_on keep other ∷ []) ≡ Some mode → Comes
  of_both parent keep its other first second holds =
      elim (parent == id) as (λ b. (cond b (Some its) None ≡ Some mode → Comes) → cond b (Some its) (mode_among id (latch_on keep other ∷ [])) ≡ Some mode → Comes) [
        | true ↦ λ first e. first e
        | false ↦ λ first e. second e
      ] first holds

  comes : (activity : Activity) → m.activity actor ≡ activity → wanted_of activity m.store.meta (looked_live m.store activity) ≡ Some wanted → mode_among id (latches_held m.store activity) ≡ Some mode → Comes
  comes (at.SessionWalk line None rest found) is wants holds = absurd (none-some mode holds)
  comes (at.SessionWalk line (Some held) rest found) is wants holds = of_walk held (goal_of line.command rest) (session_mode line.command) (live_here m.store held) (ap walk_held is) wants holds
  comes (at.PosterWalk job None) is wants holds = absurd (none-some mode holds)
  comes (at.PosterWalk job (Some held)) is wants holds = of_walk held (Some job.point) (job_mode job) (live_here m.store held) (ap walk_held is) wants holds
  comes (at.ConsolidatorWalk job None) is wants holds = absurd (none-some mode holds)
  comes (at.ConsolidatorWalk job (Some held)) is wants holds = of_walk held (Some job.point) (job_mode job) (live_here m.store held) (ap walk_held is) wants holds
  comes (at.PosterGrow job) is wants holds = absurd (none-some mode holds)
  comes (at.PosterChild job parent) is wants holds = let one = walks.parents actor job parent (inl is) in of_parent job parent Update one.0 one.1 wants holds
  comes (at.PosterAgain job parent) is wants holds = let one = walks.parents actor job parent (inr (inr is)) in of_parent job parent Exclusive one.0 one.1 wants holds
  comes (at.PosterPromote job parent) is wants holds = of_promotion parent (live_here m.store parent) (subst (λ (a : Activity). Promotes a parent) (sym is) refl) wants holds
  comes (at.ConsolidatorPromote job parent keep gone) is wants holds = of_promotion parent (live_here m.store parent) (subst (λ (a : Activity). Promotes a parent) (sym is) refl) wants holds
  comes (at.ConsolidatorScan job parent child) is wants holds =
      let known : NamesKnown m.store (at_parent job parent (child ∷ []) None) = known_at m actor walks _ (ap merging_at is) in
      of_names job parent (child ∷ []) None Update known child (All-head (IsNamed known.page) child [] known.names) (wanted_is child (λ page. page.level - 1) Shared (live_here m.store parent) wants) holds
  comes (at.ConsolidatorTry job parent keep gone leaf) is wants holds =
      let known : NamesKnown m.store (at_parent job parent (keep ∷ gone ∷ []) (Some (record { keep = keep; gone = gone; leaf = Some leaf }))) = known_at m actor walks _ (ap merging_at is) in
      let goes : gone ≡ wanted.page = wanted_is gone (λ page. page.level) Shared (live_here m.store keep) wants in
      of_both parent keep Update Shared (λ one. of_names job parent (keep ∷ gone ∷ []) _ Update known gone (second_named known.page keep gone known.names) goes one)
      (λ one. inl (subst (λ (q : ℕ). ComesLater (current_file files) q wanted.page) (one_among keep Shared id mode one).0
      (tried_later (current_file files) (file_sound m files has) keep known.pair.page (shown_live m.store (current_file files) has.shown keep known.pair.page known.pair.live) gone wanted.page leaf known.pair.gave goes))) holds
  comes (at.ConsolidatorKeep job parent keep gone) is wants holds =
      let known : NamesKnown m.store (at_parent job parent (keep ∷ gone ∷ []) None) = known_at m actor walks _ (ap merging_at is) in
      of_names job parent (keep ∷ gone ∷ []) None Exclusive known keep (All-head (IsNamed known.page) keep (gone ∷ []) known.names) (wanted_is keep (λ page. page.level - 1) Exclusive (live_here m.store parent) wants) holds
  comes (at.ConsolidatorDecide job parent keep gone) is wants holds =
      let known : NamesKnown m.store (at_parent job parent (keep ∷ gone ∷ []) (Some (record { keep = keep; gone = gone; leaf = None }))) = known_at m actor walks _ (ap merging_at is) in
      let goes : gone ≡ wanted.page = wanted_is gone (λ page. page.level - 1) Exclusive (live_here m.store parent) wants in
      of_both parent keep Exclusive Exclusive (λ one. of_names job parent (keep ∷ gone ∷ []) _ Exclusive known gone (second_named known.page keep gone known.names) goes one)
      (λ one. inl (subst (λ (q : ℕ). ComesLater (current_file files) q wanted.page) (one_among keep Exclusive id mode one).0
      (given_later (current_file files) (file_sound m files has) keep known.pair.page (shown_live m.store (current_file files) has.shown keep known.pair.page known.pair.live) gone wanted.page known.pair.gave goes))) holds
  comes activity is wants holds = cc

pub wanted_comes_later : WantedComesLater
wanted_comes_later m files actor id mode wanted may fit has walks wants holds =
    comes m files actor id mode wanted may fit has walks (m.activity actor) refl wants holds
