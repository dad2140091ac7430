-- The wanted page comes and is the one that was asked for, or the step halts.
use Rattle.hb_core.proofs.Running.Names.{◌≡◌, ◌≢◌, ◌⊎◌, inl, inr, ℕ, false, List, [], ◌∷◌, Option, Some, None, IfSome, IsTrue, refl, sym, ap, ◌∙◌, subst, arith, ◌<◌, option_and_then, option_map, All-head, same_Some, DiskModel, Leaf, Records, Child, Sibling, LivePage, Page, Live, Placed, leaf_at, Mode, Shared, Exclusive, IsActor, Meta, at_value, has_value, if_value, not_none, live_so, FileState, last_of, IsSound, Area, Wanted, Activity, goal_of, job_mode, session_mode, child_of, in_mode, named_child, walk_next, wanted_page, names_child, Fetched, StaysHere, use_fetched, Breaks, FetchesNot, IsCrowdedOut, IsNoPage, LooksUp, StoreKeeps, IsMemory, StoreState, in_memory, FetchStop, Why, Rule, Level, Extent, Halt, Stops, files_hold, more_number, brings_none, LacksNeeded, MayNeed, AskedBox, around_box, asked_box, box_at, box_by_leaf, box_of_child, box_of_place, box_of_sibling, this_box, wanted_by, whole_box, Brings, IsWantedPage, HasSoundFile, NamesKnown, merging_at, wanted_in, with_order_of_use, with_store, page_wanted, unpin_each, use_wanted, Use, pinned, unpinned, frame_of, in_place, places, put_last, IsTied, Files, Machine, current_file, live_here, modes, with_disk, with_uses, same_held, IsAtHand, RunningCore, ShowsMachine, IsHaltOf, IsWorking, MayWork, HasCome, Halts, IsHalt, MayStep, with_memory}
use Rattle.std.specs.Option.{IsSomeAnd, MatchOption}
use Rattle.hb_activity.specs.declared.activities.Activity.TheVariants as at
use Rattle.hb_activity.specs.Wanting.{named_page}
use Rattle.hb_store.specs.declared.stops.FetchStop.TheVariants as fetches
use Rattle.hb_store.specs.declared.stops.StopWhy.TheVariants as stops
use Rattle.hb_steps.proofs.Files.SoundFiles.{current_sound}
use Rattle.hb_core.specs.Aiming.{HasMany}
use Rattle.hb_core.proofs.Running.Boxes.{asks_many}
use Rattle.hb_core.proofs.Running.Brought.{brings_wider, fetch_brings, shows_store}
use Rattle.hb_core.proofs.Running.Frames.{may_pin, shown_stays, shown_tied}
use Rattle.hb_core.proofs.Running.LineTaken.{own_memory}
use Rattle.hb_core.proofs.Running.Pins.{one_itself, pinned_frame, tied_unpinned}
use Rattle.hb_core.proofs.Running.LeafBoxes.{Asks, child_asks_there, place_asks_there, sibling_asks_there}
use Rattle.hb_core.proofs.Running.Looks.{asks_same, may_look, names_stay, wants_same}
use Rattle.hb_core.proofs.Running.StandsElsewhere.{shows_but}
use Rattle.hb_steps.specs.Acting.{IsBadWanted}
use Rattle.hb_steps.specs.AskedBoxes.{IsNotAsked}
use Rattle.hb_steps.specs.Fetching.{IsDamaged}
use Rattle.hb_steps.specs.Looking.{FailsTest, IsOfOtherLevel, PassesTest}

-- what a call that reads did, it did still after one that changes no page and no disk
pub looks_kept : {failed : Type 0} {d e f : DiskModel} {old middle st : StoreState} → f ≡ e → st ≡ middle → LooksUp failed d e old middle → LooksUp failed d f old st
looks_kept {failed} {d} {e} {f} {old} {middle} {st} disk seen looks = subst (λ (x : DiskModel). LooksUp failed d x old st) (sym disk) (subst (λ (x : StoreState). LooksUp failed d e old x) (sym seen) looks)

-- ---- the box that is asked for

leaf_asks : (mode : ℕ → Mode) (level : ℕ) (leaf : Leaf) (area : Area) (wanted : Wanted) → in_mode mode (named_page level leaf) ≡ Some wanted → Asks (box_by_leaf (record { leaf = leaf; area = area }))
leaf_asks mode level (Records records) area wanted wants = cc
leaf_asks mode level (Child page) area wanted wants = (around_box area, refl)
leaf_asks mode level (Sibling page) area wanted wants = (this_box area, refl)

placed_asks : (mode : ℕ → Mode) (level : ℕ) (o : Option Placed) (wanted : Wanted) → in_mode mode (option_and_then (λ (l : Placed). named_page level l.leaf) o) ≡ Some wanted → Asks (option_and_then box_by_leaf o)
placed_asks mode level None wanted wants = cc
placed_asks mode level (Some l) wanted wants = leaf_asks mode level l.leaf l.area wanted wants

walk_asks : (mode : ℕ → Mode) (goal : Option (List ℕ)) (held : ℕ) (meta : Meta) (o : Option LivePage) (wanted : Wanted) → in_mode mode (walk_next goal (Some held) meta o) ≡ Some wanted → Asks (box_at o goal)
walk_asks mode None held meta o wanted wants = cc
walk_asks mode (Some p) held meta None wanted wants = cc
walk_asks mode (Some p) held meta (Some page) wanted wants = placed_asks mode page.level (leaf_at page p) wanted wants

child_leaf_asks : (level : ℕ) (leaf : Leaf) (area : Area) (wanted : Wanted) → in_mode (λ level. Shared) (named_child level leaf) ≡ Some wanted → Asks (box_by_leaf (record { leaf = leaf; area = area }))
child_leaf_asks level (Records records) area wanted wants = cc
child_leaf_asks level (Child page) area wanted wants = (around_box area, refl)
child_leaf_asks level (Sibling page) area wanted wants = cc

child_placed_asks : (level : ℕ) (o : Option Placed) (wanted : Wanted) → in_mode (λ level. Shared) (option_and_then (λ (l : Placed). named_child level l.leaf) o) ≡ Some wanted → Asks (option_and_then box_by_leaf o)
child_placed_asks level None wanted wants = cc
child_placed_asks level (Some l) wanted wants = child_leaf_asks level l.leaf l.area wanted wants

child_asks : (p : List ℕ) (o : Option LivePage) (wanted : Wanted) → in_mode (λ level. Shared) (option_and_then (λ (page : LivePage). child_of page p) o) ≡ Some wanted → Asks (box_at o (Some p))
child_asks p None wanted wants = cc
child_asks p (Some page) wanted wants = child_placed_asks page.level (leaf_at page p) wanted wants

-- or none is, of the page that is to be promoted, which is there and of its level
pub record IsPromoted (st : StoreState) (activity : Activity) (wanted : Wanted) : Type 0 where
  pub none : asked_box activity st ≡ None
  pub page : LivePage
  pub live : live_here st wanted.page ≡ Some page
  pub level : page.level ≡ wanted.level

promotes : (st : StoreState) (activity : Activity) (parent : ℕ) (o : Option LivePage) (wanted : Wanted) → asked_box activity st ≡ None → live_here st parent ≡ o → option_map (λ (page : LivePage). wanted_page parent page.level Exclusive) o ≡ Some wanted → IsPromoted st activity wanted
promotes st activity parent None wanted none is wants = cc
promotes st activity parent (Some page) wanted none is wants =
    let same : wanted_page parent page.level Exclusive ≡ wanted = same_Some (wanted_page parent page.level Exclusive) wanted wants in
    record {
      none = none;
      page = page;
      live = ap (live_here st) (sym (ap (λ (w : Wanted). w.page) same)) ∙ is;
      level = ap (λ (w : Wanted). w.level) same;
    }

-- of a page that is there
asks_by : (box : Option LivePage → Option AskedBox) (o : Option LivePage) (page : LivePage) → o ≡ Some page → Asks (box (Some page)) → Asks (box o)
asks_by box o page is asks = subst (λ (q : Option LivePage). Asks (box q)) (sym is) asks

pub asks_or_promotes : (st : StoreState) (activity : Activity) (wanted : Wanted) → IsWorking activity → IfSome (merging_at activity) (NamesKnown st) → wanted_in st activity ≡ Some wanted → Asks (asked_box activity st) ⊎ IsPromoted st activity wanted
asks_or_promotes st (at.SessionWalk line None rest found) wanted working known wants = inl (whole_box st.meta.k, refl)
asks_or_promotes st (at.SessionWalk line (Some held) rest found) wanted working known wants = inl (walk_asks (session_mode line.command) (goal_of line.command rest) held st.meta (live_here st held) wanted wants)
asks_or_promotes st (at.PosterGrow job) wanted working known wants = inl (whole_box st.meta.k, refl)
asks_or_promotes st (at.PosterWalk job None) wanted working known wants = inl (whole_box st.meta.k, refl)
asks_or_promotes st (at.PosterWalk job (Some held)) wanted working known wants = inl (walk_asks (job_mode job) (Some job.point) held st.meta (live_here st held) wanted wants)
asks_or_promotes st (at.PosterChild job parent) wanted working known wants = inl (child_asks job.point (live_here st parent) wanted wants)
asks_or_promotes st (at.PosterAgain job parent) wanted working known wants = inl (child_asks job.point (live_here st parent) wanted wants)
asks_or_promotes st (at.PosterPromote job parent) wanted working known wants = inr (promotes st (at.PosterPromote job parent) parent (live_here st parent) wanted refl refl wants)
asks_or_promotes st (at.SessionSplit line held) wanted working known wants = cc
asks_or_promotes st (at.SessionPut line source fresh) wanted working known wants = cc
asks_or_promotes st (at.ConsolidatorWalk job None) wanted working known wants = inl (whole_box st.meta.k, refl)
asks_or_promotes st (at.ConsolidatorWalk job (Some held)) wanted working known wants = inl (walk_asks (job_mode job) (Some job.point) held st.meta (live_here st held) wanted wants)
asks_or_promotes st (at.ConsolidatorScan job parent child) wanted working known wants =
    inl (asks_by (λ o. box_of_child o child) (live_here st parent) known.page known.live (child_asks_there known.page child (All-head (λ (id : ℕ). IsTrue (names_child known.page id)) child [] known.names)))
asks_or_promotes st (at.ConsolidatorTry job parent keep gone leaf) wanted working known wants =
    inl (asks_by (λ o. box_of_place o leaf) (live_here st keep) known.pair.page known.pair.live (place_asks_there known.pair.page leaf gone known.pair.gave))
asks_or_promotes st (at.ConsolidatorPromote job parent keep gone) wanted working known wants = inr (promotes st (at.ConsolidatorPromote job parent keep gone) parent (live_here st parent) wanted refl refl wants)
asks_or_promotes st (at.ConsolidatorKeep job parent keep gone) wanted working known wants =
    inl (asks_by (λ o. box_of_child o keep) (live_here st parent) known.page known.live (child_asks_there known.page keep (All-head (λ (id : ℕ). IsTrue (names_child known.page id)) keep (gone ∷ []) known.names)))
asks_or_promotes st (at.ConsolidatorDecide job parent keep gone) wanted working known wants =
    inl (asks_by (λ o. box_of_sibling o gone) (live_here st keep) known.pair.page known.pair.live (sibling_asks_there known.pair.page gone known.pair.gave))
asks_or_promotes st activity wanted working known wants = absurd working

-- ---- a disk that tells has no damaged page

-- the file that is told is sound
abbrev pub SoundWhereTold : Machine → Type 0
SoundWhereTold m = IfSome m.files (λ files. IsSound (current_file files))

pub sound_where_told : (m : Machine) → IfSome m.files (HasSoundFile m) → SoundWhereTold m
sound_where_told m sound = if_value m.files (λ (files : Files). IsSound (current_file files)) (λ files told. current_sound m.store files (files_hold m files (at_value m.files (HasSoundFile m) files told sound)))

-- a disk that tells has a file, which is sound, and which the store keeps; or nothing is told
pub told_or_not : (d : DiskModel) (c : RunningCore) (m : Machine) (P : Type 0) → ShowsMachine d c m → SoundWhereTold m
    → ((durable : FileState) (later : List FileState) → StoreKeeps d c.store durable later → IsSound (last_of durable later) → P) → (m.files ≡ None) ⊎ P
told_or_not d c m P shows sound so = by d.told refl
  where
    by : (o : Option (List ℕ)) → d.told ≡ o → (m.files ≡ None) ⊎ P
    by None none = inl (shows.silent none)
    by (Some bytes) told =
        let s = shows.tells (has_value d.told bytes told) in
        let kept = subst (λ (x : StoreState). StoreKeeps d x s.files.durable s.files.later) shows.store s.kept in
        inr (so s.files.durable s.files.later kept (at_value m.files (λ (files : Files). IsSound (current_file files)) s.files s.told sound))

-- the page that is looked at comes, and what has to stay does
pub looked_brings : (d e : DiskModel) (c : RunningCore) (m : Machine) (step : MayStep d c m) (failed : Type 0) (st : StoreState) (looks : LooksUp failed d e c.store st) (id : ℕ) → IsMemory st → Fetched id c.store st → ((q : ℕ) → StaysHere c.uses q → in_memory st q ≡ in_memory c.store q) → Brings m (λ q. q ≡ id) st
looked_brings d e c m step failed st looks id memory fetched stays =
    fetch_brings m d e c failed st step.shows looks id memory fetched (λ q must. stays q (shown_stays d c m step q must) ∙ ap (λ (x : StoreState). in_memory x q) (sym step.shows.store))

module _ (m : Machine) (d : DiskModel) (c : RunningCore) (actor : ℕ) (latches : IsActor actor) (step : MayStep d c m) (work : MayWork m actor) where
  abbrev activity : Activity
  activity = m.activity actor

  -- no page is wanted
  pub none_comes : None ≡ wanted_by m actor → HasCome m actor d c
  none_comes none = record {
    may = work;
    brings = brings_none m (IsWantedPage (wanted_by m actor)) c.store step.shows.store;
    shows = subst (ShowsMachine d c) (sym (own_memory c m step.shows.store step.shows.uses)) step.shows;
    at_hand = subst (λ (o : Option Wanted). IfSome o (λ wanted. (page : LivePage) × IsAtHand (with_memory c m) (m.activity actor) wanted page)) none tt;
    uses = sym step.shows.uses ∙ ap (λ (o : Option Wanted). use_wanted o m.uses) none;
    tied = shown_tied d c m step;
  }

  module _ (wanted : Wanted) (wants : wanted_by m actor ≡ Some wanted) where
    needs_it : (st : StoreState) (id : ℕ) → id ≡ wanted.page → MayNeed m actor st id
    needs_it st id same = inl (subst (λ (o : Option Wanted). IsWantedPage o id) (sym wants) same)

    -- ---- the page isn't fetched

    module _ (absent : in_memory m.store wanted.page ≡ None) where
      asks_now : Asks (asked_box activity m.store)
      asks_now = elim (asks_or_promotes m.store activity wanted work.working (work.goes_on.kept.walk_in_space.merging actor) wants) [
        | inl asked ↦ asked
        | inr held ↦ absurd (not_none (in_memory m.store wanted.page) (Live held.page) (live_so (in_memory m.store wanted.page) held.page held.live) absent)
      ]

      bad_page : (page : ℕ) (why : Why) → page ≡ wanted.page → ((asked : AskedBox) → IsDamaged m.files m.store wanted asked why) → IsHalt m actor m.store (Stops (stops.Damaged page why))
      bad_page page why same damaged =
          let asked = asks_now in
          inl (subst (λ (o : Option Wanted). IsBadWanted m.files m.store o (asked_box activity m.store) page why) (sym wants)
          (subst (λ (o : Option AskedBox). IsBadWanted m.files m.store (Some wanted) o page why) (sym asked.1) (same, damaged asked.0)))

      breaks : (rule : ℕ) → (m.files ≡ None ⊎ IsNoPage m.store.meta wanted.page) → Breaks m.store.meta d wanted.page rule → (asked : AskedBox) → IsDamaged m.files m.store wanted asked (Rule rule)
      breaks rule silent (inl (first, lacks)) asked = inl (lacks, ap Rule first)
      breaks rule (inl silent) (inr (other, some, told)) asked = inr (inl (some, (silent, absent, other)))
      breaks rule (inr lacks) (inr (other, some, told)) asked = absurd (some lacks)

      lacks : ¬ (IsNoPage m.store.meta wanted.page) → LacksNeeded m actor m.store
      lacks some = (wanted.page, needs_it m.store wanted.page refl, some, absent)

      abbrev IsRefusedWell : FetchStop → Type 0
      IsRefusedWell stop = (stop ≢ fetches.ReadFault) → (stop ≢ fetches.Crowded) → m.files ≡ None ⊎ IsNoPage m.store.meta wanted.page

      refused_by : (stop : FetchStop) (halt : Halt) → IsHaltOf stop halt → FetchesNot m.store.meta d wanted.page stop → IsRefusedWell stop → IsHalt m actor m.store halt
      refused_by (fetches.Damaged page (Rule rule)) halt is (same, breaks_it) sound =
          subst (λ (h : Halt). IsHalt m actor m.store h) (sym is) (bad_page page (Rule rule) same (breaks rule (sound (λ is. cc) (λ is. cc)) breaks_it))
      refused_by (fetches.Damaged page (Level asked found)) halt is why sound = absurd why
      refused_by (fetches.Damaged page (Extent asked found)) halt is why sound = absurd why
      refused_by fetches.ReadFault halt is some sound = subst (λ (h : Halt). IsHalt m actor m.store h) (sym is) (lacks some)
      refused_by fetches.Crowded halt is some sound = absurd is

    -- a file that is told is sound, so that the stop is of a number that no page has
    abbrev IsSoundly : FetchStop → Type 0
    IsSoundly stop = (durable : FileState) (later : List FileState) → StoreKeeps d c.store durable later → IsSound (last_of durable later)
        → (stop ≢ fetches.ReadFault) → (stop ≢ fetches.Crowded) → IsNoPage c.store.meta wanted.page

    sound_or_untold : (stop : FetchStop) → IsSoundly stop → (stop ≢ fetches.ReadFault) → (stop ≢ fetches.Crowded) → (m.files ≡ None) ⊎ IsNoPage m.store.meta wanted.page
    sound_or_untold stop sound fault memory = told_or_not d c m (IsNoPage m.store.meta wanted.page) step.shows (sound_where_told m work.goes_on.sound)
        (λ durable later kept is. subst (λ (x : StoreState). IsNoPage x.meta wanted.page) (sym step.shows.store) (sound durable later kept is fault memory))

    -- there is a place for it
    pub not_crowded : IsCrowdedOut wanted.page c.store c.uses → ⊥
    not_crowded (some, absent, none) = work.ready (inr (
      subst (λ (l : List Use). places l ≡ 0) (sym step.shows.uses) none,
      subst (λ (o : Option Wanted). IsSomeAnd o (λ wanted. in_memory m.store wanted.page ≡ None)) (sym wants) (ap (λ (x : StoreState). in_memory x wanted.page) step.shows.store ∙ absent),
    ))

    pub refused : (e : DiskModel) (failed : Type 0) (st : StoreState) (uses : List Use) (stop : FetchStop) (halt : Halt) → IsHaltOf stop halt → LooksUp failed d e c.store st → (st ≡ c.store) × (uses ≡ c.uses)
        → in_memory c.store wanted.page ≡ None → FetchesNot c.store.meta d wanted.page stop → IsSoundly stop → Halts m actor halt e (with_order_of_use uses (with_store st c))
    refused e failed st uses stop halt is looks kept absent why sound =
        let same : m.store ≡ st = step.shows.store ∙ sym kept.0 in
        let none : in_memory m.store wanted.page ≡ None = ap (λ (x : StoreState). in_memory x wanted.page) step.shows.store ∙ absent in
        let not_there : FetchesNot m.store.meta d wanted.page stop = subst (λ (x : StoreState). FetchesNot x.meta d wanted.page stop) (sym step.shows.store) why in
        record {
          brings = brings_none m (MayNeed m actor st) st same;
          shows = shows_but e (with_order_of_use uses (with_store st c)) (with_uses uses (with_disk st m.files m.clock m)) actor latches (shows_store m d e c failed st step.shows looks (ap (λ (x : StoreState). modes (with_disk x m.files m.clock m)) (sym same)) uses);
          cause = subst (λ (x : StoreState). IsHalt m actor x halt) same (refused_by none stop halt is not_there (sound_or_untold stop sound));
          used_is = inl (kept.1 ∙ sym step.shows.uses);
          tied = subst (λ (l : List Use). IsTied st l) (sym kept.1) (subst (λ (x : StoreState). IsTied x c.uses) (sym kept.0) (shown_tied d c m step));
        }

    -- ---- it is fetched, and pinned

    pub may_be_pinned : (uses : List Use) → uses ≡ use_fetched wanted.page c.uses → IsSomeAnd (frame_of uses wanted.page) (λ (u : Use). u.pins < 255)
    may_be_pinned uses is = may_pin m work.goes_on.kept wanted.page uses (is ∙ ap (use_fetched wanted.page) (sym step.shows.uses))

    -- ---- it is fetched, and tested

    module _ (e : DiskModel) (failed : Type 0) (st : StoreState) (looks : LooksUp failed d e c.store st) (memory : IsMemory st) (fetched : Fetched wanted.page c.store st)
        (stays : (id : ℕ) → StaysHere c.uses id → in_memory st id ≡ in_memory c.store id) where
      brings_it : Brings m (λ id. id ≡ wanted.page) st
      brings_it = looked_brings d e c m step failed st looks wanted.page memory fetched stays

      -- the box that was asked for before is still
      pub asks_then : (asked : Option AskedBox) → asked ≡ asked_box activity m.store → asked ≡ asked_box activity st
      asks_then asked is = is ∙ sym (asks_same m actor latches work.goes_on.kept (λ id. id ≡ wanted.page) st brings_it)

      pub many_then : (asked : Option AskedBox) → asked ≡ asked_box activity m.store → HasMany st.meta.k asked
      many_then asked is = subst (HasMany st.meta.k) (sym (asks_then asked is)) (asks_many st memory activity work.working (may_look m actor latches work.goes_on.kept (λ id. id ≡ wanted.page) st brings_it))

      wants_then : wanted_in st activity ≡ Some wanted
      wants_then = wants_same m actor latches work.goes_on.kept (λ id. id ≡ wanted.page) st brings_it ∙ wants

      known_then : IfSome (merging_at activity) (NamesKnown st)
      known_then = names_stay m actor latches work.goes_on.kept (λ id. id ≡ wanted.page) st brings_it

      module _ (uses : List Use) (used : uses ≡ put_last wanted.page pinned (use_fetched wanted.page c.uses)) (tied : IsTied st uses) where
        used_so : uses ≡ use_wanted (Some wanted) m.uses
        used_so = used ∙ ap (λ (l : List Use). put_last wanted.page pinned (use_fetched wanted.page l)) (sym step.shows.uses)

        pub passed : PassesTest st activity wanted → HasCome m actor e (with_order_of_use uses (with_store st c))
        passed passes = record {
          may = work;
          brings = brings_wider m (λ id. id ≡ wanted.page) (IsWantedPage (wanted_by m actor)) st (λ id same. subst (λ (o : Option Wanted). IsWantedPage o id) (sym wants) same) brings_it;
          shows = shows_store m d e c failed st step.shows looks (same_held m _ st brings_it work.goes_on.kept.latches_fit) uses;
          at_hand = subst (λ (o : Option Wanted). IfSome o (λ wanted. (page : LivePage) × IsAtHand (with_uses uses (with_disk st m.files m.clock m)) (m.activity actor) wanted page)) (sym wants)
              (passes.page, record { live = passes.live; level = passes.level; box = passes.box });
          uses = used_so ∙ ap (λ (o : Option Wanted). use_wanted o m.uses) (sym wants);
          tied = tied;
        }

        -- it may be let go
        pub may_let_go : IsSomeAnd (frame_of uses wanted.page) (λ (u : Use). 0 < u.pins)
        may_let_go = subst (λ (l : List Use). IsSomeAnd (frame_of l wanted.page) (λ (u : Use). 0 < u.pins)) (sym used_so)
            (let more = (more_number false m.store.meta (Some wanted) m.uses work.goes_on.kept.frames_fit.tied.pool.distinct).pins wanted.page in
            let one = one_itself wanted.page in
            pinned_frame (use_wanted (Some wanted) m.uses) wanted.page (omega (arith, more, one)))

        left_tied : IsTied st (in_place wanted.page unpinned uses)
        left_tied = tied_unpinned st (wanted.page ∷ []) uses tied (may_let_go, tt)

      has_number : (page : Page) → in_memory st wanted.page ≡ Some page → ¬ (IsNoPage st.meta wanted.page)
      has_number page there lacks =
          let good = memory.good wanted.page page there in
          elim lacks [
            | inl zero ↦ absurd (omega (arith, good.0, zero))
            | inr above ↦ absurd (omega (arith, good.1, above))
          ]

      of_other_level : (page : Page) (live : LivePage) → page ≡ Live live → live.level ≡ wanted.level → IsOfOtherLevel wanted page → ⊥
      of_other_level page live same level other = (subst (IsOfOtherLevel wanted) same other) level

      abbrev Mismatches : Page → Why → Option AskedBox → Type 0
      Mismatches page why o = MatchOption o (IsOfOtherLevel wanted page) (λ asked. IsNotAsked wanted asked page why)

      is_bad : (why : Why) (page : Page) → in_memory st wanted.page ≡ Some page → Mismatches page why (asked_box activity st) → IsBadWanted m.files st (Some wanted) (asked_box activity st) wanted.page why
      is_bad why page there other = elim (asks_or_promotes st activity wanted work.working known_then wants_then) [
        | inl asked ↦ subst (λ (o : Option AskedBox). IsBadWanted m.files st (Some wanted) o wanted.page why) (sym asked.1)
            (refl, inr (inr (has_number page there, page, there, subst (Mismatches page why) asked.1 other)))
        | inr held ↦ absurd (of_other_level page held.page (same_Some page (Live held.page) (sym there ∙ live_so (in_memory st wanted.page) held.page held.live)) held.level (subst (Mismatches page why) held.none other))
      ]

      pub failed_test : (uses left : List Use) (used : uses ≡ put_last wanted.page pinned (use_fetched wanted.page c.uses)) (tied : IsTied st uses) → left ≡ in_place wanted.page unpinned uses
          → (why : Why) → FailsTest st activity wanted why → Halts m actor (Stops (stops.Damaged wanted.page why)) e (with_order_of_use left (with_store st c))
      failed_test uses left used tied let_go why (page, there, other) = record {
        brings = brings_wider m (λ id. id ≡ wanted.page) (MayNeed m actor st) st (needs_it st) brings_it;
        shows = shows_but e (with_order_of_use left (with_store st c)) (with_uses left (with_disk st m.files m.clock m)) actor latches (shows_store m d e c failed st step.shows looks (same_held m _ st brings_it work.goes_on.kept.latches_fit) left);
        used_is = inr (inl (let_go ∙ ap (in_place wanted.page unpinned) (used_so uses used tied) ∙ ap (λ (o : Option Wanted). unpin_each (page_wanted o) (use_wanted o m.uses)) (sym wants)));
        tied = subst (λ (l : List Use). IsTied st l) (sym let_go) (left_tied uses used tied);
        cause = inl (subst (λ (o : Option Wanted). IsBadWanted m.files st o (asked_box activity st) wanted.page why) (sym wants) (is_bad why page there other));
      }
