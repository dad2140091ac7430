-- Over a disk that tells no step meets a damaged page.
use Rattle.hb_steps.proofs.Facts.Names.{◌≡◌, ◌≢◌, ◌⊎◌, inl, inr, ℕ, ◌-◌, ◌<◌, List, [], ◌∷◌, Option, Some, None, IfSome, refl, sym, ap, ◌∙◌, subst, arith, option_and_then, All-head, LivePage, Page, Live, Meta, Mode, Job, Wanted, Activity, Outcome, Deed, goal_of, job_mode, session_mode, walk_held, in_mode, walk_next, wanted_of, wanted_page, MeetsBadPage, looked_live, Brings, ForcesAll, StaysSo, HasSoundFile, LatchesFit, merging_at, Files, Machine, current_file, live_here, Performs, StepsTo, Works, IsActor, FileState, if_live, page_of, IsSound, StoreState, live_so}
use Rattle.std.proofs.Common.{IsTrue}
use Rattle.std.proofs.lemmas.Option.{same_Some}
use Rattle.std.specs.Option.{option_map}
use Rattle.hb_frag.specs.declared.pages.Page.TheVariants.{Free}
use Rattle.hb_latch.specs.declared.modes.Mode.TheVariants.{Exclusive, Shared}
use Rattle.hb_activity.specs.declared.activities.Activity.TheVariants as at
use Rattle.hb_store.specs.declared.stops.Why.{Why}
use Rattle.hb_store.specs.declared.stops.Why.TheVariants.{Rule, Level, Extent}
use Rattle.hb_steps.specs.declared.outcomes.Outcome.TheVariants as outcomes
use Rattle.hb_activity.specs.Wanting.{child_of}
use Rattle.hb_consol.specs.ConsolidatorRows.{names_child}
use Rattle.hb_steps.proofs.Files.AskedPages.{IsThere, begun_there, given_there, held_there, named_child_there, named_there, named_with_box, placed_sibling_there, root_there}
use Rattle.hb_steps.proofs.Memory.BroughtPages.{both_there, told_files}
use Rattle.hb_steps.proofs.TwoSteps.OneOutcome.{outcome_is_one, state_is_one}
use Rattle.hb_steps.proofs.Files.SoundFiles.{FilesHold, brought_shown, current_sound, files_hold}
use Rattle.hb_steps.proofs.Facts.StepKinds.{each_kind, FlushesMore, ready_kind}
use Rattle.hb_steps.specs.Acting.{IsBadWanted, NeedsNumber}
use Rattle.hb_steps.specs.AskedBoxes.{HasAskedBox, IsNotAsked}
use Rattle.hb_steps.specs.Asking.{AskedBox, asked_box, box_at, box_of_child, this_box, wanted_by}
use Rattle.hb_steps.specs.DamageLaws.{IsRefusedOrFails, IsUndamaged, KeptStepIsOne, NoPageIsDamaged, StaysUndamaged}
use Rattle.hb_steps.specs.Fetching.{IsBadHead, IsBadRead, IsDamaged}
use Rattle.hb_steps.specs.Keeps.{WalksInSpace}
use Rattle.hb_steps.specs.KeptMerges.{AtParent, KeepsPair, NamesKnown}
use Rattle.hb_steps.specs.Machines.{with_disk}
use Rattle.hb_steps.specs.OutcomeLaws.{AreOne, ComesToSame, IsTurnedAside}
use Rattle.hb_space.specs.Boxes.{whole_area}
use Rattle.hb_ops.proofs.Facts.FilePages.{page_in_range, sound_head, sound_room}
use Rattle.hb_store.specs.Calls.{CommitsBringNone}
use Rattle.hb_store.specs.Fetching.{IsNoPage}
use Rattle.hb_lemmas.proofs.Options.{some_of_map, some_of_then}
use Rattle.hb_steps.proofs.Memory.NeededPages.{needs_room}
use Rattle.hb_steps.proofs.Facts.LaterPages.{file_sound, shown_live}

-- what a disk that tells reads is never damaged
no_bad_read : (files : Files) (st : StoreState) (id : ℕ) (why : Why) → IsBadRead (Some files) st id why → ⊥
no_bad_read files st id (Rule rule) (silent, _, _) = cc
no_bad_read files st id (Level level found) never = never
no_bad_read files st id (Extent area found) never = never

module _ (files : Files) (st : StoreState) (holds : FilesHold st files) where
  s : FileState
  s = current_file files

  abbrev IsNumbered : ℕ → Type 0
  IsNumbered id = (page : Page) × (page_of (current_file files) id ≡ Some page)

  -- the page has a number of the file
  no_lack : (id : ℕ) → IsNumbered id → IsNoPage st.meta id → ⊥
  no_lack id (page, is) lacks =
      let sound = current_sound st files holds in
      let range = page_in_range (current_file files).pages id page is in
      let numbered = sound.rooted.numbered in
      let high : (current_file files).meta.high ≡ st.meta.high = ap (λ (m : Meta). m.high) holds.meta in
      elim lacks [
        | inl zero ↦ absurd (omega (arith, range.0, zero))
        | inr above ↦ absurd (omega (arith, range.1, numbered, high, above))
      ]

  -- who asks for a page that is there isn't told that it is another one
  not_other : (wanted : Wanted) (asked : AskedBox) (page : LivePage) (why : Why) → page.level ≡ wanted.level → HasAskedBox asked page.area → IsNotAsked wanted asked (Live page) why → ⊥
  not_other wanted asked page (Rule rule) level box never = never
  not_other wanted asked page (Level level found) on box (other, a, b) = other on
  not_other wanted asked page (Extent area found) on box (level, other, a, b) = other box

  pub not_damaged : (wanted : Wanted) (asked : AskedBox) (why : Why) → IsThere (current_file files) wanted asked → IsDamaged (Some files) st wanted asked why → ⊥
  not_damaged wanted asked why there (inl (lacks, is)) = no_lack wanted.page (Live there.page, live_so (page_of (current_file files) wanted.page) there.page there.live) lacks
  not_damaged wanted asked why there (inr (inl (some, bad))) = no_bad_read files st wanted.page why bad
  not_damaged wanted asked why there (inr (inr (some, page, read, other))) =
      let same : page ≡ Live there.page = same_Some page (Live there.page) (sym (holds.shown wanted.page page read) ∙ live_so (page_of (current_file files) wanted.page) there.page there.live) in
      not_other wanted asked there.page why there.level there.box (subst (λ (p : Page). IsNotAsked wanted asked p why) same other)

  -- the first page of the free chain is free, and where the chain has none there is a number left
  pub no_bad_head : (id : ℕ) (why : Why) → st.meta.live < st.meta.pages → IsBadHead (Some files) st id why → ⊥
  no_bad_head id why room bad = by bad
    where
      sound : IsSound (current_file files)
      sound = current_sound st files holds

      free : (current_file files).meta.free ≡ st.meta.free
      free = ap (λ (m : Meta). m.free) holds.meta

      head : st.meta.free ≢ 0 → id ≡ st.meta.free → (next : ℕ) × (page_of (current_file files) id ≡ Some (Free next))
      head some is =
          let one = sound_head (current_file files) sound (λ none. some (sym free ∙ none)) in
          (one.0, ap (page_of (current_file files)) (is ∙ sym free) ∙ one.1)

      by : IsBadHead (Some files) st id why → ⊥
      by (inl (some, is, lacks, w)) = let one = head some is in no_lack id (Free one.0, one.1) lacks
      by (inr (inl (some, is, lacks, bad))) = no_bad_read files st id why bad
      by (inr (inr (inl (some, is, page, live, w)))) =
          let one = head some is in
          let same : Some (Live page) ≡ Some (Free one.0) = sym (holds.shown id (Live page) live) ∙ one.1 in
          cc
      by (inr (inr (inr (none, high, is, w)))) =
          let full = sound_room (current_file files) sound (free ∙ none) (ap (λ (m : Meta). m.high) holds.meta ∙ high ∙ sym (ap (λ (m : Meta). m.pages) holds.meta)) in
          let live : (current_file files).meta.live ≡ st.meta.live = ap (λ (m : Meta). m.live) holds.meta in
          let pages : (current_file files).meta.pages ≡ st.meta.pages = ap (λ (m : Meta). m.pages) holds.meta in
          omega (arith, full, live, pages, room)

module _ (m : Machine) (files : Files) (actor : ℕ) (may : IsActor actor) (fit : LatchesFit m) (has : HasSoundFile m files) (walks : WalksInSpace m)
    (told : m.files ≡ Some files) (needs : ℕ → Type 0) (fetched : StoreState) (brings : Brings m needs fetched) where
  meta : (current_file files).meta ≡ m.store.meta
  meta = has.meta

  same_k : fetched.meta.k ≡ m.store.meta.k
  same_k = ap (λ (s : StoreState). s.meta.k) brings.rest

  -- the page into which the step looks is there as it was
  still_asked : (id : ℕ) (page : LivePage) → live_here m.store id ≡ Some page → (now : LivePage) × (live_here fetched id ≡ Some now) → live_here fetched id ≡ Some page
  still_asked id page live (now, is) = both_there m needs fetched brings id page now (inl (told_files m files told)) live is

  asked_then : {A B C : Type 0} (g : B → C) (f : A → Option B) (o : Option A) (asked : C) → option_map g (option_and_then f o) ≡ Some asked → (a : A) × (o ≡ Some a)
  asked_then g f o asked is = let inner = some_of_map g (option_and_then f o) asked is in some_of_then f o inner.0 inner.1

  -- the page that a walk holds
  walk_page : (held : ℕ) → walk_held (m.activity actor) ≡ Some held → (page : LivePage) × (live_here m.store held ≡ Some page)
  walk_page held is = let one = fit.walking actor held is in (one.0, ap if_live one.1)

  -- the child at the point, of a parent that a poster holds
  at_parent : (job : Job) (parent : ℕ) (wanted : Wanted) (asked : AskedBox) (page : LivePage) → live_here m.store parent ≡ Some page
      → in_mode (λ level. Shared) (option_and_then (λ (page : LivePage). child_of page job.point) (live_here m.store parent)) ≡ Some wanted → box_at (live_here fetched parent) (Some job.point) ≡ Some asked → IsThere (current_file files) wanted asked
  at_parent job parent wanted asked page live wants asks =
      named_there (current_file files) (file_sound m files has) parent page (shown_live m.store (current_file files) has.shown parent page live) job.point wanted asked
      (subst (λ (o : Option LivePage). in_mode (λ level. Shared) (option_and_then (λ (page : LivePage). child_of page job.point) o) ≡ Some wanted) live wants)
      (subst (λ (o : Option LivePage). box_at o (Some job.point) ≡ Some asked) (still_asked parent page live (some_of_then _ (live_here fetched parent) asked asks)) asks)

  walk_on : (id : ℕ) (goal : Option (List ℕ)) (mode : ℕ → Mode) (wanted : Wanted) (asked : AskedBox) → walk_held (m.activity actor) ≡ Some id → in_mode mode (walk_next goal (Some id) m.store.meta (live_here m.store id)) ≡ Some wanted
      → box_at (live_here fetched id) goal ≡ Some asked → IsThere (current_file files) wanted asked
  walk_on id goal mode wanted asked is wants asks =
      let one = walk_page id is in
      held_there (current_file files) (file_sound m files has) id one.0 (shown_live m.store (current_file files) has.shown id one.0 one.1) mode m.store.meta goal (live_here m.store id) (live_here fetched id) wanted asked one.1
      (still_asked id one.0 one.1 (some_of_then _ (live_here fetched id) asked asks)) wants asks

  walk_begins : (goal : Option (List ℕ)) (mode : ℕ → Mode) (wanted : Wanted) (asked : AskedBox) → in_mode mode (walk_next goal None m.store.meta None) ≡ Some wanted
      → Some (this_box (whole_area fetched.meta.k)) ≡ Some asked → IsThere (current_file files) wanted asked
  walk_begins goal mode wanted asked wants asks = begun_there (current_file files) (file_sound m files has) mode m.store.meta fetched.meta.k goal None wanted asked meta same_k wants asks

  -- a child of the parent that a consolidator holds
  by_child : (parent name : ℕ) (mode : Mode) (above : Option LivePage) (wanted : Wanted) (asked : AskedBox) → live_here m.store parent ≡ above → option_map (λ (page : LivePage). wanted_page name (page.level - 1) mode) above ≡ Some wanted
      → box_of_child (live_here fetched parent) name ≡ Some asked → IsThere (current_file files) wanted asked
  by_child parent name mode None wanted asked is wants asks = cc
  by_child parent name mode (Some page) wanted asked is wants asks =
      named_child_there (current_file files) (file_sound m files has) parent page (shown_live m.store (current_file files) has.shown parent page is) name mode (live_here fetched parent) wanted asked (still_asked parent page is (asked_then _ _ (live_here fetched parent) asked asks))
      (same_Some (wanted_page name (page.level - 1) mode) wanted wants) asks

  abbrev at_parent_of : Job → ℕ → ℕ → ℕ → Option ℕ → AtParent
  at_parent_of job parent keep gone leaf = record { job = job; parent = parent; known = keep ∷ gone ∷ []; pair = Some (record { keep = keep; gone = gone; leaf = leaf }) }

  at_pair : (job : Job) (parent keep gone : ℕ) (leaf : Option ℕ) → merging_at (m.activity actor) ≡ Some (at_parent_of job parent keep gone leaf) → (above : LivePage) × KeepsPair m.store above (record { keep = keep; gone = gone; leaf = leaf })
  at_pair job parent keep gone leaf is = let known : NamesKnown m.store (at_parent_of job parent keep gone leaf) = subst (λ (o : Option AtParent). IfSome o (NamesKnown m.store)) is (walks.merging actor) in (known.page, known.pair)

  there : (activity : Activity) (wanted : Wanted) (asked : AskedBox) → m.activity actor ≡ activity → wanted_of activity m.store.meta (looked_live m.store activity) ≡ Some wanted → asked_box activity fetched ≡ Some asked → IsThere (current_file files) wanted asked
  there (at.SessionWalk line None rest found) wanted asked is wants asks = walk_begins (goal_of line.command rest) (session_mode line.command) wanted asked wants asks
  there (at.SessionWalk line (Some id) rest found) wanted asked is wants asks = walk_on id (goal_of line.command rest) (session_mode line.command) wanted asked (ap walk_held is) wants asks
  there (at.PosterWalk job None) wanted asked is wants asks = walk_begins (Some job.point) (job_mode job) wanted asked wants asks
  there (at.PosterWalk job (Some id)) wanted asked is wants asks = walk_on id (Some job.point) (job_mode job) wanted asked (ap walk_held is) wants asks
  there (at.ConsolidatorWalk job None) wanted asked is wants asks = walk_begins (Some job.point) (job_mode job) wanted asked wants asks
  there (at.ConsolidatorWalk job (Some id)) wanted asked is wants asks = walk_on id (Some job.point) (job_mode job) wanted asked (ap walk_held is) wants asks
  there (at.PosterGrow job) wanted asked is wants asks =
      root_there (current_file files) (file_sound m files has) m.store.meta fetched.meta.k (m.store.meta.height - 1) Exclusive wanted asked meta same_k refl
      (same_Some (wanted_page m.store.meta.root (m.store.meta.height - 1) Exclusive) wanted wants) (same_Some (this_box (whole_area fetched.meta.k)) asked asks)
  there (at.PosterChild job parent) wanted asked is wants asks = let one = walks.parents actor job parent (inl is) in at_parent job parent wanted asked one.0 one.1 wants asks
  there (at.PosterAgain job parent) wanted asked is wants asks = let one = walks.parents actor job parent (inr (inr is)) in at_parent job parent wanted asked one.0 one.1 wants asks
  there (at.ConsolidatorScan job parent child) wanted asked is wants asks = by_child parent child Shared (live_here m.store parent) wanted asked refl wants asks
  there (at.ConsolidatorTry job parent keep gone leaf) wanted asked is wants asks =
      let one = (at_pair job parent keep gone (Some leaf) (ap merging_at is)).1 in
      placed_sibling_there (current_file files) (file_sound m files has) keep one.page (shown_live m.store (current_file files) has.shown keep one.page one.live) gone leaf Shared (live_here fetched keep) wanted asked (still_asked keep one.page one.live (some_of_then _ (live_here fetched keep) asked asks)) one.gave
      (same_Some (wanted_page gone one.page.level Shared) wanted (sym (ap (λ (o : Option LivePage). option_map (λ (page : LivePage). wanted_page gone page.level Shared) o) one.live) ∙ wants)) asks
  there (at.ConsolidatorKeep job parent keep gone) wanted asked is wants asks = by_child parent keep Exclusive (live_here m.store parent) wanted asked refl wants asks
  there (at.ConsolidatorDecide job parent keep gone) wanted asked is wants asks =
      let place = walks.merging actor in
      let known : NamesKnown m.store (at_parent_of job parent keep gone None) = subst (λ (o : Option AtParent). IfSome o (NamesKnown m.store)) (ap merging_at is) place in
      let pair = known.pair in
      let above = named_with_box known.page keep (All-head (λ (id : ℕ). IsTrue (names_child known.page id)) keep (gone ∷ []) known.names) in
      let kept = (file_sound m files has).children parent known.page keep above.0 (shown_live m.store (current_file files) has.shown parent known.page known.live) above.1 in
      let same : kept.0 ≡ pair.page = same_Some kept.0 pair.page (sym kept.1 ∙ shown_live m.store (current_file files) has.shown keep pair.page pair.live) in
      given_there (current_file files) (file_sound m files has) keep pair.page (shown_live m.store (current_file files) has.shown keep pair.page pair.live) gone (known.page.level - 1) Exclusive (live_here fetched keep) wanted asked
      (still_asked keep pair.page pair.live (asked_then _ _ (live_here fetched keep) asked asks)) (let level : pair.page.level ≡ kept.0.level = ap (λ (p : LivePage). p.level) (sym same) in omega (arith, level, kept.2))
      (same_Some (wanted_page gone (known.page.level - 1) Exclusive) wanted (sym (ap (λ (o : Option LivePage). option_map (λ (page : LivePage). wanted_page gone (page.level - 1) Exclusive) o) known.live) ∙ wants)) asks
  there activity wanted asked is wants asks = cc

pub no_page_is_damaged : NoPageIsDamaged
no_page_is_damaged m files actor outcome new may told fit has walks bad = by bad.bad
  where
    holds : FilesHold bad.fetched files
    holds = brought_shown m files _ bad.fetched told bad.brings (files_hold m files has)

    by_wanted : (w : Option Wanted) (a : Option AskedBox) → wanted_by m actor ≡ w → asked_box (m.activity actor) bad.fetched ≡ a → IsBadWanted m.files bad.fetched w a bad.page bad.why → ⊥
    by_wanted None a wants asks never = never
    by_wanted (Some w) None wants asks never = never
    by_wanted (Some w) (Some a) wants asks (is, damaged) =
        not_damaged files bad.fetched holds w a bad.why
        (there m files actor may fit has walks told _ bad.fetched bad.brings (m.activity actor) w a refl wants asks)
        (subst (λ (o : Option Files). IsDamaged o bad.fetched w a bad.why) told damaged)

    by : IsBadWanted m.files bad.fetched (wanted_by m actor) (asked_box (m.activity actor) bad.fetched) bad.page bad.why
        ⊎ (NeedsNumber (m.activity actor) (wanted_by m actor) (with_disk bad.fetched m.files m.clock m) × IsBadHead m.files bad.fetched bad.page bad.why) → ⊥
    by (inl wanted) = by_wanted (wanted_by m actor) (asked_box (m.activity actor) bad.fetched) refl refl wanted
    by (inr (needs, head)) =
        no_bad_head files bad.fetched holds bad.page bad.why (needs_room (m.activity actor) (wanted_by m actor) (with_disk bad.fetched m.files m.clock m) needs)
        (subst (λ (o : Option Files). IsBadHead o bad.fetched bad.page bad.why) told head)

-- ---- so only a write fault stops a machine

module _ (m : Machine) (files : Files) (actor : ℕ) (outcome : Outcome) (new : Machine) (none : MeetsBadPage m actor outcome new → ⊥) where
  same_stop : new.stop ≡ m.stop → IsUndamaged m → IsUndamaged new
  same_stop is (inl runs) = inl (is ∙ runs)
  same_stop is (inr failed) = inr (is ∙ failed)

  stays : (said : Outcome) → StaysSo m said outcome new → IsUndamaged m → IsUndamaged new
  stays said (says, is) = same_stop (ap (λ (x : Machine). x.stop) is)

  forces : (said : Outcome) → ForcesAll m said outcome new → IsUndamaged m → IsUndamaged new
  forces said (inl (says, is)) = same_stop (ap (λ (x : Machine). x.stop) is)
  forces said (inr badly) = λ well. inr (ap (λ (x : Machine). x.stop) badly.1.stops)

  performed : (fetched : StoreState) (deed : Deed) → Performs m fetched actor deed outcome new → IsUndamaged m → IsUndamaged new
  performed fetched deed performs = same_stop performs.stop

  more : FlushesMore m outcome new → IsUndamaged m → IsUndamaged new
  more (empty, inl (page, oldest, due, quiet, well)) = same_stop (ap (λ (x : Machine). x.stop) well.leaves)
  more (empty, inr (inl (old, due, quiet, turns))) = same_stop (ap (λ (x : Machine). x.stop) turns.leaves)
  more (empty, inr (inr (calls, left, fails))) = λ well. inr (ap (λ (x : Machine). x.stop) fails.stops)

  works : Works m actor outcome new → IsUndamaged m → IsUndamaged new
  works (inl (by, way, so)) = stays (outcomes.Blocked by) so
  works (inr (inl (free, unready, inl (waits, force)))) = forces outcomes.Helped force
  works (inr (inl (free, unready, inr (empty, rest)))) = ready_kind m outcome new (IsUndamaged m → IsUndamaged new) empty more rest
  works (inr (inr (free, ready, inl row))) = performed row.fetched row.deed row.performs
  works (inr (inr (free, ready, inr (inl gives)))) = performed gives.fetched _ gives.performs
  works (inr (inr (free, ready, inr (inr bad)))) = absurd (none bad)

  undamaged_after : StepsTo m actor outcome new → IsUndamaged m → IsUndamaged new
  undamaged_after step =
      each_kind m actor outcome new (IsUndamaged m → IsUndamaged new) (λ said quiet so. stays said so) (λ said quiet force. forces said force) more
      (λ deed outright performs. performed m.store deed performs) works step

pub stays_undamaged : StaysUndamaged
stays_undamaged m files actor outcome new may told fit has walks step = undamaged_after m files actor outcome new (no_page_is_damaged m files actor outcome new may told fit has walks) step

-- ---- and of a machine that keeps all two steps lead to machines that are one

pub kept_step_is_one : CommitsBringNone → KeptStepIsOne
kept_step_is_one commits n m files actor outcome other new next may keeps first second =
    by (outcome_is_one m actor outcome other new next first second) (state_is_one commits m files actor outcome other new next keeps.told keeps.kept.pages_of_file keeps.kept.room_known first second)
  where
    refused : (said : Outcome) (after : Machine) → IsTurnedAside m actor said after → IsRefusedOrFails m actor said after
    refused said after (inl search) = inl search
    refused said after (inr (inl force)) = inr (inl force)
    refused said after (inr (inr (inl gives))) = inr (inr gives)
    refused said after (inr (inr (inr bad))) = absurd (no_page_is_damaged m files actor said after may keeps.told keeps.kept.latches_fit keeps.sound_file keeps.kept.walk_in_space bad)

    by : IsTurnedAside m actor outcome new ⊎ IsTurnedAside m actor other next ⊎ ComesToSame outcome other new next → IsTurnedAside m actor outcome new ⊎ IsTurnedAside m actor other next ⊎ AreOne new next
        → IsRefusedOrFails m actor outcome new ⊎ IsRefusedOrFails m actor other next ⊎ ((outcome ≡ other) × AreOne new next)
    by (inl aside) said = inl (refused outcome new aside)
    by (inr (inl aside)) said = inr (inl (refused other next aside))
    by (inr (inr same)) (inl aside) = inl (refused outcome new aside)
    by (inr (inr same)) (inr (inl aside)) = inr (inl (refused other next aside))
    by (inr (inr same)) (inr (inr is)) = inr (inr (same.says, is))
