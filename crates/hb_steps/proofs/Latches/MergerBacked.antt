-- Where the latches of a consolidator come from, after each of its rows: each was held before, or is the one that the step wanted.
use Rattle.hb_steps.proofs.Latches.Names.{◌≡◌, inl, inr, ℕ, Bool, cond, [], ◌∷◌, length, Option, Some, None, refl, sym, ap, ◌∙◌, subst, eq-eqb, LivePage, Mode, Shared, Update, Exclusive, Job, Wanted, Activity, Deed, latch_on, job_mode, walk_next, wanted_of, of_page, in_its_mode, HasWayFree, looked_live, wanted_by, Brings, HoldsPagesOfFile, LatchesFit, IsMerging, Machine, with_disk, sight, MayDo, Row, RowAt, IsActor, if_live, Area, StoreState, in_memory, at_itself}
use Rattle.hb_terms.specs.declared.merging.MergePlan.{MergePlan}
use Rattle.hb_terms.specs.declared.merging.MergePlan.TheVariants as plans
use Rattle.hb_activity.specs.declared.activities.Activity.TheVariants as at
use Rattle.hb_consol.specs.ConsolidatorRows.{after_try, children_of, one_behind, scans, tries}
use Rattle.hb_consol.specs.MergeRows.{DoesMerge, after_keep}
use Rattle.hb_steps.proofs.Latches.Backing.{AreBacked, Backed, BackedIn, IsBacked, at_hand, backed_deed, backed_row, goes, held_backed, live_now, one_backed, own_mode, rests, stands, there_now, walk_backed, both_backed}
use Rattle.hb_steps.specs.Performing.{latches_held, mode_among}
use Rattle.hb_frag.specs.Leaves.{first_named, siblings_of}

module _ (m : Machine) (actor : ℕ) (may : ℕ → Type 0) (fetched : StoreState) (new : StoreState) (latches : IsActor actor) (fit : LatchesFit m) (inside : HoldsPagesOfFile m) (free : HasWayFree m actor) (brings : Brings m may fetched)
    (wanted : Wanted) (page : LivePage) (wants : wanted_by m actor ≡ Some wanted) (live : if_live (in_memory fetched wanted.page) ≡ Some page) (level : page.level ≡ wanted.level) (none : new ≡ fetched) where
  abbrev pub m' : Machine
  m' = with_disk fetched m.files m.clock m

  abbrev Backs : Deed → Type 0
  Backs = Backed m actor may fetched new latches fit inside free brings

  backs : (deed other : Deed) → deed ≡ other → Backs other → Backs deed
  backs deed other is backed = backed_deed m actor may fetched new latches fit inside free brings deed other is backed

  -- the latch at hand, and one that was held
  latched_on : (id : ℕ) (mode : Mode) → (wanted.page ≡ id) × (wanted.mode ≡ mode) → IsBacked m actor new id mode
  latched_on id mode is = subst (λ (n : ℕ). IsBacked m actor new n mode) is.0 (at_hand m actor may fetched new latches fit inside free brings wanted page wants live level none mode is.1)

  held : (activity : Activity) (id : ℕ) (mode : Mode) → m.activity actor ≡ activity → mode_among id (latches_held m.store activity) ≡ Some mode → IsBacked m actor new id mode
  held activity id mode is among = held_backed m actor may fetched new latches fit inside free brings id mode none (own_mode m actor may fetched new latches fit inside free brings activity id mode is among)

  -- what the step wants, by the activity
  wants_as : (activity : Activity) → m.activity actor ≡ activity → wanted_of activity m.store.meta (looked_live m.store activity) ≡ Some wanted
  wants_as activity is = subst (λ (a : Activity). wanted_of a m.store.meta (looked_live m.store a) ≡ Some wanted) is wants

  walk_mode : (job : Job) (on : Option ℕ) → m.activity actor ≡ at.ConsolidatorWalk job on → wanted.mode ≡ job_mode job page.level
  walk_mode job on is =
      let walk : Activity = at.ConsolidatorWalk job on in
      in_its_mode (job_mode job) (walk_next (Some job.point) on m.store.meta (looked_live m.store walk)) wanted (wants_as walk is) ∙ ap (job_mode job) (sym level)

  -- ---- the next child, and the next pair

  scan_next : (job : Job) (parent : ℕ) (child : Option ℕ) → IsBacked m actor new parent Update → Backs (scans job parent child)
  scan_next job parent None backed = rests m actor new _ refl refl
  scan_next job parent (Some child) backed = stands m actor new (at.ConsolidatorScan job parent child) refl (one_backed m actor new parent Update backed)

  try_next : (job : Job) (parent keep : ℕ) (above : LivePage) (pair : Option (ℕ × ℕ)) → IsBacked m actor new parent Update → AreBacked m actor new (latch_on parent Update ∷ latch_on keep Shared ∷ []) → Backs (tries job parent above keep pair)
  try_next job parent keep above None backed both = scan_next job parent (one_behind keep (children_of above)) backed
  try_next job parent keep above (Some (gone, leaf)) backed both = stands m actor new (at.ConsolidatorTry job parent keep gone leaf) refl both

  -- both latches of a pair that is tried stay
  pair_stays : (job : Job) (parent keep gone leaf : ℕ) → m.activity actor ≡ at.ConsolidatorTry job parent keep gone leaf → AreBacked m actor new (latch_on parent Update ∷ latch_on keep Shared ∷ [])
  pair_stays job parent keep gone leaf is id mode among = held (at.ConsolidatorTry job parent keep gone leaf) id mode is among

  plan_next : (job : Job) (parent keep gone leaf : ℕ) (above kept : LivePage) (plan : MergePlan) → m.activity actor ≡ at.ConsolidatorTry job parent keep gone leaf → Backs (after_try job parent keep gone leaf above kept plan)
  plan_next job parent keep gone leaf above kept plan is = by plan
    where
      parent_stays : IsBacked m actor new parent Update
      parent_stays = held (at.ConsolidatorTry job parent keep gone leaf) parent Update is (at_itself parent (Some Update) (mode_among parent (latch_on keep Shared ∷ [])))

      by : (plan : MergePlan) → Backs (after_try job parent keep gone leaf above kept plan)
      by plans.Merge = stands m actor new (at.ConsolidatorPromote job parent keep gone) refl (one_backed m actor new parent Update parent_stays)
      by plans.NotContained = try_next job parent keep above _ parent_stays (pair_stays job parent keep gone leaf is)
      by plans.ManyParents = try_next job parent keep above _ parent_stays (pair_stays job parent keep gone leaf is)
      by plans.TooHeavy = try_next job parent keep above _ parent_stays (pair_stays job parent keep gone leaf is)

  keep_next : (job : Job) (parent keep gone : ℕ) (area : Option Area) → m.activity actor ≡ at.ConsolidatorKeep job parent keep gone → Backs (after_keep job parent keep gone area)
  keep_next job parent keep gone None is = rests m actor new _ refl refl
  keep_next job parent keep gone (Some area) is =
      let keeping : Activity = at.ConsolidatorKeep job parent keep gone in
      stands m actor new (at.ConsolidatorDecide job parent keep gone) refl (both_backed m actor new parent keep Exclusive Exclusive (held keeping parent Exclusive is (at_itself parent (Some Exclusive) None))
      (latched_on keep Exclusive (of_page keep _ Exclusive (looked_live m.store keeping) wanted (wants_as keeping is))))

  -- ---- the rows

  -- decided either way, it holds nothing
  decides_so : (job : Job) (parent keep gone : ℕ) (above : LivePage) (plan : MergePlan) (deed : Deed) → DoesMerge (sight m') job parent keep gone above plan deed → Backs deed
  decides_so job parent keep gone above plans.Merge deed (inl row) = backs deed _ row.deed_is (rests m actor new _ refl refl)
  decides_so job parent keep gone above plans.Merge deed (inr row) = backs deed _ row.deed_is (rests m actor new _ refl refl)
  decides_so job parent keep gone above plans.NotContained deed is = backs deed _ is (rests m actor new _ refl refl)
  decides_so job parent keep gone above plans.ManyParents deed is = backs deed _ is (rests m actor new _ refl refl)
  decides_so job parent keep gone above plans.TooHeavy deed is = backs deed _ is (rests m actor new _ refl refl)

  arrives : (job : Job) (on : Option ℕ) → m.activity actor ≡ at.ConsolidatorWalk job on → page.level ≡ job.level → IsBacked m actor new wanted.page Update
  arrives job on is same = at_hand m actor may fetched new latches fit inside free brings wanted page wants live level none Update (walk_mode job on is ∙ ap (λ (b : Bool). cond b Update Shared) (eq-eqb page.level job.level same))

  goes_on : (job : Job) (on : Option ℕ) → m.activity actor ≡ at.ConsolidatorWalk job on → BackedIn m actor new (at.ConsolidatorWalk job (Some wanted.page))
  goes_on job on is =
      goes m actor new (at.ConsolidatorWalk job (Some wanted.page)) wanted.page page refl (there_now m actor may fetched new latches fit inside free brings wanted page wants live level none)
      (walk_backed m actor new wanted.page page (job_mode job) (live_now m actor may fetched new latches fit inside free brings wanted page wants live level none) (at_hand m actor may fetched new latches fit inside free brings wanted page wants live level none (job_mode job page.level) (walk_mode job on is)))

  pub merger_backed : (activity : Activity) (deed : Deed) → IsMerging activity → m.activity actor ≡ activity → RowAt activity (sight m') wanted.page page deed → Backs deed
  merger_backed (at.ConsolidatorWalk job on) deed kind is (inl row) = backs deed _ row.deed_is (scan_next job wanted.page _ (arrives job on is row.level))
  merger_backed (at.ConsolidatorWalk job on) deed kind is (inr row) = backs deed _ row.passes.deed_is (goes_on job on is)
  merger_backed (at.ConsolidatorScan job parent child) deed kind is row =
      let scan : Activity = at.ConsolidatorScan job parent child in
      let parent_stays = held scan parent Update is (at_itself parent (Some Update) None) in
      backs deed _ row.deed_is (try_next job parent child row.above _ parent_stays (both_backed m actor new parent child Update Shared parent_stays (latched_on child Shared (of_page child _ Shared (looked_live m.store scan) wanted (wants_as scan is)))))
  merger_backed (at.ConsolidatorTry job parent keep gone leaf) deed kind is row = backs deed _ row.deed_is (plan_next job parent keep gone leaf row.has.above row.has.kept row.has.plan is)
  merger_backed (at.ConsolidatorPromote job parent keep gone) deed kind is row =
      let promote : Activity = at.ConsolidatorPromote job parent keep gone in
      backs deed _ row (stands m actor new (at.ConsolidatorKeep job parent keep gone) refl (one_backed m actor new parent Exclusive (latched_on parent Exclusive (of_page parent _ Exclusive (looked_live m.store promote) wanted (wants_as promote is)))))
  merger_backed (at.ConsolidatorKeep job parent keep gone) deed kind is row = backs deed _ row (keep_next job parent keep gone (first_named gone (siblings_of page)) is)
  merger_backed (at.ConsolidatorDecide job parent keep gone) deed kind is row = decides_so job parent keep gone row.has.above row.has.plan deed row.does_it
  merger_backed activity deed kind is row = absurd kind

-- ---- every row

module _ (m : Machine) (actor : ℕ) (may : ℕ → Type 0) (fetched : StoreState) (new : StoreState) (latches : IsActor actor) (fit : LatchesFit m) (inside : HoldsPagesOfFile m) (free : HasWayFree m actor) (brings : Brings m may fetched) where
  abbrev now : Machine
  now = with_disk fetched m.files m.clock m

  pub every_row_backed : (wanted : Option Wanted) (deed : Deed) → wanted_by m actor ≡ wanted → MayDo deed.op (length m.order) fetched new → Row (m.activity actor) wanted now deed → BackedIn m actor new deed.next
  every_row_backed wanted deed wants done row = backed_row m actor may fetched new latches fit inside free brings wanted deed
      (λ its page asks live level activity deed none kind is row. merger_backed m actor may fetched new latches fit inside free brings its page asks live level none activity deed kind is row) wants done row
