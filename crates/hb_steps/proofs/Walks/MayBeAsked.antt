-- The deciders may be asked at the page that a kept machine's step has at hand.
use Rattle.hb_steps.proofs.Walks.Names.{◌≡◌, ◌≢◌, ◌⊎◌, inl, inr, ℕ, ◌≤◌, List, [], ◌∷◌, Option, Some, None, IfSome, refl, sym, ap, ◌∙◌, subst, arith, option_and_then, same_Some, Area, Holds, Leaf, Records, Child, Sibling, LivePage, Live, Placed, leaf_at, Mode, Exclusive, IsActor, if_live, Meta, first_held, placed, Job, Wanted, Activity, job_in_work, latch_on, LeadsBelow, goal_of, job_mode, session_mode, walk_held, walk_point, in_mode, named_page, walk_next, wanted_of, IsGoodPage, StoreState, fetched_good, AnyPage, HasItsBox, asked_box, box_at, box_by_leaf, looked_live, Brings, JobFits, LineFits, StandsAbove, walking_job, MachineKeeps, Machine, live_here, latches_held, mode_among, own_there, at_itself}
use Rattle.std.proofs.Common.{length, MatchOption}
use Rattle.std.specs.List.{All}
use Rattle.hb_space.specs.Boxes.{whole_area}
use Rattle.hb_space.specs.Points.{IsPoint}
use Rattle.hb_space.specs.declared.records.Record.{Record}
use Rattle.hb_space.proofs.Facts.Boxes.{Holds-whole_area}
use Rattle.hb_frag.proofs.Facts.Tiles.{first_tells}
use Rattle.hb_frag.specs.Leaves.{DirectlyHolds}
use Rattle.hb_set.specs.declared.commands.Command.{Command}
use Rattle.hb_set.specs.declared.commands.Command.TheVariants.{Insert, Delete, Lookup, Search}
use Rattle.hb_activity.specs.declared.activities.Activity.TheVariants as at
use Rattle.hb_activity.specs.Classes.{line_in_hand}
use Rattle.hb_point.specs.Asks.{MayAsk, WalksInside}
use Rattle.hb_point.specs.SessionRows.{WantsBoxes}
use Rattle.hb_poster.specs.Asks.{LooksBelow, MayBeAsked}
use Rattle.hb_space.proofs.Facts.Boxes.{Holds-within as holds_within}
use Rattle.hb_search.specs.Searching.{MaySearch, SearchesInside, StaysGathering}
use Rattle.hb_steps.proofs.Walks.AtHand.{good_here, walked_there}
use Rattle.hb_steps.proofs.Walks.WalkingWorkers.{walk_wants_above}
use Rattle.hb_steps.proofs.Walks.WalksKept.{IsAtParent, parent_latched}
use Rattle.hb_steps.specs.AskedLaws.{AsksToPut, AsksToSplit, AsksWithParent, ChildrenMayBeAsked, OthersMayBeAsked, PagesAtHandFit, PointsMayBeAsked, PosterWalksMayBeAsked, PutsMayBeAsked, SearchesMayBeAsked, SplitsMayBeAsked, WalksStayInside}
use Rattle.hb_steps.specs.Keeps.{LacksRoomFor, OneHasRoom}
use Rattle.hb_steps.specs.KeptFits.{CommandFits, IsBoxOf, boxes_left}
use Rattle.hb_steps.proofs.Machines.AddedJobs.{goal_fits}
use Rattle.hb_steps.proofs.Memory.OwnedOps.{second_mode}

pub pages_at_hand_fit : PagesAtHandFit
pages_at_hand_fit m fetched id page keeps brings live = (keeps.meta_within_limits.layout, (fetched_good m AnyPage fetched keeps.pages_of_file brings id page live).1)

-- ---- how many attributes the point of a walk has

point_has : (k : ℕ) (activity : Activity) (p : List ℕ) → IfSome (line_in_hand activity) (LineFits k) → IfSome (job_in_work activity) (JobFits k) → All (IsBoxOf k) (boxes_left activity) → walk_point activity ≡ Some p → length p ≡ k
point_has k (at.SessionWalk line held rest found) p in_hand in_work boxes is = goal_fits k line.command rest p in_hand.command boxes is
point_has k (at.PosterWalk job held) p in_hand in_work boxes is = sym (ap (λ (q : List ℕ). length q) (same_Some job.point p is)) ∙ in_work.point
point_has k (at.ConsolidatorWalk job held) p in_hand in_work boxes is = sym (ap (λ (q : List ℕ). length q) (same_Some job.point p is)) ∙ in_work.point
point_has k activity p in_hand in_work boxes is = cc

-- ---- a page of the file that has the box by which another one names it

module _ (meta : Meta) (page : LivePage) (good : IsGoodPage meta (Live page)) (p : List ℕ) (many : length p ≡ meta.k) where
  whole_has : (k : ℕ) → k ≡ meta.k → IsPoint p → page.area ≡ whole_area k → Holds page.area p
  whole_has k is point box = subst (λ (a : Area). Holds a p) (sym box) (Holds-whole_area k p point (many ∙ sym is))

  on_leaf : (leaf : Leaf) (area : Area) (level : ℕ) (mode : ℕ → Mode) (wanted : Wanted) → Holds area p → in_mode mode (named_page level leaf) ≡ Some wanted → HasItsBox (box_by_leaf (placed leaf area)) page → Holds page.area p
  on_leaf (Records records) area level mode wanted has wants box = cc
  on_leaf (Child name) area level mode wanted has wants box = holds_within area page.area p (sym has.same ∙ many ∙ sym good.1.fits.attributes) box has
  on_leaf (Sibling name) area level mode wanted has wants box = subst (λ (a : Area). Holds a p) (sym box) has

  module _ (before : LivePage) (was_good : IsGoodPage meta (Live before)) where
    leaf_has : (l : Placed) → leaf_at before p ≡ Some l → Holds l.area p
    leaf_has l there = ((first_tells before.frag before.area p l was_good.0.fits.1 was_good.1.well_cut).0 there).1

    at_leaf : (o : Option Placed) (mode : ℕ → Mode) (wanted : Wanted) → leaf_at before p ≡ o → in_mode mode (option_and_then (λ (l : Placed). named_page before.level l.leaf) o) ≡ Some wanted → HasItsBox (option_and_then box_by_leaf o) page → Holds page.area p
    at_leaf None mode wanted is wants box = cc
    at_leaf (Some l) mode wanted is wants box = on_leaf l.leaf l.area before.level mode wanted (leaf_has l is) wants box

    onward : (walk_meta : Meta) (id : ℕ) (goal : Option (List ℕ)) (mode : ℕ → Mode) (wanted : Wanted) (now then : Option LivePage) → goal ≡ Some p → now ≡ Some before → then ≡ Some before
        → in_mode mode (walk_next goal (Some id) walk_meta now) ≡ Some wanted → HasItsBox (box_at then goal) page → Holds page.area p
    onward walk_meta id goal mode wanted now then goal_is is was wants box =
        let at_goal = subst (λ (g : Option (List ℕ)). in_mode mode (walk_next g (Some id) walk_meta now) ≡ Some wanted) goal_is wants in
        let wants_at = subst (λ (o : Option LivePage). in_mode mode (walk_next (Some p) (Some id) walk_meta o) ≡ Some wanted) is at_goal in
        let box_there : HasItsBox (box_at (Some before) (Some p)) page = subst (λ (o : Option LivePage). HasItsBox (box_at o (Some p)) page) was (subst (λ (g : Option (List ℕ)). HasItsBox (box_at then g) page) goal_is box) in
        at_leaf (leaf_at before p) mode wanted refl wants_at box_there

    -- the child that a poster's parent names
    below : (over : Option LivePage) (child : ℕ) (area : Area) → over ≡ Some before → leaf_at before p ≡ Some (record { leaf = Child child; area = area }) → HasItsBox (box_at over (Some p)) page → Holds page.area p
    below over child area is there box =
        let at_parent : HasItsBox (option_and_then box_by_leaf (leaf_at before p)) page = subst (λ (o : Option LivePage). HasItsBox (box_at o (Some p)) page) is box in
        let named : HasItsBox (box_by_leaf (placed (Child child) area)) page = subst (λ (o : Option Placed). HasItsBox (option_and_then box_by_leaf o) page) there at_parent in
        let has : Holds area p = leaf_has (record { leaf = Child child; area = area }) there in
        holds_within area page.area p (sym has.same ∙ many ∙ sym good.1.fits.attributes) named has

-- ---- what a step has at hand

module _ (m : Machine) (actor : ℕ) (fetched : StoreState) (may : IsActor actor) (keeps : MachineKeeps m) (brings : Brings m AnyPage fetched) where
  -- the point of a walk has the file's number of attributes
  as_many : (p : List ℕ) → walk_point (m.activity actor) ≡ Some p → length p ≡ m.store.meta.k
  as_many p is = point_has m.store.meta.k (m.activity actor) p (keeps.attributes_fit.in_hand actor) (keeps.attributes_fit.in_work actor) (keeps.attributes_fit.boxes actor) is

  -- the page that a walk holds, before and after pages came
  record StaysHeld (id : ℕ) : Type 0 where
    before : LivePage
    live : live_here m.store id ≡ Some before
    there : live_here fetched id ≡ Some before

  stays_held : (id : ℕ) → walk_held (m.activity actor) ≡ Some id → StaysHeld id
  stays_held id walks =
      let one = keeps.latches_fit.walking actor id walks in
      let live : live_here m.store id ≡ Some one.0 = ap if_live one.1 in
      record { before = one.0; live = live; there = walked_there m actor fetched may keeps brings id one.0 walks live }

  module _ (wanted : Wanted) (page : LivePage) (p : List ℕ) (good : IsGoodPage m.store.meta (Live page)) (many : length p ≡ m.store.meta.k) (point : IsPoint p) where
    at_root : page.area ≡ whole_area fetched.meta.k → Holds page.area p
    at_root box = whole_has m.store.meta page good p many fetched.meta.k (ap (λ (s : StoreState). s.meta.k) brings.rest) point box

    goes_on : (id : ℕ) (goal : Option (List ℕ)) (mode : ℕ → Mode) → StaysHeld id → goal ≡ Some p → in_mode mode (walk_next goal (Some id) m.store.meta (live_here m.store id)) ≡ Some wanted
        → HasItsBox (box_at (live_here fetched id) goal) page → Holds page.area p
    goes_on id goal mode stays is wants box =
        onward m.store.meta page good p many stays.before (good_here m actor fetched may keeps brings id stays.before stays.live) m.store.meta id goal mode wanted (live_here m.store id) (live_here fetched id) is stays.live stays.there wants box

    inside : (activity : Activity) → ((id : ℕ) → walk_held activity ≡ Some id → StaysHeld id) → walk_point activity ≡ Some p → wanted_of activity m.store.meta (looked_live m.store activity) ≡ Some wanted
        → HasItsBox (asked_box activity fetched) page → Holds page.area p
    inside (at.SessionWalk line None rest found) stays is wants box = at_root box
    inside (at.SessionWalk line (Some id) rest found) stays is wants box = goes_on id (goal_of line.command rest) (session_mode line.command) (stays id refl) is wants box
    inside (at.PosterWalk job None) stays is wants box = at_root box
    inside (at.PosterWalk job (Some id)) stays is wants box = goes_on id (Some job.point) (job_mode job) (stays id refl) is wants box
    inside (at.ConsolidatorWalk job None) stays is wants box = at_root box
    inside (at.ConsolidatorWalk job (Some id)) stays is wants box = goes_on id (Some job.point) (job_mode job) (stays id refl) is wants box
    inside activity stays is wants box = cc

pub walks_stay_inside : WalksStayInside
walks_stay_inside m actor fetched wanted page p may keeps brings is point wants hand =
    inside m actor fetched may keeps brings wanted page p (fetched_good m AnyPage fetched keeps.pages_of_file brings wanted.page page hand.live) (as_many m actor fetched may keeps brings p is) point (m.activity actor) (stays_held m actor fetched may keeps brings) is wants hand.box

-- ---- a walk of a command on a point

inside_by : (page : LivePage) (command : Command) (rest : List Area) (p : List ℕ) → (WantsBoxes command → ⊥) → goal_of command rest ≡ Some p → Holds page.area p → WalksInside page command
inside_by page (Insert rec) rest p none is has = subst (λ (q : List ℕ). Holds page.area q) (sym (same_Some rec.key p is)) has
inside_by page (Delete point) rest p none is has = subst (λ (q : List ℕ). Holds page.area q) (sym (same_Some point p is)) has
inside_by page (Lookup point) rest p none is has = subst (λ (q : List ℕ). Holds page.area q) (sym (same_Some point p is)) has
inside_by page (Search area) rest p none is has = none tt

pub points_may_be_asked : PointsMayBeAsked
points_may_be_asked m actor fetched line held rest found wanted page free p may keeps brings is none goal point wants hand =
    let has = walks_stay_inside m actor fetched wanted page p may keeps brings goal point wants hand in
    subst (λ (a : Activity). MayAsk a m.store.meta free wanted.page page None) (sym is) (inside_by page line.command rest p none (sym (ap walk_point is) ∙ goal) has)

-- ---- a walk of a search

searches_inside : (page : LivePage) (command : Command) (rest : List Area) (p : List ℕ) → WantsBoxes command → goal_of command rest ≡ Some p → Holds page.area p → SearchesInside page command rest
searches_inside page (Search area) rest p wants goal has = subst (λ (g : Option (List ℕ)). MatchOption g ⊥ (Holds page.area)) (sym goal) has
searches_inside page (Insert rec) rest p wants goal has = absurd wants
searches_inside page (Delete point) rest p wants goal has = absurd wants
searches_inside page (Lookup point) rest p wants goal has = absurd wants

pub searches_may_be_asked : SearchesMayBeAsked
searches_may_be_asked m actor fetched line held rest found wanted page p may keeps brings is wants goal point wanted_is hand =
    let has = walks_stay_inside m actor fetched wanted page p may keeps brings goal point wanted_is hand in
    subst (λ (a : Activity). MaySearch a page) (sym is) (searches_inside page line.command rest p wants (sym (ap walk_point is) ∙ goal) has, subst StaysGathering is (keeps.searches_gather actor))

-- ---- a page that is split, and its halves

pub splits_may_be_asked : SplitsMayBeAsked
splits_may_be_asked m actor fetched line held free may keeps brings is fits =
    by (keeps.room_known.splits actor held line is)
  where
    by : (rec : Record) × (line.command ≡ Insert rec) × LacksRoomFor m held rec.key rec.body → AsksToSplit m actor fetched free held
    by (rec, command, lacks) = record {
      page = lacks.home.page;
      live = own_there m AnyPage fetched brings actor held Exclusive lacks.home.page keeps.latches_fit may (ap (λ (a : Activity). mode_among held (latches_held m.store a)) is ∙ at_itself held (Some Exclusive) None) lacks.home.live;
      may = subst (λ (a : Activity). MayAsk a m.store.meta free held lacks.home.page None) (sym is) (record { given = refl; rec = rec; command = command; absent = lacks.home.absent; full = lacks.full; number = fits });
    }

one_holds : (m : Machine) (source fresh : ℕ) (p body : List ℕ) (one : OneHasRoom m source fresh p body) → DirectlyHolds one.first p ⊎ DirectlyHolds one.second p
one_holds m source fresh p body one = elim one.room [
  | inl has ↦ inl (subst (λ (q : LivePage). DirectlyHolds q p) (same_Some has.home.page one.first (sym has.home.live ∙ one.first_live)) has.home.direct)
  | inr has ↦ inr (subst (λ (q : LivePage). DirectlyHolds q p) (same_Some has.home.page one.second (sym has.home.live ∙ one.second_live)) has.home.direct)
]

-- the halves are two pages, of which not both hold the point
halves_apart : (m : Machine) (source fresh : ℕ) (p body : List ℕ) → OneHasRoom m source fresh p body → source ≢ fresh
halves_apart m source fresh p body one same =
    let pages : one.first ≡ one.second = same_Some one.first one.second (sym one.first_live ∙ ap (live_here m.store) same ∙ one.second_live) in
    elim (one_holds m source fresh p body one) [
      | inl first ↦ one.not_both first (subst (λ (q : LivePage). DirectlyHolds q p) pages first)
      | inr second ↦ one.not_both (subst (λ (q : LivePage). DirectlyHolds q p) (sym pages) second) second
    ]

pub puts_may_be_asked : PutsMayBeAsked
puts_may_be_asked m actor fetched line source fresh free may keeps brings is =
    by (keeps.room_known.puts actor source fresh line is)
  where
    in_hand : LineFits m.store.meta.k line
    in_hand = subst (λ (a : Activity). IfSome (line_in_hand a) (LineFits m.store.meta.k)) is (keeps.attributes_fit.in_hand actor)

    by : (rec : Record) × (line.command ≡ Insert rec) × OneHasRoom m source fresh rec.key rec.body → AsksToPut m actor fetched free source fresh
    by (rec, command, one) = record {
      page = one.first;
      live = own_there m AnyPage fetched brings actor source Exclusive one.first keeps.latches_fit may (ap (λ (a : Activity). mode_among source (latches_held m.store a)) is ∙ at_itself source (Some Exclusive) (mode_among source (latch_on fresh Exclusive ∷ []))) one.first_live;
      other = one.second;
      other_live = own_there m AnyPage fetched brings actor fresh Exclusive one.second keeps.latches_fit may (ap (λ (a : Activity). mode_among fresh (latches_held m.store a)) is ∙ second_mode source fresh Exclusive) one.second_live;
      may = subst (λ (a : Activity). MayAsk a m.store.meta free source one.first (Some one.second)) (sym is) (record {
        given = refl;
        apart = halves_apart m source fresh rec.key rec.body one;
        other = one.second;
        half = refl;
        rec = rec;
        command = command;
        attributes = subst (CommandFits m.store.meta.k) command in_hand.command;
        one = one_holds m source fresh rec.key rec.body one;
      });
    }

-- ---- the poster

pub poster_walks_may_be_asked : PosterWalksMayBeAsked
poster_walks_may_be_asked m actor fetched job held wanted page may keeps brings is point wants hand =
    let has = walks_stay_inside m actor fetched wanted page job.point may keeps brings (ap walk_point is) point wants hand in
    let fits : JobFits m.store.meta.k job = subst (λ (a : Activity). IfSome (job_in_work a) (JobFits m.store.meta.k)) is (keeps.attributes_fit.in_work actor) in
    let stands : StandsAbove m.store held job = subst (λ (a : Activity). IfSome (walking_job a) (StandsAbove m.store (walk_held a))) is (keeps.workers_stand actor) in
    let above : job.level ≤ wanted.level = walk_wants_above m actor job held wanted (inl is) stands wants in
    let level = hand.level in
    let some = fits.level in
    subst (λ (a : Activity). MayBeAsked a m.store.meta page None) (sym is) (record { above = omega (arith, above, level, some); held = has })

module _ (m : Machine) (actor : ℕ) (fetched : StoreState) (may : IsActor actor) (keeps : MachineKeeps m) (brings : Brings m AnyPage fetched) (job : Job) (parent : ℕ) (wanted : Wanted) (page : LivePage) (live : live_here fetched wanted.page ≡ Some page) where
  -- the parent, with all that the machine keeps of it, and the child's box
  record HasBoth : Type 0 where
    over : LivePage
    there : live_here fetched parent ≡ Some over
    level : over.level ≡ job.level
    both : LooksBelow m.store.meta job over page

  has_both : IsAtParent (m.activity actor) job parent → HasItsBox (box_at (live_here fetched parent) (Some job.point)) page → HasBoth
  has_both stands box = by (keeps.walk_in_space.parents actor job parent stands)
    where
      by : (over : LivePage) × (live_here m.store parent ≡ Some over) × (over.level ≡ job.level) × LeadsBelow over job → HasBoth
      by (over, was, level, (child, area, leaf)) =
          let latch = parent_latched m.store (m.activity actor) job parent stands in
          let there = own_there m AnyPage fetched brings actor parent latch.0 over keeps.latches_fit may latch.1 was in
          let good = fetched_good m AnyPage fetched keeps.pages_of_file brings parent over there in
          let held : Holds over.area job.point = first_held job.point over.frag over.area (record { leaf = Child child; area = area }) good.1.well_cut leaf in
          let many : length job.point ≡ m.store.meta.k = held.same ∙ good.1.fits.attributes in
          record {
            over = over;
            there = there;
            level = level;
            both = record {
              made = good.1;
              leads = (child, area, leaf);
              held = held;
              below = below m.store.meta page (fetched_good m AnyPage fetched keeps.pages_of_file brings wanted.page page live) job.point many over good (live_here fetched parent) child area there leaf box;
            };
          }

pub children_may_be_asked : ChildrenMayBeAsked
children_may_be_asked m actor fetched job parent wanted page may keeps brings stands wants hand = by stands
  where
    by : (m.activity actor ≡ at.PosterChild job parent) ⊎ (m.activity actor ≡ at.PosterAgain job parent) → AsksWithParent m actor fetched parent page
    by (inl is) =
        let has = has_both m actor fetched may keeps brings job parent wanted page hand.live (inl is) (subst (λ (a : Activity). HasItsBox (asked_box a fetched) page) is hand.box) in
        record { over = has.over; live = has.there; may = subst (λ (a : Activity). MayBeAsked a m.store.meta page (Some has.over)) (sym is) has.both }
    by (inr is) =
        let has = has_both m actor fetched may keeps brings job parent wanted page hand.live (inr (inr is)) (subst (λ (a : Activity). HasItsBox (asked_box a fetched) page) is hand.box) in
        record { over = has.over; live = has.there; may = subst (λ (a : Activity). MayBeAsked a m.store.meta page (Some has.over)) (sym is) (record { level = has.level; both = has.both }) }

pub others_may_be_asked : OthersMayBeAsked
others_may_be_asked m actor job parent page stands = elim stands [
  | inl is ↦ subst (λ (a : Activity). MayBeAsked a m.store.meta page None) (sym is) tt
  | inr is ↦ subst (λ (a : Activity). MayBeAsked a m.store.meta page None) (sym is) tt
]
