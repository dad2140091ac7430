-- After a step each search has found exactly what it should so far; and where one takes effect, its reply is the machine's.
use Rattle.hb_steps.proofs.Searches.Names.{◌≡◌, ◌≢◌, ◌⊎◌, inl, inr, ℕ, ◌++◌, true, false, List, [], ◌∷◌, filter, length, All, Any, Option, Some, None, refl, sym, ap, ◌∙◌, subst, arith, cases_Bool, false≢true, same_Some, none-some, line_in_hand, line_of, Deed, goal_of, Activity, LivePage, All-last, no_member, contents_of, WantsBoxes, boxes_ahead, taking, Gathers, SearchGoesOn, RecordSet, Entry, Command, Insert, Delete, Lookup, Search, Line, LackIsContents, StandingIsContents, Meets-from_point, lo_held, Area, Holds, Within, common_area, holds, pieces_outside, Record, StoreState, HeldArePoints, live_good, goal_at_hand, leaf_box, each_deed, KeepsAllButDisk, DoesRow, wanted_by, IsBoxOf, boxes_left, MachineKeeps, HasFoundSoFar, Machine, live_here, sight, with_disk, Performs, Row, StepsTo, Outcome, took_job, took_merging}
use Rattle.std.proofs.Common.{◌==◌, option_map, IfSome, append-nil}
use Rattle.std.specs.FinMap as map
use Rattle.std.proofs.lemmas.Bool.{eqb-true, eqb-false}
use Rattle.std.proofs.lemmas.List.{length-append, same_from_push}
use Rattle.hb_activity.specs.BoxLocks.{lock_of, lock_of_command}
use Rattle.hb_activity.specs.declared.activities.Activity.TheVariants as at
use Rattle.hb_lemmas.proofs.Lists.{All-one}
use Rattle.hb_set.specs.Machine.{reply_of}
use Rattle.hb_set.specs.declared.commands.Reply.TheVariants as replies
use Rattle.hb_space.proofs.Facts.Boxes.{Within-self}
use Rattle.hb_space.specs.Boxes.{point_area}
use Rattle.hb_steps.proofs.Files.SoundFiles.{brought_shown, files_hold, shows_file, sound_within_limits}
use Rattle.hb_steps.proofs.Machines.LocksKept.{lock_is}
use Rattle.hb_steps.proofs.Memory.KeptPages.{brought, keeps_pages}
use Rattle.hb_steps.proofs.Searches.Gathered.{IsLeafOf, gathered}
use Rattle.hb_steps.proofs.Searches.GatheringKept.{gathering_begins}
use Rattle.hb_steps.proofs.Searches.LeafRecords.{leaf_of, records_of_leaf}
use Rattle.hb_steps.proofs.Searches.SearchRow.{joined_before, walk_row, walked_before}
use Rattle.hb_steps.proofs.Searches.SortedRecords.{reply_is}
use Rattle.hb_steps.proofs.Table.LineFates.{given_up_joins_nothing}
use Rattle.hb_steps.proofs.Table.StepSays.{each_saying}
use Rattle.hb_steps.proofs.Facts.Ways.{others_stand, own_next}
use Rattle.hb_steps.specs.Fetching.{Brings}
use Rattle.hb_steps.specs.ContentsLaws.{ChangesAt, PointsStay, contents_now}
use Rattle.hb_steps.specs.KeptFits.{CommandFits, LineFits}
use Rattle.hb_steps.specs.KeptSearches.{SearchesAreExact}
use Rattle.hb_steps.specs.Keeps.{HasSoundFile}
use Rattle.hb_steps.specs.Machines.{Files, current_file}
use Rattle.hb_steps.specs.OrderLaws.{SearchesAreRight, SearchesStayExact}
use Rattle.hb_lemmas.proofs.Options.{not_none}
use Rattle.std.specs.Option.{option_to_list}

-- ---- a search that begins, and one whose box's points stay as they are

begins_exact : (n : RecordSet) (box : Area) → HasFoundSoFar n box (box ∷ []) []
begins_exact n box = record {
  within = (All-one (λ (a : Area). Within a box) box).1 (Within-self box);
  gathering = gathering_begins box;
  exact = λ r. (λ there. absurd (no_member r there), λ is. absurd (is.2 (0, box, omega arith, refl, is.1)));
}

moved : (n other : RecordSet) (box : Area) (rest : List Area) (found : List Record) → ((q : List ℕ) → Holds box q → map.get other q ≡ map.get n q) → HasFoundSoFar n box rest found → HasFoundSoFar other box rest found
moved n other box rest found agree so_far = record {
  within = so_far.within;
  gathering = so_far.gathering;
  exact = λ r. (
    λ there. (let is = (so_far.exact r).0 there in (agree r.key is.1 ∙ is.0, is.1, is.2)),
    λ is. (so_far.exact r).1 (sym (agree r.key is.1) ∙ is.0, is.1, is.2),
  );
}

-- ---- what a line may change it has locked alone

changes_lock : (command : Command) (q : List ℕ) → ChangesAt command q → lock_of_command command ≡ record { area = point_area q; shared = false }
changes_lock (Insert rec) q is = ap (λ (p : List ℕ). record { area = point_area p; shared = false }) (sym is)
changes_lock (Delete point) q is = ap (λ (p : List ℕ). record { area = point_area p; shared = false }) (sym is)
changes_lock (Lookup point) q never = absurd never
changes_lock (Search area) q never = absurd never

holds_itself : (q : List ℕ) → Holds (point_area q) q
holds_itself q = record { same = refl; between = λ i lt. (omega arith, omega arith) }

line_lock : (activity : Activity) (line : Line) → line_in_hand activity ≡ Some line → lock_of activity ≡ Some (lock_of_command line.command)
line_lock activity line hand = lock_is activity ∙ ap (option_map (λ (l : Line). lock_of_command l.command)) hand

module _ (m : Machine) (files after : Files) (actor : ℕ) (outcome : Outcome) (new : Machine) (kept : MachineKeeps m) (stays : (q : List ℕ) → (map.get (contents_now after) q ≡ map.get (contents_now files) q)
    ⊎ ((entry : Entry) × (new.order ≡ m.order ++ entry ∷ []) × (line_in_hand (m.activity actor) ≡ Some entry.line) × ChangesAt entry.line.command q)) where
  -- nobody else changes a point of a search's box
  other_agrees : (other : ℕ) (line : Line) (held : Option ℕ) (rest : List Area) (found : List Record) (box : Area) → other ≢ actor → m.activity other ≡ at.SessionWalk line held rest found → line.command ≡ Search box
      → (q : List ℕ) → Holds box q → map.get (contents_now after) q ≡ map.get (contents_now files) q
  other_agrees other line held rest found box another walks command q inside = elim (stays q) [
    | inl same ↦ same
    | inr (entry, joins, hand, changes) ↦
        let lock = ap lock_of walks ∙ ap (λ (c : Command). Some (lock_of_command c)) command in
        let its = line_lock (m.activity actor) entry.line hand ∙ ap Some (changes_lock entry.line.command q changes) in
        let both = kept.box_locks_fit other actor (record { area = box; shared = true }) (record { area = point_area q; shared = false }) another lock its (Meets-from_point box (point_area q) q inside (holds_itself q)) in
        absurd (false≢true both.1)
  ]

  -- and a search changes none
  own_agrees : (line : Line) (box : Area) → line_in_hand (m.activity actor) ≡ Some line → line.command ≡ Search box → (q : List ℕ) → map.get (contents_now after) q ≡ map.get (contents_now files) q
  own_agrees line box has command q = elim (stays q) [
    | inl same ↦ same
    | inr (entry, joins, hand, changes) ↦
        let same : entry.line ≡ line = same_Some entry.line line (sym hand ∙ has) in
        absurd (subst (λ (c : Command). ChangesAt c q) (ap (λ (l : Line). l.command) same ∙ command) changes)
  ]

-- ---- a search at a leaf

module _ (points : HeldArePoints) (standing : StandingIsContents) (lacking : LackIsContents) (m : Machine) (files : Files) (actor : ℕ) (told : m.files ≡ Some files) (kept : MachineKeeps m) (has : HasSoundFile m files) (exact : SearchesAreExact m files)
    (line : Line) (held : Option ℕ) (rest : List Area) (found : List Record) (box : Area) (walks : m.activity actor ≡ at.SessionWalk line held rest found) (command : line.command ≡ Search box) where
  abbrev pub k : ℕ
  k = m.store.meta.k

  whole_box : IsBoxOf k box
  whole_box =
      let fits : LineFits k line = subst (λ (a : Activity). IfSome (line_in_hand a) (LineFits k)) walks (kept.attributes_fit.in_hand actor) in
      subst (CommandFits k) command fits.command

  left_boxes : All (IsBoxOf k) rest
  left_boxes = subst (λ (a : Activity). All (IsBoxOf k) (boxes_left a)) walks (kept.attributes_fit.boxes actor)

  abbrev pub Whole : List Area → Type 0
  Whole r = HasFoundSoFar (contents_now files) box r found

  -- what it has found once it took the leaf's records
  pub at_leaf : {fetched : StoreState} {may : ℕ → Type 0} → Brings m may fetched → (id : ℕ) (page : LivePage) (p : List ℕ) (deed : Deed) → live_here fetched id ≡ Some page → goal_of (Search box) rest ≡ Some p
      → (row : Gathers (sight (with_disk fetched m.files m.clock m)) line rest found page p deed)
      → HasFoundSoFar (contents_now files) box (row.front ++ pieces_outside row.at_hand (common_area row.at_hand row.area)) (found ++ filter (λ r. holds row.at_hand r.key) row.records)
  at_leaf {fetched} {may} brings id page p deed live goal row =
      let s = current_file files in
      let keeps = brought m may fetched brings (keeps_pages m (sound_within_limits m files has) kept.pages_of_file) in
      let file = shows_file fetched files (brought_shown m files may fetched told brings (files_hold m files has)) in
      let boxes : All (IsBoxOf k) (row.front ++ row.at_hand ∷ []) = subst (λ (r : List Area). All (IsBoxOf k) r) row.boxes left_boxes in
      let hand : IsBoxOf k row.at_hand = All-last (IsBoxOf k) row.front row.at_hand boxes in
      let good = live_good fetched keeps.framed id page live in
      let leaf = subst (λ (n : ℕ). IsLeafOf n row.records row.area) (ap (λ meta. meta.k) (ap (λ (s : StoreState). s.meta) brings.rest)) (leaf_of fetched.meta page p row.records row.area good row.leaf) in
      let in_leaf = (leaf_box fetched.meta page p _ good row.leaf).1 in
      let in_hand : Holds row.at_hand p = subst (Holds row.at_hand) (goal_at_hand box rest row.front row.at_hand p row.boxes goal) (lo_held row.at_hand hand.0) in
      let so_far : Whole (row.front ++ row.at_hand ∷ []) = subst Whole row.boxes (exact actor line held rest found box walks command) in
      gathered k row.front row.at_hand found row.records row.area p boxes leaf in_hand in_leaf so_far.gathering (contents_of s) box whole_box
      (records_of_leaf points standing lacking fetched s keeps file id page live p row.records row.area row.leaf) so_far

  -- where the search takes effect, its reply is the machine's
  pub replies_right : {fetched : StoreState} {may : ℕ → Type 0} → Brings m may fetched → (id : ℕ) (page : LivePage) (p : List ℕ) (deed : Deed) (entry : Entry) → live_here fetched id ≡ Some page → goal_of (Search box) rest ≡ Some p
      → Gathers (sight (with_disk fetched m.files m.clock m)) line rest found page p deed → deed.joins ≡ Some entry → entry.reply ≡ reply_of entry.line.command (contents_now files)
  replies_right {fetched} brings id page p deed entry live goal row joins =
      by (row.front ++ pieces_outside row.at_hand (common_area row.at_hand row.area)) (found ++ filter (λ r. holds row.at_hand r.key) row.records) row.goes (at_leaf brings id page p deed live goal row)
    where
      by : (boxes : List Area) (more : List Record) → SearchGoesOn (sight (with_disk fetched m.files m.clock m)) line boxes more deed → HasFoundSoFar (contents_now files) box boxes more → entry.reply ≡ reply_of entry.line.command (contents_now files)
      by [] more (ordered, same, rising, is) so_far =
          let joined : record { line = line; reply = replies.Within ordered } ≡ entry = same_Some _ entry (sym (ap (λ (d : Deed). d.joins) is) ∙ joins) in
          let all = reply_is (contents_now files) box more ordered whole_box.0
          (λ r. (λ there. (let x = (so_far.exact r).0 there in (x.0, x.1)), λ x. (so_far.exact r).1 (x.0, x.1, λ some. no_any r.key some))) same rising in
          sym (ap (λ (e : Entry). e.reply) joined) ∙ ap replies.Within all ∙ sym (ap (λ (c : Command). reply_of c (contents_now files)) (ap (λ (e : Entry). e.line.command) (sym joined) ∙ command))
        where
          no_any : (q : List ℕ) → Any (λ (a : Area). Holds a q) [] → ⊥
          no_any q some = absurd (omega (arith, some.2))
      by (a ∷ boxes) more is so_far = absurd (none-some entry (sym (ap (λ (d : Deed). d.joins) is) ∙ joins))

  -- where it walks on, what it has found is exact still
  pub walks_right : {fetched : StoreState} {may : ℕ → Type 0} → Brings m may fetched → (id : ℕ) (page : LivePage) (p : List ℕ) (deed : Deed) (other : Line) (held' : Option ℕ) (rest' : List Area) (found' : List Record) → live_here fetched id ≡ Some page → goal_of (Search box) rest ≡ Some p
      → Gathers (sight (with_disk fetched m.files m.clock m)) line rest found page p deed → deed.next ≡ at.SessionWalk other held' rest' found' → HasFoundSoFar (contents_now files) box rest' found'
  walks_right {fetched} brings id page p deed other held' rest' found' live goal row next =
      by (row.front ++ pieces_outside row.at_hand (common_area row.at_hand row.area)) (found ++ filter (λ r. holds row.at_hand r.key) row.records) row.goes (at_leaf brings id page p deed live goal row)
    where
      by : (boxes : List Area) (more : List Record) → SearchGoesOn (sight (with_disk fetched m.files m.clock m)) line boxes more deed → HasFoundSoFar (contents_now files) box boxes more → HasFoundSoFar (contents_now files) box rest' found'
      by [] more (ordered, same, rising, is) so_far = absurd (none (sym (ap (λ (d : Deed). d.next) is) ∙ next))
        where
          none : at.SessionAwait line.number (replies.Within ordered) (length m.order) ≡ at.SessionWalk other held' rest' found' → ⊥
          none nothing = cc
      by (a ∷ boxes) more is so_far = same_walk (sym (ap (λ (d : Deed). d.next) is) ∙ next)
        where
          same_walk : at.SessionWalk line None (a ∷ boxes) more ≡ at.SessionWalk other held' rest' found' → HasFoundSoFar (contents_now files) box rest' found'
          same_walk eq =
              let left : a ∷ boxes ≡ rest' = cc in
              let gives : more ≡ found' = cc in
              subst (λ (f : List Record). HasFoundSoFar (contents_now files) box rest' f) gives (subst (λ (r : List Area). HasFoundSoFar (contents_now files) box r more) left so_far)

-- ---- each step

module _ (points : HeldArePoints) (standing : StandingIsContents) (lacking : LackIsContents) (m : Machine) (files : Files) (actor : ℕ) (outcome : Outcome) (new : Machine) (told : m.files ≡ Some files) (kept : MachineKeeps m) (has : HasSoundFile m files) (exact : SearchesAreExact m files) where
  abbrev now : StoreState → Machine
  now fetched = with_disk fetched m.files m.clock m

  -- the row of a search that walked before
  walks_on : (does : DoesRow m actor outcome new) (line other : Line) (held held' : Option ℕ) (rest rest' : List Area) (found found' : List Record) (box : Area) → m.activity actor ≡ at.SessionWalk line held rest found → line.command ≡ Search box
      → does.deed.next ≡ at.SessionWalk other held' rest' found' → HasFoundSoFar (contents_now files) box rest' found'
  walks_on does line other held held' rest rest' found found' box walks command next =
      let row = walk_row (now does.fetched) line held rest found box (wanted_by m actor) does.deed command (subst (λ (a : Activity). Row a (wanted_by m actor) (now does.fetched) does.deed) walks does.row) in
      elim row.goes [
        | inl passes ↦ same_walk row.id (sym passes.next ∙ next)
        | inr gathers ↦ walks_right points standing lacking m files actor told kept has exact line held rest found box walks command does.brings row.id row.page row.p does.deed other held' rest' found' row.live row.goal gathers next
      ]
    where
      same_walk : (id : ℕ) → at.SessionWalk line (Some id) rest found ≡ at.SessionWalk other held' rest' found' → HasFoundSoFar (contents_now files) box rest' found'
      same_walk id eq =
          let left : rest ≡ rest' = cc in
          let gives : found ≡ found' = cc in
          subst (λ (f : List Record). HasFoundSoFar (contents_now files) box rest' f) gives (subst (λ (r : List Area). HasFoundSoFar (contents_now files) box r found) left (exact actor line held rest found box walks command))

  search_box : (command : Command) → WantsBoxes command → (box : Area) × (command ≡ Search box)
  search_box (Search area) wants = (area, refl)
  search_box (Insert rec) never = absurd never
  search_box (Delete point) never = absurd never
  search_box (Lookup point) never = absurd never

  takes_right : (does : DoesRow m actor outcome new) (entry : Entry) → does.deed.joins ≡ Some entry → WantsBoxes entry.line.command → entry.reply ≡ reply_of entry.line.command (contents_now files)
  takes_right does entry joins wants =
      let before = joined_before entry wants (now does.fetched) (m.activity actor) (wanted_by m actor) does.deed does.row joins in
      let command = search_box entry.line.command wants in
      let row = walk_row (now does.fetched) entry.line before.held before.rest before.found command.0 (wanted_by m actor) does.deed command.1 (subst (λ (a : Activity). Row a (wanted_by m actor) (now does.fetched) does.deed) before.is does.row) in
      elim row.goes [
        | inl passes ↦ absurd (not_none does.deed.joins entry joins passes.joins)
        | inr gathers ↦ replies_right points standing lacking m files actor told kept has exact entry.line before.held before.rest before.found command.0 before.is command.1 does.brings row.id row.page row.p does.deed entry row.live row.goal gathers joins
      ]

  -- ---- the reply of a search that joins the order

  module _ (entry : Entry) (grown : new.order ≡ m.order ++ entry ∷ []) (wants : WantsBoxes entry.line.command) where
    abbrev IsRight : Type 0
    IsRight = entry.reply ≡ reply_of entry.line.command (contents_now files)

    stays_not : new.order ≡ m.order → IsRight
    stays_not same =
        let lengths = ap (λ (l : List Entry). length l) (sym same ∙ grown) in
        let longer = length-append m.order (entry ∷ []) in
        absurd (omega (arith, lengths, longer))

    joins_not : {fetched : StoreState} (deed : Deed) → Performs m fetched actor deed outcome new → deed.joins ≡ None → IsRight
    joins_not deed performs none = stays_not (performs.order ∙ ap (λ (o : Option Entry). m.order ++ option_to_list o) none ∙ append-nil m.order)

    joins_it : (joins : Option Entry) → new.order ≡ m.order ++ option_to_list joins → (joins ≡ Some entry) ⊎ IsRight
    joins_it None order = inr (stays_not (order ∙ append-nil m.order))
    joins_it (Some one) order = inl (ap Some (same_from_push m.order m.order one entry (sym order ∙ grown)).1)

    acts : DoesRow m actor outcome new → IsRight
    acts does = elim (joins_it does.deed.joins does.performs.order) [ inl joins ↦ takes_right does entry joins wants | inr right ↦ right ]

    pub reply_right : StepsTo m actor outcome new → IsRight
    reply_right step = each_saying m actor outcome new IsRight (record {
      plain = λ plain keeps. stays_not keeps.order;
      takes = λ line idle next performs. joins_not _ performs refl;
      refuses = λ line idle next boxes performs. joins_not _ performs refl;
      posts = λ deed idle taken performs. joins_not deed performs (ap (λ (d : Deed). d.joins) taken.deed_is);
      merges = λ deed idle taken performs. joins_not deed performs (ap (λ (d : Deed). d.joins) taken.deed_is);
      settles = λ number place reply is settled performs. joins_not _ performs refl;
      does = acts;
      gives = λ gives. joins_not _ gives.performs (given_up_joins_nothing gives.why (m.activity actor));
    }) step

  -- ---- what is found after the step

  module _ (after : Files) (stays : (q : List ℕ) → (map.get (contents_now after) q ≡ map.get (contents_now files) q)
      ⊎ ((entry : Entry) × (new.order ≡ m.order ++ entry ∷ []) × (line_in_hand (m.activity actor) ≡ Some entry.line) × ChangesAt entry.line.command q))
      (line : Line) (held : Option ℕ) (rest : List Area) (found : List Record) (box : Area) (command : line.command ≡ Search box) where
    abbrev Exact : Type 0
    Exact = HasFoundSoFar (contents_now after) box rest found

    -- its own box, as it is before the step
    own_moved : line_in_hand (m.activity actor) ≡ Some line → HasFoundSoFar (contents_now files) box rest found → Exact
    own_moved hand so_far = moved (contents_now files) (contents_now after) box rest found (λ q inside. own_agrees m files after actor outcome new kept stays line box hand command q) so_far

    module _ (walks : new.activity actor ≡ at.SessionWalk line held rest found) where
      own_now : {fetched : StoreState} (deed : Deed) → Performs m fetched actor deed outcome new → deed.next ≡ at.SessionWalk line held rest found
      own_now deed performs = sym (own_next actor deed.next m.activity new.activity performs.activity) ∙ walks

      keeps : KeepsAllButDisk m new → Exact
      keeps same =
          let before : m.activity actor ≡ at.SessionWalk line held rest found = ap (λ (all : ℕ → Activity). all actor) (sym same.activity) ∙ walks in
          own_moved (ap line_in_hand before) (exact actor line held rest found box before command)

      begins : (taken : Line) → at.SessionWalk taken None (boxes_ahead taken.command) [] ≡ at.SessionWalk line held rest found → Exact
      begins taken is =
          let same : taken ≡ line = cc in
          let boxes : boxes_ahead taken.command ≡ rest = cc in
          let none : [] ≡ found = cc in
          let left : box ∷ [] ≡ rest = ap boxes_ahead (sym (ap (λ (l : Line). l.command) same ∙ command)) ∙ boxes in
          subst (λ (f : List Record). HasFoundSoFar (contents_now after) box rest f) none (subst (λ (r : List Area). HasFoundSoFar (contents_now after) box r []) left (begins_exact (contents_now after) box))

      -- who has no line in hand doesn't walk for one
      no_walk : (next : Activity) → line_in_hand next ≡ None → next ≡ at.SessionWalk line held rest found → Exact
      no_walk next none is = absurd (none-some line (sym none ∙ ap line_in_hand is))

      does_row : DoesRow m actor outcome new → Exact
      does_row does =
          let next = own_now does.deed does.performs in
          let before = walked_before line held rest found (now does.fetched) (m.activity actor) (wanted_by m actor) does.deed does.row next in
          own_moved (ap line_in_hand before.is) (walks_on does line line before.held held before.rest rest before.found found box before.is command next)

      pub own_exact : StepsTo m actor outcome new → Exact
      own_exact step = each_deed m actor outcome new Exact (record {
        keeps = λ same meta. keeps same;
        takes = λ taken idle next performs. begins taken (own_now (taking taken) performs);
        posts = λ deed idle taken performs. no_walk deed.next (took_job m deed taken) (own_now deed performs);
        merges = λ deed idle taken performs. no_walk deed.next (took_merging m deed taken) (own_now deed performs);
        acts = does_row;
        ends = λ fetched deed meta ended performs. no_walk deed.next (ap line_of ended.hand) (own_now deed performs);
      }) step

    pub other_exact : (other : ℕ) → other ≢ actor → new.activity other ≡ at.SessionWalk line held rest found → StepsTo m actor outcome new → Exact
    other_exact other another walks step =
        let before : m.activity other ≡ at.SessionWalk line held rest found = sym (others_stand m actor outcome new step other another) ∙ walks in
        moved (contents_now files) (contents_now after) box rest found (other_agrees m files after actor outcome new kept stays other line held rest found box another before command) (exact other line held rest found box before command)

module _ (points : HeldArePoints) (standing : StandingIsContents) (lacking : LackIsContents) where
  pub searches_stay_exact : PointsStay → SearchesStayExact
  searches_stay_exact law m files after actor outcome new may told kept has exact step is other line held rest found box walks command =
      let stays = λ (q : List ℕ). law m files after actor outcome new q told kept.lines_fit kept.pages_of_file has step is in
      elim (cases_Bool (other == actor)) [
        | inl here ↦ own_exact points standing lacking m files actor outcome new told kept has exact after stays line held rest found box command (ap new.activity (sym (eqb-true other actor here)) ∙ walks) step
        | inr off ↦ other_exact points standing lacking m files actor outcome new told kept has exact after stays line held rest found box command other (eqb-false other actor off) walks step
      ]

  pub searches_are_right : SearchesAreRight
  searches_are_right m files actor outcome new entry told kept has exact step joins wants = reply_right points standing lacking m files actor outcome new told kept has exact entry joins wants step
