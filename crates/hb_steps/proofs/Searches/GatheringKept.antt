-- After a step the boxes that remain of a search share no point, and its records are of different points outside of them.
use Rattle.hb_steps.proofs.Searches.Names.{◌≡◌, inl, inr, ℕ, List, [], ◌∷◌, ◌++◌, filter, All, Option, Some, None, refl, sym, ap, subst, arith, All-nil, line_in_hand, line_of, Deed, Activity, Wanted, LivePage, Live, Meta, All-last, WantsBoxes, boxes_ahead, taking, SearchGoesOn, Command, Insert, Delete, Lookup, Search, Line, lo_held, Area, Holds, common_area, holds, pieces_outside, Record, IsGoodPage, StoreState, Outcome, goal_at_hand, leaf_box, each_deed, each_row, StaysMerger, KeepsAllButDisk, DoesRow, wanted_by, IsBoxOf, boxes_left, MachineKeeps, IsGathering, Machine, live_here, sight, with_disk, Performs, Row, StepsTo, took_job, took_merging}
use Rattle.hb_activity.specs.declared.activities.Activity.TheVariants as at
use Rattle.hb_steps.proofs.Facts.StillThere.{fetched_good}
use Rattle.hb_steps.proofs.Searches.Gathered.{gathering_after}
use Rattle.hb_steps.proofs.Searches.LeafRecords.{leaf_of}
use Rattle.hb_steps.proofs.Searches.SearchRow.{walk_row}
use Rattle.hb_steps.proofs.Table.DeedKinds.{EndsHand, each_again}
use Rattle.hb_steps.proofs.Table.MergerMoves.{no_line}
use Rattle.hb_steps.specs.KeptSearches.{SearchesGather}
use Rattle.hb_search.specs.Searching.{StaysGathering}
use Rattle.hb_steps.specs.Steps.{TakesJob, TakesMerging}

-- ---- who has nothing, and a search that begins

pub gathering_begins : (box : Area) → IsGathering (box ∷ []) []
gathering_begins box = record { apart = λ i j d low high. absurd (omega (arith, low, high)); once = λ i j d low high. absurd (omega (arith, high)); outside = All-nil _ }

nothing_gathered : IsGathering [] []
nothing_gathered = record { apart = λ i j d low high. absurd (omega (arith, high)); once = λ i j d low high. absurd (omega (arith, high)); outside = All-nil _ }

begins : (command : Command) → IsGathering (boxes_ahead command) []
begins (Insert rec) = nothing_gathered
begins (Delete point) = nothing_gathered
begins (Lookup point) = nothing_gathered
begins (Search area) = gathering_begins area

no_line_gathers : (activity : Activity) → line_in_hand activity ≡ None → StaysGathering activity
no_line_gathers (at.SessionWalk line held rest found) none = absurd (never none)
  where
    never : Some line ≡ None → ⊥
    never is = cc
no_line_gathers activity none = tt

-- ---- rows

-- a walk is for another command than a search
abbrev NoSearch : Activity → Type 0
NoSearch (at.SessionWalk line held rest found) = ¬ (WantsBoxes line.command)
NoSearch other = Unit {0}

abbrev GathersStill : Activity → Deed → Type 0
GathersStill activity deed = NoSearch activity → StaysGathering activity → StaysGathering deed.next

after_merging : (activity : Activity) (deed : Deed) → StaysMerger activity deed → StaysGathering deed.next
after_merging activity deed stays = subst (λ (d : Deed). StaysGathering d.next) (sym stays.is) (no_line_gathers stays.next (no_line stays.next stays.job stays.after))

other_row : (now : Machine) (activity : Activity) (wanted : Option Wanted) (deed : Deed) → NoSearch activity → StaysGathering activity → Row activity wanted now deed → StaysGathering deed.next
other_row now activity wanted deed none gathers row = each_row now GathersStill activity wanted deed
    (record {
      full = λ line held full none gathers. tt;
      splits = λ line held page live leaves none gathers. tt;
      puts = λ line source fresh rec command half either page live none gathers. tt;
    })
    (λ its page wants hand. record {
      passes = λ line held rest found p goal leaf row none gathers. gathers;
      only_replies = λ line held rest found reply alone none gathers. tt;
      inserts = λ line held rest found rec command absent room none gathers. tt;
      lacks_room = λ line held rest found rec command level absent full none gathers. tt;
      deletes = λ line held rest found p there command stands none gathers. tt;
      searches = λ line held rest found area others more row none gathers. absurd (none (subst WantsBoxes (sym row.command) tt));
      grows = λ job fresh free_after may free next none gathers. tt;
      ends = λ activity job kind hand none gathers. tt;
      arrives = λ job held child area level leaf none gathers. tt;
      walks = λ job held leaf farther row none gathers. tt;
      looks = λ job parent none gathers. tt;
      promotes = λ job parent none gathers. tt;
      posts = λ job parent above path inner area live plan none gathers. tt;
      parts = λ job parent above live plan leaves none gathers. tt;
      walks_to_merge = λ job held leaf farther row none gathers. tt;
      merges = λ activity deed kind row stays none gathers. after_merging activity deed stays;
      merges_two = λ job parent keep gone pair none gathers. tt;
    }) row none gathers

module _ (meta : Meta) (now : Machine) (good : (id : ℕ) (page : LivePage) → live_here now.store id ≡ Some page → IsGoodPage meta (Live page)) where
  goes_on : (line : Line) (deed : Deed) (boxes : List Area) (more : List Record) → SearchGoesOn (sight now) line boxes more deed → IsGathering boxes more → StaysGathering deed.next
  goes_on line deed [] more (ordered, same, rising, is) gathering = subst (λ (d : Deed). StaysGathering d.next) (sym is) tt
  goes_on line deed (a ∷ boxes) more is gathering = subst (λ (d : Deed). StaysGathering d.next) (sym is) gathering

  -- a search at a page
  search_row : (line : Line) (held : Option ℕ) (rest : List Area) (found : List Record) (box : Area) (wanted : Option Wanted) (deed : Deed) → line.command ≡ Search box → All (IsBoxOf meta.k) rest → IsGathering rest found
      → Row (at.SessionWalk line held rest found) wanted now deed → StaysGathering deed.next
  search_row line held rest found box wanted deed command boxes gathering row =
      let at_page = walk_row now line held rest found box wanted deed command row in
      elim at_page.goes [
        | inl passes ↦ subst StaysGathering (sym passes.next) gathering
        | inr gathers ↦ (let whole : All (IsBoxOf meta.k) (gathers.front ++ gathers.at_hand ∷ []) = subst (λ (r : List Area). All (IsBoxOf meta.k) r) gathers.boxes boxes in
            let page = good at_page.id at_page.page at_page.live in
            let hand : IsBoxOf meta.k gathers.at_hand = All-last (IsBoxOf meta.k) gathers.front gathers.at_hand whole in
            let in_hand : Holds gathers.at_hand at_page.p = subst (Holds gathers.at_hand) (goal_at_hand box rest gathers.front gathers.at_hand at_page.p gathers.boxes at_page.goal) (lo_held gathers.at_hand hand.0) in
            let in_leaf = (leaf_box meta at_page.page at_page.p _ page gathers.leaf).1 in
            let before : IsGathering (gathers.front ++ gathers.at_hand ∷ []) found = subst (λ (r : List Area). IsGathering r found) gathers.boxes gathering in
            goes_on line deed (gathers.front ++ pieces_outside gathers.at_hand (common_area gathers.at_hand gathers.area)) (found ++ filter (λ r. holds gathers.at_hand r.key) gathers.records) gathers.goes
            (gathering_after meta.k gathers.front gathers.at_hand found gathers.records gathers.area at_page.p whole (leaf_of meta at_page.page at_page.p gathers.records gathers.area page gathers.leaf) in_hand in_leaf before))
      ]

  walk_at : (line : Line) (held : Option ℕ) (rest : List Area) (found : List Record) (command : Command) (wanted : Option Wanted) (deed : Deed) → line.command ≡ command → All (IsBoxOf meta.k) rest → IsGathering rest found
      → Row (at.SessionWalk line held rest found) wanted now deed → StaysGathering deed.next
  walk_at line held rest found (Search box) wanted deed is boxes gathering row = search_row line held rest found box wanted deed is boxes gathering row
  walk_at line held rest found (Insert rec) wanted deed is boxes gathering row = other_row now (at.SessionWalk line held rest found) wanted deed (λ wants. subst WantsBoxes is wants) gathering row
  walk_at line held rest found (Delete point) wanted deed is boxes gathering row = other_row now (at.SessionWalk line held rest found) wanted deed (λ wants. subst WantsBoxes is wants) gathering row
  walk_at line held rest found (Lookup point) wanted deed is boxes gathering row = other_row now (at.SessionWalk line held rest found) wanted deed (λ wants. subst WantsBoxes is wants) gathering row

  row_gathers : (activity : Activity) (wanted : Option Wanted) (deed : Deed) → All (IsBoxOf meta.k) (boxes_left activity) → StaysGathering activity → Row activity wanted now deed → StaysGathering deed.next
  row_gathers (at.SessionWalk line held rest found) wanted deed boxes gathering row = walk_at line held rest found line.command wanted deed refl boxes gathering row
  row_gathers activity wanted deed boxes gathering row = other_row now activity wanted deed tt gathering row

-- ---- each step

module _ (m : Machine) (actor : ℕ) (outcome : Outcome) (new : Machine) (kept : MachineKeeps m) where
  performed : (fetched : StoreState) (deed : Deed) → Performs m fetched actor deed outcome new → StaysGathering deed.next → SearchesGather new
  performed fetched deed performs own = each_again (λ (other : ℕ) (activity : Activity). StaysGathering activity) m.activity new.activity actor deed.next performs.activity own (λ other another. kept.searches_gather other)

  keeps : KeepsAllButDisk m new → SearchesGather new
  keeps stays = subst (λ (all : ℕ → Activity). (other : ℕ) → StaysGathering (all other)) (sym stays.activity) kept.searches_gather

  posts : (deed : Deed) → TakesJob m deed → Performs m m.store actor deed outcome new → SearchesGather new
  posts deed taken performs = performed m.store deed performs (no_line_gathers deed.next (took_job m deed taken))

  merges : (deed : Deed) → TakesMerging m deed → Performs m m.store actor deed outcome new → SearchesGather new
  merges deed taken performs = performed m.store deed performs (no_line_gathers deed.next (took_merging m deed taken))

  acts : DoesRow m actor outcome new → SearchesGather new
  acts does = performed does.fetched does.deed does.performs
      (row_gathers m.store.meta (with_disk does.fetched m.files m.clock m) (λ id page live. fetched_good m _ does.fetched kept.pages_of_file does.brings id page live) (m.activity actor) (wanted_by m actor) does.deed (kept.attributes_fit.boxes actor) (kept.searches_gather actor) does.row)

  ends : (fetched : StoreState) (deed : Deed) → EndsHand (m.activity actor) deed → Performs m fetched actor deed outcome new → SearchesGather new
  ends fetched deed ended performs = performed fetched deed performs (no_line_gathers deed.next (ap line_of ended.hand))

pub searches_gather_still : (m : Machine) (actor : ℕ) (outcome : Outcome) (new : Machine) → MachineKeeps m → StepsTo m actor outcome new → SearchesGather new
searches_gather_still m actor outcome new kept step = each_deed m actor outcome new (SearchesGather new) (record {
  keeps = λ stays meta. keeps m actor outcome new kept stays;
  takes = λ line idle next performs. performed m actor outcome new kept m.store (taking line) performs (begins line.command);
  posts = λ deed idle taken performs. posts m actor outcome new kept deed taken performs;
  merges = λ deed idle taken performs. merges m actor outcome new kept deed taken performs;
  acts = acts m actor outcome new kept;
  ends = λ fetched deed meta ended performs. ends m actor outcome new kept fetched deed ended performs;
}) step
