-- The boxes that a search has before it after a row are boxes of the file's attributes, and it has one left.
use Rattle.hb_steps.proofs.Machines.Names.{◌≡◌, ◌≢◌, ℕ, ◌-◌, List, [], ◌∷◌, ◌++◌, length, All, Option, Some, None, refl, sym, ap, ◌∙◌, subst, arith, slice_get, option_map, All-append, All-nil, LivePage, Live, Meta, Command, Insert, Delete, Lookup, Search, Line, Wanted, Activity, Class, Consolidators, Flushers, Posters, Sessions, class_of, Deed, goal_of, IsBoxOf, boxes_left, Machine, sight, Row, WantsBoxes, Area, Holds, IsArea, common_area, pieces_outside, IsGoodPage, each_row, All-front, not_empty, same_Some}
use Rattle.std.proofs.lemmas.List.{length-append}
use Rattle.std.proofs.lemmas.List.Elements.{All-contains}
use Rattle.hb_space.specs.declared.records.Record.{Record}
use Rattle.hb_activity.specs.declared.activities.Activity.TheVariants as at
use Rattle.hb_steps.proofs.Machines.PieceBoxes.{pieces_are_boxes}
use Rattle.hb_frag.proofs.Facts.Tiles.{first_tells, tiles_areas, tiles_attributes}
use Rattle.hb_frag.specs.Leaves.{Placed, leaf_at, leaves_of}
use Rattle.hb_space.proofs.Facts.Boxes.{lo_held}
use Rattle.hb_steps.proofs.Facts.EachRow.{Searches}
use Rattle.hb_lemmas.proofs.Lists.{All-last, get-push_last}

-- a search that walks has a box left
abbrev pub HasBoxLeft : Activity → Type 0
HasBoxLeft (at.SessionWalk line held rest found) = WantsBoxes line.command → rest ≢ []
HasBoxLeft other = Unit {0}

pub record BoxesFit (k : ℕ) (activity : Activity) : Type 0 where
  pub boxes : All (IsBoxOf k) (boxes_left activity)
  pub left : HasBoxLeft activity

-- ---- what doesn't walk as a session has no boxes

abbrev pub WalksAsSession : Activity → Type 0
WalksAsSession (at.SessionWalk line held rest found) = Unit {0}
WalksAsSession other = ⊥

pub none_ahead : (k : ℕ) (activity : Activity) → (WalksAsSession activity → ⊥) → BoxesFit k activity
none_ahead k (at.SessionWalk line held rest found) never = absurd (never tt)
none_ahead k activity never = record { boxes = All-nil (IsBoxOf k); left = tt }

walk_kind : (activity : Activity) → WalksAsSession activity → class_of activity ≡ Sessions
walk_kind (at.SessionWalk line held rest found) walks = refl
walk_kind activity walks = absurd walks

-- the workers and the flusher
abbrev IsSessions : Class → Type 0
IsSessions Sessions = Unit {0}
IsSessions Posters = ⊥
IsSessions Consolidators = ⊥
IsSessions Flushers = ⊥

pub others_have_none : (k : ℕ) (activity : Activity) (kind : Class) → (IsSessions kind → ⊥) → class_of activity ≡ kind → BoxesFit k activity
others_have_none k activity kind never is = none_ahead k activity (λ walks. never (subst IsSessions (sym (walk_kind activity walks) ∙ is) tt))

-- ---- a search

last_there : (front : List Area) (last : Area) (place : ℕ) → place ≡ length front → slice_get (front ++ last ∷ []) place ≡ Some last
last_there front last place is = ap (slice_get (front ++ last ∷ [])) is ∙ get-push_last front last

-- it walks to the lower corner of the last box
pub goal_at_hand : (area : Area) (rest front : List Area) (last : Area) (p : List ℕ) → rest ≡ front ++ last ∷ [] → goal_of (Search area) rest ≡ Some p → last.lo ≡ p
goal_at_hand area rest front last p is goal =
    let whole : goal_of (Search area) (front ++ last ∷ []) ≡ Some p = subst (λ (r : List Area). goal_of (Search area) r ≡ Some p) is goal in
    let long = length-append {A = Area} front (last ∷ []) in
    let there = last_there front last (length (front ++ last ∷ []) - 1) (omega (arith, long)) in
    same_Some last.lo p (sym (ap (option_map (λ (a : Area). a.lo)) there) ∙ whole)

-- which one is left to it
pub record HasLast (rest : List Area) : Type 0 where
  pub front : List Area
  pub last : Area
  pub is : rest ≡ front ++ last ∷ []

pub has_last : (rest : List Area) → rest ≢ [] → HasLast rest
has_last [] some = absurd (some refl)
has_last (a ∷ []) some = record { front = []; last = a; is = refl }
has_last (a ∷ b ∷ rest) some =
    let behind = has_last (b ∷ rest) (not_empty b rest) in
    record { front = a ∷ behind.front; last = behind.last; is = ap (λ (l : List Area). a ∷ l) behind.is }

pub corner_ahead : (command : Command) (rest : List Area) (ends : HasLast rest) → WantsBoxes command → goal_of command rest ≡ Some ends.last.lo
corner_ahead (Search area) rest ends wants =
    let long = length-append {A = Area} ends.front (ends.last ∷ []) in
    let there = last_there ends.front ends.last (length (ends.front ++ ends.last ∷ []) - 1) (omega (arith, long)) in
    subst (λ (r : List Area). goal_of (Search area) r ≡ Some ends.last.lo) (sym ends.is) (ap (option_map (λ (a : Area). a.lo)) there)
corner_ahead (Insert rec) rest ends wants = absurd wants
corner_ahead (Delete point) rest ends wants = absurd wants
corner_ahead (Lookup point) rest ends wants = absurd wants

-- the box of a leaf of a page of the file
pub leaf_box : (meta : Meta) (page : LivePage) (p : List ℕ) (l : Placed) → IsGoodPage meta (Live page) → leaf_at page p ≡ Some l → IsBoxOf meta.k l.area × Holds l.area p
leaf_box meta page p l good there =
    let at_leaf = (first_tells page.frag page.area p l good.0.fits.1 good.1.well_cut).0 there in (
      (
        All-contains (λ (x : Placed). IsArea x.area) (leaves_of page.frag page.area) l (tiles_areas page.frag page.area good.0.fits.1 good.1.well_cut) at_leaf.0,
        All-contains (λ (x : Placed). length x.area.lo ≡ length page.area.lo) (leaves_of page.frag page.area) l (tiles_attributes page.frag page.area) at_leaf.0 ∙ good.1.fits.attributes,
      ),
      at_leaf.1,
    )

-- a search that goes on has boxes of the file's attributes before it
search_goes_on : (meta : Meta) (line : Line) (held : Option ℕ) (rest : List Area) (found : List Record) (page : LivePage) (area : Area) (others : List Area) (more : List Record) → IsGoodPage meta (Live page) → BoxesFit meta.k (at.SessionWalk line held rest found) → Searches line rest page (area ∷ others)
    → BoxesFit meta.k (at.SessionWalk line None (area ∷ others) more)
search_goes_on meta line held rest found page area others more good fits row =
    let k = meta.k in
    let whole : All (IsBoxOf k) (row.front ++ row.at_hand ∷ []) = subst (λ (r : List Area). All (IsBoxOf k) r) row.whole fits.boxes in
    let hand : IsBoxOf k row.at_hand = All-last (IsBoxOf k) row.front row.at_hand whole in
    let box = leaf_box meta page row.p _ good row.leaf in
    let inside : Holds row.at_hand row.p = subst (Holds row.at_hand) (goal_at_hand row.whole_box rest row.front row.at_hand row.p row.whole row.goal) (lo_held row.at_hand hand.0) in
    let left = All-append (IsBoxOf k) row.front (pieces_outside row.at_hand (common_area row.at_hand row.area)) (All-front (IsBoxOf k) row.front (row.at_hand ∷ []) whole) (pieces_are_boxes k row.at_hand row.area row.p hand box.0 inside box.1) in
    record { boxes = subst (λ (l : List Area). All (IsBoxOf k) l) (sym row.left) left; left = λ wants none. not_empty area others none }

pub boxes_after : (meta : Meta) (now : Machine) (good : (id : ℕ) (page : LivePage) → (sight now).page_at id ≡ Some page → IsGoodPage meta (Live page)) (activity : Activity) (wanted : Option Wanted) (deed : Deed) → BoxesFit meta.k activity → Row activity wanted now deed → BoxesFit meta.k deed.next
boxes_after meta now good activity wanted deed fits row = each_row now (λ activity deed. BoxesFit meta.k activity → BoxesFit meta.k deed.next) activity wanted deed
    (record {
      full = λ line held none fits. none_ahead meta.k _ (λ never. never);
      splits = λ line held page live leaves fits. none_ahead meta.k _ (λ never. never);
      puts = λ line source fresh rec command half either page live fits. none_ahead meta.k _ (λ never. never);
    })
    (λ its page wants hand. record {
      passes = λ line held rest found p goal leaf row fits. record { boxes = fits.boxes; left = fits.left };
      only_replies = λ line held rest found reply alone fits. none_ahead meta.k _ (λ never. never);
      inserts = λ line held rest found rec command absent room fits. none_ahead meta.k _ (λ never. never);
      lacks_room = λ line held rest found rec command level absent full fits. none_ahead meta.k _ (λ never. never);
      deletes = λ line held rest found p there command stands fits. none_ahead meta.k _ (λ never. never);
      searches = λ line held rest found area others more row fits. search_goes_on meta line held rest found page area others more (good its.page page hand.live) fits row;
      grows = λ job fresh free_after may free next fits. none_ahead meta.k _ (λ never. never);
      ends = λ activity job kind hand fits. none_ahead meta.k _ (λ never. never);
      arrives = λ job held child area level leaf fits. none_ahead meta.k _ (λ never. never);
      walks = λ job held leaf farther row fits. none_ahead meta.k _ (λ never. never);
      looks = λ job parent fits. none_ahead meta.k _ (λ never. never);
      promotes = λ job parent fits. none_ahead meta.k _ (λ never. never);
      posts = λ job parent above path inner area live plan fits. none_ahead meta.k _ (λ never. never);
      parts = λ job parent above live plan leaves fits. none_ahead meta.k _ (λ never. never);
      walks_to_merge = λ job held leaf farther row fits. none_ahead meta.k _ (λ never. never);
      merges = λ activity deed kind row stays fits. subst (λ (d : Deed). BoxesFit meta.k d.next) (sym stays.is) (others_have_none meta.k stays.next Consolidators (λ never. never) stays.after.kind);
      merges_two = λ job parent keep gone pair fits. none_ahead meta.k _ (λ never. never);
    }) row fits
