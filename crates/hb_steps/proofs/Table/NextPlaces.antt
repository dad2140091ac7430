-- Where an actor stands after a step that may be done: it holds nothing, walks on, or takes its page or its job one step further.
use Rattle.hb_steps.proofs.Table.Names.{◌≡◌, ◌⊎◌, inl, inr, ℕ, List, [], Option, Some, None, refl, ◌∙◌, Record, LivePage, Insert, Line, Job, Wanted, Activity, DropWhy, Class, class_of, idle_of, Deed, moves_to, walk_held, wanted_by, gives_up, merging_at, Machine, live_here, with_disk, sight, latches_held, Row, RowAt, leaf_at, StoreState}
use Rattle.hb_activity.specs.declared.activities.Activity.TheVariants as at
use Rattle.hb_activity.specs.Passing.{posts_owed}
use Rattle.hb_activity.specs.Walks.{walk_point}
use Rattle.hb_steps.proofs.Table.GivenUp.{given_up_is, idle_latches, idle_merging, idle_walks}
use Rattle.hb_steps.specs.KeptMerges.{IsMerging}
use Rattle.hb_frag.specs.Leaves.{IsPointer, Placed}
use Rattle.hb_point.specs.SessionRows.{FindsNoRoom}
use Rattle.hb_point.specs.SplitRows.{Splits}
use Rattle.hb_poster.specs.PosterRows.{Arrives}
use Rattle.hb_frag.specs.declared.leaves.Leaf.{Leaf}
use Rattle.hb_steps.proofs.Table.MergerMoves.{StaysMerger}
use Rattle.hb_steps.proofs.Facts.EachRow.{PassesAt, each_row}

-- it holds no page between two steps
pub record HoldsNothing (next : Activity) : Type 0 where
  pub walk : walk_held next ≡ None
  pub latches : (st : StoreState) → latches_held st next ≡ []
  pub merging : merging_at next ≡ None

-- a walk goes on to the page at hand, which has a leaf at the walk's point
pub record WalksTo (st : StoreState) (deed : Deed) : Type 0 where
  pub id : ℕ
  pub page : LivePage
  pub live : live_here st id ≡ Some page
  pub p : List ℕ
  pub placed : Placed
  pub leaf : leaf_at page p ≡ Some placed
  pub names : IsPointer placed.leaf
  pub held : walk_held deed.next ≡ Some id
  pub point : walk_point deed.next ≡ Some p
  pub merging : merging_at deed.next ≡ None
  pub nothing : deed.op ≡ None

-- an insert takes a page that is full
pub record TakesFull (m : Machine) (deed : Deed) : Type 0 where
  pub line : Line
  pub rec : Record
  pub command : line.command ≡ Insert rec
  pub id : ℕ
  pub page : LivePage
  pub live : live_here m.store id ≡ Some page
  pub row : FindsNoRoom (sight m) line rec id page deed

-- a posting arrives at the parent
pub record TakesParent (m : Machine) (deed : Deed) : Type 0 where
  pub job : Job
  pub id : ℕ
  pub page : LivePage
  pub live : live_here m.store id ≡ Some page
  pub row : Arrives job id page deed

-- or goes on there
pub record KeepsParent (m : Machine) (actor : ℕ) (deed : Deed) : Type 0 where
  pub job : Job
  pub parent : ℕ
  pub before : (m.activity actor ≡ at.PosterChild job parent) ⊎ (m.activity actor ≡ at.PosterPromote job parent)
  pub after : (deed.next ≡ at.PosterPromote job parent) ⊎ (deed.next ≡ at.PosterAgain job parent)
  pub nothing : deed.op ≡ None

-- a full page is split
pub record PartsFull (m : Machine) (actor : ℕ) (now : Machine) (deed : Deed) : Type 0 where
  pub line : Line
  pub held : ℕ
  pub before : m.activity actor ≡ at.SessionSplit line held
  pub row : Splits (sight now) line held deed

-- the page that an actor's step wants, and finds of the level that it wants
pub record AsksFor (m : Machine) (actor id : ℕ) (found : LivePage) : Type 0 where
  pub wanted : Wanted
  pub wants : wanted_by m actor ≡ Some wanted
  pub page : wanted.page ≡ id
  pub level : found.level ≡ wanted.level

-- a consolidator arrives at a parent or goes on there, or is idle then
pub record MergesOn (m : Machine) (actor : ℕ) (now : Machine) (deed : Deed) : Type 0 where
  pub activity : Activity
  pub before : m.activity actor ≡ activity
  pub kind : IsMerging activity
  pub id : ℕ
  pub page : LivePage
  pub asks : AsksFor m actor id page
  pub live : live_here now.store id ≡ Some page
  pub row : RowAt activity (sight now) id page deed
  pub stays : StaysMerger activity deed

abbrev pub HasPlace : Machine → ℕ → Machine → Deed → Type 0
HasPlace m actor now deed = HoldsNothing deed.next ⊎ WalksTo now.store deed ⊎ TakesFull now deed ⊎ TakesParent now deed ⊎ KeepsParent m actor deed ⊎ PartsFull m actor now deed ⊎ MergesOn m actor now deed

module _ (m : Machine) (actor : ℕ) (fetched : StoreState) where
  abbrev pub now : Machine
  now = with_disk fetched m.files m.clock m

  -- what is to be shown of a row
  abbrev GetsPlace : Activity → Deed → Type 0
  GetsPlace activity deed = m.activity actor ≡ activity → HasPlace m actor now deed

  rests : (deed : Deed) → walk_held deed.next ≡ None → ((st : StoreState) → latches_held st deed.next ≡ []) → merging_at deed.next ≡ None → HasPlace m actor now deed
  rests deed walk latches merging = inl (record { walk = walk; latches = latches; merging = merging })

  goes_on : (id : ℕ) (page : LivePage) (p : List ℕ) (next : Activity) (leaf : Leaf) → live_here fetched id ≡ Some page → walk_held next ≡ Some id → walk_point next ≡ Some p → merging_at next ≡ None → PassesAt page p leaf → HasPlace m actor now (moves_to next (posts_owed page p leaf))
  goes_on id page p next leaf live held point merging row = inr (inl (record {
    id = id;
    page = page;
    live = live;
    p = p;
    placed = record { leaf = leaf; area = row.area };
    leaf = row.at_point;
    names = row.names;
    held = held;
    point = point;
    merging = merging;
    nothing = refl;
  }))

  keeps_parent : (job : Job) (parent : ℕ) (next : Activity) → (m.activity actor ≡ at.PosterChild job parent) ⊎ (m.activity actor ≡ at.PosterPromote job parent) → (next ≡ at.PosterPromote job parent) ⊎ (next ≡ at.PosterAgain job parent) → HasPlace m actor now (moves_to next [])
  keeps_parent job parent next before after = inr (inr (inr (inr (inl (record { job = job; parent = parent; before = before; after = after; nothing = refl })))))

  pub place_after : (wanted : Option Wanted) (deed : Deed) → wanted_by m actor ≡ wanted → Row (m.activity actor) wanted now deed → HasPlace m actor now deed
  place_after wanted deed wants row = each_row now GetsPlace (m.activity actor) wanted deed
      (record {
        full = λ line held none is. rests _ refl (λ st. refl) refl;
        splits = λ line held page live leaves is. inr (inr (inr (inr (inr (inl (record { line = line; held = held; before = is; row = record { page = page; live = live; leaves = leaves; deed_is = refl } }))))));
        puts = λ line source fresh rec command half either page live is. rests _ refl (λ st. refl) refl;
      })
      (λ its page at_hand hand. record {
        passes = λ line held rest found p goal leaf row is. goes_on its.page page p (at.SessionWalk line (Some its.page) rest found) leaf hand.live refl goal refl row;
        only_replies = λ line held rest found reply alone is. rests _ refl (λ st. refl) refl;
        inserts = λ line held rest found rec command absent room is. rests _ refl (λ st. refl) refl;
        lacks_room = λ line held rest found rec command level absent full is. inr (inr (inl (record {
          line = line;
          rec = rec;
          command = command;
          id = its.page;
          page = page;
          live = hand.live;
          row = record { level = level; absent = absent; full = full; deed_is = refl };
        })));
        deletes = λ line held rest found p there command stands is. rests _ refl (λ st. refl) refl;
        searches = λ line held rest found area others more row is. rests _ refl (λ st. refl) refl;
        grows = λ job fresh free_after may free next is. rests _ refl (λ st. refl) refl;
        ends = λ activity job kind hand is. rests _ refl (λ st. refl) refl;
        arrives = λ job held child area level leaf is. inr (inr (inr (inl (record { job = job; id = its.page; page = page; live = hand.live; row = record { level = level; child = child; area = area; leaf = leaf; deed_is = refl } }))));
        walks = λ job held leaf farther row is. goes_on its.page page job.point (at.PosterWalk job (Some its.page)) leaf hand.live refl refl refl row;
        looks = λ job parent is. keeps_parent job parent _ (inl is) (inl refl);
        promotes = λ job parent is. keeps_parent job parent _ (inr is) (inr refl);
        posts = λ job parent above path inner area live plan is. rests _ refl (λ st. refl) refl;
        parts = λ job parent above live plan leaves is. rests _ refl (λ st. refl) refl;
        walks_to_merge = λ job held leaf farther row is. goes_on its.page page job.point (at.ConsolidatorWalk job (Some its.page)) leaf hand.live refl refl refl row;
        merges = λ activity deed kind row stays is. inr (inr (inr (inr (inr (inr (record {
          activity = activity;
          before = is;
          kind = kind;
          id = its.page;
          asks = record { wanted = its; wants = wants ∙ at_hand; page = refl; level = hand.level };
          page = page;
          live = hand.live;
          row = row;
          stays = stays;
        }))))));
        merges_two = λ job parent keep gone pair is. rests _ refl (λ st. refl) refl;
      }) row refl

-- ---- what can't go on holds nothing

idle_holds : (kind : Class) → HoldsNothing (idle_of kind)
idle_holds kind = record { walk = idle_walks kind; latches = idle_latches kind; merging = idle_merging kind }

pub nothing_given_up : (why : DropWhy) (activity : Activity) → HoldsNothing (gives_up why activity).next
nothing_given_up why activity = given_up_is (λ deed. HoldsNothing deed.next) why activity (λ line is. record { walk = refl; latches = λ st. refl; merging = refl }) (λ job is. idle_holds (class_of activity)) (λ is. idle_holds (class_of activity))
