-- After a step a page that is to be split lacks room for its insert, and of the two halves of a split one has room.
use Rattle.hb_steps.proofs.Room.Names.{◌≡◌, ◌⊎◌, inl, inr, ℕ, ◌<◌, ◌≤◌, List, [], ◌∷◌, length, Option, Some, None, refl, sym, ap, ◌∙◌, subst, Record, DCAP_MIN, Meta, LivePage, Op, Insert, Line, Activity, Deed, does, TakesFull, now, Brings, MustStay, MetaWithinLimits, HasRoomFor, HoldsPagesOfFile, LacksRoomFor, OneHasRoom, Machine, live_here, MayDo, weight_of, put_page, read_here, StoreState}
use Rattle.hb_steps.proofs.Latches.SameLatches.{HasHeld, live_held}
use Rattle.hb_steps.proofs.Latches.HeldKept.{each_held}
use Rattle.std.proofs.lemmas.Option.{none-some}
use Rattle.hb_ops.specs.declared.operations.Op.TheVariants as ops
use Rattle.hb_latch.specs.declared.modes.Mode.TheVariants.{Exclusive}
use Rattle.hb_activity.specs.declared.jobs.Job.{Job}
use Rattle.hb_activity.specs.declared.activities.Activity.TheVariants as at
use Rattle.hb_steps.specs.declared.outcomes.Outcome.{Outcome}
use Rattle.hb_steps.specs.declared.outcomes.Outcome.TheVariants as outcomes
use Rattle.hb_activity.specs.Classes.{line_in_hand}
use Rattle.hb_activity.specs.Holding.{latch_on}
use Rattle.hb_activity.specs.Walks.{walk_held}
use Rattle.hb_steps.proofs.Table.NextPlaces.{HasPlace, HoldsNothing, KeepsParent, PartsFull, place_after}
use Rattle.hb_steps.proofs.Room.SplitHalves.{one_has_room, takes_full}
use Rattle.hb_steps.proofs.Room.SplitHome.{RoomLaws}
use Rattle.hb_steps.proofs.Facts.StepKinds.{each_kind, FlushesMore, ready_kind}
use Rattle.hb_steps.specs.Acting.{MeetsBadPage}
use Rattle.hb_steps.specs.Forcing.{ForcesAll, StaysSo}
use Rattle.hb_steps.specs.KeepingLaws.{RoomStaysKnown}
use Rattle.hb_steps.specs.Keeps.{KnowsRoom, LacksRecordAt, LatchesFit}
use Rattle.hb_steps.specs.Performing.{Performs, latches_held, mode_among}
use Rattle.hb_steps.specs.Steps.{StepsTo, Works}
use Rattle.hb_space.specs.Actors.{IsActor}
use Rattle.hb_ops.specs.Operations.{change_of}
use Rattle.hb_steps.proofs.Table.MergerMoves.{no_line}
use Rattle.hb_lemmas.proofs.Booleans.{at_itself}
use Rattle.hb_lemmas.proofs.Lists.{not_empty}
use Rattle.hb_steps.proofs.Memory.OwnedOps.{second_mode}
use Rattle.hb_steps.proofs.Memory.BroughtPages.{must_hold}

-- ---- the capacity stays

capacity_of_change : (op : Op) (meta : Meta) (first second third : Option LivePage) → (change_of op meta first second third).meta.dcap ≡ meta.dcap
capacity_of_change (ops.Put id rec) meta None second third = refl
capacity_of_change (ops.Put id rec) meta (Some page) second third = refl
capacity_of_change (ops.Del id point) meta None second third = refl
capacity_of_change (ops.Del id point) meta (Some page) second third = refl
capacity_of_change (ops.Extract source fresh path cuts free_after) meta None second third = refl
capacity_of_change (ops.Extract source fresh path cuts free_after) meta (Some page) second third = refl
capacity_of_change (ops.Post parent way inner area) meta None second third = refl
capacity_of_change (ops.Post parent way inner area) meta (Some page) second third = refl
capacity_of_change (ops.Merge parent keep gone) meta None second third = refl
capacity_of_change (ops.Merge parent keep gone) meta (Some above) None third = refl
capacity_of_change (ops.Merge parent keep gone) meta (Some above) (Some kept) None = refl
capacity_of_change (ops.Merge parent keep gone) meta (Some above) (Some kept) (Some going) = refl
capacity_of_change (ops.Grow fresh free_after) meta first second third = refl

abbrev pub SameCapacity : Machine → Machine → Type 0
SameCapacity m new = new.store.meta.dcap ≡ m.store.meta.dcap

module _ (m : Machine) (actor : ℕ) (outcome : Outcome) (new : Machine) where
  by_op : (op : Option Op) (mark : ℕ) (fetched : StoreState) → fetched.meta ≡ m.store.meta → MayDo op mark fetched new.store → SameCapacity m new
  by_op None mark fetched meta does = ap (λ (st : StoreState). st.meta.dcap) does ∙ ap (λ (x : Meta). x.dcap) meta
  by_op (Some op) mark fetched meta does =
      ap (λ (x : Meta). x.dcap) does.commits.meta
      ∙ capacity_of_change op fetched.meta (read_here fetched op 0) (read_here fetched op 1) (read_here fetched op 2)
      ∙ ap (λ (x : Meta). x.dcap) meta

  pub by_deed : (fetched : StoreState) (deed : Deed) → fetched.meta ≡ m.store.meta → Performs m fetched actor deed outcome new → SameCapacity m new
  by_deed fetched deed meta performs = by_op deed.op _ fetched meta performs.store

  by_rest : (said : Outcome) → StaysSo m said outcome new → SameCapacity m new
  by_rest said so = ap (λ (x : Machine). x.store.meta.dcap) so.1

  by_force : (said : Outcome) → ForcesAll m said outcome new → SameCapacity m new
  by_force said (inl well) = ap (λ (x : Machine). x.store.meta.dcap) well.1
  by_force said (inr badly) = ap (λ (x : Machine). x.store.meta.dcap) badly.1.stops

  by_bad_page : MeetsBadPage m actor outcome new → SameCapacity m new
  by_bad_page meets = ap (λ (x : Machine). x.store.meta.dcap) meets.stops ∙ ap (λ (s : StoreState). s.meta.dcap) meets.brings.rest

  by_more : FlushesMore m outcome new → SameCapacity m new
  by_more (none, inl (page, oldest, due, quiet, well)) = ap (λ (x : Machine). x.store.meta.dcap) well.leaves
  by_more (none, inr (inl (old, due, quiet, turns))) = ap (λ (x : Machine). x.store.meta.dcap) turns.leaves
  by_more (none, inr (inr (calls, left, fails))) = ap (λ (x : Machine). x.store.meta.dcap) fails.stops

  by_work : Works m actor outcome new → SameCapacity m new
  by_work (inl (by, way, so)) = by_rest (outcomes.Blocked by) so
  by_work (inr (inl (free, unready, inl (waits, force)))) = by_force outcomes.Helped force
  by_work (inr (inl (free, unready, inr (none, rest)))) = ready_kind m outcome new (SameCapacity m new) none by_more rest
  by_work (inr (inr (free, ready, inl acts))) = by_deed acts.fetched acts.deed (ap (λ (s : StoreState). s.meta) acts.brings.rest) acts.performs
  by_work (inr (inr (free, ready, inr (inl gives)))) = by_deed gives.fetched _ (ap (λ (s : StoreState). s.meta) gives.brings.rest) gives.performs
  by_work (inr (inr (free, ready, inr (inr meets)))) = by_bad_page meets

  pub capacity_stays : StepsTo m actor outcome new → SameCapacity m new
  capacity_stays step = each_kind m actor outcome new (SameCapacity m new) (λ said quiet so. by_rest said so) (λ said quiet force. by_force said force) by_more (λ deed outright performs. by_deed m.store deed refl performs) by_work step

-- ---- what one activity knows

abbrev pub LacksRoom : Machine → Line → ℕ → Type 0
LacksRoom m line held = (rec : Record) × (line.command ≡ Insert rec) × LacksRoomFor m held rec.key rec.body

abbrev pub HasRoom : Machine → Line → ℕ → ℕ → Type 0
HasRoom m line source fresh = (rec : Record) × (line.command ≡ Insert rec) × OneHasRoom m source fresh rec.key rec.body

pub record KnowsOf (m : Machine) (activity : Activity) : Type 0 where
  pub splits : (held : ℕ) (line : Line) → activity ≡ at.SessionSplit line held → LacksRoom m line held
  pub puts : (source fresh : ℕ) (line : Line) → activity ≡ at.SessionPut line source fresh → HasRoom m line source fresh

pub all_know : (m : Machine) → ((actor : ℕ) → KnowsOf m (m.activity actor)) → KnowsRoom m
all_know m each = record { splits = λ actor. (each actor).splits; puts = λ actor. (each actor).puts }

-- the same in a memory that has the page
module _ (m new : Machine) (capacity : SameCapacity m new) where
  abbrev home_again : (id : ℕ) (p : List ℕ) → ((page : LivePage) → live_here m.store id ≡ Some page → live_here new.store id ≡ Some page) → LacksRecordAt m id p → LacksRecordAt new id p
  home_again id p there home = record { page = home.page; live = there home.page home.live; level = home.level; direct = home.direct; absent = home.absent }

  lacks_again : (held : ℕ) (p body : List ℕ) → ((page : LivePage) → live_here m.store held ≡ Some page → live_here new.store held ≡ Some page) → LacksRoomFor m held p body → LacksRoomFor new held p body
  lacks_again held p body there lacks = record {
    home = home_again held p there lacks.home;
    full = subst (λ (n : ℕ). n < weight_of (put_page (record { key = p; body = body }) lacks.home.page).frag) (sym capacity) lacks.full;
  }

  has_again : (half : ℕ) (p body : List ℕ) → ((page : LivePage) → live_here m.store half ≡ Some page → live_here new.store half ≡ Some page) → HasRoomFor m half p body → HasRoomFor new half p body
  has_again half p body there has = record {
    home = home_again half p there has.home;
    room = subst (λ (n : ℕ). weight_of (put_page (record { key = p; body = body }) has.home.page).frag ≤ n) (sym capacity) has.room;
  }

  pub splits_again : (line : Line) (held : ℕ) → ((page : LivePage) → live_here m.store held ≡ Some page → live_here new.store held ≡ Some page) → LacksRoom m line held → LacksRoom new line held
  splits_again line held there (rec, command, lacks) = (rec, command, lacks_again held rec.key rec.body there lacks)

  one_again : (source fresh : ℕ) (p body : List ℕ) → ((page : LivePage) → live_here m.store source ≡ Some page → live_here new.store source ≡ Some page) → ((page : LivePage) → live_here m.store fresh ≡ Some page → live_here new.store fresh ≡ Some page)
      → OneHasRoom m source fresh p body → OneHasRoom new source fresh p body
  one_again source fresh p body first second one = record {
    first = one.first;
    second = one.second;
    first_live = first one.first one.first_live;
    second_live = second one.second one.second_live;
    not_both = one.not_both;
    room = by one.room;
  }
    where
      by : HasRoomFor m source p body ⊎ HasRoomFor m fresh p body → HasRoomFor new source p body ⊎ HasRoomFor new fresh p body
      by (inl has) = inl (has_again source p body first has)
      by (inr has) = inr (has_again fresh p body second has)

  pub puts_again : (line : Line) (source fresh : ℕ) → ((page : LivePage) → live_here m.store source ≡ Some page → live_here new.store source ≡ Some page) → ((page : LivePage) → live_here m.store fresh ≡ Some page → live_here new.store fresh ≡ Some page)
      → HasRoom m line source fresh → HasRoom new line source fresh
  puts_again line source fresh first second (rec, command, one) = (rec, command, one_again source fresh rec.key rec.body first second one)

-- ---- an activity that neither splits nor has split

knows_none : (m : Machine) (activity : Activity) → ((held : ℕ) (line : Line) → activity ≡ at.SessionSplit line held → ⊥) → ((source fresh : ℕ) (line : Line) → activity ≡ at.SessionPut line source fresh → ⊥) → KnowsOf m activity
knows_none m activity split put = record { splits = λ held line is. absurd (split held line is); puts = λ source fresh line is. absurd (put source fresh line is) }

pub free_knows : (m : Machine) (activity : Activity) → HoldsNothing activity → KnowsOf m activity
free_knows m activity free = knows_none m activity (λ held line is. not_empty (latch_on held Exclusive) [] (sym (ap (latches_held m.store) is) ∙ free.latches m.store)) (λ source fresh line is. not_empty (latch_on source Exclusive) (latch_on fresh Exclusive ∷ []) (sym (ap (latches_held m.store) is) ∙ free.latches m.store))

-- an actor that has no line in hand splits nothing
handless_knows : (m : Machine) (activity : Activity) → line_in_hand activity ≡ None → KnowsOf m activity
handless_knows m activity none = knows_none m activity (λ held line is. none-some line (sym none ∙ ap line_in_hand is)) (λ source fresh line is. none-some line (sym none ∙ ap line_in_hand is))

walk_knows : (m : Machine) (activity : Activity) (id : ℕ) → walk_held activity ≡ Some id → KnowsOf m activity
walk_knows m activity id walks = knows_none m activity (λ held line is. none-some id (sym (ap walk_held is) ∙ walks)) (λ source fresh line is. none-some id (sym (ap walk_held is) ∙ walks))

child_knows : (m : Machine) (job : Job) (parent : ℕ) → KnowsOf m (at.PosterChild job parent)
child_knows m job parent = knows_none m (at.PosterChild job parent) (λ held line is. cc) (λ source fresh line is. cc)

promote_knows : (m : Machine) (job : Job) (parent : ℕ) → KnowsOf m (at.PosterPromote job parent)
promote_knows m job parent = knows_none m (at.PosterPromote job parent) (λ held line is. cc) (λ source fresh line is. cc)

again_knows : (m : Machine) (job : Job) (parent : ℕ) → KnowsOf m (at.PosterAgain job parent)
again_knows m job parent = knows_none m (at.PosterAgain job parent) (λ held line is. cc) (λ source fresh line is. cc)

-- ---- one that does

-- its pages are held exclusively
pub split_latched : (st : StoreState) (activity : Activity) (line : Line) (held : ℕ) → activity ≡ at.SessionSplit line held → mode_among held (latches_held st activity) ≡ Some Exclusive
split_latched st activity line held is = ap (λ (a : Activity). mode_among held (latches_held st a)) is ∙ at_itself held (Some Exclusive) None

pub put_latched : (st : StoreState) (activity : Activity) (line : Line) (source fresh : ℕ) → activity ≡ at.SessionPut line source fresh → (mode_among source (latches_held st activity) ≡ Some Exclusive) × (mode_among fresh (latches_held st activity) ≡ Some Exclusive)
put_latched st activity line source fresh is = (
  ap (λ (a : Activity). mode_among source (latches_held st a)) is ∙ at_itself source (Some Exclusive) (mode_among source (latch_on fresh Exclusive ∷ [])),
  ap (λ (a : Activity). mode_among fresh (latches_held st a)) is ∙ second_mode source fresh Exclusive,
)

split_knows : (m : Machine) (line : Line) (held : ℕ) → LacksRoom m line held → KnowsOf m (at.SessionSplit line held)
split_knows m line held lacks = record { splits = λ other_held other is. moved other other_held (parts line other held other_held is); puts = λ source fresh other is. absurd (never source fresh other is) }
  where
    parts : (a b : Line) (p q : ℕ) → at.SessionSplit a p ≡ at.SessionSplit b q → (a ≡ b) × (p ≡ q)
    parts a b p q is = (cc, cc)

    moved : (other : Line) (id : ℕ) → (line ≡ other) × (held ≡ id) → LacksRoom m other id
    moved other id same = subst (λ (l : Line). LacksRoom m l id) same.0 (subst (LacksRoom m line) same.1 lacks)

    never : (source fresh : ℕ) (other : Line) → at.SessionSplit line held ≡ at.SessionPut other source fresh → ⊥
    never source fresh other is = cc

-- three things are the same
pub record SamePlaces (a b : Line) (p q r t : ℕ) : Type 0 where
  pub line : a ≡ b
  pub first : p ≡ q
  pub second : r ≡ t

put_knows : (m : Machine) (line : Line) (source fresh : ℕ) → HasRoom m line source fresh → KnowsOf m (at.SessionPut line source fresh)
put_knows m line source fresh has = record { splits = λ held other is. absurd (never held other is); puts = λ a b other is. moved other a b (parts line other source a fresh b is) }
  where
    parts : (a b : Line) (p q r t : ℕ) → at.SessionPut a p r ≡ at.SessionPut b q t → SamePlaces a b p q r t
    parts a b p q r t is = record { line = cc; first = cc; second = cc }

    moved : (other : Line) (a b : ℕ) → SamePlaces line other source a fresh b → HasRoom m other a b
    moved other a b same = subst (λ (l : Line). HasRoom m l a b) same.line (subst (λ (n : ℕ). HasRoom m line n b) same.first (subst (HasRoom m line source) same.second has))

    never : (held : ℕ) (other : Line) → at.SessionPut line source fresh ≡ at.SessionSplit other held → ⊥
    never held other is = cc

pub knows_as : (m : Machine) (activity other : Activity) → activity ≡ other → KnowsOf m other → KnowsOf m activity
knows_as m activity other is knows = subst (KnowsOf m) (sym is) knows

-- ---- the actor that steps

module _ (laws : RoomLaws) (least : DCAP_MIN ≡ 6) (m : Machine) (actor : ℕ) (may : ℕ → Type 0) (fetched : StoreState) (one : IsActor actor) (fit : LatchesFit m) (inside : HoldsPagesOfFile m) (within : MetaWithinLimits m) (knows : KnowsRoom m)
    (brings : Brings m may fetched) (deed : Deed) (new : Machine) (capacity : SameCapacity m new) (does : MayDo deed.op (length m.order) fetched new.store) where
  full_known : (full : TakesFull (now m actor fetched) deed) → LacksRoom new full.line full.id
  full_known full = (full.rec, full.command, takes_full m actor may fetched inside brings deed new does laws full)

  parted_known : (parts : PartsFull m actor (now m actor fetched) deed) → MustStay m parts.held → LacksRoom m parts.line parts.held → HasRoom new parts.line parts.held parts.row.leaves.fresh
  parted_known parts must (rec, command, lacks) = (rec, command, one_has_room m actor may fetched inside within brings laws least new capacity parts.line parts.held deed parts.row does rec must lacks)

  kept_parent_knows : KeepsParent m actor deed → KnowsOf new deed.next
  kept_parent_knows keeps = by keeps.after
    where
      by : (deed.next ≡ at.PosterPromote keeps.job keeps.parent) ⊎ (deed.next ≡ at.PosterAgain keeps.job keeps.parent) → KnowsOf new deed.next
      by (inl is) = knows_as new deed.next _ is (promote_knows new keeps.job keeps.parent)
      by (inr is) = knows_as new deed.next _ is (again_knows new keeps.job keeps.parent)

  knows_there : HasPlace m actor (now m actor fetched) deed → KnowsOf new deed.next
  knows_there (inl free) = free_knows new deed.next free
  knows_there (inr (inl to)) = walk_knows new deed.next to.id to.held
  knows_there (inr (inr (inl full))) = knows_as new deed.next _ (ap (λ (d : Deed). d.next) full.row.deed_is) (split_knows new full.line full.id (full_known full))
  knows_there (inr (inr (inr (inl takes)))) = knows_as new deed.next _ (ap (λ (d : Deed). d.next) takes.row.deed_is) (child_knows new takes.job takes.id)
  knows_there (inr (inr (inr (inr (inl keeps))))) = kept_parent_knows keeps
  knows_there (inr (inr (inr (inr (inr (inr merges)))))) = handless_knows new deed.next (ap (λ (d : Deed). line_in_hand d.next) merges.stays.is ∙ no_line merges.stays.next merges.stays.job merges.stays.after)
  knows_there (inr (inr (inr (inr (inr (inl parts)))))) =
      knows_as new deed.next _ (ap (λ (d : Deed). d.next) parts.row.deed_is) (put_knows new parts.line parts.held parts.row.leaves.fresh (parted_known parts (must_hold m actor parts.held (at.SessionSplit parts.line parts.held) Exclusive one fit parts.before (at_itself parts.held (Some Exclusive) None)) (knows.splits actor parts.held parts.line parts.before)))

-- ---- each step

-- where the pages that an actor holds stay, and the capacity
pub knows_held : (m new : Machine) → SameCapacity m new → (actor : ℕ) → HasHeld m actor new.store → KnowsOf m (m.activity actor) → KnowsOf new (m.activity actor)
knows_held m new capacity actor has knows = record {
  splits = λ held line is. splits_again m new capacity line held (λ page live. live_held m actor new.store has held Exclusive page (split_latched m.store (m.activity actor) line held is) live) (knows.splits held line is);
  puts = λ source fresh line is.
      let both = put_latched m.store (m.activity actor) line source fresh is in
      puts_again m new capacity line source fresh (λ page live. live_held m actor new.store has source Exclusive page both.0 live) (λ page live. live_held m actor new.store has fresh Exclusive page both.1 live) (knows.puts source fresh line is);
}

pub room_stays_known : RoomLaws → DCAP_MIN ≡ 6 → RoomStaysKnown
room_stays_known laws least m actor outcome new latches fit inside within nobody knows step = all_know new (each_held m actor outcome new latches fit inside step (λ other activity. KnowsOf new activity)
    (λ other has. knows_held m new capacity other has (record { splits = knows.splits other; puts = knows.puts other }))
    (free_knows new)
    (λ way acts. knows_there laws least m actor _ acts.fetched latches fit inside within knows acts.brings acts.deed new capacity acts.performs.store (place_after m actor acts.fetched _ acts.deed refl acts.row)))
  where
    capacity : SameCapacity m new
    capacity = capacity_stays m actor outcome new step
