-- A step brings no page into memory but the one that it wants, or the one of the number that a page takes that it makes.
use Rattle.hb_steps.proofs.Memory.Names.{◌≡◌, ◌≢◌, ◌⊎◌, inl, inr, ℕ, ◌+◌, ◌<◌, ◌==◌, Option, Some, None, IsSome, IsTrue, refl, sym, ap, ◌∙◌, subst, cases_Bool, eqb-false, eqb-true, false≢true, not_there, LivePage, Page, Meta, Op, Wanted, Activity, Outcome, Deed, gives_up_nothing, each_kind, FlushesMore, ready_kind, IsNumber, numbers_are_targets, set_elsewhere, wanted_by, Brings, ForcesAll, StaysSo, FailsToWrite, Machine, sight, with_disk, MayDo, Row, GetsReady, Works, if_live, change_of, change_here, read_here, IsNext, set_pages, StoreState, in_memory, each_op, each_row}
use Rattle.hb_ops.specs.declared.operations.Op.TheVariants as ops
use Rattle.hb_activity.specs.declared.activities.Activity.TheVariants as at
use Rattle.hb_steps.specs.declared.outcomes.Outcome.TheVariants as outcomes
use Rattle.hb_steps.proofs.Memory.CommitPages.{commit_here}
use Rattle.hb_steps.proofs.Memory.NextNumbers.{is_next_number}
use Rattle.hb_steps.specs.Acting.{MayNeed, NeedsNumber, takes_number}
use Rattle.hb_steps.specs.Fetching.{IsFreeHead, IsWantedPage}
use Rattle.hb_steps.specs.NeedLaws.{IsNextNumber, IsToBeMade, MayMakePage, NeedsPage, PagesComeByNeed}

live_is_some : (o : Option Page) (page : LivePage) → if_live o ≡ Some page → IsSome o
live_is_some None page live = cc
live_is_some (Some page) other live = refl

-- ---- the pages that an operation makes

-- the page that an operation makes, which was in no use
abbrev IsMade : Op → ℕ → Type 0
IsMade (ops.Put page rec) id = ⊥
IsMade (ops.Del page point) id = ⊥
IsMade (ops.Extract source fresh path cuts free_after) id = id ≡ fresh
IsMade (ops.Post parent path inner area) id = ⊥
IsMade (ops.Merge parent keep gone) id = ⊥
IsMade (ops.Grow fresh free_after) id = id ≡ fresh

read_there : (st : StoreState) (id page : ℕ) (live : LivePage) → if_live (in_memory st page) ≡ Some live → id ≡ page → IsSome (in_memory st id)
read_there st id page live is same = subst (λ (n : ℕ). IsSome (in_memory st n)) (sym same) (live_is_some (in_memory st page) live is)

-- Each page that an operation changes is one that it makes, or one that it reads, which is in memory.
made_or_read : (op : Op) (st : StoreState) (id : ℕ) → IsNumber id (change_here st op).pages → IsMade op id ⊎ IsSome (in_memory st id)
made_or_read (ops.Put page rec) st id number = by (if_live (in_memory st page)) refl number
  where
    by : (o : Option LivePage) → if_live (in_memory st page) ≡ o → IsNumber id (change_of (ops.Put page rec) st.meta o (read_here st (ops.Put page rec) 1) (read_here st (ops.Put page rec) 2)).pages → ⊥ ⊎ IsSome (in_memory st id)
    by None is never = absurd never
    by (Some live) is (inl same) = inr (read_there st id page live is same)
    by (Some live) is (inr never) = absurd never
made_or_read (ops.Del page point) st id number = by (if_live (in_memory st page)) refl number
  where
    by : (o : Option LivePage) → if_live (in_memory st page) ≡ o → IsNumber id (change_of (ops.Del page point) st.meta o (read_here st (ops.Del page point) 1) (read_here st (ops.Del page point) 2)).pages → ⊥ ⊎ IsSome (in_memory st id)
    by None is never = absurd never
    by (Some live) is (inl same) = inr (read_there st id page live is same)
    by (Some live) is (inr never) = absurd never
made_or_read (ops.Extract source fresh path cuts free_after) st id number = by (if_live (in_memory st source)) refl number
  where
    op : Op
    op = ops.Extract source fresh path cuts free_after

    target : (live : LivePage) → if_live (in_memory st source) ≡ Some live → (id ≡ source) ⊎ (id ≡ fresh) → (id ≡ fresh) ⊎ IsSome (in_memory st id)
    target live is (inl same) = inr (read_there st id source live is same)
    target live is (inr made) = inl made

    by : (o : Option LivePage) → if_live (in_memory st source) ≡ o → IsNumber id (change_of op st.meta o (read_here st op 1) (read_here st op 2)).pages → (id ≡ fresh) ⊎ IsSome (in_memory st id)
    by None is never = absurd never
    by (Some live) is some = target live is (numbers_are_targets op st.meta (Some live) (read_here st op 1) (read_here st op 2) id some)
made_or_read (ops.Post parent path inner area) st id number = by (if_live (in_memory st parent)) refl number
  where
    op : Op
    op = ops.Post parent path inner area

    by : (o : Option LivePage) → if_live (in_memory st parent) ≡ o → IsNumber id (change_of op st.meta o (read_here st op 1) (read_here st op 2)).pages → ⊥ ⊎ IsSome (in_memory st id)
    by None is never = absurd never
    by (Some live) is (inl same) = inr (read_there st id parent live is same)
    by (Some live) is (inr never) = absurd never
made_or_read (ops.Merge parent keep gone) st id number = by (if_live (in_memory st parent)) (if_live (in_memory st keep)) (if_live (in_memory st gone)) refl refl refl number
  where
    by : (first second third : Option LivePage) → if_live (in_memory st parent) ≡ first → if_live (in_memory st keep) ≡ second → if_live (in_memory st gone) ≡ third
        → IsNumber id (change_of (ops.Merge parent keep gone) st.meta first second third).pages → ⊥ ⊎ IsSome (in_memory st id)
    by None second third one two three never = absurd never
    by (Some above) None third one two three never = absurd never
    by (Some above) (Some kept) None one two three never = absurd never
    by (Some above) (Some kept) (Some going) one two three (inl same) = inr (read_there st id parent above one same)
    by (Some above) (Some kept) (Some going) one two three (inr (inl same)) = inr (read_there st id keep kept two same)
    by (Some above) (Some kept) (Some going) one two three (inr (inr (inl same))) = inr (read_there st id gone going three same)
    by (Some above) (Some kept) (Some going) one two three (inr (inr (inr never))) = absurd never
made_or_read (ops.Grow fresh free_after) st id (inl is) = inl is
made_or_read (ops.Grow fresh free_after) st id (inr never) = absurd never

-- ---- the rows that make a page

-- Where an operation makes a page, the activity is one that may, a page is free, and the number is the one that the store gives.
abbrev IsWellMade : StoreState → Activity → ℕ → ℕ → Type 0
IsWellMade st activity fresh free_after = MayMakePage activity × (st.meta.live < st.meta.pages) × IsNext st fresh free_after

abbrev MakesWell : StoreState → Activity → Option Op → Type 0
MakesWell st activity None = Unit {0}
MakesWell st activity (Some (ops.Put page rec)) = Unit {0}
MakesWell st activity (Some (ops.Del page point)) = Unit {0}
MakesWell st activity (Some (ops.Extract source fresh path cuts free_after)) = IsWellMade st activity fresh free_after
MakesWell st activity (Some (ops.Post parent path inner area)) = Unit {0}
MakesWell st activity (Some (ops.Merge parent keep gone)) = Unit {0}
MakesWell st activity (Some (ops.Grow fresh free_after)) = IsWellMade st activity fresh free_after

module _ (m : Machine) where
  makes_row : (activity : Activity) (wanted : Option Wanted) (deed : Deed) → Row activity wanted m deed → MakesWell m.store activity deed.op
  makes_row activity wanted deed row = each_row m (λ activity deed. MakesWell m.store activity deed.op) activity wanted deed
      (record {
        full = λ line held none. tt;
        splits = λ line held page live leaves. (tt, leaves.free, is_next_number m.store leaves.fresh leaves.free_after leaves.next);
        puts = λ line source fresh rec command half either page live. tt;
      })
      (λ its page wants hand. each_op (sight m) its.page page (MakesWell m.store) (record {
        none = λ activity. tt;
        inserts = λ line held rest found rec command absent room. tt;
        deletes = λ line held rest found p there command stands. tt;
        grows = λ job fresh free_after may free next. (tt, free, is_next_number m.store fresh free_after next);
        posts = λ job parent above path inner area live plan. tt;
        parts = λ job parent above live plan leaves. (tt, leaves.free, is_next_number m.store leaves.fresh leaves.free_after leaves.next);
        merges = λ job parent keep gone pair. tt;
      }))
      row

  -- a row that needs a number is of an activity that makes a page, and a page is free
  number_makes : (activity : Activity) (wanted : Option Wanted) → NeedsNumber activity wanted m → MayMakePage activity × (m.store.meta.live < m.store.meta.pages)
  number_makes (at.SessionSplit line held) wanted free = (tt, free)
  number_makes (at.PosterGrow job) None never = absurd never
  number_makes (at.PosterGrow job) (Some wanted) needs = (tt, needs.0)
  number_makes (at.PosterAgain job parent) None never = absurd never
  number_makes (at.PosterAgain job parent) (Some wanted) needs = (tt, needs.0)
  number_makes activity wanted never = absurd never

-- an operation that takes a number makes a page
takes_makes : (st : StoreState) (activity : Activity) (op : Option Op) → MakesWell st activity op → IsTrue (takes_number op) → MayMakePage activity × (st.meta.live < st.meta.pages)
takes_makes st activity None well takes = absurd (false≢true takes)
takes_makes st activity (Some (ops.Put page rec)) well takes = absurd (false≢true takes)
takes_makes st activity (Some (ops.Del page point)) well takes = absurd (false≢true takes)
takes_makes st activity (Some (ops.Extract source fresh path cuts free_after)) well takes = (well.0, well.1)
takes_makes st activity (Some (ops.Post parent path inner area)) well takes = absurd (false≢true takes)
takes_makes st activity (Some (ops.Merge parent keep gone)) well takes = absurd (false≢true takes)
takes_makes st activity (Some (ops.Grow fresh free_after)) well takes = (well.0, well.1)

-- and the page that it makes has the next number
next_is_number : (st : StoreState) (fresh free_after : ℕ) → IsNext st fresh free_after → IsNextNumber st fresh
next_is_number st fresh free_after next = elim (cases_Bool (st.meta.free == 0)) [
  | inl none ↦ let empty = eqb-true st.meta.free 0 none in inr (empty, (next.from_behind empty).0)
  | inr some ↦
      let chained = eqb-false st.meta.free 0 some in
      let head = (next.from_chain chained).0 in
      inl (head, λ zero. chained (sym head ∙ zero))
]

well_made : (st : StoreState) (activity : Activity) (op : Op) (id : ℕ) → MakesWell st activity (Some op) → IsMade op id → MayMakePage activity × (st.meta.live < st.meta.pages) × IsNextNumber st id
well_made st activity (ops.Put page rec) id well never = absurd never
well_made st activity (ops.Del page point) id well never = absurd never
well_made st activity (ops.Extract source fresh path cuts free_after) id well made = (well.0, well.1, subst (IsNextNumber st) (sym made) (next_is_number st fresh free_after well.2))
well_made st activity (ops.Post parent path inner area) id well never = absurd never
well_made st activity (ops.Merge parent keep gone) id well never = absurd never
well_made st activity (ops.Grow fresh free_after) id well made = (well.0, well.1, subst (IsNextNumber st) (sym made) (next_is_number st fresh free_after well.2))

-- ---- the steps

module _ (m : Machine) (actor : ℕ) (new : Machine) (id : ℕ) (was : in_memory m.store id ≡ None) (comes : IsSome (in_memory new.store id)) where
  -- nothing came where the memory is the same there
  came_not : {A : Type 0} → in_memory new.store id ≡ in_memory m.store id → A
  came_not same = absurd (not_there (in_memory new.store id) (same ∙ was) comes)

  same_machine : {A : Type 0} → new ≡ m → A
  same_machine is = came_not (ap (λ (n : Machine). in_memory n.store id) is)

  abbrev Needed : Type 0
  Needed = IsWantedPage (wanted_by m actor) id ⊎ IsToBeMade m actor id

  module _ (may : ℕ → Type 0) (fetched : StoreState) (brings : Brings m may fetched) where
    -- what the file says is the same with the pages that came
    as_before : MayMakePage (m.activity actor) × (fetched.meta.live < fetched.meta.pages) × IsNextNumber fetched id → Needed
    as_before (makes, free, number) = inr (
      makes,
      subst (λ (meta : Meta). meta.live < meta.pages) (ap (λ (s : StoreState). s.meta) brings.rest) free,
      subst (λ (meta : Meta). ((id ≡ meta.free) × (id ≢ 0)) ⊎ ((meta.free ≡ 0) × (id ≡ meta.high + 1))) (ap (λ (s : StoreState). s.meta) brings.rest) number,
    )

    head_needed : MayMakePage (m.activity actor) × (fetched.meta.live < fetched.meta.pages) → IsFreeHead m.store id → Needed
    head_needed (makes, free) head = inr (makes, subst (λ (meta : Meta). meta.live < meta.pages) (ap (λ (s : StoreState). s.meta) brings.rest) free, inl head)

    module _ (needs : may id → Needed) where
      brought : IsSome (in_memory fetched id) → Needed
      brought there = needs (brings.only id was there)

      came_as : in_memory new.store id ≡ in_memory fetched id → IsSome (in_memory fetched id)
      came_as same = subst (λ (o : Option Page). IsSome o) same comes

      done : (op : Option Op) (mark : ℕ) → MakesWell fetched (m.activity actor) op → MayDo op mark fetched new.store → Needed
      done None mark well does = brought (came_as (ap (λ (st : StoreState). in_memory st id) does))
      done (Some op) mark well does = by (set_elsewhere (change_here fetched op).pages (in_memory fetched) id)
        where
          changed : IsMade op id ⊎ IsSome (in_memory fetched id) → Needed
          changed (inl made) = as_before (well_made fetched (m.activity actor) op id well made)
          changed (inr there) = brought there

          by : (set_pages (change_here fetched op).pages (in_memory fetched) id ≡ in_memory fetched id) ⊎ IsNumber id (change_here fetched op).pages → Needed
          by (inl same) = brought (came_as (commit_here _ _ _ _ does.commits id comes ∙ same))
          by (inr number) = changed (made_or_read op fetched id number)

  -- what a row may bring, and what a step may that is given up or meets a bad page
  row_needs : (fetched : StoreState) (op : Option Op) → (brings : Brings m (λ id. IsWantedPage (wanted_by m actor) id ⊎ (IsTrue (takes_number op) × IsFreeHead m.store id)) fetched) → MakesWell fetched (m.activity actor) op
      → IsWantedPage (wanted_by m actor) id ⊎ (IsTrue (takes_number op) × IsFreeHead m.store id) → Needed
  row_needs fetched op brings well (inl wanted) = inl wanted
  row_needs fetched op brings well (inr (takes, head)) = head_needed _ fetched brings (takes_makes fetched (m.activity actor) op well takes) head

  may_needs : (fetched : StoreState) → Brings m (MayNeed m actor fetched) fetched → MayNeed m actor fetched id → Needed
  may_needs fetched brings (inl wanted) = inl wanted
  may_needs fetched brings (inr (number, head)) = head_needed _ fetched brings (number_makes (with_disk fetched m.files m.clock m) (m.activity actor) (wanted_by m actor) number) head

  -- with no operation
  makes_nothing : (st : StoreState) (op : Option Op) → op ≡ None → MakesWell st (m.activity actor) op
  makes_nothing st op is = subst (MakesWell st (m.activity actor)) (sym is) tt

  nothing_done : {A : Type 0} (op : Option Op) (mark : ℕ) → op ≡ None → MayDo op mark m.store new.store → A
  nothing_done op mark none does = came_not (ap (λ (st : StoreState). in_memory st id) (subst (λ (o : Option Op). MayDo o mark m.store new.store) none does))

  failed : {A : Type 0} {most : ℕ} {outcome : Outcome} → FailsToWrite m most outcome new → A
  failed fails = came_not (ap (λ (n : Machine). in_memory n.store id) fails.stops)

  flushed_more : {A : Type 0} (outcome : Outcome) → FlushesMore m outcome new → A
  flushed_more outcome (none, inl (page, oldest, due, quiet, well)) = came_not (ap (λ (n : Machine). in_memory n.store id) well.leaves)
  flushed_more outcome (none, inr (inl (old, due, quiet, turns))) = came_not (ap (λ (n : Machine). in_memory n.store id) turns.leaves)
  flushed_more outcome (none, inr (inr (calls, left, fails))) = failed fails

  forced : {A : Type 0} (said outcome : Outcome) → ForcesAll m said outcome new → A
  forced said outcome (inl (says, is)) = came_not (ap (λ (n : Machine). in_memory n.store id) is)
  forced said outcome (inr badly) = failed badly.1

  stays : {A : Type 0} (said outcome : Outcome) → StaysSo m said outcome new → A
  stays said outcome (says, is) = same_machine is

  made_ready : (outcome : Outcome) → GetsReady m outcome new → NeedsPage m actor id
  made_ready outcome (inl (waits, force)) = forced outcomes.Helped outcome force
  made_ready outcome (inr (none, rest)) =
      ready_kind m outcome new (NeedsPage m actor id) none (flushed_more outcome) rest

  worked : (outcome : Outcome) → Works m actor outcome new → NeedsPage m actor id
  worked outcome (inl (by, way, so)) = stays (outcomes.Blocked by) outcome so
  worked outcome (inr (inl (free, unready, ready))) = made_ready outcome ready
  worked outcome (inr (inr (free, ready, inl acts))) =
      let well = makes_row (with_disk acts.fetched m.files m.clock m) (m.activity actor) (wanted_by m actor) acts.deed acts.row in
      record {
        way_free = free;
        ready = ready;
        needed = done _ acts.fetched acts.brings (row_needs acts.fetched acts.deed.op acts.brings well) acts.deed.op _ well acts.performs.store;
      }
  worked outcome (inr (inr (free, ready, inr (inl gives)))) =
      let none = gives_up_nothing gives.why (m.activity actor) in
      record {
        way_free = free;
        ready = ready;
        needed = done _ gives.fetched gives.brings (may_needs gives.fetched gives.brings) _ _ (makes_nothing gives.fetched _ none) gives.performs.store;
      }
  worked outcome (inr (inr (free, ready, inr (inr meets)))) = record {
    way_free = free;
    ready = ready;
    needed = brought _ meets.fetched meets.brings (may_needs meets.fetched meets.brings) (subst (λ (n : Machine). IsSome (in_memory n.store id)) meets.stops comes);
  }

pub pages_come_by_need : PagesComeByNeed
pages_come_by_need m actor outcome new id step was comes =
    each_kind m actor outcome new (NeedsPage m actor id)
    (λ said quiet so. stays m actor new id was comes said outcome so)
    (λ said quiet force. forced m actor new id was comes said outcome force)
    (flushed_more m actor new id was comes outcome)
    (λ deed rests performs. nothing_done m actor new id was comes deed.op _ rests.op performs.store)
    (worked m actor new id was comes outcome)
    step

-- a number is needed only where a page is free
pub needs_room : (activity : Activity) (wanted : Option Wanted) (n : Machine) → NeedsNumber activity wanted n → n.store.meta.live < n.store.meta.pages
needs_room (at.SessionSplit line held) wanted n needs = needs
needs_room (at.PosterGrow job) None n needs = absurd needs
needs_room (at.PosterGrow job) (Some wanted) n needs = needs.0
needs_room (at.PosterAgain job parent) None n needs = absurd needs
needs_room (at.PosterAgain job parent) (Some wanted) n needs = needs.0
needs_room activity wanted n needs = absurd needs
