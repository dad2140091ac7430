-- Where the latches of an activity come from: each was held before, or is the one that the step wanted, or is on a page that
-- was in no use. And each is on a page in use.
use Rattle.hb_steps.proofs.Latches.Names.{◌≡◌, ◌⊎◌, inl, inr, ℕ, Bool, cond, List, [], ◌∷◌, length, Option, Some, None, refl, sym, ap, ◌∙◌, subst, eq-eqb, LivePage, Live, Mode, Shared, Update, Exclusive, Latch, Job, Wanted, Activity, Deed, latch_on, walk_latch, job_mode, session_mode, walk_held, walk_next, wanted_of, in_its_mode, HasWayFree, looked_live, wanted_by, Brings, HoldsPagesOfFile, LatchesFit, IsMerging, Machine, modes, with_disk, sight, MayDo, Row, RowAt, IsActor, if_live, Area, StoreState, in_memory, of_page, live_so, at_itself}
use Rattle.hb_steps.proofs.Memory.CommitPages.{has_first, has_second, split_sets}
use Rattle.std.proofs.Common.{◌==◌, IsSome}
use Rattle.std.proofs.lemmas.Bool.{cases_Bool, eqb-true}
use Rattle.std.proofs.lemmas.Option.{none-some, same_Some}
use Rattle.hb_space.specs.declared.records.Record.{Record}
use Rattle.hb_frag.specs.declared.pages.Page.{Page}
use Rattle.hb_set.specs.declared.commands.Command.{Command}
use Rattle.hb_set.specs.declared.commands.Command.TheVariants.{Insert}
use Rattle.hb_set.specs.declared.scripts.Line.{Line}
use Rattle.hb_activity.specs.declared.activities.Activity.TheVariants as at
use Rattle.hb_activity.specs.Walks.{goal_of}
use Rattle.hb_steps.proofs.Memory.NextNumbers.{is_next_number}
use Rattle.hb_steps.proofs.Memory.OwnedOps.{IsAnew, made_was_free}
use Rattle.hb_steps.specs.Performing.{latches_held, mode_among}
use Rattle.hb_ops.specs.Extracting.{fresh_page, source_page}
use Rattle.hb_point.specs.SplitRows.{Splits}
use Rattle.hb_ops.specs.SetPages.{set_pages}
use Rattle.hb_steps.proofs.Facts.EachRow.{each_row}
use Rattle.hb_steps.proofs.Facts.Ways.{nothing_done}

-- the latch that a step wants, with nobody in the way
pub record IsWantedFreely (m : Machine) (actor page : ℕ) (mode : Mode) : Type 0 where
  pub wanted : Wanted
  pub wants : wanted_by m actor ≡ Some wanted
  pub page_is : wanted.page ≡ page
  pub mode_is : wanted.mode ≡ mode
  pub free : HasWayFree m actor

abbrev pub ComesFrom : Machine → ℕ → ℕ → Mode → Type 0
ComesFrom m actor page mode = (modes m actor page ≡ Some mode) ⊎ IsWantedFreely m actor page mode ⊎ IsAnew m page

pub record IsBacked (m : Machine) (actor : ℕ) (st : StoreState) (page : ℕ) (mode : Mode) : Type 0 where
  pub from : ComesFrom m actor page mode
  pub live : LivePage
  pub there : in_memory st page ≡ Some (Live live)

-- so for all latches of an activity
abbrev pub AreBacked : Machine → ℕ → StoreState → List Latch → Type 0
AreBacked m actor st latches = (page : ℕ) (mode : Mode) → mode_among page latches ≡ Some mode → IsBacked m actor st page mode

none_backed : (m : Machine) (actor : ℕ) (st : StoreState) → AreBacked m actor st []
none_backed m actor st page mode is = cc

pub one_backed : (m : Machine) (actor : ℕ) (st : StoreState) (id : ℕ) (mode : Mode) → IsBacked m actor st id mode → AreBacked m actor st (latch_on id mode ∷ [])
one_backed m actor st id mode backed page asked is = elim (cases_Bool (id == page)) [
  | inl here ↦
      let same : Some mode ≡ Some asked = sym (ap (λ (b : Bool). cond b (Some mode) None) here) ∙ is in
      let mode_same : mode ≡ asked = cc in
      subst (λ (n : ℕ). IsBacked m actor st n asked) (eqb-true id page here) (subst (IsBacked m actor st id) mode_same backed)
  | inr off ↦ let never : None ≡ Some asked = sym (ap (λ (b : Bool). cond b (Some mode) None) off) ∙ is in absurd (none-some asked never)
]

-- two latches: the second one counts where it is on another page
pub both_backed : (m : Machine) (actor : ℕ) (st : StoreState) (first second : ℕ) (mode other : Mode) → IsBacked m actor st first mode → IsBacked m actor st second other → AreBacked m actor st (latch_on first mode ∷ latch_on second other ∷ [])
both_backed m actor st first second mode other a b page asked is = elim (cases_Bool (first == page)) [
  | inl here ↦
      let same : Some mode ≡ Some asked = sym (ap (λ (c : Bool). cond c (Some mode) (mode_among page (latch_on second other ∷ []))) here) ∙ is in
      let mode_same : mode ≡ asked = cc in
      subst (λ (n : ℕ). IsBacked m actor st n asked) (eqb-true first page here) (subst (IsBacked m actor st first) mode_same a)
  | inr off ↦ one_backed m actor st second other b page asked (sym (ap (λ (c : Bool). cond c (Some mode) (mode_among page (latch_on second other ∷ []))) off) ∙ is)
]

pub walk_backed : (m : Machine) (actor : ℕ) (st : StoreState) (id : ℕ) (page : LivePage) (mode : ℕ → Mode) → if_live (in_memory st id) ≡ Some page → IsBacked m actor st id (mode page.level) → AreBacked m actor st (walk_latch (Some id) (if_live (in_memory st id)) mode)
walk_backed m actor st id page mode live backed = subst (λ (o : Option LivePage). AreBacked m actor st (walk_latch (Some id) o mode)) (sym live) (one_backed m actor st id (mode page.level) backed)

-- An activity whose latches are backed, and whose walk holds a page in use.
pub record BackedIn (m : Machine) (actor : ℕ) (st : StoreState) (activity : Activity) : Type 0 where
  pub latches : AreBacked m actor st (latches_held st activity)
  pub walk : (held : ℕ) → walk_held activity ≡ Some held → (live : LivePage) × (in_memory st held ≡ Some (Live live))

-- an activity that doesn't walk, or not yet; and one that holds nothing
pub stands : (m : Machine) (actor : ℕ) (st : StoreState) (activity : Activity) → walk_held activity ≡ None → AreBacked m actor st (latches_held st activity) → BackedIn m actor st activity
stands m actor st activity none backed = record { latches = backed; walk = λ held some. absurd (none-some held (sym none ∙ some)) }

pub rests : (m : Machine) (actor : ℕ) (st : StoreState) (activity : Activity) → walk_held activity ≡ None → latches_held st activity ≡ [] → BackedIn m actor st activity
rests m actor st activity none nothing = stands m actor st activity none (subst (AreBacked m actor st) (sym nothing) (none_backed m actor st))

-- a walk that holds a page in use
pub goes : (m : Machine) (actor : ℕ) (st : StoreState) (activity : Activity) (id : ℕ) (page : LivePage) → walk_held activity ≡ Some id → in_memory st id ≡ Some (Live page) → AreBacked m actor st (latches_held st activity) → BackedIn m actor st activity
goes m actor st activity id page at_id there backed = record {
  latches = backed;
  walk = λ held some. (page, ap (in_memory st) (sym (same_Some id held (sym at_id ∙ some))) ∙ there);
}

-- ---- the pages of a split are in use

split_in_use : (source fresh : ℕ) (a b : LivePage) (page_in : ℕ → Option Page) → ((live : LivePage) × (set_pages ((source, Live a) ∷ (fresh, Live b) ∷ []) page_in source ≡ Some (Live live))) × ((live : LivePage) × (set_pages ((source, Live a) ∷ (fresh, Live b) ∷ []) page_in fresh ≡ Some (Live live)))
split_in_use source fresh a b page_in = (first, (b, at_itself fresh (Some (Live b)) (cond (fresh == source) (Some (Live a)) (page_in fresh))))
  where
    first : (live : LivePage) × (set_pages ((source, Live a) ∷ (fresh, Live b) ∷ []) page_in source ≡ Some (Live live))
    first = elim (cases_Bool (source == fresh)) [
      | inl here ↦ (b, ap (λ (c : Bool). cond c (Some (Live b)) (cond (source == source) (Some (Live a)) (page_in source))) here)
      | inr off ↦ (a, ap (λ (c : Bool). cond c (Some (Live b)) (cond (source == source) (Some (Live a)) (page_in source))) off ∙ at_itself source (Some (Live a)) (page_in source))
    ]

-- ---- the rows

module _ (m : Machine) (actor : ℕ) (may : ℕ → Type 0) (fetched : StoreState) (new : StoreState) (latches : IsActor actor) (fit : LatchesFit m) (inside : HoldsPagesOfFile m) (free : HasWayFree m actor) (brings : Brings m may fetched) where
  abbrev pub m' : Machine
  m' = with_disk fetched m.files m.clock m

  abbrev pub Backed : Deed → Type 0
  Backed deed = BackedIn m actor new deed.next

  pub backed_deed : (deed other : Deed) → deed ≡ other → Backed other → Backed deed
  backed_deed deed other is backed = subst (λ (d : Deed). BackedIn m actor new d.next) (sym is) backed

  -- what was held stays in use where nothing is done
  pub held_backed : (page : ℕ) (mode : Mode) → new ≡ fetched → modes m actor page ≡ Some mode → IsBacked m actor new page mode
  held_backed page mode none holds =
      let used = fit.used actor page mode holds in
      let there : IsSome (in_memory m.store page) = subst (λ (o : Option Page). IsSome o) (sym used.1) refl in
      record { from = inl holds; live = used.0; there = ap (λ (st : StoreState). in_memory st page) none ∙ brings.stays page (inl (actor, mode, holds)) there ∙ used.1 }

  pub own_mode : (activity : Activity) (page : ℕ) (mode : Mode) → m.activity actor ≡ activity → mode_among page (latches_held m.store activity) ≡ Some mode → modes m actor page ≡ Some mode
  own_mode activity page mode is among = subst (λ (a : Activity). mode_among page (latches_held m.store a) ≡ Some mode) (sym is) among

  -- the page that was latched
  module _ (wanted : Wanted) (page : LivePage) (wants : wanted_by m actor ≡ Some wanted) (live : if_live (in_memory fetched wanted.page) ≡ Some page) (level : page.level ≡ wanted.level) (none : new ≡ fetched) where
    pub live_now : if_live (in_memory new wanted.page) ≡ Some page
    live_now = ap (λ (st : StoreState). if_live (in_memory st wanted.page)) none ∙ live

    pub there_now : in_memory new wanted.page ≡ Some (Live page)
    there_now = live_so (in_memory new wanted.page) page live_now

    pub at_hand : (mode : Mode) → wanted.mode ≡ mode → IsBacked m actor new wanted.page mode
    at_hand mode is = record {
      from = inr (inl (record { wanted = wanted; wants = wants; page_is = refl; mode_is = is; free = free }));
      live = page;
      there = there_now;
    }

    session_wants : (line : Line) (held : Option ℕ) (rest : List Area) (found : List Record) → m.activity actor ≡ at.SessionWalk line held rest found → wanted.mode ≡ session_mode line.command page.level
    session_wants line held rest found is =
        let walk : Activity = at.SessionWalk line held rest found in
        let so : wanted_of walk m.store.meta (looked_live m.store walk) ≡ Some wanted = subst (λ (a : Activity). wanted_of a m.store.meta (looked_live m.store a) ≡ Some wanted) is wants in
        in_its_mode (session_mode line.command) (walk_next (goal_of line.command rest) held m.store.meta (looked_live m.store walk)) wanted so ∙ ap (session_mode line.command) (sym level)

    poster_wants : (job : Job) (held : Option ℕ) → m.activity actor ≡ at.PosterWalk job held → wanted.mode ≡ job_mode job page.level
    poster_wants job held is =
        let walk : Activity = at.PosterWalk job held in
        let so : wanted_of walk m.store.meta (looked_live m.store walk) ≡ Some wanted = subst (λ (a : Activity). wanted_of a m.store.meta (looked_live m.store a) ≡ Some wanted) is wants in
        in_its_mode (job_mode job) (walk_next (Some job.point) held m.store.meta (looked_live m.store walk)) wanted so ∙ ap (job_mode job) (sym level)

    session_goes_on : (line : Line) (held : Option ℕ) (rest others : List Area) (found more : List Record) → m.activity actor ≡ at.SessionWalk line held rest found → BackedIn m actor new (at.SessionWalk line (Some wanted.page) others more)
    session_goes_on line held rest others found more is =
        goes m actor new (at.SessionWalk line (Some wanted.page) others more) wanted.page page refl there_now (walk_backed m actor new wanted.page page (session_mode line.command) live_now (at_hand (session_mode line.command page.level) (session_wants line held rest found is)))

    poster_goes_on : (job : Job) (held : Option ℕ) → m.activity actor ≡ at.PosterWalk job held → BackedIn m actor new (at.PosterWalk job (Some wanted.page))
    poster_goes_on job held is = goes m actor new (at.PosterWalk job (Some wanted.page)) wanted.page page refl there_now (walk_backed m actor new wanted.page page (job_mode job) live_now (at_hand (job_mode job page.level) (poster_wants job held is)))

    poster_arrives : (job : Job) (held : Option ℕ) → m.activity actor ≡ at.PosterWalk job held → page.level ≡ job.level → BackedIn m actor new (at.PosterChild job wanted.page)
    poster_arrives job held is at_level =
        let mode : wanted.mode ≡ Update = poster_wants job held is ∙ ap (λ (b : Bool). cond b Update Shared) (eq-eqb page.level job.level at_level) in
        stands m actor new (at.PosterChild job wanted.page) refl (one_backed m actor new wanted.page Update (at_hand Update mode))

    insert_waits : (line : Line) (rec : Record) (held : Option ℕ) (rest : List Area) (found : List Record) → m.activity actor ≡ at.SessionWalk line held rest found → line.command ≡ Insert rec → page.level ≡ 0 → BackedIn m actor new (at.SessionSplit line wanted.page)
    insert_waits line rec held rest found is command zero_level =
        let mode : wanted.mode ≡ Exclusive = session_wants line held rest found is ∙ ap (session_mode line.command) zero_level ∙ ap (λ (c : Command). session_mode c 0) command in
        stands m actor new (at.SessionSplit line wanted.page) refl (one_backed m actor new wanted.page Exclusive (at_hand Exclusive mode))

    promoted : (job : Job) (parent : ℕ) → m.activity actor ≡ at.PosterPromote job parent → BackedIn m actor new (at.PosterAgain job parent)
    promoted job parent is =
        let promote : Activity = at.PosterPromote job parent in
        let so : wanted_of promote m.store.meta (looked_live m.store promote) ≡ Some wanted = subst (λ (a : Activity). wanted_of a m.store.meta (looked_live m.store a) ≡ Some wanted) is wants in
        let both = of_page parent (λ page. page.level) Exclusive (looked_live m.store promote) wanted so in
        stands m actor new (at.PosterAgain job parent) refl (subst (λ (n : ℕ). AreBacked m actor new (latch_on n Exclusive ∷ [])) both.0 (one_backed m actor new wanted.page Exclusive (at_hand Exclusive both.1)))

  -- ---- the poster

  parent_stays : (job : Job) (parent : ℕ) → m.activity actor ≡ at.PosterChild job parent → new ≡ fetched → BackedIn m actor new (at.PosterPromote job parent)
  parent_stays job parent is none = stands m actor new (at.PosterPromote job parent) refl (one_backed m actor new parent Update (held_backed parent Update none (own_mode (at.PosterChild job parent) parent Update is (at_itself parent (Some Update) None))))

  -- ---- both halves of a split

  module _ (line : Line) (held : ℕ) (deed : Deed) (is : m.activity actor ≡ at.SessionSplit line held) (row : Splits (sight m') line held deed) (done : MayDo deed.op (length m.order) fetched new) where
    abbrev source : LivePage
    source = source_page row.leaves.fresh row.leaves.path row.leaves.cuts row.page row.leaves.part

    abbrev made : LivePage
    made = fresh_page row.leaves.cuts row.page row.leaves.part

    backed_split : Backed deed
    backed_split =
        let used = split_in_use held row.leaves.fresh source made (in_memory fetched) in
        backed_deed deed _ row.deed_is (stands m actor new _ refl (both_backed m actor new held row.leaves.fresh Exclusive Exclusive
        (record { from = inl (own_mode (at.SessionSplit line held) held Exclusive is (at_itself held (Some Exclusive) None)); live = used.0.0; there = split_sets m' line held deed row (length m.order) new done held (has_first held (Live source) ((row.leaves.fresh, Live made) ∷ [])) ∙ used.0.1 })
        (record { from = inr (inr (made_was_free m may fetched row.leaves.fresh row.leaves.free_after inside brings (is_next_number fetched row.leaves.fresh row.leaves.free_after row.leaves.next))); live = used.1.0; there = split_sets m' line held deed row (length m.order) new done row.leaves.fresh (has_second held row.leaves.fresh (Live source) (Live made) []) ∙ used.1.1 })))

  -- ---- every row

  -- what is to be shown of a row
  abbrev BackedBy : Activity → Deed → Type 0
  BackedBy activity deed = m.activity actor ≡ activity → MayDo deed.op (length m.order) fetched new → Backed deed

  -- the rows of a consolidator are given
  abbrev pub BacksMergers : Wanted → LivePage → Type 0
  BacksMergers wanted page = (activity : Activity) (deed : Deed) → new ≡ fetched → IsMerging activity → m.activity actor ≡ activity → RowAt activity (sight m') wanted.page page deed → Backed deed

  pub backed_row : (wanted : Option Wanted) (deed : Deed) → ((its : Wanted) (page : LivePage) → wanted_by m actor ≡ Some its → if_live (in_memory fetched its.page) ≡ Some page → page.level ≡ its.level → BacksMergers its page)
      → wanted_by m actor ≡ wanted → MayDo deed.op (length m.order) fetched new → Row (m.activity actor) wanted m' deed → Backed deed
  backed_row wanted deed merges wants done row = each_row m' BackedBy (m.activity actor) wanted deed
      (record {
        full = λ line held none is done. rests m actor new _ refl refl;
        splits = λ line held page live leaves is done. backed_split line held _ is (record { page = page; live = live; leaves = leaves; deed_is = refl }) done;
        puts = λ line source fresh rec command half either page live is done. rests m actor new _ refl refl;
      })
      (λ its page at_hand hand. record {
        passes = λ line held rest found p goal leaf row is done. session_goes_on its page (wants ∙ at_hand) hand.live hand.level done line held rest rest found found is;
        only_replies = λ line held rest found reply alone is done. rests m actor new _ refl refl;
        inserts = λ line held rest found rec command absent room is done. rests m actor new _ refl refl;
        lacks_room = λ line held rest found rec command level absent full is done. insert_waits its page (wants ∙ at_hand) hand.live hand.level done line rec held rest found is command level;
        deletes = λ line held rest found p there command stands is done. rests m actor new _ refl refl;
        searches = λ line held rest found area others more row is done. rests m actor new _ refl refl;
        grows = λ job fresh free_after may free next is done. rests m actor new _ refl refl;
        ends = λ activity job kind hand is done. rests m actor new _ refl refl;
        arrives = λ job held child area level leaf is done. poster_arrives its page (wants ∙ at_hand) hand.live hand.level done job held is level;
        walks = λ job held leaf farther row is done. poster_goes_on its page (wants ∙ at_hand) hand.live hand.level done job held is;
        looks = λ job parent is done. parent_stays job parent is done;
        promotes = λ job parent is done. promoted its page (wants ∙ at_hand) hand.live hand.level done job parent is;
        posts = λ job parent above path inner area live plan is done. rests m actor new _ refl refl;
        parts = λ job parent above live plan leaves is done. rests m actor new _ refl refl;
        walks_to_merge = λ job held leaf farther row is done. merges its page (wants ∙ at_hand) hand.live hand.level (at.ConsolidatorWalk job held) _ done tt is
            (inr (record { farther = farther; passes = record { leaf = leaf; area = row.area; at_point = row.at_point; names = row.names; deed_is = refl } }));
        merges = λ activity deed kind row stays is done. merges its page (wants ∙ at_hand) hand.live hand.level activity deed (nothing_done deed.op _ fetched new (ap (λ (d : Deed). d.op) stays.is) done) kind is row;
        merges_two = λ job parent keep gone pair is done. rests m actor new _ refl refl;
      }) row refl done
