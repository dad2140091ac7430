-- What a step that was turned aside leaves as it was.
use Rattle.hb_steps.proofs.TwoSteps.Names.{◌≡◌, ◌⊎◌, inl, inr, ℕ, ◌++◌, List, [], length, Option, Some, None, IsSomeAnd, refl, sym, ap, ◌∙◌, subst, Page, Op, Line, Job, Activity, Outcome, Wanted, Deed, answers_now, AddsJobs, LeavesBy, Abandons, MeetsBadPage, wanted_by, Brings, FailsToWrite, Machine, sight, with_disk, ChangesQueue, MayDo, Performs, outcome_of, Row, RowAlone, Entry, StoreState, in_memory}
use Rattle.std.proofs.Common.{IsSome, append-nil}
use Rattle.hb_set.specs.declared.commands.Reply.TheVariants as replies
use Rattle.hb_activity.specs.declared.activities.Activity.TheVariants as at
use Rattle.hb_activity.specs.declared.dropping.DropWhy.{DropWhy}
use Rattle.hb_activity.specs.declared.dropping.DropWhy.TheVariants as drops
use Rattle.hb_activity.specs.Classes.{Empty, Hand, HasJob, HasLine, class_of, hand_of, idle_of, job_in_work, job_of, line_in_hand, line_of}
use Rattle.hb_activity.specs.Wanting.{wanted_of}
use Rattle.hb_steps.specs.Acting.{Decodes, GivesUpFor, LacksNeeded, NeedsNumber}
use Rattle.hb_steps.specs.Asking.{looked_live}
use Rattle.hb_steps.specs.Fetching.{IsWantedPage, MustStay}
use Rattle.hb_steps.specs.GivingUp.{drops_job, gives_up_hand, reply_for}
use Rattle.hb_steps.specs.OutcomeLaws.{AsideChangesNoFile, ChangesNoFile, RefusesSearch, SaysAside}
use Rattle.hb_steps.specs.Performing.{files_after}
use Rattle.hb_steps.proofs.Table.NextHands.{no_line, no_job}
use Rattle.std.specs.Option.{option_to_list}

-- A deed that does nothing to the file, the queue and the order.
record IsAside (m : Machine) (actor : ℕ) (deed : Deed) : Type 0 where
  pub op : deed.op ≡ None
  pub takes : deed.takes ≡ None
  pub adds : deed.adds ≡ []
  pub joins : deed.joins ≡ None
  pub says : SaysAside m actor (outcome_of deed.says)

aside_reply : (why : DropWhy) → (reply_for why ≡ replies.NoMemory) ⊎ (reply_for why ≡ replies.ReadFault)
aside_reply drops.NoMemory = inl refl
aside_reply drops.ReadFault = inr refl

module _ (m : Machine) (actor : ℕ) (why : DropWhy) where
  line_aside : (line : Line) → line_in_hand (m.activity actor) ≡ Some line → IsAside m actor (answers_now line.number (reply_for why))
  line_aside line is = record {
    op = refl;
    takes = refl;
    adds = refl;
    joins = refl;
    says = (inl (subst (λ (o : Option Line). IsSomeAnd o (λ l. l.number ≡ line.number)) (sym is) refl), aside_reply why);
  }

  job_aside : (job : Job) (idle : Activity) → job_in_work (m.activity actor) ≡ Some job → IsAside m actor (drops_job why idle)
  job_aside job idle is = record { op = refl; takes = refl; adds = refl; joins = refl; says = subst (λ (o : Option Job). IsSome o) (sym is) refl }

  given_up_aside : (idle : Activity) (hand : Hand) → hand_of (m.activity actor) ≡ hand → (hand ≡ Empty → ⊥) → IsAside m actor (gives_up_hand why idle hand)
  given_up_aside idle Empty is some = absurd (some refl)
  given_up_aside idle (HasLine line) is some = line_aside line (ap line_of is)
  given_up_aside idle (HasJob job) is some = job_aside job idle (ap job_of is)

-- ---- who gives something up has something in hand

module _ (m : Machine) (actor : ℕ) (fetched : StoreState) where
  abbrev now : Machine
  now = with_disk fetched m.files m.clock m

  -- who has nothing in hand wants no page, takes no number and has no row
  record NeedsNothing (activity : Activity) : Type 0 where
    pub wants : wanted_of activity m.store.meta (looked_live m.store activity) ≡ None
    pub numbers : (wanted : Option Wanted) → NeedsNumber activity wanted now → ⊥
    pub decodes : (wanted : Option Wanted) → Decodes wanted now activity → ⊥
    pub rows : (deed : Deed) → RowAlone activity (sight now) deed → ⊥

  needs_nothing : (activity : Activity) → hand_of activity ≡ Empty → NeedsNothing activity
  needs_nothing (at.SessionWalk line held rest found) empty = absurd (no_line line empty)
  needs_nothing (at.SessionSplit line held) empty = absurd (no_line line empty)
  needs_nothing (at.SessionPut line source fresh) empty = absurd (no_line line empty)
  needs_nothing (at.PosterGrow job) empty = absurd (no_job job empty)
  needs_nothing (at.PosterWalk job held) empty = absurd (no_job job empty)
  needs_nothing (at.PosterChild job parent) empty = absurd (no_job job empty)
  needs_nothing (at.PosterPromote job parent) empty = absurd (no_job job empty)
  needs_nothing (at.PosterAgain job parent) empty = absurd (no_job job empty)
  needs_nothing (at.ConsolidatorWalk job held) empty = absurd (no_job job empty)
  needs_nothing (at.ConsolidatorScan job parent child) empty = absurd (no_job job empty)
  needs_nothing (at.ConsolidatorTry job parent keep gone leaf) empty = absurd (no_job job empty)
  needs_nothing (at.ConsolidatorPromote job parent keep gone) empty = absurd (no_job job empty)
  needs_nothing (at.ConsolidatorKeep job parent keep gone) empty = absurd (no_job job empty)
  needs_nothing (at.ConsolidatorDecide job parent keep gone) empty = absurd (no_job job empty)
  needs_nothing activity empty = record { wants = refl; numbers = λ wanted never. never; decodes = λ wanted never. never; rows = λ deed never. never }

  -- so it lacks no page and has no row that takes memory
  lacks_nothing : NeedsNothing (m.activity actor) → LacksNeeded m actor fetched → ⊥
  lacks_nothing nothing (id, inl wanted, page, gone) = subst (λ (o : Option Wanted). IsWantedPage o id) nothing.wants wanted
  lacks_nothing nothing (id, inr (needs, head), page, gone) = nothing.numbers (wanted_by m actor) needs

  no_cause : (why : DropWhy) → NeedsNothing (m.activity actor) → GivesUpFor why m actor fetched → ⊥
  no_cause drops.ReadFault nothing lacks = lacks_nothing nothing lacks
  no_cause drops.NoMemory nothing (inl decodes) = nothing.decodes (wanted_by m actor) decodes
  no_cause drops.NoMemory nothing (inr (deed, row, takes)) = nothing.rows deed (subst (λ (o : Option Wanted). Row (m.activity actor) o now deed) nothing.wants row)

  pub has_something : (why : DropWhy) → GivesUpFor why m actor fetched → hand_of (m.activity actor) ≡ Empty → ⊥
  has_something why cause empty = no_cause why (needs_nothing (m.activity actor) empty) cause

module _ (m : Machine) (actor : ℕ) (outcome : Outcome) (new : Machine) where
  -- the pages that came change nothing that must stay
  record KeepsStore (fetched : StoreState) : Type 0 where
    pub meta : fetched.meta ≡ m.store.meta
    pub log : fetched.log ≡ m.store.log
    pub in_log : fetched.in_log ≡ m.store.in_log
    pub dirty : fetched.dirty ≡ m.store.dirty
    pub memory : (id : ℕ) (page : Page) → MustStay m id → in_memory m.store id ≡ Some page → in_memory fetched id ≡ Some page

  brought : (may : ℕ → Type 0) (fetched : StoreState) → Brings m may fetched → KeepsStore fetched
  brought may fetched brings = record {
    meta = ap (λ (s : StoreState). s.meta) brings.rest;
    log = ap (λ (s : StoreState). s.log) brings.rest;
    in_log = ap (λ (s : StoreState). s.in_log) brings.rest;
    dirty = ap (λ (s : StoreState). s.dirty) brings.rest;
    memory = λ id page must there. brings.stays id must (subst (λ (o : Option Page). IsSome o) (sym there) refl) ∙ there;
  }

  jobs_stay : (deed : Deed) → IsAside m actor deed → ChangesQueue deed m.jobs new.jobs → new.jobs ≡ m.jobs
  jobs_stay deed aside changes =
      subst (λ (adds : List Job). AddsJobs adds changes.left new.jobs) aside.adds changes.adds ∙ subst (λ (o : Option Job). LeavesBy o m.jobs changes.left) aside.takes changes.takes

  aside_by : (fetched : StoreState) (deed : Deed) → IsAside m actor deed → KeepsStore fetched → Performs m fetched actor deed outcome new → ChangesNoFile m actor outcome new
  aside_by fetched deed aside keeps performs =
      let store : new.store ≡ fetched = subst (λ (o : Option Op). MayDo o (length m.order) fetched new.store) aside.op performs.store in
      record {
        says = subst (SaysAside m actor) (sym performs.says) aside.says;
        lines = performs.lines;
        jobs = jobs_stay deed aside performs.jobs;
        order = performs.order ∙ ap (λ (o : Option Entry). m.order ++ option_to_list o) aside.joins ∙ append-nil m.order;
        files = performs.files ∙ ap (λ (o : Option Op). files_after o m.files) aside.op;
        meta = ap (λ (st : StoreState). st.meta) store ∙ keeps.meta;
        log = ap (λ (st : StoreState). st.log) store ∙ keeps.log;
        in_log = ap (λ (st : StoreState). st.in_log) store ∙ keeps.in_log;
        dirty = ap (λ (st : StoreState). st.dirty) store ∙ keeps.dirty;
        memory = λ id page must there. ap (λ (st : StoreState). in_memory st id) store ∙ keeps.memory id page must there;
      }

  refused : RefusesSearch m actor outcome new → ChangesNoFile m actor outcome new
  refused one =
      aside_by m.store _ (record { op = refl; takes = refl; adds = refl; joins = refl; says = (inr (one.idle, subst (λ (o : Option Line). IsSomeAnd o (λ l. l.number ≡ one.line.number)) (sym one.next) refl), inl refl) })
      (record { meta = refl; log = refl; in_log = refl; dirty = refl; memory = λ id page must there. there }) one.performs.0

  abandoned : Abandons m actor outcome new → ChangesNoFile m actor outcome new
  abandoned one =
      aside_by one.fetched _ (given_up_aside m actor one.why (idle_of (class_of (m.activity actor))) (hand_of (m.activity actor)) refl (has_something m actor one.fetched one.why one.cause))
      (brought _ one.fetched one.brings) one.performs

  carried : (other : Machine) (said : Outcome) → outcome ≡ said → new ≡ other → ChangesNoFile m actor said other → ChangesNoFile m actor outcome new
  carried other said says is keeps = subst (λ (n : Machine). ChangesNoFile m actor outcome n) (sym is) (subst (λ (o : Outcome). ChangesNoFile m actor o other) (sym says) keeps)

  failed : FailsToWrite m 9 outcome new → ChangesNoFile m actor outcome new
  failed one = carried _ _ one.says one.stops (record { says = tt; lines = refl; jobs = refl; order = refl; files = refl; meta = refl; log = refl; in_log = refl; dirty = refl; memory = λ id page must there. there })

  damaged : MeetsBadPage m actor outcome new → ChangesNoFile m actor outcome new
  damaged one =
      let keeps = brought _ one.fetched one.brings in
      carried _ _ one.says one.stops (record { says = tt; lines = refl; jobs = refl; order = refl; files = refl; meta = keeps.meta; log = keeps.log; in_log = keeps.in_log; dirty = keeps.dirty; memory = keeps.memory })

pub aside_changes_no_file : AsideChangesNoFile
aside_changes_no_file m actor outcome new (inl one) = refused m actor outcome new one
aside_changes_no_file m actor outcome new (inr (inl one)) = failed m actor outcome new one
aside_changes_no_file m actor outcome new (inr (inr (inl one))) = abandoned m actor outcome new one
aside_changes_no_file m actor outcome new (inr (inr (inr one))) = damaged m actor outcome new one
