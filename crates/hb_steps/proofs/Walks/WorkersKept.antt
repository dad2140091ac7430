-- After a step a walking worker's job is below the file's height, and its page of the job's level or above it.
use Rattle.hb_steps.proofs.Walks.Names.{◌≡◌, ◌⊎◌, inl, inr, ℕ, ◌<◌, ◌≤◌, Option, Some, None, IfSome, refl, sym, ap, ◌∙◌, subst, arith, LatchesFit, walk_stays, HasHeld, none-some, same_Some, Leaf, Records, Child, Sibling, LivePage, Live, Meta, Job, Activity, Outcome, Deed, LeadsBelow, walk_held, nothing_done, GaveAwayAt, StandsAbove, walking_job, MachineKeeps, Machine, live_here, with_disk, Performs, StepsTo, IsPointer, leaf_at, IsActor, if_live, Area, StoreState}
use Rattle.hb_steps.proofs.Facts.StillThere.{other_held}
use Rattle.hb_consol.specs.ConsolidatorRows.{IsMergingOf}
use Rattle.hb_steps.proofs.Table.DeedKinds.{each_again, each_deed}
use Rattle.hb_steps.proofs.Memory.MetaKept.{deed_keeps_meta}
use Rattle.hb_steps.proofs.Walks.WalkingWorkers.{WalksAsWorker, WalksOn, empty_has_none, walk_after, walk_wants_above}
use Rattle.hb_steps.proofs.Facts.Ways.{KeepsAllButDisk}
use Rattle.hb_steps.specs.Acting.{DoesRow}
use Rattle.hb_steps.specs.KeptFits.{WorkersStand}
use Rattle.hb_steps.specs.Steps.{TakesJob, TakesMerging}
use Rattle.hb_poster.specs.PosterRows.{IsPostingOf}

-- what one activity has of it
abbrev pub StandsByJob : StoreState → Activity → Type 0
StandsByJob st activity = IfSome (walking_job activity) (StandsAbove st (walk_held activity))

pub none_stands : (st : StoreState) (activity : Activity) → walking_job activity ≡ None → StandsByJob st activity
none_stands st activity none = subst (λ (o : Option Job). IfSome o (StandsAbove st (walk_held activity))) (sym none) tt

-- the same activity in a memory that has its page, under a height that didn't fall
pub stands_again : (old new : StoreState) (held : Option ℕ) (o : Option Job) → old.meta.height ≤ new.meta.height → ((id : ℕ) (page : LivePage) → held ≡ Some id → live_here new id ≡ Some page → live_here old id ≡ Some page) → IfSome o (StandsAbove old held) → IfSome o (StandsAbove new held)
stands_again old new held None grows back stands = tt
stands_again old new held (Some job) grows back stands = record {
  below_height = omega (arith, stands.below_height, grows);
  level = λ id page holds live. stands.level id page holds (back id page holds live);
  gave = λ id page holds live same. stands.gave id page holds (back id page holds live) same;
}

-- a walk that begins
begins : (st : StoreState) (job : Job) → job.level < st.meta.height → StandsAbove st None job
begins st job below = record {
  below_height = below;
  level = λ id page none live. absurd (none-some id none);
  gave = λ id page none live same. absurd (none-some id none);
}

-- and one that goes on
leads_on : (page : LivePage) (job : Job) (leaf : Leaf) (area : Area) → leaf_at page job.point ≡ Some (record { leaf = leaf; area = area }) → IsPointer leaf → ¬ (LeadsBelow page job) → GaveAwayAt page job.point
leads_on page job (Records records) area there names farther = absurd names
leads_on page job (Child name) area there names farther = absurd (farther (name, area, there))
leads_on page job (Sibling name) area there names farther = (name, area, there)

goes_on : (st : StoreState) (job : Job) (id : ℕ) (page : LivePage) → live_here st id ≡ Some page → job.level < st.meta.height → job.level ≤ page.level → (page.level ≡ job.level → GaveAwayAt page job.point) → StandsAbove st (Some id) job
goes_on st job id page live below above gave = record {
  below_height = below;
  level = λ other now holds there. subst (λ (q : LivePage). job.level ≤ q.level) (same other now holds there) above;
  gave = λ other now holds there. subst (λ (q : LivePage). q.level ≡ job.level → GaveAwayAt q job.point) (same other now holds there) gave;
}
  where
    same : (other : ℕ) (now : LivePage) → Some id ≡ Some other → live_here st other ≡ Some now → page ≡ now
    same other now holds there = same_Some page now (sym live ∙ ap (live_here st) (same_Some id other holds) ∙ there)

walker_stands : (st : StoreState) (activity : Activity) (job : Job) (held : Option ℕ) → WalksAsWorker activity job held → StandsAbove st held job → StandsByJob st activity
walker_stands st activity job held (inl is) stands = subst (StandsByJob st) (sym is) stands
walker_stands st activity job held (inr is) stands = subst (StandsByJob st) (sym is) stands

walker_stood : (st : StoreState) (activity : Activity) (job : Job) (held : Option ℕ) → WalksAsWorker activity job held → StandsByJob st activity → StandsAbove st held job
walker_stood st activity job held (inl is) stands = subst (StandsByJob st) is stands
walker_stood st activity job held (inr is) stands = subst (StandsByJob st) is stands

-- a job that is taken
posting_stands : (st : StoreState) (job : Job) (height : ℕ) (next : Activity) → height ≤ st.meta.height → IsPostingOf job height next → StandsByJob st next
posting_stands st job height next grows (inl (above, is)) = subst (StandsByJob st) (sym is) tt
posting_stands st job height next grows (inr (inl (same, is))) = subst (StandsByJob st) (sym is) tt
posting_stands st job height next grows (inr (inr (below, is))) = subst (StandsByJob st) (sym is) (begins st job (omega (arith, below, grows)))

merging_stands : (st : StoreState) (job : Job) (height : ℕ) (next : Activity) → height ≤ st.meta.height → IsMergingOf job height next → StandsByJob st next
merging_stands st job height next grows (inl (above, is)) = subst (StandsByJob st) (sym is) tt
merging_stands st job height next grows (inr (below, is)) = subst (StandsByJob st) (sym is) (begins st job (omega (arith, below, grows)))

-- ---- each step

-- where the page that its walk holds stays
pub works_held : (m : Machine) → LatchesFit m → (actor : ℕ) (st : StoreState) → m.store.meta.height ≤ st.meta.height → HasHeld m actor st → StandsByJob m.store (m.activity actor) → StandsByJob st (m.activity actor)
works_held m fit actor st grows has stands = stands_again m.store st (walk_held (m.activity actor)) (walking_job (m.activity actor)) grows
    (λ id page walks live. let both = walk_stays m fit actor id st has walks in ap if_live both.1 ∙ sym (ap if_live both.2) ∙ live) stands

module _ (m : Machine) (actor : ℕ) (outcome : Outcome) (new : Machine) (may : IsActor actor) (kept : MachineKeeps m) (step : StepsTo m actor outcome new) where
  grown : (fetched : StoreState) (deed : Deed) → fetched.meta ≡ m.store.meta → Performs m fetched actor deed outcome new → m.store.meta.height ≤ new.store.meta.height
  grown fetched deed same performs = (deed_keeps_meta deed.op _ m.store.meta fetched new.store same performs.store).height

  performed : (fetched : StoreState) (deed : Deed) → fetched.meta ≡ m.store.meta → Performs m fetched actor deed outcome new → StandsByJob new.store deed.next → WorkersStand new
  performed fetched deed same performs own =
      each_again (λ (other : ℕ) (activity : Activity). StandsByJob new.store activity) m.activity new.activity actor deed.next performs.activity own (λ other another. works_held m kept.latches_fit other new.store (grown fetched deed same performs) (other_held m actor outcome new may kept.latches_fit kept.pages_of_file step other another) (kept.workers_stand other))

  -- all but the disk stays, and so do the pages that are held
  keeps : KeepsAllButDisk m new → new.store.meta ≡ m.store.meta → WorkersStand new
  keeps stays meta other = subst (λ (all : ℕ → Activity). StandsByJob new.store (all other)) (sym stays.activity)
      (works_held m kept.latches_fit other new.store (omega (arith, ap (λ (x : Meta). x.height) meta)) (λ id mode page holds there. stays.memory id (Live page) (inl (other, mode, holds)) there) (kept.workers_stand other))

  posts : (deed : Deed) → TakesJob m deed → Performs m m.store actor deed outcome new → WorkersStand new
  posts deed takes performs = performed m.store deed refl performs
      (subst (StandsByJob new.store) (sym (ap (λ (d : Deed). d.next) takes.deed_is)) (posting_stands new.store takes.job m.store.meta.height takes.next (grown m.store deed refl performs) takes.posting))

  merges : (deed : Deed) → TakesMerging m deed → Performs m m.store actor deed outcome new → WorkersStand new
  merges deed takes performs = performed m.store deed refl performs
      (subst (StandsByJob new.store) (sym (ap (λ (d : Deed). d.next) takes.deed_is)) (merging_stands new.store takes.job m.store.meta.height takes.next (grown m.store deed refl performs) takes.merging))

  -- a walk that goes on
  walked : (fetched : StoreState) (deed : Deed) → fetched.meta ≡ m.store.meta → Performs m fetched actor deed outcome new → WalksOn m actor (with_disk fetched m.files m.clock m) deed → StandsByJob new.store deed.next
  walked fetched deed same performs walks =
      let goes = walks.goes in
      let stood = walker_stood m.store (m.activity actor) goes.job goes.held goes.before (kept.workers_stand actor) in
      let above = walk_wants_above m actor goes.job goes.held walks.wanted goes.before stood walks.wants in
      let store = nothing_done deed.op _ fetched new.store goes.nothing performs.store in
      let live : live_here new.store walks.wanted.page ≡ Some walks.page = ap (λ (st : StoreState). live_here st walks.wanted.page) store ∙ walks.live in
      walker_stands new.store deed.next goes.job (Some walks.wanted.page) goes.after
      (goes_on new.store goes.job walks.wanted.page walks.page live (omega (arith, stood.below_height, grown fetched deed same performs)) (omega (arith, above, walks.level))
      (λ level. leads_on walks.page goes.job goes.leaf goes.area goes.at_point goes.names (goes.farther level)))

  acts : DoesRow m actor outcome new → WorkersStand new
  acts does = performed does.fetched does.deed (ap (λ (s : StoreState). s.meta) does.brings.rest) does.performs (by (walk_after m actor (with_disk does.fetched m.files m.clock m) _ does.deed refl does.row))
    where
      by : (walking_job does.deed.next ≡ None) ⊎ WalksOn m actor (with_disk does.fetched m.files m.clock m) does.deed → StandsByJob new.store does.deed.next
      by (inl none) = none_stands new.store does.deed.next none
      by (inr walks) = walked does.fetched does.deed (ap (λ (s : StoreState). s.meta) does.brings.rest) does.performs walks

pub workers_stand_still : (m : Machine) (actor : ℕ) (outcome : Outcome) (new : Machine) → IsActor actor → MachineKeeps m → StepsTo m actor outcome new → WorkersStand new
workers_stand_still m actor outcome new may kept step = each_deed m actor outcome new (WorkersStand new) (record {
  keeps = keeps m actor outcome new may kept step;
  takes = λ line idle next performs. performed m actor outcome new may kept step m.store _ refl performs tt;
  posts = λ deed idle takes performs. posts m actor outcome new may kept step deed takes performs;
  merges = λ deed idle takes performs. merges m actor outcome new may kept step deed takes performs;
  acts = acts m actor outcome new may kept step;
  ends = λ fetched deed same ended performs. performed m actor outcome new may kept step fetched deed same performs (none_stands new.store deed.next (empty_has_none deed.next ended.hand));
}) step
