-- After a step the points and boxes of lines, jobs and boxes that remain have as many attributes as the file.
use Rattle.hb_steps.proofs.Machines.Names.{◌≡◌, ◌≢◌, ◌⊎◌, inl, inr, ℕ, List, [], All, Option, Some, IfSome, refl, sym, ap, subst, All-cons, All-nil, LivePage, Live, Meta, Command, Insert, Delete, Lookup, Search, Line, Job, Activity, Outcome, Hand, hand_of, job_in_work, line_in_hand, line_of, Deed, LeavesBy, IsMergingOf, EndsHand, each_again, each_deed, line_taken, KeepsHand, hand_after, KeepsAllButDisk, DoesRow, AttributesFit, CommandFits, IsBoxOf, JobFits, LineFits, boxes_left, MachineKeeps, Machine, live_here, with_disk, Performs, StepsTo, TakesJob, TakesMerging, IsActor, WantsBoxes, taking, IsPostingOf, IsGoodPage, StoreState, not_empty}
use Rattle.hb_activity.specs.declared.activities.Activity.TheVariants as at
use Rattle.hb_activity.specs.Classes.{Empty, job_of}
use Rattle.hb_steps.proofs.Machines.AddedJobs.{AddsFit, JobsFit, added_fit, first_fits, left_fit, row_adds}
use Rattle.hb_steps.proofs.Machines.BoxesAhead.{BoxesFit, HasBoxLeft, WalksAsSession, boxes_after, none_ahead}
use Rattle.hb_steps.proofs.Memory.MetaKept.{deed_keeps_meta}
use Rattle.hb_steps.proofs.Table.NextHands.{no_line}
use Rattle.hb_steps.proofs.Facts.StillThere.{fetched_good}
use Rattle.hb_point.specs.SessionRows.{boxes_ahead}

-- what one activity has of it
pub record StandsFit (k : ℕ) (activity : Activity) : Type 0 where
  pub line : IfSome (line_in_hand activity) (LineFits k)
  pub boxes : All (IsBoxOf k) (boxes_left activity)
  pub left : HasBoxLeft activity
  pub job : IfSome (job_in_work activity) (JobFits k)

-- and a machine, of so many attributes
pub record FitsAll (k : ℕ) (m : Machine) : Type 0 where
  pub script : All (LineFits k) m.lines
  pub each : (actor : ℕ) → StandsFit k (m.activity actor)
  pub waiting : JobsFit k m.jobs

left_there : (activity : Activity) (line : Line) (held : Option ℕ) (rest : List _) (found : _) → HasBoxLeft activity → activity ≡ at.SessionWalk line held rest found → WantsBoxes line.command → rest ≢ []
left_there activity line held rest found left is = subst HasBoxLeft is left

all_fit : (m : Machine) → AttributesFit m → FitsAll m.store.meta.k m
all_fit m fit = record {
  script = fit.script;
  each = λ actor. record { line = fit.in_hand actor; boxes = fit.boxes actor; left = left_by (m.activity actor) (fit.box_left actor); job = fit.in_work actor };
  waiting = fit.waiting;
}
  where
    left_by : (activity : Activity) → ((line : Line) (held : Option ℕ) (rest : List _) (found : _) → activity ≡ at.SessionWalk line held rest found → WantsBoxes line.command → rest ≢ []) → HasBoxLeft activity
    left_by (at.SessionWalk line held rest found) by = by line held rest found refl
    left_by activity by = tt

fit_again : (k : ℕ) (m : Machine) → m.store.meta.k ≡ k → FitsAll k m → AttributesFit m
fit_again k m same all = by (subst (λ (n : ℕ). FitsAll n m) (sym same) all)
  where
    by : FitsAll m.store.meta.k m → AttributesFit m
    by fits = record {
      script = fits.script;
      in_hand = λ actor. (fits.each actor).line;
      boxes = λ actor. (fits.each actor).boxes;
      box_left = λ actor line held rest found is. left_there (m.activity actor) line held rest found (fits.each actor).left is;
      waiting = fits.waiting;
      in_work = λ actor. (fits.each actor).job;
    }

-- ---- where an actor stands

-- a session that walks has a line in hand
walk_has_line : (activity : Activity) → WalksAsSession activity → hand_of activity ≡ Empty → ⊥
walk_has_line (at.SessionWalk line held rest found) walks none = no_line line none
walk_has_line activity walks none = absurd walks

-- with nothing in hand
empty_fits : (k : ℕ) (activity : Activity) → hand_of activity ≡ Empty → StandsFit k activity
empty_fits k activity none =
    let ahead = none_ahead k activity (λ walks. walk_has_line activity walks none) in
    record {
      line = subst (λ (h : Hand). IfSome (line_of h) (LineFits k)) (sym none) tt;
      boxes = ahead.boxes;
      left = ahead.left;
      job = subst (λ (h : Hand). IfSome (job_of h) (JobFits k)) (sym none) tt;
    }

-- with what it had in hand
hand_stays : (k : ℕ) (before next : Activity) → hand_of next ≡ hand_of before → StandsFit k before → BoxesFit k next → StandsFit k next
hand_stays k before next same fits ahead = record {
  line = subst (λ (h : Hand). IfSome (line_of h) (LineFits k)) (sym same) fits.line;
  boxes = ahead.boxes;
  left = ahead.left;
  job = subst (λ (h : Hand). IfSome (job_of h) (JobFits k)) (sym same) fits.job;
}

kept_fits : (k : ℕ) (before : Activity) (deed : Deed) → KeepsHand before deed → StandsFit k before → BoxesFit k deed.next → StandsFit k deed.next
kept_fits k before deed keeps fits ahead = by keeps.hand
  where
    by : (hand_of deed.next ≡ Empty) ⊎ (hand_of deed.next ≡ hand_of before) → StandsFit k deed.next
    by (inl none) = empty_fits k deed.next none
    by (inr same) = hand_stays k before deed.next same fits ahead

-- a line that is taken
ahead_fit : (k : ℕ) (command : Command) → CommandFits k command → All (IsBoxOf k) (boxes_ahead command)
ahead_fit k (Insert rec) fits = All-nil (IsBoxOf k)
ahead_fit k (Delete point) fits = All-nil (IsBoxOf k)
ahead_fit k (Lookup point) fits = All-nil (IsBoxOf k)
ahead_fit k (Search area) fits = All-cons (IsBoxOf k) area [] fits (All-nil (IsBoxOf k))

ahead_some : (command : Command) → WantsBoxes command → boxes_ahead command ≢ []
ahead_some (Insert rec) wants = absurd wants
ahead_some (Delete point) wants = absurd wants
ahead_some (Lookup point) wants = absurd wants
ahead_some (Search area) wants = not_empty area []

taking_fits : (k : ℕ) (line : Line) → LineFits k line → StandsFit k (taking line).next
taking_fits k line fits = record { line = fits; boxes = ahead_fit k line.command fits.command; left = ahead_some line.command; job = tt }

-- a job that is taken
posting_fits : (k : ℕ) (job : Job) (height : ℕ) (next : Activity) → JobFits k job → IsPostingOf job height next → StandsFit k next
posting_fits k job height next fits (inl (above, is)) = subst (StandsFit k) (sym is) (empty_fits k at.PosterIdle refl)
posting_fits k job height next fits (inr (inl (same, is))) = subst (StandsFit k) (sym is) (record { line = tt; boxes = All-nil (IsBoxOf k); left = tt; job = fits })
posting_fits k job height next fits (inr (inr (below, is))) = subst (StandsFit k) (sym is) (record { line = tt; boxes = All-nil (IsBoxOf k); left = tt; job = fits })

merging_fits : (k : ℕ) (job : Job) (height : ℕ) (next : Activity) → JobFits k job → IsMergingOf job height next → StandsFit k next
merging_fits k job height next fits (inl (above, is)) = subst (StandsFit k) (sym is) (empty_fits k at.ConsolidatorIdle refl)
merging_fits k job height next fits (inr (below, is)) = subst (StandsFit k) (sym is) (record { line = tt; boxes = All-nil (IsBoxOf k); left = tt; job = fits })

-- ---- each step

module _ (m : Machine) (actor : ℕ) (outcome : Outcome) (new : Machine) (kept : MachineKeeps m) where
  abbrev k : ℕ
  k = m.store.meta.k

  abbrev fits : FitsAll k m
  fits = all_fit m kept.attributes_fit

  performed : (fetched : StoreState) (deed : Deed) → fetched.meta ≡ m.store.meta → Performs m fetched actor deed outcome new → StandsFit k deed.next → AddsFit k deed → AttributesFit new
  performed fetched deed same performs own adds = fit_again k new (deed_keeps_meta deed.op _ m.store.meta fetched new.store same performs.store).k (record {
    script = subst (λ (l : List Line). All (LineFits k) l) (sym performs.lines) fits.script;
    each = each_again (λ (other : ℕ) (activity : Activity). StandsFit k activity) m.activity new.activity actor deed.next performs.activity own (λ other another. fits.each other);
    waiting = added_fit k deed.adds performs.jobs.left new.jobs performs.jobs.adds adds (left_fit k deed.takes m.jobs performs.jobs.left performs.jobs.takes fits.waiting);
  })

  keeps : KeepsAllButDisk m new → new.store.meta ≡ m.store.meta → AttributesFit new
  keeps stays meta = fit_again k new (ap (λ (x : Meta). x.k) meta) (record {
    script = subst (λ (l : List Line). All (LineFits k) l) (sym stays.lines) fits.script;
    each = λ other. subst (λ (all : ℕ → Activity). StandsFit k (all other)) (sym stays.activity) (fits.each other);
    waiting = subst (JobsFit k) (sym stays.jobs) fits.waiting;
  })

  no_adds : (deed : Deed) → deed.adds ≡ [] → AddsFit k deed
  no_adds deed none = subst (JobsFit k) (sym none) (All-nil (JobFits k))

  -- the job that a worker takes fits
  took : (deed : Deed) (job : Job) → deed.takes ≡ Some job → Performs m m.store actor deed outcome new → JobFits k job
  took deed job is performs = first_fits k job.kind m.jobs job performs.jobs.left (subst (λ (o : Option Job). LeavesBy o m.jobs performs.jobs.left) is performs.jobs.takes) fits.waiting

  posts : (deed : Deed) → TakesJob m deed → Performs m m.store actor deed outcome new → AttributesFit new
  posts deed takes performs =
      let job = took deed takes.job (ap (λ (d : Deed). d.takes) takes.deed_is) performs in
      performed m.store deed refl performs (subst (StandsFit k) (sym (ap (λ (d : Deed). d.next) takes.deed_is)) (posting_fits k takes.job m.store.meta.height takes.next job takes.posting)) (no_adds deed (ap (λ (d : Deed). d.adds) takes.deed_is))

  merges : (deed : Deed) → TakesMerging m deed → Performs m m.store actor deed outcome new → AttributesFit new
  merges deed takes performs =
      let job = took deed takes.job (ap (λ (d : Deed). d.takes) takes.deed_is) performs in
      performed m.store deed refl performs (subst (StandsFit k) (sym (ap (λ (d : Deed). d.next) takes.deed_is)) (merging_fits k takes.job m.store.meta.height takes.next job takes.merging)) (no_adds deed (ap (λ (d : Deed). d.adds) takes.deed_is))

  acts : DoesRow m actor outcome new → AttributesFit new
  acts does =
      let activity = m.activity actor in
      let now = with_disk does.fetched m.files m.clock m in
      let good : (id : ℕ) (page : LivePage) → live_here does.fetched id ≡ Some page → IsGoodPage m.store.meta (Live page) = λ id page live. fetched_good m _ does.fetched kept.pages_of_file does.brings id page live in
      let stands = fits.each actor in
      performed does.fetched does.deed (ap (λ (s : StoreState). s.meta) does.brings.rest) does.performs
      (kept_fits k activity does.deed (hand_after now activity _ does.deed does.row) stands (boxes_after m.store.meta now good activity _ does.deed (record { boxes = stands.boxes; left = stands.left }) does.row))
      (row_adds k now (λ id page live. (good id page live).1.fits.attributes) activity _ does.deed (record { line = stands.line; boxes = stands.boxes; job = stands.job }) does.row)

  ends : (fetched : StoreState) (deed : Deed) → fetched.meta ≡ m.store.meta → EndsHand (m.activity actor) deed → Performs m fetched actor deed outcome new → AttributesFit new
  ends fetched deed same ended performs = performed fetched deed same performs (empty_fits k deed.next ended.hand) (no_adds deed ended.adds)

pub attributes_fit_still : (m : Machine) (actor : ℕ) (outcome : Outcome) (new : Machine) → IsActor actor → MachineKeeps m → StepsTo m actor outcome new → AttributesFit new
attributes_fit_still m actor outcome new may kept step = each_deed m actor outcome new (AttributesFit new) (record {
  keeps = keeps m actor outcome new kept;
  takes = λ line idle next performs.
      performed m actor outcome new kept m.store _ refl performs (taking_fits m.store.meta.k line (line_taken (LineFits m.store.meta.k) actor m.answered m.lines kept.attributes_fit.script line next)) (All-nil (JobFits m.store.meta.k));
  posts = λ deed idle takes performs. posts m actor outcome new kept deed takes performs;
  merges = λ deed idle takes performs. merges m actor outcome new kept deed takes performs;
  acts = acts m actor outcome new kept;
  ends = ends m actor outcome new kept;
}) step
