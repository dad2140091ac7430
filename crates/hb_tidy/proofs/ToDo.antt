-- Jobs that are left, and the worker that has them to do.
use Rattle.std.proofs.Common.{◌≡◌, ◌⊎◌, inl, inr, ℕ, ◌+◌, ◌-◌, ◌^◌, ◌<◌, ◌≤◌, Bool, true, false, cond, List, [], ◌∷◌, None, length, refl, sym, ap, ◌∙◌, subst, arith, length-append}
use Rattle.std.specs.Prelude.{count_by}
use Rattle.std.specs.List.{Contains}
use Rattle.std.proofs.lemmas.List.Elements.{Contains-append_left, Contains-append_right, Contains-push}
use Rattle.std.proofs.lemmas.List.Sums.{sum_by-cons}
use Rattle.hb_lemmas.proofs.Lists.{no_member}
use Rattle.hb_activity.proofs.Facts.QueueParts.{kind_so}
use Rattle.hb_activity.specs.Classes.{class_of}
use Rattle.hb_activity.specs.Queue.{AddsJob, is_of}
use Rattle.hb_activity.specs.declared.activities.Activity.{Activity}
use Rattle.hb_activity.specs.declared.activities.Activity.TheVariants as at
use Rattle.hb_activity.specs.declared.jobs.Job.{Job}
use Rattle.hb_activity.specs.declared.jobs.JobKind.{JobKind}
use Rattle.hb_activity.specs.declared.jobs.JobKind.TheVariants.{Merge, Post}
use Rattle.hb_activity.specs.declared.waiting_jobs.TheConstants.{JOBS}
use Rattle.hb_disk.specs.Model.{DiskModel}
use Rattle.hb_steps.specs.KeptFits.{class_for}
use Rattle.hb_steps.specs.KeptMachine.{MachineKeeps}
use Rattle.hb_steps.specs.Machines.{Machine}
use Rattle.hb_steps.specs.ProgressLaws.{HasToDo}
use Rattle.hb_core.specs.Showing.{RunningCore, ShowsMachine}
use Rattle.hb_steps.specs.SteppingLaws.{IsAtRest}
use Rattle.hb_steps.specs.ProgressLaws.{jobs_of}
use Rattle.hb_steps.specs.ProgressLaws.{jobs_in_work, worker_for}
use Rattle.hb_tidy.specs.Working.{HasCause, OthersRest}

-- ---- a queue in which a job of a kind is counted

counted_more : (kind : JobKind) (job : Job) (rest : List Job) → count_by (is_of kind) (job ∷ rest) ≡ cond (is_of kind job) 1 0 + count_by (is_of kind) rest
counted_more kind job rest = sum_by-cons (λ (j : Job). cond (is_of kind j) 1 0) job rest

counted_as : (kind : JobKind) (job : Job) (rest : List Job) (b : Bool) → is_of kind job ≡ b → count_by (is_of kind) (job ∷ rest) ≡ cond b 1 0 + count_by (is_of kind) rest
counted_as kind job rest b is = counted_more kind job rest ∙ ap (λ (b : Bool). cond b 1 0 + count_by (is_of kind) rest) is

counted_one : (kind : JobKind) (jobs : List Job) → 0 < count_by (is_of kind) jobs → (job : Job) × Contains jobs job × (job.kind ≡ kind)
counted_one kind [] some = absurd (omega (arith, some))
counted_one kind (job ∷ rest) some = elim (is_of kind job) as (λ b. (is_of kind job ≡ b) → (j : Job) × Contains (job ∷ rest) j × (j.kind ≡ kind)) [
  | true ↦ λ is. (job, Contains-append_left (job ∷ []) rest job (Contains-push [] job), kind_so kind job is)
  | false ↦ λ is.
      let more = counted_as kind job rest false is in
      let later = counted_one kind rest (omega (arith, more, some)) in
      (later.0, Contains-append_right (job ∷ []) rest later.0 later.1, later.2)
] refl

-- none is counted of either kind, so none waits
none_left : (m : Machine) → jobs_of Post m ≡ 0 → jobs_of Merge m ≡ 0 → m.jobs ≡ []
none_left m posts merges = by m.jobs (let few = posts in omega (arith, few)) (let few = merges in omega (arith, few))
  where
    by : (jobs : List Job) → count_by (is_of Post) jobs ≡ 0 → count_by (is_of Merge) jobs ≡ 0 → jobs ≡ []
    by [] post merge = refl
    by (job ∷ rest) post merge = absurd (one job.kind refl)
      where
        one : (kind : JobKind) → job.kind ≡ kind → ⊥
        one Post is = let all = counted_as Post job rest true (ap (λ (k : JobKind). is_of Post (record job { kind = k })) is) in omega (arith, all, post)
        one Merge is = let all = counted_as Merge job rest true (ap (λ (k : JobKind). is_of Merge (record job { kind = k })) is) in omega (arith, all, merge)

-- ---- a worker for which a job is left

no_more : (n k : ℕ) → k ≡ 0 → 0 < n + k → 0 < n
no_more n k none some = omega (arith, none, some)

module _ (m : Machine) (kept : MachineKeeps m) where
  waits_for : (kind : JobKind) → jobs_in_work (m.activity (worker_for kind)) ≡ 0 → 0 < jobs_of kind m → (job : Job) × Contains m.jobs job × (job.kind ≡ kind)
  waits_for kind rests some = counted_one kind m.jobs (no_more (count_by (is_of kind) m.jobs) (jobs_in_work (m.activity (worker_for kind))) rests some)

  -- no worker stands as an actor of another class
  never_so : {G : Type 0} (actor : ℕ) (a : Activity) → m.activity actor ≡ a → (class_of a ≡ class_for actor → ⊥) → G
  never_so actor a is other = absurd (other (sym (ap class_of is) ∙ kept.classes actor))

  to_post : 0 < jobs_of Post m → (a : Activity) → m.activity 17 ≡ a → HasToDo m 17
  to_post some at.PosterIdle is = let job = waits_for Post (ap jobs_in_work is) some in inr (inr (inl (is, job.0, job.1, job.2)))
  to_post some at.SessionIdle is = never_so 17 at.SessionIdle is (λ same. cc)
  to_post some at.ConsolidatorIdle is = never_so 17 at.ConsolidatorIdle is (λ same. cc)
  to_post some at.Flusher is = never_so 17 at.Flusher is (λ same. cc)
  to_post some other is = inl (subst (λ (a : Activity). ¬ (IsAtRest a)) (sym is) (λ never. never))

  to_merge : 0 < jobs_of Merge m → (a : Activity) → m.activity 18 ≡ a → HasToDo m 18
  to_merge some at.ConsolidatorIdle is = let job = waits_for Merge (ap jobs_in_work is) some in inr (inr (inr (is, job.0, job.1, job.2)))
  to_merge some at.SessionIdle is = never_so 18 at.SessionIdle is (λ same. cc)
  to_merge some at.PosterIdle is = never_so 18 at.PosterIdle is (λ same. cc)
  to_merge some at.Flusher is = never_so 18 at.Flusher is (λ same. cc)
  to_merge some other is = inl (subst (λ (a : Activity). ¬ (IsAtRest a)) (sym is) (λ never. never))

  pub has_cause : (kind : JobKind) → m.stop ≡ None → OthersRest m (worker_for kind) → 0 < jobs_of kind m → HasCause m (worker_for kind)
  has_cause Post runs rest some = (runs, inl (inl refl, rest, to_post some (m.activity 17) refl))
  has_cause Merge runs rest some = (runs, inl (inr refl, rest, to_merge some (m.activity 18) refl))

-- ---- a job that joins the queue

no_more_room : (n : ℕ) → JOBS ≤ n → n ≡ 0 → ⊥
no_more_room n full none = omega (arith, full, none)

-- Some job waits then.
pub adds_some : (job : Job) (old new : List Job) → AddsJob job old new → new ≡ [] → ⊥
adds_some job old new (inl (among, same)) none = no_member job (subst (λ (jobs : List Job). Contains jobs job) (sym same ∙ none) among)
adds_some job old new (inr (inl (apart, room, is))) none =
    let long = length-append {A = Job} old (job ∷ []) in
    let empty = ap (λ (jobs : List Job). length jobs) (sym is ∙ none) in
    omega (arith, long, empty)
adds_some job old new (inr (inr (apart, full, same))) none = no_more_room (length old) full (ap (λ (jobs : List Job). length jobs) (sym same ∙ none))

-- ---- turns of a loop that works jobs off

-- a step was taken, whether any was before or not
pub later_still : {C : Type 0} (seen : C → RunningCore) (first mid : C) (taken : ℕ) → ((seen first).taken < (seen mid).taken) ⊎ (mid ≡ first) → taken ≡ (seen mid).taken + 1 → (seen first).taken < taken
later_still seen first mid taken (inl more) one = omega (arith, more, one)
later_still seen first mid taken (inr same) one = let as_many = ap (λ (c : _). (seen c).taken) same in omega (arith, as_many, one)

-- behind both kinds of work some step was taken, where a job was left before
module _ {C : Type 0} (M : C → DiskModel) (seen : C → RunningCore) (before posted merged : C) (m : Machine) (shows : ShowsMachine (M before) (seen before) m) where
  -- where nothing changed, no job is left
  none_changed : (kind : JobKind) (c : C) → c ≡ before → ((x : Machine) → ShowsMachine (M c) (seen c) x → jobs_of kind x ≡ 0) → 0 < jobs_of kind m → ⊥
  none_changed kind c same done some =
      let none = done m (subst (λ (x : C). ShowsMachine (M x) (seen x) m) (sym same) shows) in
      omega (arith, none, some)

  pub work_counts : ((x : Machine) → ShowsMachine (M posted) (seen posted) x → jobs_of Post x ≡ 0) → ((x : Machine) → ShowsMachine (M merged) (seen merged) x → jobs_of Merge x ≡ 0) → (0 < jobs_of Post m) ⊎ (0 < jobs_of Merge m)
      → ((seen before).taken < (seen posted).taken) ⊎ (posted ≡ before) → ((seen posted).taken < (seen merged).taken) ⊎ (merged ≡ posted) → (seen before).taken < (seen merged).taken
  work_counts posts merges some (inl one) (inl two) = omega (arith, one, two)
  work_counts posts merges some (inl one) (inr same) = let is = ap (λ (x : C). (seen x).taken) same in omega (arith, one, is)
  work_counts posts merges some (inr same) (inl two) = let is = ap (λ (x : C). (seen x).taken) same in omega (arith, two, is)
  work_counts posts merges (inl some) (inr same) (inr again) = absurd (none_changed Post posted same posts some)
  work_counts posts merges (inr some) (inr same) (inr again) = absurd (none_changed Merge merged (again ∙ same) merges some)

-- no job waits, where none is left of either kind
pub no_jobs : (d : DiskModel) (c : RunningCore) (m : Machine) → ShowsMachine d c m → (posts merges : ℕ) → posts ≡ jobs_of Post m → merges ≡ jobs_of Merge m → posts ≡ 0 → merges ≡ 0 → c.jobs ≡ []
no_jobs d c m shows posts merges post merge none_post none_merge = sym shows.jobs ∙ none_left m (sym post ∙ none_post) (sym merge ∙ none_merge)

pub falls_short : (first mid last : ℕ) → first ≤ mid → mid < last → last ≤ 2 ^ 64 - 1 → 2 ^ 64 - 1 - last < 2 ^ 64 - 1 - first
falls_short first mid last one two top = omega (arith, one, two, top)
