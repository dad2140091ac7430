-- The jobs that a core lets wait.
use Rattle.hb_core.proofs.Running.Names.{◌≡◌, ◌⊎◌, inl, inr, ◌↔◌, ℕ, ◌<◌, ◌≤◌, ◌==◌, Bool, true, false, IsTrue, List, [], ◌∷◌, ◌++◌, take, drop, length, slice_index_or, refl, ap, subst, ◌∙◌, arith, cases_lt, false≢true, Job, Post, Merge, AddsJobs}
use Rattle.std.proofs.Common.{Contains}
use Rattle.std.specs.Bool.{OnFalse}
use Rattle.std.proofs.lemmas.Bool.{cases_eq}
use Rattle.hb_activity.specs.declared.jobs.JobKind.{JobKind}
use Rattle.hb_activity.specs.declared.waiting_jobs.TheConstants.{JOBS}
use Rattle.hb_activity.specs.Queue.{AddsJob}
use Rattle.hb_lemmas.proofs.Lists.{first_member, later_member, member_cases, no_member}
use Rattle.hb_lemmas.proofs.Decisions.{Known, both, known_list}

same_kind : (k l : JobKind) → Known (k ≡ l)
same_kind Post Post = inl refl
same_kind Post Merge = inr (λ e. cc)
same_kind Merge Post = inr (λ e. cc)
same_kind Merge Merge = inl refl

alike : (a b : Job) → a.kind ≡ b.kind → a.level ≡ b.level → a.point ≡ b.point → a ≡ b
alike a b kind level point =
    ap (λ (k : JobKind). record a { kind = k }) kind ∙ ap (λ (l : ℕ). record a { kind = b.kind; level = l }) level
    ∙ ap (λ (p : List ℕ). record b { point = p }) point

same_job : (a b : Job) → Known (a ≡ b)
same_job a b = elim (both (same_kind a.kind b.kind) (both (cases_eq a.level b.level) (known_list a.point b.point))) [
  | inl (kind, (level, point)) ↦ inl (alike a b kind level point)
  | inr off ↦ inr (λ e. off (ap (λ (j : Job). j.kind) e, (ap (λ (j : Job). j.level) e, ap (λ (j : Job). j.point) e)))
]

-- a job waits or it doesn't
waits_or_not : (jobs : List Job) (job : Job) → Known (Contains jobs job)
waits_or_not [] job = inr (no_member job)
waits_or_not (x ∷ jobs) job = elim (same_job x job) [
  | inl same ↦ inl (subst (Contains (x ∷ jobs)) same (first_member x jobs))
  | inr off ↦ elim (waits_or_not jobs job) [
    | inl later ↦ inl (later_member x jobs job later)
    | inr none ↦ inr (λ h. elim (member_cases x jobs job h) [ inl same ↦ off same | inr later ↦ none later ])
  ]
]

-- what `add` does, as its clauses tell
pub added : (old new : List Job) (job : Job) (r : Bool) → (IsTrue r ↔ (Contains old job ⊎ (length old < JOBS))) → (Contains old job → new ≡ old)
    → ((Contains old job → ⊥) → length old < JOBS → new ≡ old ++ job ∷ []) → OnFalse r (new ≡ old) → AddsJob job old new
added old new job r tells there joins dropped = elim (waits_or_not old job) [
  | inl waits ↦ inl (waits, there waits)
  | inr off ↦ elim (cases_lt (length old) JOBS) [
    | inl few ↦ inr (inl (off, few, joins off few))
    | inr full ↦ inr (inr (off, full, at r tells dropped full off))
  ]
]
  where
    at : (b : Bool) → (IsTrue b ↔ (Contains old job ⊎ (length old < JOBS))) → OnFalse b (new ≡ old) → JOBS ≤ length old → (Contains old job → ⊥) → new ≡ old
    at true tells dropped full off = elim (tells.0 refl) [ inl waits ↦ absurd (off waits) | inr few ↦ absurd (omega (arith, few, full)) ]
    at false tells dropped full off = dropped

pub first_added : (jobs : List Job) (job : Job) (old new : List Job) (r : Bool) → false ≡ (length jobs == 0) → job ≡ slice_index_or jobs 0 job
    → (IsTrue r ↔ (Contains old job ⊎ (length old < JOBS))) → (Contains old job → new ≡ old)
    → ((Contains old job → ⊥) → length old < JOBS → new ≡ old ++ job ∷ []) → OnFalse r (new ≡ old) → AddsJobs (take 1 jobs) old new
first_added [] job old new r some is tells there joins dropped = absurd (false≢true some)
first_added (x ∷ jobs) job old new r some is tells there joins dropped =
    (new, subst (λ (j : Job). AddsJob j old new) is (added old new job r tells there joins dropped), refl)

-- the first job, and the first of those that are left
pub both_added : (jobs left : List Job) (old middle new : List Job) → length jobs ≤ 2 → left ≡ drop 1 jobs → AddsJobs (take 1 jobs) old middle → AddsJobs (take 1 left) middle new → AddsJobs jobs old new
both_added jobs left old middle new few is first second = by jobs few first (subst (λ (l : List Job). AddsJobs (take 1 l) middle new) is second)
  where
    by : (jobs : List Job) → length jobs ≤ 2 → AddsJobs (take 1 jobs) old middle → AddsJobs (take 1 (drop 1 jobs)) middle new → AddsJobs jobs old new
    by [] few first second = second ∙ first
    by (a ∷ []) few (more, one, rest) second = (more, one, second ∙ rest)
    by (a ∷ b ∷ []) few (more, one, rest) second = (more, one, subst (λ (l : List Job). AddsJobs (b ∷ []) l new) rest second)
    by (a ∷ b ∷ c ∷ jobs) few first second = absurd (omega (arith, few))
