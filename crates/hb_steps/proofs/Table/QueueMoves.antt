-- What becomes of a job among those that wait, as others leave and join.
use Rattle.hb_steps.proofs.Table.Names.{◌≡◌, ◌⊎◌, inl, inr, ◌≤◌, zero, suc, List, ◌∷◌, length, Option, Some, None, sym, ap, ◌∙◌, subst, arith, [], Contains, Job, FindsNoPlace}
use Rattle.std.proofs.Common.{◌++◌}
use Rattle.std.proofs.lemmas.List.Elements.{Contains-append_cases, Contains-append_left, Contains-append_right, Contains-push}
use Rattle.hb_lemmas.proofs.Lists.{member_cases}
use Rattle.hb_activity.specs.declared.waiting_jobs.TheConstants.{JOBS}
use Rattle.hb_activity.specs.Queue.{AddsJob, AddsJobs, LeavesBy, LeavesFirst}

-- who waits goes on waiting as others join
one_more : (job other : Job) (old new : List Job) → AddsJob other old new → Contains old job → Contains new job
one_more job other old new (inl (there, is)) waits = subst (λ (l : List Job). Contains l job) (sym is) waits
one_more job other old new (inr (inl (none, less, is))) waits = subst (λ (l : List Job). Contains l job) (sym is) (Contains-append_left old (other ∷ []) job waits)
one_more job other old new (inr (inr (none, full, is))) waits = subst (λ (l : List Job). Contains l job) (sym is) waits

pub still_waits : (adds : List Job) (job : Job) (old new : List Job) → AddsJobs adds old new → Contains old job → Contains new job
still_waits [] job old new is waits = subst (λ (l : List Job). Contains l job) (sym is) waits
still_waits (other ∷ rest) job old new (more, adds, others) waits = still_waits rest job more new others (one_more job other old more adds waits)

-- a full queue stays as it is
none_joins : (other : Job) (old new : List Job) → JOBS ≤ length old → AddsJob other old new → new ≡ old
none_joins other old new full (inl (there, is)) = is
none_joins other old new full (inr (inl (none, less, is))) = absurd (omega (arith, full, less))
none_joins other old new full (inr (inr (none, le, is))) = is

full_stays : (adds : List Job) (old new : List Job) → JOBS ≤ length old → AddsJobs adds old new → new ≡ old
full_stays [] old new full is = is
full_stays (other ∷ rest) old new full (more, adds, others) =
    let same = none_joins other old more full adds in
    full_stays rest more new (subst (λ (l : List Job). JOBS ≤ length l) (sym same) full) others ∙ same

-- who joins waits then, or finds no place
joins_first : (job : Job) (rest old more new : List Job) → AddsJob job old more → AddsJobs rest more new → Contains new job ⊎ FindsNoPlace job new
joins_first job rest old more new (inl (there, is)) others = inl (still_waits rest job more new others (subst (λ (l : List Job). Contains l job) (sym is) there))
joins_first job rest old more new (inr (inl (none, less, is))) others = inl (still_waits rest job more new others (subst (λ (l : List Job). Contains l job) (sym is) (Contains-push old job)))
joins_first job rest old more new (inr (inr (none, full, is))) others =
    let same = full_stays rest more new (subst (λ (l : List Job). JOBS ≤ length l) (sym is) full) others ∙ is in
    inr (record { others = subst (λ (l : List Job). ¬ (Contains l job)) (sym same) none; full = subst (λ (l : List Job). JOBS ≤ length l) (sym same) full })

pub joins_or_full : (adds : List Job) (job : Job) (old new : List Job) → AddsJobs adds old new → Contains adds job → Contains new job ⊎ FindsNoPlace job new
joins_or_full [] job old new adds (k, lt, e) = absurd (omega (arith, lt))
joins_or_full (first ∷ rest) job old new (more, adds, others) (zero, lt, e) = joins_first job rest old more new (subst (λ (j : Job). AddsJob j old more) e adds) others
joins_or_full (first ∷ rest) job old new (more, adds, others) (suc k, lt, e) = joins_or_full rest job more new others (k, omega (arith, lt), e)

first_left : (taken job : Job) (old left : List Job) → LeavesFirst taken.kind old taken left → Contains old job → Contains left job ⊎ (taken ≡ job)
first_left taken job old left leaves waits = by (Contains-append_cases leaves.front (taken ∷ leaves.behind) job (subst (λ (l : List Job). Contains l job) leaves.whole waits))
  where
    kept : Contains (leaves.front ++ leaves.behind) job → Contains left job
    kept there = subst (λ (l : List Job). Contains l job) (sym leaves.rest) there

    by_rest : (taken ≡ job) ⊎ Contains leaves.behind job → Contains left job ⊎ (taken ≡ job)
    by_rest (inl is) = inr is
    by_rest (inr behind) = inl (kept (Contains-append_right leaves.front leaves.behind job behind))

    by : Contains leaves.front job ⊎ Contains (taken ∷ leaves.behind) job → Contains left job ⊎ (taken ≡ job)
    by (inl front) = inl (kept (Contains-append_left leaves.front leaves.behind job front))
    by (inr rest) = by_rest (member_cases taken leaves.behind job rest)

pub left_or_taken : (takes : Option Job) (job : Job) (old left : List Job) → LeavesBy takes old left → Contains old job → Contains left job ⊎ (takes ≡ Some job)
left_or_taken None job old left is waits = inl (subst (λ (l : List Job). Contains l job) (sym is) waits)
left_or_taken (Some taken) job old left leaves waits = by (first_left taken job old left leaves waits)
  where
    by : Contains left job ⊎ (taken ≡ job) → Contains left job ⊎ (Some taken ≡ Some job)
    by (inl stays) = inl stays
    by (inr is) = inr (ap Some is)
