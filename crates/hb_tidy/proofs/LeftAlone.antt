-- A tidy file owes no job, so none is worked off.
use Rattle.std.proofs.Common.{◌≡◌, ◌≢◌, ◌⊎◌, inl, inr, ℕ, ◌<◌, ◌≤◌, List, [], ◌∷◌, ◌++◌, All, length, Option, Some, None, IfSome, option_map, refl, sym, ap, ◌∙◌, subst, arith}
use Rattle.std.specs.List.{Contains}
use Rattle.std.specs.Prelude.{MatchOption}
use Rattle.std.proofs.lemmas.List.{length-append}
use Rattle.std.proofs.lemmas.List.Elements.{All-append, All-contains, All-nil}
use Rattle.hb_activity.specs.declared.activities.Activity.{Activity}
use Rattle.hb_activity.specs.declared.activities.Activity.TheVariants as at
use Rattle.hb_activity.specs.declared.jobs.Job.{Job}
use Rattle.hb_frag.specs.Leaves.{siblings_of}
use Rattle.hb_layout.specs.declared.limits.TheConstants.{HEIGHT_MAX}
use Rattle.hb_lemmas.proofs.Lists.{All-alone, no_member}
use Rattle.hb_ops.specs.Files.{FileState}
use Rattle.hb_ops.specs.declared.operations.Op.{Op}
use Rattle.hb_ops.specs.Settled.{HasLoneRoot}
use Rattle.hb_space.proofs.Facts.Boxes.{Meets-from_point}
use Rattle.hb_space.specs.Boxes.{Area, Meets}
use Rattle.hb_pool.specs.Frames.{Use, clean}
use Rattle.hb_pool.specs.Pools.{IsPool, in_place, places}
use Rattle.hb_store.specs.Held.{oldest_dirty}
use Rattle.hb_store.specs.declared.stops.StopWhy.{StopWhy}
use Rattle.hb_steps.specs.Machines.{Files, Machine, current_file}
use Rattle.hb_steps.specs.ProgressLaws.{HasToDo}
use Rattle.hb_steps.specs.SteppingLaws.{IsAtRest}
use Rattle.hb_core.specs.Between.{PageComes}
use Rattle.hb_steps.specs.Forcing.{FailsToWrite, Flushes, FlushesRest, StaysSo}
use Rattle.hb_steps.specs.Steps.{StepsAs, StepsTo}
use Rattle.hb_steps.specs.declared.outcomes.Outcome.{Outcome}
use Rattle.hb_steps.specs.declared.outcomes.Outcome.TheVariants as outcomes
use Rattle.hb_tidy.proofs.CleanedPlaces.{AreUnpinned, cleaned_free, cleaned_place, cleaned_pool, fetched_free, fetched_place, oldest_there, some_dirty}
use Rattle.hb_tidy.proofs.OneCall.{only_silent}
use Rattle.hb_tidy.proofs.Workers.{flusher_leaves}
use Rattle.hb_tidy.specs.Finding.{IsTidy, OwesGrowth}
use Rattle.hb_tidy.specs.Owed.{IsJobOwed}
use Rattle.hb_tidy.specs.TidyFiles.{HasTidyFile, IsNoWork, TidyFilesAreLeftAlone}
use Rattle.hb_tidy.specs.Tidying.{file_now}
use Rattle.hb_tidy.specs.Working.{Breaks, Comes, DidInStep, Event, Happens, HasCause, Steps, Waits, WorksOff, steps_in}
use Rattle.hb_store.specs.States.{StoreState}

-- ---- no job is owed

no_growth : (s : FileState) → (s.meta.height ≡ HEIGHT_MAX) ⊎ HasLoneRoot s → OwesGrowth s → ⊥
no_growth s (inl most) owed = let low = owed.low in omega (arith, most, low)
no_growth s (inr lone) owed = owed.given (lone owed.root owed.live)

pub none_owed : (s : FileState) (job : Job) → IsTidy s → IsJobOwed s job → ⊥
none_owed s job tidy (inl growth) = no_growth s tidy.settled.grown growth.owed
none_owed s job tidy (inr (inl posting)) =
    let apart = tidy.settled.posted posting.parent posting.child posting.above posting.below posting.area posting.live.0 posting.leaf posting.live.1 in
    All-contains (λ (sibling : ℕ × Area). ¬ (Meets posting.area sibling.1)) (siblings_of posting.below) posting.owed.inner apart posting.owed.given
    (Meets-from_point posting.area posting.owed.inner.1 job.point posting.owed.held posting.owed.inside)
none_owed s job tidy (inr (inr merge)) = tidy.none merge.parent merge.keep merge.gone merge.may

-- ---- a flush does no operation

one_more : {X : Type 0} (old new : List X) (x : X) → new ≡ old ++ x ∷ [] → (new ≡ old) ⊎ (new ≡ []) → ⊥
one_more {X = X} old new x is (inl same) =
    let long = length-append {A = X} old (x ∷ []) in
    let as_long = ap (λ (xs : List X). length xs) (sym same ∙ is) in
    omega (arith, long, as_long)
one_more {X = X} old new x is (inr none) =
    let long = length-append {A = X} old (x ∷ []) in
    let empty = ap (λ (xs : List X). length xs) (sym none ∙ is) in
    omega (arith, long, empty)

behind_same : {X : Type 0} (came old new : List X) (x : X) → new ≡ came ++ x ∷ [] → came ≡ old → new ≡ old ++ x ∷ []
behind_same {X = X} came old new x is same = is ∙ ap (λ (xs : List X). xs ++ x ∷ []) same

no_op : (op : Option Op) (mark : ℕ) (old new : StoreState) → (new.log.groups ≡ old.log.groups) ⊎ (new.log.groups ≡ []) → DidInStep op mark old new → op ≡ None
no_op None mark old new left did = refl
no_op (Some op) mark old new left did = absurd (one_more old.log.groups new.log.groups _ (behind_same did.came.log.groups old.log.groups new.log.groups _ did.does.group (ap (λ (st : StoreState). st.log.groups) did.rest)) left)

-- ---- nobody has anything to do

none_waits : (m : Machine) (job : Job) → m.jobs ≡ [] → Contains m.jobs job → ⊥
none_waits m job none among = no_member job (subst (λ (jobs : List Job). Contains jobs job) none among)

at_rest : (a b : Activity) → a ≡ b → IsAtRest b → IsAtRest a
at_rest a b is rests = subst IsAtRest (sym is) rests

module _ (s : FileState) (m : Machine) (done : HasTidyFile s m) where
  poster_rests : HasToDo m 17 → ⊥
  poster_rests (inl busy) = busy (at_rest (m.activity 17) at.PosterIdle done.poster tt)
  poster_rests (inr (inl (is, line))) = let never : at.SessionIdle ≡ at.PosterIdle = sym is ∙ done.poster in cc
  poster_rests (inr (inr (inl (is, job, among, kind)))) = none_waits m job done.jobs among
  poster_rests (inr (inr (inr (is, job, among, kind)))) = none_waits m job done.jobs among

  consolidator_rests : HasToDo m 18 → ⊥
  consolidator_rests (inl busy) = busy (at_rest (m.activity 18) at.ConsolidatorIdle done.consolidator tt)
  consolidator_rests (inr (inl (is, line))) = let never : at.SessionIdle ≡ at.ConsolidatorIdle = sym is ∙ done.consolidator in cc
  consolidator_rests (inr (inr (inl (is, job, among, kind)))) = none_waits m job done.jobs among
  consolidator_rests (inr (inr (inr (is, job, among, kind)))) = none_waits m job done.jobs among

  by_flusher : (actor : ℕ) → HasCause m actor → actor ≡ 19
  by_flusher actor (runs, inr (is, id, crowded)) = is
  by_flusher actor (runs, inl (inl is, rest, to_do)) = absurd (poster_rests (subst (HasToDo m) is to_do))
  by_flusher actor (runs, inl (inr is, rest, to_do)) = absurd (consolidator_rests (subst (HasToDo m) is to_do))

  -- ---- what may happen then

  so_still : (next : Machine) → next.activity ≡ m.activity → next.jobs ≡ m.jobs → file_now next ≡ file_now m → IsPool next.uses → AreUnpinned next.uses → HasTidyFile s next
  so_still next activity jobs file pool unpinned =
      let stands : (actor : ℕ) → next.activity actor ≡ m.activity actor = λ actor. ap (λ (a : ℕ → Activity). a actor) activity in
      record {
        poster = stands 17 ∙ done.poster;
        consolidator = stands 18 ∙ done.consolidator;
        flusher = stands 19 ∙ done.flusher;
        jobs = jobs ∙ done.jobs;
        file = file ∙ done.file;
        tidy = done.tidy;
        pool = pool;
        unpinned = unpinned;
      }

  flushed_uses : (next : Machine) → (next.uses ≡ m.uses) ⊎ ((page : ℕ) × (oldest_dirty m.uses ≡ Some page) × (next.uses ≡ in_place page clean m.uses)) → IsPool next.uses × AreUnpinned next.uses
  flushed_uses next (inl same) = (subst IsPool (sym same) done.pool, subst AreUnpinned (sym same) done.unpinned)
  flushed_uses next (inr (page, oldest, is)) =
      let there = oldest_there m.uses page done.pool oldest in
      (subst IsPool (sym is) (cleaned_pool m.uses page done.pool done.unpinned there), subst AreUnpinned (sym is) (cleaned_free m.uses page done.pool done.unpinned there))

  flushed : (actor : ℕ) (outcome : Outcome) (next : Machine) → actor ≡ 19 → StepsTo m actor outcome next → HasTidyFile s next
  flushed actor outcome next is step =
      let left = flusher_leaves m outcome next done.flusher (subst (λ (n : ℕ). StepsTo m n outcome next) is step) in
      let uses = flushed_uses next left.uses in
      so_still next left.activity left.jobs left.same.file uses.0 uses.1

  told : m.files ≡ None → ⊥
  told none = let never : None ≡ Some s = sym (ap (λ (o : Option Files). option_map current_file o) none) ∙ done.file in cc

  happens : (event : Event) (next : Machine) → Happens event m next → IsNoWork event × HasTidyFile s next
  happens (Steps actor outcome op) next (cause, step, did) =
      let is = by_flusher actor cause in
      let left = flusher_leaves m outcome next done.flusher (subst (λ (n : ℕ). StepsTo m n outcome next) is step) in
      ((is, no_op op (length m.order) m.store next.store left.groups did), flushed actor outcome next is step)
  happens (Waits job) next (waits, owed) = absurd (none_owed s job done.tidy (subst (λ (o : Option FileState). IfSome o (λ t. IsJobOwed t job)) done.file owed))
  happens (Comes id) next comes = (tt, so_still next (ap (λ (x : Machine). x.activity) comes.rest) (ap (λ (x : Machine). x.jobs) comes.rest) (ap file_now comes.rest) comes.tied.pool (subst AreUnpinned (sym comes.uses) (fetched_free m.uses id done.unpinned)))
  happens (Breaks id why) next (is, bad) = absurd (told (only_silent m.files id m.store why bad))

-- ---- how many flushes there may be

-- none, where there is a place or the machine is stopped
abbrev FlushesNoMore : Machine → Type 0
FlushesNoMore m = (0 < places m.uses) ⊎ (m.stop ≢ None)

never_full : (n : ℕ) → 0 < n → n ≡ 0 → ⊥
never_full n some none = omega (arith, some, none)

-- what a flush comes to that has its cause: no other one follows, or no group waits, where some did
module _ (s : FileState) (m : Machine) (done : HasTidyFile s m) (full : places m.uses ≡ 0) (outcome : Outcome) (next : Machine) where
  abbrev FlushComes : Type 0
  FlushComes = FlushesNoMore next ⊎ ((m.store.log.groups ≢ []) × (next.store.log.groups ≡ []))

  halts : {most : ℕ} → FailsToWrite m most outcome next → FlushesNoMore next
  halts fails = inr (λ none. let never = sym (ap (λ (x : Machine). x.stop) fails.stops) ∙ none in cc (never))

  rest_comes : FlushesRest m outcomes.Moved (StaysSo m outcomes.Idle outcome next) outcome next → FlushesNoMore next
  rest_comes (inl (page, oldest, inl well)) =
      let uses : next.uses ≡ in_place page clean m.uses = ap (λ (x : Machine). x.uses) well.leaves in
      inl (subst (λ (all : List Use). 0 < places all) (sym uses) (cleaned_place m.uses page done.pool done.unpinned (oldest_there m.uses page done.pool oldest)))
  rest_comes (inl (page, oldest, inr fails)) = halts fails
  rest_comes (inr (inl (old, turns))) = absurd (some_dirty m.uses done.unpinned full old.0)
  rest_comes (inr (inr (flushed, so))) = absurd (some_dirty m.uses done.unpinned full flushed.0)

  flush_comes : Flushes m outcome next → FlushComes
  flush_comes (inl (waits, inl (says, is))) = inr (waits, ap (λ (x : Machine). x.store.log.groups) is)
  flush_comes (inl (waits, inr (some, fails))) = inl (halts fails)
  flush_comes (inr (none, rest)) = inl (rest_comes rest)

  step_comes : m.stop ≡ None → StepsTo m 19 outcome next → FlushComes
  step_comes runs step = by m.stop runs step
    where
      by : (stop : Option StopWhy) → stop ≡ None → MatchOption stop (StepsAs (m.activity 19) m 19 outcome next) (λ why. StaysSo m (outcomes.Stopped why) outcome next) → FlushComes
      by None is one = flush_comes (subst (λ (a : Activity). StepsAs a m 19 outcome next) done.flusher one)
      by (Some why) is so = let never = is in cc (never)

-- the flush, with its cause
flush_full : (s : FileState) (m : Machine) → HasTidyFile s m → (actor : ℕ) → HasCause m actor → (m.stop ≡ None) × (places m.uses ≡ 0)
flush_full s m done actor (runs, inr (is, id, crowded)) = (runs, crowded.2)
flush_full s m done actor (runs, inl (who, rest, to_do)) = absurd (by who)
  where
    by : (actor ≡ 17) ⊎ (actor ≡ 18) → ⊥
    by (inl is) = poster_rests s m done (subst (HasToDo m) is to_do)
    by (inr is) = consolidator_rests s m done (subst (HasToDo m) is to_do)

-- what a page that comes leaves
no_more_later : (s : FileState) (m : Machine) (id : ℕ) (next : Machine) → HasTidyFile s m → FlushesNoMore m → PageComes id m next → FlushesNoMore next
no_more_later s m id next done (inl place) comes = inl (subst (λ (all : List Use). 0 < places all) (sym comes.uses) (fetched_place m.uses id done.pool place))
no_more_later s m id next done (inr stopped) comes = inr (λ none. stopped (sym (ap (λ (x : Machine). x.stop) comes.rest) ∙ none))

waiting_later : (m : Machine) (id : ℕ) (next : Machine) → m.store.log.groups ≡ [] → PageComes id m next → next.store.log.groups ≡ []
waiting_later m id next none comes = ap (λ (s : StoreState). s.log.groups) comes.brings.rest ∙ none

none_follow : (events : List Event) (s : FileState) (m new : Machine) → HasTidyFile s m → FlushesNoMore m → WorksOff events m new → steps_in events ≡ 0
none_follow [] s m new done ended is = refl
none_follow (Steps actor outcome op ∷ rest) s m new done ended (next, here, later) = absurd (by ended (flush_full s m done actor here.0))
  where
    by : FlushesNoMore m → (m.stop ≡ None) × (places m.uses ≡ 0) → ⊥
    by (inl place) (runs, full) = never_full (places m.uses) place full
    by (inr stopped) (runs, full) = stopped runs
none_follow (Waits job ∷ rest) s m new done ended (next, here, later) = absurd ((happens s m done (Waits job) next here).0)
none_follow (Comes id ∷ rest) s m new done ended (next, here, later) = none_follow rest s next new (happens s m done (Comes id) next here).1 (no_more_later s m id next done ended here) later
none_follow (Breaks id why ∷ rest) s m new done ended (next, here, later) = absurd ((happens s m done (Breaks id why) next here).0)

one_follows : (events : List Event) (s : FileState) (m new : Machine) → HasTidyFile s m → m.store.log.groups ≡ [] → WorksOff events m new → steps_in events ≤ 1
one_follows [] s m new done none is = omega arith
one_follows (Steps actor outcome op ∷ rest) s m new done none (next, here, later) =
    let full = flush_full s m done actor here.0 in
    let step = subst (λ (n : ℕ). StepsTo m n outcome next) (by_flusher s m done actor here.0) here.1 in
    by (step_comes s m done full.1 outcome next full.0 step)
  where
    by : FlushesNoMore next ⊎ ((m.store.log.groups ≢ []) × (next.store.log.groups ≡ [])) → steps_in (Steps actor outcome op ∷ rest) ≤ 1
    by (inl ended) = let few = none_follow rest s next new (happens s m done (Steps actor outcome op) next here).1 ended later in omega (arith, few)
    by (inr (waits, sunk)) = absurd (waits none)
one_follows (Waits job ∷ rest) s m new done none (next, here, later) = absurd ((happens s m done (Waits job) next here).0)
one_follows (Comes id ∷ rest) s m new done none (next, here, later) = one_follows rest s next new (happens s m done (Comes id) next here).1 (waiting_later m id next none here) later
one_follows (Breaks id why ∷ rest) s m new done none (next, here, later) = absurd ((happens s m done (Breaks id why) next here).0)

two_follow : (events : List Event) (s : FileState) (m new : Machine) → HasTidyFile s m → WorksOff events m new → steps_in events ≤ 2
two_follow [] s m new done is = omega arith
two_follow (Steps actor outcome op ∷ rest) s m new done (next, here, later) =
    let full = flush_full s m done actor here.0 in
    let step = subst (λ (n : ℕ). StepsTo m n outcome next) (by_flusher s m done actor here.0) here.1 in
    by (step_comes s m done full.1 outcome next full.0 step)
  where
    by : FlushesNoMore next ⊎ ((m.store.log.groups ≢ []) × (next.store.log.groups ≡ [])) → steps_in (Steps actor outcome op ∷ rest) ≤ 2
    by (inl ended) = let few = none_follow rest s next new (happens s m done (Steps actor outcome op) next here).1 ended later in omega (arith, few)
    by (inr (waits, none)) = let few = one_follows rest s next new (happens s m done (Steps actor outcome op) next here).1 none later in omega (arith, few)
two_follow (Waits job ∷ rest) s m new done (next, here, later) = absurd ((happens s m done (Waits job) next here).0)
two_follow (Comes id ∷ rest) s m new done (next, here, later) = two_follow rest s next new (happens s m done (Comes id) next here).1 later
two_follow (Breaks id why ∷ rest) s m new done (next, here, later) = absurd ((happens s m done (Breaks id why) next here).0)

-- ---- together

none_works : (events : List Event) (s : FileState) (m new : Machine) → HasTidyFile s m → WorksOff events m new → All IsNoWork events × HasTidyFile s new
none_works [] s m new done is = (All-nil IsNoWork, subst (HasTidyFile s) (sym is) done)
none_works (event ∷ rest) s m new done (next, here, later) =
    let first = happens s m done event next here in
    let more = none_works rest s next new first.1 later in
    (All-append IsNoWork (event ∷ []) rest (All-alone IsNoWork event first.0) more.0, more.1)

pub tidy_files_are_left_alone : TidyFilesAreLeftAlone
tidy_files_are_left_alone m new s events done works = let all = none_works events s m new done works in (all.0, two_follow events s m new done works, all.1)
