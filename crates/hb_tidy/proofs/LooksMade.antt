-- A look at a page, as the calls of this crate have it.
use Rattle.std.proofs.Common.{◌≡◌, ℕ, ◌-◌, ◌^◌, ◌<◌, List, Option, Some, None, IfSome, Result, Ok, Err, OnOk, option_map, refl, sym, ap, ◌∙◌, subst, arith, [], ◌∷◌}
use Rattle.std.specs.Result.{IfErr, IfOk, IsErrOf}
use Rattle.hb_disk.proofs.Facts.RunLaws.{OnlyReads-read}
use Rattle.hb_disk.specs.Calls.{ReadsOnly}
use Rattle.hb_disk.specs.Model.{DiskModel, IsDisk}
use Rattle.hb_frag.specs.declared.pages.Page.{Page}
use Rattle.hb_lemmas.proofs.Options.{not_none}
use Rattle.hb_layout.specs.declared.meta.Meta.{Meta}
use Rattle.hb_ops.specs.Files.{FileState, page_of}
use Rattle.hb_outside.specs.Streams.{Rose}
use Rattle.hb_pool.specs.Frames.{Use}
use Rattle.hb_store.specs.Fetching.{IsCrowdedOut}
use Rattle.hb_store.specs.States.{IsGoodPage, StoreState}
use Rattle.hb_store.specs.declared.stops.Why.{Why}
use Rattle.hb_core.specs.Between.{CopiesPage}
use Rattle.hb_core.specs.Counting.{CountsStay, CountsWithin}
use Rattle.hb_core.specs.Counts.{no_counts}
use Rattle.hb_steps.specs.Fetching.{IsBadRead}
use Rattle.hb_steps.specs.Machines.{Files, Machine, current_file}
use Rattle.hb_core.specs.Showing.{RunningCore}
use Rattle.hb_core.specs.Working.{MayStep}
use Rattle.hb_core.specs.declared.copies.CopyStop.{CopyStop}
use Rattle.hb_core.specs.declared.copies.CopyStop.TheVariants as copies
use Rattle.hb_tidy.proofs.CallsMade.{other_stop}
use Rattle.hb_tidy.proofs.OneCall.{StandsStill, only_silent, still_looking, still_tidied, still_tidied_new}
use Rattle.hb_tidy.proofs.Resting.{still_rests}
use Rattle.hb_tidy.proofs.Worked.{worked_none, worked_still}
use Rattle.hb_tidy.specs.declared.stops.TidyStop.{TidyStop}
use Rattle.hb_tidy.specs.declared.stops.TidyStop.TheVariants as stops
use Rattle.hb_tidy.specs.Counted.{EndsSpent}
use Rattle.hb_tidy.specs.Going.{MayTidy}
use Rattle.hb_tidy.specs.Looking.{FileStays, LooksOver, NothingOf, SeesBy}
use Rattle.hb_tidy.specs.Tidying.{HasTidied, StopsTidying, file_now}
use Rattle.hb_tidy.specs.Working.{DropsNone, Event, Happens, HasWorked, operations_in, steps_in}
use Rattle.hb_tidy.specs.Working.{Breaks, Comes}

-- What a core told of a look.
pub record Looked (id : ℕ) (copied : Result Page CopyStop) (d : DiskModel) (old : RunningCore) (e : DiskModel) (new : RunningCore) : Type 0 where
  pub disk : IsDisk d
  pub told : (m : Machine) → MayStep d old m → (next : Machine) × CopiesPage id copied m next × MayStep e new next
  pub reads : ReadsOnly (IsErrOf copied copies.ReadFault) d e
  pub counts : CountsStay old new

looked_by : (id : ℕ) (copied : Result Page CopyStop) (d : DiskModel) (old : RunningCore) (e : DiskModel) (new : RunningCore) → IsDisk d → ((m : Machine) → MayStep d old m → (next : Machine) × CopiesPage id copied m next × MayStep e new next)
    → ReadsOnly (IsErrOf copied copies.ReadFault) d e → CountsStay old new → Looked id copied d old e new
looked_by id copied d old e new disk told reads counts = record { disk = disk; told = told; reads = reads; counts = counts }

-- what was seen of a page
abbrev pub SawPage : ℕ → Option Page → FileState → Type 0
SawPage id seen s = IfSome seen (λ page. page_of s id ≡ Some page)

of_files : (files : Option Files) (P : FileState → Type 0) → IfSome files (λ f. P (current_file f)) → IfSome (option_map current_file files) P
of_files None P has = tt
of_files (Some files) P has = has

none_seen : (o : Option FileState) (id : ℕ) → IfSome o (SawPage id None)
none_seen None id = tt
none_seen (Some s) id = tt

-- a look leaves the jobs
copied_jobs : (id : ℕ) (m new : Machine) (copied : Result Page CopyStop) → CopiesPage id copied m new → new.jobs ≡ m.jobs
copied_jobs id m new (Ok page) was = ap (λ (x : Machine). x.jobs) was.0.rest
copied_jobs id m new (Err copies.NoMemory) was = ap (λ (x : Machine). x.jobs) was.rest
copied_jobs id m new (Err copies.ReadFault) was = ap (λ (x : Machine). x.jobs) was.0
copied_jobs id m new (Err copies.Crowded) was = ap (λ (x : Machine). x.jobs) was.0
copied_jobs id m new (Err (copies.Damaged page why)) was = ap (λ (x : Machine). x.jobs) was.0

module _ (id : ℕ) (copied : Result Page CopyStop) (d : DiskModel) (old : RunningCore) (e : DiskModel) (new : RunningCore) (looked : Looked id copied d old e new) (may : MayTidy d old) where
  next : (m : Machine) → MayStep d old m → Machine
  next m shows = (looked.told m shows).0

  still : (m : Machine) (shows : MayStep d old m) → StandsStill m (looked.told m shows).0
  still m shows = still_looking may.laws.looking m id (looked.told m shows).0 copied (looked.told m shows).1

  looked_at : (m : Machine) → MayStep d old m → HasTidied d m e new
  looked_at m shows = still_tidied may.laws.runs d e m (looked.told m shows).0 old new looked.disk shows (looked.told m shows).2 (OnlyReads-read _ d e looked.reads) (still m shows)

  looked_new : (m : Machine) (shows : MayStep d old m) → (looked_at m shows).new ≡ (looked.told m shows).0
  unfolding looked_at
  looked_new m shows = still_tidied_new may.laws.runs d e m (looked.told m shows).0 old new looked.disk shows (looked.told m shows).2 (OnlyReads-read _ d e looked.reads) (still m shows)

  stays : (m : Machine) (shows : MayStep d old m) → FileStays m (looked_at m shows).new
  stays m shows = subst (λ (x : Machine). FileStays m x) (sym (looked_new m shows)) (still m shows).same

  -- the page came, or a damaged one stopped the machine, or neither
  worked_so : {T : Type 0} (r : Result T TidyStop) (m x : Machine) (c : Result Page CopyStop) → CopiesPage id c m x → HasWorked r old m new x
  worked_so r m x c was = by c was
    where
      one : (event : Event) → steps_in (event ∷ []) ≡ 0 → operations_in (event ∷ []) ≡ no_counts → DropsNone event → Happens event m x → HasWorked r old m new x
      one event step op none here = worked_still r old new m x event looked.counts step op here none

      by : (c : Result Page CopyStop) → CopiesPage id c m x → HasWorked r old m new x
      by (Ok page) was = one (Comes id) refl refl tt was.0
      by (Err copies.NoMemory) was = one (Comes id) refl refl tt was
      by (Err copies.ReadFault) was = worked_none r old new m x looked.counts was.0
      by (Err copies.Crowded) was = worked_none r old new m x looked.counts was.0
      by (Err (copies.Damaged page why)) was = one (Breaks page why) refl refl tt (was.0, subst (λ (n : ℕ). IsBadRead m.files m.store n why) (sym was.1) was.2)

  worked_at : {T : Type 0} (r : Result T TidyStop) (m : Machine) (shows : MayStep d old m) → HasWorked r old m new (looked_at m shows).new
  worked_at r m shows = worked_so r m (looked_at m shows).new copied (subst (λ (x : Machine). CopiesPage id copied m x) (sym (looked_new m shows)) (looked.told m shows).1)

  look_waits : new.jobs ≡ old.jobs
  look_waits =
      let m = may.runs.0 in
      let shows = may.runs.1 in
      let one = looked.told m shows in
      sym one.2.shows.jobs ∙ copied_jobs id m one.0 copied one.1 ∙ shows.shows.jobs

  pub look_meta : new.store.meta ≡ old.store.meta
  look_meta =
      let m = may.runs.0 in
      let shows = may.runs.1 in
      let one = looked.told m shows in
      ap (λ (st : StoreState). st.meta) (sym one.2.shows.store) ∙ (still m shows).same.meta ∙ ap (λ (st : StoreState). st.meta) shows.shows.store

  -- a damaged page is there only over a disk that tells nothing, and stops the machine
  damaged : (m : Machine) (shows : MayStep d old m) (page : ℕ) (why : Why) (t : HasTidied d m e new) → CopiesPage id (Err (copies.Damaged page why)) m (looked.told m shows).0 → StopsTidying (stops.Damaged page why) d e new t.new
  damaged m shows page why t copied_so = (
    λ tells. let them = shows.shows.tells tells in not_none m.files them.files them.told (only_silent m.files id m.store why copied_so.2),
    t.shows.stop ∙ sym (looked.told m shows).2.shows.stop ∙ ap (λ (x : Machine). x.stop) copied_so.0,
  )

  left_still : new.taken < 2 ^ 64 - 1
  left_still =
      let left = may.left in
      let same = looked.counts.taken in
      omega (arith, left, same)

  module _ (seen : Result (Option Page) TidyStop) (sees : SeesBy copied seen) where
    within : CountsWithin new
    within = may.laws.counts.stay old new looked.counts may.counts

    module _ (m : Machine) (shows : MayStep d old m) (t : HasTidied d m e new) where
      cause : (c : Result Page CopyStop) → (IsErrOf c copies.ReadFault → Rose d.read_faults e.read_faults) → CopiesPage id c m (looked.told m shows).0 → (r : Result (Option Page) TidyStop) → SeesBy c r → IfErr r (λ stop. StopsTidying stop d e new t.new)
      cause (Ok page) fault was r is = subst (λ (x : Result (Option Page) TidyStop). IfErr x (λ stop. StopsTidying stop d e new t.new)) (sym is) tt
      cause (Err copies.Crowded) fault was r is = subst (λ (x : Result (Option Page) TidyStop). IfErr x (λ stop. StopsTidying stop d e new t.new)) (sym is) tt
      cause (Err copies.ReadFault) fault was r is = subst (λ (x : Result (Option Page) TidyStop). IfErr x (λ stop. StopsTidying stop d e new t.new)) (sym is) (fault refl)
      cause (Err copies.NoMemory) fault was r is = subst (λ (x : Result (Option Page) TidyStop). IfErr x (λ stop. StopsTidying stop d e new t.new)) (sym is) tt
      cause (Err (copies.Damaged page why)) fault was r is = subst (λ (x : Result (Option Page) TidyStop). IfErr x (λ stop. StopsTidying stop d e new t.new)) (sym is) (damaged m shows page why t was)

      saw : (c : Result Page CopyStop) → CopiesPage id c m (looked.told m shows).0 → (r : Result (Option Page) TidyStop) → SeesBy c r → IfOk r (λ v. IfSome (file_now m) (SawPage id v))
      saw (Ok page) was r is = subst (λ (x : Result (Option Page) TidyStop). IfOk x (λ v. IfSome (file_now m) (SawPage id v))) (sym is) (of_files m.files (SawPage id (Some page)) was.2)
      saw (Err copies.Crowded) was r is = subst (λ (x : Result (Option Page) TidyStop). IfOk x (λ v. IfSome (file_now m) (SawPage id v))) (sym is) (none_seen (file_now m) id)
      saw (Err copies.ReadFault) was r is = subst (λ (x : Result (Option Page) TidyStop). IfOk x (λ v. IfSome (file_now m) (SawPage id v))) (sym is) tt
      saw (Err copies.NoMemory) was r is = subst (λ (x : Result (Option Page) TidyStop). IfOk x (λ v. IfSome (file_now m) (SawPage id v))) (sym is) tt
      saw (Err (copies.Damaged page why)) was r is = subst (λ (x : Result (Option Page) TidyStop). IfOk x (λ v. IfSome (file_now m) (SawPage id v))) (sym is) tt

    spent_so : (c : Result Page CopyStop) (r : Result (Option Page) TidyStop) → SeesBy c r → EndsSpent r new
    spent_so (Ok page) r is = subst (λ (x : Result (Option Page) TidyStop). EndsSpent x new) (sym is) left_still
    spent_so (Err copies.Crowded) r is = subst (λ (x : Result (Option Page) TidyStop). EndsSpent x new) (sym is) left_still
    spent_so (Err copies.ReadFault) r is = subst (λ (x : Result (Option Page) TidyStop). EndsSpent x new) (sym is) (other_stop stops.ReadFault new left_still (λ same. cc))
    spent_so (Err copies.NoMemory) r is = subst (λ (x : Result (Option Page) TidyStop). EndsSpent x new) (sym is) (other_stop stops.NoMemory new left_still (λ same. cc))
    spent_so (Err (copies.Damaged page why)) r is = subst (λ (x : Result (Option Page) TidyStop). EndsSpent x new) (sym is) (other_stop (stops.Damaged page why) new left_still (λ same. cc))

    -- the core may go on where the page came, or found no place
    goes_on : (m : Machine) (shows : MayStep d old m) → m.stop ≡ None → (c : Result Page CopyStop) → CopiesPage id c m (looked.told m shows).0 → (r : Result (Option Page) TidyStop) → SeesBy c r → OnOk r (MayTidy e new)
    goes_on m shows none (Ok page) was r is =
        subst (λ (x : Result (Option Page) TidyStop). OnOk x (MayTidy e new)) (sym is)
        (record { laws = may.laws; runs = ((looked.told m shows).0, (looked.told m shows).2, ap (λ (x : Machine). x.stop) was.0.rest ∙ none); counts = within; left = left_still })
    goes_on m shows none (Err copies.Crowded) was r is =
        subst (λ (x : Result (Option Page) TidyStop). OnOk x (MayTidy e new)) (sym is)
        (record { laws = may.laws; runs = ((looked.told m shows).0, (looked.told m shows).2, ap (λ (x : Machine). x.stop) was.0 ∙ none); counts = within; left = left_still })
    goes_on m shows none (Err copies.ReadFault) was r is = subst (λ (x : Result (Option Page) TidyStop). OnOk x (MayTidy e new)) (sym is) tt
    goes_on m shows none (Err copies.NoMemory) was r is = subst (λ (x : Result (Option Page) TidyStop). OnOk x (MayTidy e new)) (sym is) tt
    goes_on m shows none (Err (copies.Damaged page why)) was r is = subst (λ (x : Result (Option Page) TidyStop). OnOk x (MayTidy e new)) (sym is) tt

    look_may : OnOk seen (MayTidy e new)
    look_may = let m = may.runs.0 in let shows = may.runs.1 in goes_on m shows may.runs.2 copied (looked.told m shows).1 seen sees

    look_looks : LooksOver NothingOf seen (SawPage id) d old e new
    look_looks = record {
      looks = λ m shows known.
          let t = looked_at m shows in
          record {
            does = record { run = t; worked = worked_at seen m shows; err = cause m shows t copied looked.reads.reads.cause (looked.told m shows).1 seen sees };
            same = stays m shows;
            ok = saw m shows t copied (looked.told m shows).1 seen sees;
          };
      spent = spent_so copied seen sees;
      may = look_may;
      meta = look_meta;
      waiting = λ none. sym look_waits ∙ none;
      rests = let one = looked.told may.runs.0 may.runs.1 in still_rests d old may.runs.0 e new one.0 may.runs.1.shows one.2.shows (still may.runs.0 may.runs.1).activity;
    }

    good_so : (m : Machine) (shows : MayStep d old m) (c : Result Page CopyStop) → CopiesPage id c m (looked.told m shows).0 → (r : Result (Option Page) TidyStop) → SeesBy c r → IfOk r (λ v. IfSome v (IsGoodPage old.store.meta))
    good_so m shows (Ok page) was r is =
        let one = looked.told m shows in
        let meta : one.0.store.meta ≡ old.store.meta = ap (λ (st : StoreState). st.meta) one.2.shows.store ∙ look_meta in
        subst (λ (x : Result (Option Page) TidyStop). IfOk x (λ v. IfSome v (IsGoodPage old.store.meta))) (sym is)
        (subst (λ (meta : Meta). IsGoodPage meta page) meta (one.2.goes_on.kept.pages_of_file id page was.1).2)
    good_so m shows (Err copies.Crowded) was r is = subst (λ (x : Result (Option Page) TidyStop). IfOk x (λ v. IfSome v (IsGoodPage old.store.meta))) (sym is) tt
    good_so m shows (Err copies.ReadFault) was r is = subst (λ (x : Result (Option Page) TidyStop). IfOk x (λ v. IfSome v (IsGoodPage old.store.meta))) (sym is) tt
    good_so m shows (Err copies.NoMemory) was r is = subst (λ (x : Result (Option Page) TidyStop). IfOk x (λ v. IfSome v (IsGoodPage old.store.meta))) (sym is) tt
    good_so m shows (Err (copies.Damaged page why)) was r is = subst (λ (x : Result (Option Page) TidyStop). IfOk x (λ v. IfSome v (IsGoodPage old.store.meta))) (sym is) tt

    look_good : IfOk seen (λ v. IfSome v (IsGoodPage old.store.meta))
    look_good = let m = may.runs.0 in let shows = may.runs.1 in good_so m shows copied (looked.told m shows).1 seen sees

    crowded_so : (m : Machine) (shows : MayStep d old m) (c : Result Page CopyStop) → CopiesPage id c m (looked.told m shows).0 → (r : Result (Option Page) TidyStop) → SeesBy c r → IfOk r (λ v. v ≡ None → IsCrowdedOut id new.store new.uses)
    crowded_so m shows (Ok page) was r is = subst (λ (x : Result (Option Page) TidyStop). IfOk x (λ v. v ≡ None → IsCrowdedOut id new.store new.uses)) (sym is) (λ none. cc (none))
    crowded_so m shows (Err copies.Crowded) was r is =
        let next = (looked.told m shows).2.shows in
        let so : IsCrowdedOut id (looked.told m shows).0.store (looked.told m shows).0.uses = subst (λ (x : Machine). IsCrowdedOut id x.store x.uses) (sym was.0) was.1 in
        let here : IsCrowdedOut id new.store (looked.told m shows).0.uses = subst (λ (st : StoreState). IsCrowdedOut id st (looked.told m shows).0.uses) next.store so in
        subst (λ (x : Result (Option Page) TidyStop). IfOk x (λ v. v ≡ None → IsCrowdedOut id new.store new.uses)) (sym is) (λ none. subst (λ (uses : List Use). IsCrowdedOut id new.store uses) next.uses here)
    crowded_so m shows (Err copies.ReadFault) was r is = subst (λ (x : Result (Option Page) TidyStop). IfOk x (λ v. v ≡ None → IsCrowdedOut id new.store new.uses)) (sym is) tt
    crowded_so m shows (Err copies.NoMemory) was r is = subst (λ (x : Result (Option Page) TidyStop). IfOk x (λ v. v ≡ None → IsCrowdedOut id new.store new.uses)) (sym is) tt
    crowded_so m shows (Err (copies.Damaged page why)) was r is = subst (λ (x : Result (Option Page) TidyStop). IfOk x (λ v. v ≡ None → IsCrowdedOut id new.store new.uses)) (sym is) tt

    look_crowded : IfOk seen (λ v. v ≡ None → IsCrowdedOut id new.store new.uses)
    look_crowded = let m = may.runs.0 in let shows = may.runs.1 in crowded_so m shows copied (looked.told m shows).1 seen sees

-- What a look comes to.
pub record SeesPage (id : ℕ) (seen : Result (Option Page) TidyStop) (d : DiskModel) (old : RunningCore) (e : DiskModel) (new : RunningCore) : Type 0 where
  pub looks : LooksOver NothingOf seen (SawPage id) d old e new
  pub crowded : IfOk seen (λ v. v ≡ None → IsCrowdedOut id new.store new.uses)
  pub good : IfOk seen (λ v. IfSome v (IsGoodPage old.store.meta))

pub sees_page : (id : ℕ) (copied : Result Page CopyStop) (d : DiskModel) (old : RunningCore) (e : DiskModel) (new : RunningCore) → IsDisk d → ((m : Machine) → MayStep d old m → (next : Machine) × CopiesPage id copied m next × MayStep e new next)
    → ReadsOnly (IsErrOf copied copies.ReadFault) d e → CountsStay old new → MayTidy d old → (seen : Result (Option Page) TidyStop) → SeesBy copied seen → SeesPage id seen d old e new
sees_page id copied d old e new disk told reads counts may seen sees =
    let looked = looked_by id copied d old e new disk told reads counts in
    record {
      looks = look_looks id copied d old e new looked may seen sees;
      crowded = look_crowded id copied d old e new looked may seen sees;
      good = look_good id copied d old e new looked may seen sees;
    }

-- the page came, or found no place
pub sees_value : (id : ℕ) (seen : Result (Option Page) TidyStop) (v w : Option Page) (d : DiskModel) (old : RunningCore) (e : DiskModel) (new : RunningCore) → SeesPage id seen d old e new → seen ≡ Ok v → v ≡ w → SeesPage id (Ok w) d old e new
sees_value id seen v w d old e new sees is same = subst (λ (r : Result (Option Page) TidyStop). SeesPage id r d old e new) (is ∙ ap (λ (x : Option Page). Ok x) same) sees
