-- The operation of a row is allowed and licensed in the file, and every file stays sound.
use Rattle.hb_steps.proofs.Files.Names.{◌≡◌, inl, inr, ℕ, ◌+◌, List, [], ◌∷◌, length, All, Option, Some, None, IfSome, refl, sym, ap, ◌∙◌, subst, arith, Page, Meta, Op, Deed, IsLicensedHere, wanted_by, Brings, Machine, FileState, page_of, effect_of, IsSound, IsAllowedHere, StoreState, in_memory}
use Rattle.std.proofs.Common.{◌++◌, option_map, length-append}
use Rattle.std.proofs.lemmas.List.Elements.{All-append, All-cons, All-nil}
use Rattle.hb_steps.specs.declared.outcomes.Outcome.{Outcome}
use Rattle.hb_steps.specs.declared.outcomes.Outcome.TheVariants as outcomes
use Rattle.hb_activity.specs.Deeds.{does}
use Rattle.hb_steps.proofs.Memory.BroughtPages.{same_there, told_files}
use Rattle.hb_steps.proofs.Files.FileOps.{ShowsFile, allowed_in_file, has_in_file, licensed_in_file, meta_after, shown_after}
use Rattle.hb_steps.proofs.Files.FitOps.{HeldArePoints, fits_op}
use Rattle.hb_steps.proofs.Memory.KeptPages.{KeepsPages, brought, change_is_well, keeps_pages}
use Rattle.hb_steps.proofs.Facts.LaterPages.{last_sound}
use Rattle.hb_steps.proofs.Facts.GivenUpLaws.{gives_up_nothing}
use Rattle.hb_steps.proofs.Files.RowTells.{Tells, tells_row, tells_none}
use Rattle.hb_steps.proofs.Facts.StepKinds.{each_kind, ready_kind, FlushesMore}
use Rattle.hb_steps.specs.Acting.{MeetsBadPage}
use Rattle.hb_steps.specs.FileLaws.{FilesStaySound, MayBeDoneIn, RowsAreLicensed}
use Rattle.hb_steps.specs.Forcing.{ForcesAll, StaysSo, forced_files, FailsToWrite}
use Rattle.hb_steps.specs.Keeps.{HasSoundFile}
use Rattle.hb_steps.specs.KeptLines.{LinesFit, MetaWithinLimits}
use Rattle.hb_steps.specs.Machines.{Files, current_file}
use Rattle.hb_steps.specs.Performing.{DoesOp, MayDo, Performs, files_after, with_effect}
use Rattle.hb_steps.specs.Steps.{Works}
use Rattle.hb_layout.specs.Limits.{IsLayout}
use Rattle.hb_ops.specs.Files.{last_of}
use Rattle.hb_sound.specs.LawsOfOperations.{OperationsKeepSound}
use Rattle.hb_store.specs.Making.{OperationLaws}
use Rattle.hb_ops.proofs.Facts.FilePages.{last_of-append}
use Rattle.hb_wal.specs.Log.{Waiting}

-- What a store and the files over its disk have in common.
pub record FilesHold (st : StoreState) (files : Files) : Type 0 where
  pub durable : IsSound files.durable
  pub later : All IsSound files.later
  pub each : length files.later ≡ length st.log.groups
  pub layout : IsLayout st.meta
  pub meta : (current_file files).meta ≡ st.meta
  pub shown : (id : ℕ) (page : Page) → (in_memory st) id ≡ Some page → page_of (current_file files) id ≡ Some page

pub files_hold : (m : Machine) (files : Files) → HasSoundFile m files → FilesHold m.store files
files_hold m files has = record { durable = has.durable; later = has.later; each = has.each; layout = has.layout; meta = has.meta; shown = has.shown }

pub has_sound_file : (m : Machine) (files : Files) → FilesHold m.store files → HasSoundFile m files
has_sound_file m files holds = record { durable = holds.durable; later = holds.later; each = holds.each; layout = holds.layout; meta = holds.meta; shown = holds.shown }

pub current_sound : (st : StoreState) (files : Files) → FilesHold st files → IsSound (current_file files)
current_sound st files holds = last_sound files.durable files.later holds.durable holds.later

pub shows_file : (st : StoreState) (files : Files) → FilesHold st files → ShowsFile st (current_file files)
shows_file st files holds = record { sound = current_sound st files holds; meta = holds.meta; shown = holds.shown }

-- what a sound file says of itself is within its limits
pub sound_within_limits : (m : Machine) (files : Files) → HasSoundFile m files → MetaWithinLimits m
sound_within_limits m files has =
    let sound = current_sound m.store files (files_hold m files has) in
    let rooted = sound.rooted in
    let high : (current_file files).meta.high ≡ m.store.meta.high = ap (λ (m : Meta). m.high) has.meta in
    let pages : (current_file files).meta.pages ≡ m.store.meta.pages = ap (λ (m : Meta). m.pages) has.meta in
    let live : (current_file files).meta.live ≡ m.store.meta.live = ap (λ (m : Meta). m.live) has.meta in
    let root : (current_file files).meta.root ≡ m.store.meta.root = ap (λ (m : Meta). m.root) has.meta in
    let free : (current_file files).meta.free ≡ m.store.meta.free = ap (λ (m : Meta). m.free) has.meta in
    record {
      layout = has.layout;
      high = omega (arith, rooted.high, high, pages);
      live = omega (arith, rooted.live, rooted.high, live, high, pages);
      root = omega (arith, rooted.root, rooted.high, high, pages, root, has.layout.few_pages);
      free = omega (arith, rooted.free, rooted.high, high, pages, free, has.layout.few_pages);
    }

-- what a fetch brings is of the file
pub brought_shown : (m : Machine) (files : Files) (may : ℕ → Type 0) (fetched : StoreState) → m.files ≡ Some files → Brings m may fetched → FilesHold m.store files → FilesHold fetched files
brought_shown m files may fetched told brings holds = record {
  durable = holds.durable;
  later = holds.later;
  each = holds.each ∙ sym (ap (λ (s : StoreState). length s.log.groups) brings.rest);
  layout = subst IsLayout (sym (ap (λ (s : StoreState). s.meta) brings.rest)) holds.layout;
  meta = holds.meta ∙ sym (ap (λ (s : StoreState). s.meta) brings.rest);
  shown = λ id page there. by id page there (in_memory m.store id) refl;
}
  where
    by : (id : ℕ) (page : Page) → (in_memory fetched) id ≡ Some page → (o : Option Page) → (in_memory m.store) id ≡ o → page_of (current_file files) id ≡ Some page
    by id page there None none = subst (λ (o : Option Files). IfSome o (λ files. page_of (current_file files) id ≡ Some page)) told (brings.told id page none there)
    by id page there (Some old) some = holds.shown id page (sym (same_there m may fetched brings id old page (inl (told_files m files told)) some there) ∙ there)

module _ (laws : OperationLaws) (points : HeldArePoints) where
  -- what is told of an operation makes it one that may be done in the file
  pub may_be_done : (st : StoreState) (files : Files) (op : Op) → KeepsPages st → FilesHold st files → IsLicensedHere st op → IsAllowedHere st op → MayBeDoneIn files op
  may_be_done st files op keeps holds tells allowed =
      let file = shows_file st files holds in
      record {
        allowed = allowed_in_file st (current_file files) keeps file op allowed;
        licensed = licensed_in_file st (current_file files) keeps file op tells;
        attributes = has_in_file st (current_file files) keeps file op (fits_op points laws.fits st keeps.limits keeps.high keeps.framed op tells allowed);
      }

  tells_some : (st : StoreState) (o : Option Op) (op : Op) → o ≡ Some op → Tells st o → IsLicensedHere st op
  tells_some st o op is tells = subst (Tells st) is tells

  allowed_some : (o : Option Op) (op : Op) (mark : ℕ) (old new : StoreState) → o ≡ Some op → MayDo o mark old new → IsAllowedHere old op
  allowed_some o op mark old new is does = (subst (λ (o : Option Op). MayDo o mark old new) is does).allowed

  pub rows_are_licensed : RowsAreLicensed
  rows_are_licensed m files actor outcome new op told fit inside has does is =
      let keeps = keeps_pages m (sound_within_limits m files has) inside in
      may_be_done does.fetched files op
      (brought m _ does.fetched does.brings keeps)
      (brought_shown m files _ does.fetched told does.brings (files_hold m files has))
      (tells_some does.fetched does.deed.op op is (tells_row m actor _ does.fetched does.brings (inl (told_files m files told)) (wanted_by m actor) does.deed refl (fit.in_hand actor) does.row))
      (allowed_some does.deed.op op _ does.fetched new.store is does.performs.store)

  module _ (keep_sound : OperationsKeepSound) where
    -- the files after an operation
    one_more : (st new : StoreState) (files : Files) (op : Op) (mark : ℕ) → KeepsPages st → FilesHold st files → IsLicensedHere st op → DoesOp op mark st new → FilesHold new (with_effect op files)
    one_more st new files op mark keeps holds tells does =
        let s = current_file files in
        let n = effect_of s op in
        let file = shows_file st files holds in
        let may = may_be_done st files op keeps holds tells does.allowed in
        let well = change_is_well laws points st op keeps tells does.allowed in
        let layout : IsLayout s.meta = subst IsLayout (sym holds.meta) holds.layout in
        let sound : IsSound n = keep_sound s op file.sound layout may.attributes may.allowed may.licensed in
        let last : last_of files.durable (files.later ++ n ∷ []) ≡ n = last_of-append files.durable files.later n in
        let meta : n.meta ≡ new.meta = meta_after st s keeps file op does.allowed well ∙ sym does.commits.meta in
        let groups : length new.log.groups ≡ length st.log.groups + 1 = ap (λ (l : List Waiting). length l) does.group ∙ length-append st.log.groups _ in
        let more : length (files.later ++ n ∷ []) ≡ length files.later + 1 = length-append files.later (n ∷ []) in
        record {
          durable = holds.durable;
          later = All-append IsSound files.later (n ∷ []) holds.later (All-cons IsSound n [] sound (All-nil IsSound));
          each = omega (arith, groups, more, holds.each);
          layout = subst IsLayout (sym does.commits.meta) well.after.limits.layout;
          meta = ap (λ (f : FileState). f.meta) last ∙ meta;
          shown = λ id page there. ap (λ (f : FileState). page_of f id) last ∙ shown_after st s keeps file op does.allowed well id page (laws.commits _ _ _ _ does.commits id page there);
        }

    -- What is to be shown of a step: there are files afterwards, and they hold.
    abbrev pub HoldAfter : Machine → Type 0
    HoldAfter new = (after : Files) × (new.files ≡ Some after) × FilesHold new.store after

    module _ (m : Machine) (files : Files) (actor : ℕ) (outcome : Outcome) (new : Machine) (told : m.files ≡ Some files) (fit : LinesFit m) (keeps : KeepsPages m.store) (holds : FilesHold m.store files) where
      unmoved : (st : StoreState) → FilesHold st files → new.store ≡ st → new.files ≡ m.files → HoldAfter new
      unmoved st still store is = (files, is ∙ told, subst (λ (st : StoreState). FilesHold st files) (sym store) still)

      stays : (said : Outcome) → StaysSo m said outcome new → HoldAfter new
      stays said (says, is) = unmoved m.store holds (ap (λ (n : Machine). n.store) is) (ap (λ (n : Machine). n.files) is)

      meets : MeetsBadPage m actor outcome new → HoldAfter new
      meets bad = unmoved bad.fetched (brought_shown m files _ bad.fetched told bad.brings holds) (ap (λ (n : Machine). n.store) bad.stops) (ap (λ (n : Machine). n.files) bad.stops)

      done : (op : Option Op) (mark : ℕ) (old : StoreState) → KeepsPages old → FilesHold old files → Tells old op → MayDo op mark old new.store → new.files ≡ files_after op m.files → HoldAfter new
      done None mark old keeps holds tells same is = unmoved old holds same is
      done (Some op) mark old keeps holds tells does is = (with_effect op files, is ∙ ap (files_after (Some op)) told, one_more old new.store files op mark keeps holds tells does)

      performed : (fetched : StoreState) (deed : Deed) → KeepsPages fetched → FilesHold fetched files → Tells fetched deed.op → Performs m fetched actor deed outcome new → HoldAfter new
      performed fetched deed keeps holds tells performs = done deed.op _ fetched keeps holds tells performs.store performs.files

      failed : {most : ℕ} → FailsToWrite m most outcome new → HoldAfter new
      failed fails = (
        files,
        ap (λ (n : Machine). n.files) fails.stops ∙ told,
        subst (λ (n : Machine). FilesHold n.store files) (sym fails.stops) (record {
          durable = holds.durable;
          later = holds.later;
          each = holds.each;
          layout = holds.layout;
          meta = holds.meta;
          shown = holds.shown;
        }),
      )

      forces : (said : Outcome) → ForcesAll m said outcome new → HoldAfter new
      forces said (inl (says, is)) = (
        forced_files files,
        ap (λ (n : Machine). n.files) is ∙ ap (option_map forced_files) told,
        subst (λ (n : Machine). FilesHold n.store (forced_files files)) (sym is) (record {
          durable = current_sound m.store files holds;
          later = All-nil IsSound;
          each = refl;
          layout = holds.layout;
          meta = holds.meta;
          shown = holds.shown;
        }),
      )
      forces said (inr badly) = failed badly.1

      flushed_more : FlushesMore m outcome new → HoldAfter new
      flushed_more (none, inl (page, oldest, due, quiet, well)) = (
        files,
        ap (λ (n : Machine). n.files) well.leaves ∙ told,
        subst (λ (n : Machine). FilesHold n.store files) (sym well.leaves) (record {
          durable = holds.durable;
          later = holds.later;
          each = holds.each;
          layout = holds.layout;
          meta = holds.meta;
          shown = λ id page there. holds.shown id page there;
        }),
      )
      flushed_more (none, inr (inl (old, due, quiet, turns))) = (
        files,
        ap (λ (n : Machine). n.files) turns.leaves ∙ told,
        subst (λ (n : Machine). FilesHold n.store files) (sym turns.leaves) (record {
          durable = holds.durable;
          later = holds.later;
          each = holds.each ∙ ap (λ (l : List Waiting). length l) none;
          layout = holds.layout;
          meta = holds.meta;
          shown = λ id page there. holds.shown id page there;
        }),
      )
      flushed_more (none, inr (inr (calls, left, fails))) = failed fails

      worked : Works m actor outcome new → HoldAfter new
      worked (inl (by, way, so)) = stays (outcomes.Blocked by) so
      worked (inr (inl (free, unready, inl (waits, force)))) = forces outcomes.Helped force
      worked (inr (inl (free, unready, inr (none, rest)))) =
          ready_kind m outcome new (HoldAfter new) none flushed_more rest
      worked (inr (inr (free, ready, inl acts))) =
          performed acts.fetched acts.deed (brought m _ acts.fetched acts.brings keeps) (brought_shown m files _ acts.fetched told acts.brings holds)
          (tells_row m actor _ acts.fetched acts.brings (inl (told_files m files told)) (wanted_by m actor) acts.deed refl (fit.in_hand actor) acts.row) acts.performs
      worked (inr (inr (free, ready, inr (inl gives)))) =
          performed gives.fetched _ (brought m _ gives.fetched gives.brings keeps) (brought_shown m files _ gives.fetched told gives.brings holds) (tells_none gives.fetched _ (gives_up_nothing gives.why (m.activity actor))) gives.performs
      worked (inr (inr (free, ready, inr (inr bad)))) = meets bad

    pub files_stay_sound : FilesStaySound
    files_stay_sound m files actor outcome new told fit inside has step =
        let keeps = keeps_pages m (sound_within_limits m files has) inside in
        let holds = files_hold m files has in
        let after = each_kind m actor outcome new (HoldAfter new)
        (λ said quiet so. stays m files actor outcome new told fit keeps holds said so)
        (λ said quiet force. forces m files actor outcome new told fit keeps holds said force)
        (flushed_more m files actor outcome new told fit keeps holds)
        (λ deed rests performs. performed m files actor outcome new told fit keeps holds m.store deed keeps holds (tells_none m.store deed.op rests.op) performs)
        (worked m files actor outcome new told fit keeps holds)
        step in
        (after.0, after.1, has_sound_file new after.0 after.2)
