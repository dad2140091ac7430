-- What a step does to the contents of the file: they stay, or the line that joins the order takes effect on them.
use Rattle.hb_steps.proofs.Orders.Names.{◌≡◌, ◌⊎◌, inl, inr, ℕ, Bool, cond, List, [], ◌∷◌, ◌++◌, Option, Some, None, option_map, refl, sym, ap, ◌∙◌, subst, append-nil, cases_Bool, Op, Command, Insert, Delete, Lookup, Search, Outcome, line_in_hand, Deed, does, HeldArePoints, KeepsPages, each_step, FlushesMore, ready_kind, MeetsBadPage, wanted_by, ContentsFollowOrder, ContentsStep, contents_now, ForcesAll, StaysSo, forced_files, LinesFit, Files, Machine, current_file, MayDo, Performs, files_after, with_effect, StepsTo, Works, FileState, contents_of, last_of, RecordSet, if_there, set_after, Entry, LackIsContents, StandingIsContents, StoreState, same_Some, option_to_list}
use Rattle.std.specs.FinMap as map
use Rattle.std.specs.Ordering.{eq_by_cmp}
use Rattle.std.proofs.lemmas.Cmp.{nat_list_cmp_total}
use Rattle.hb_ops.specs.declared.operations.Op.TheVariants as ops
use Rattle.hb_steps.specs.declared.outcomes.Outcome.TheVariants as outcomes
use Rattle.hb_steps.proofs.Memory.KeptPages.{brought, keeps_pages}
use Rattle.hb_steps.proofs.Table.LineFates.{given_up_joins_nothing}
use Rattle.hb_steps.proofs.Facts.GivenUpLaws.{gives_up_nothing}
use Rattle.hb_steps.proofs.Orders.RowContents.{ContentsBecomeBy, JoinsWith, joins_row}
use Rattle.hb_steps.proofs.Files.RowTells.{Tells, tells_row}
use Rattle.hb_steps.proofs.Files.SoundFiles.{FilesHold, brought_shown, files_hold, sound_within_limits, may_be_done, shows_file}
use Rattle.hb_steps.specs.ContentsLaws.{ChangesAt, PointsStay}
use Rattle.hb_layout.specs.Limits.{IsLayout}
use Rattle.hb_ops.specs.Operations.{effect_of}
use Rattle.hb_sound.specs.LawsOfOperations.{ContentsBecome, OperationsKeepContents}
use Rattle.hb_space.specs.Points.{point_cmp}
use Rattle.hb_store.specs.Making.{OperationLaws}
use Rattle.hb_ops.proofs.Facts.FilePages.{last_of-append}
use Rattle.hb_space.proofs.Facts.PointOrder.{same_point}
use Rattle.hb_steps.proofs.Memory.BroughtPages.{told_files}

-- ---- what an operation does

becomes_so : (s : FileState) (op : Op) → ContentsBecome s op → ContentsBecomeBy (contents_of s) (contents_of (effect_of s op)) (Some op)
becomes_so s (ops.Put id rec) becomes = becomes
becomes_so s (ops.Del id point) becomes = becomes
becomes_so s (ops.Extract source fresh path cuts free_after) becomes = becomes
becomes_so s (ops.Post parent at inner area) becomes = becomes
becomes_so s (ops.Merge parent keep gone) becomes = becomes
becomes_so s (ops.Grow fresh free_after) becomes = becomes

module _ (laws : OperationLaws) (points : HeldArePoints) (keep_contents : OperationsKeepContents) (standing : StandingIsContents) (lacking : LackIsContents)
    (m : Machine) (files : Files) (actor : ℕ) (outcome : Outcome) (new : Machine) (told : m.files ≡ Some files) (fit : LinesFit m) (keeps : KeepsPages m.store) (holds : FilesHold m.store files) where
  -- What is to be shown of a step: there are files afterwards, and their contents follow.
  abbrev pub Follows : Type 0
  Follows = (after : Files) × (new.files ≡ Some after) × ContentsStep m actor new (contents_now files) (contents_now after)

  unmoved : (after : Files) → new.files ≡ Some after → new.order ≡ m.order → current_file after ≡ current_file files → Follows
  unmoved after is order same = (after, is, inl (order, ap contents_of same))

  stays : (said : Outcome) → StaysSo m said outcome new → Follows
  stays said (says, is) = unmoved files (ap (λ (n : Machine). n.files) is ∙ told) (ap (λ (n : Machine). n.order) is) refl

  forces : (said : Outcome) → ForcesAll m said outcome new → Follows
  forces said (inl (says, is)) = unmoved (forced_files files) (ap (λ (n : Machine). n.files) is ∙ ap (option_map forced_files) told) (ap (λ (n : Machine). n.order) is) refl
  forces said (inr badly) = unmoved files (ap (λ (n : Machine). n.files) badly.1.stops ∙ told) (ap (λ (n : Machine). n.order) badly.1.stops) refl

  meets : MeetsBadPage m actor outcome new → Follows
  meets bad = unmoved files (ap (λ (n : Machine). n.files) bad.stops ∙ told) (ap (λ (n : Machine). n.order) bad.stops) refl

  -- a deed that does nothing to the file, and whose line doesn't take effect
  quiet : (fetched : StoreState) (deed : Deed) → deed.op ≡ None → deed.joins ≡ None → Performs m fetched actor deed outcome new → Follows
  quiet fetched deed none nobody performs =
      unmoved files (performs.files ∙ ap (λ (o : _). files_after o m.files) none ∙ told) (performs.order ∙ ap (λ (o : Option Entry). m.order ++ option_to_list o) nobody ∙ append-nil m.order) refl

  -- what is done in memory makes this of the contents
  becomes : (fetched : StoreState) (op : Option Op) (mark : ℕ) → KeepsPages fetched → FilesHold fetched files → Tells fetched op → MayDo op mark fetched new.store → new.files ≡ files_after op m.files
      → (after : Files) × (new.files ≡ Some after) × ContentsBecomeBy (contents_now files) (contents_now after) op
  becomes fetched None mark keeps holds tells same is = (files, is ∙ told, refl)
  becomes fetched (Some op) mark keeps holds tells does is =
      let s = current_file files in
      let file = shows_file fetched files holds in
      let may = may_be_done laws points fetched files op keeps holds tells does.allowed in
      let layout : IsLayout s.meta = subst IsLayout (sym holds.meta) holds.layout in
      let last : last_of files.durable (files.later ++ effect_of s op ∷ []) ≡ effect_of s op = last_of-append files.durable files.later (effect_of s op) in (
        with_effect op files,
        is ∙ ap (files_after (Some op)) told,
        subst (λ (f : FileState). ContentsBecomeBy (contents_of s) (contents_of f) (Some op)) (sym last) (becomes_so s op (keep_contents s op file.sound layout may.attributes may.allowed may.licensed)),
      )

  joined : (after : Files) (joins : Option Entry) → new.order ≡ m.order ++ option_to_list joins → JoinsWith (contents_now files) (contents_now after) (m.activity actor) joins → ContentsStep m actor new (contents_now files) (contents_now after)
  joined after None order same = inl (order ∙ append-nil m.order, same)
  joined after (Some entry) order takes = inr (entry, order, takes)

  flushed_more : FlushesMore m outcome new → Follows
  flushed_more (none, inl (page, oldest, due, quiet, well)) = unmoved files (ap (λ (n : Machine). n.files) well.leaves ∙ told) (ap (λ (n : Machine). n.order) well.leaves) refl
  flushed_more (none, inr (inl (old, due, quiet, turns))) = unmoved files (ap (λ (n : Machine). n.files) turns.leaves ∙ told) (ap (λ (n : Machine). n.order) turns.leaves) refl
  flushed_more (none, inr (inr (calls, left, fails))) = unmoved files (ap (λ (n : Machine). n.files) fails.stops ∙ told) (ap (λ (n : Machine). n.order) fails.stops) refl

  worked : Works m actor outcome new → Follows
  worked (inl (by, way, so)) = stays (outcomes.Blocked by) so
  worked (inr (inl (free, unready, inl (waits, force)))) = forces outcomes.Helped force
  worked (inr (inl (free, unready, inr (none, rest)))) =
      ready_kind m outcome new Follows none flushed_more rest
  worked (inr (inr (free, ready, inl acts))) =
      let here = brought m _ acts.fetched acts.brings keeps in
      let hold = brought_shown m files _ acts.fetched told acts.brings holds in
      let tells = tells_row m actor _ acts.fetched acts.brings (inl (told_files m files told)) (wanted_by m actor) acts.deed refl (fit.in_hand actor) acts.row in
      let done = becomes acts.fetched acts.deed.op _ here hold tells acts.performs.store acts.performs.files in (
        done.0,
        done.1,
        joined done.0 acts.deed.joins acts.performs.order
            (joins_row points standing lacking m acts.fetched (current_file files) here (shows_file acts.fetched files hold) (contents_now done.0) (m.activity actor) (wanted_by m actor) acts.deed done.2 acts.row),
      )
  worked (inr (inr (free, ready, inr (inl gives)))) = quiet gives.fetched _ (gives_up_nothing gives.why (m.activity actor)) (given_up_joins_nothing gives.why (m.activity actor)) gives.performs
  worked (inr (inr (free, ready, inr (inr bad)))) = meets bad

  pub follows : StepsTo m actor outcome new → Follows
  follows step = each_step m actor outcome new Follows (record {
    stays = λ said plain so. stays said so;
    forces = λ said quiet force. forces said force;
    more = flushed_more;
    takes = λ line idle next performs. quiet m.store _ refl refl performs;
    refuses = λ line idle next boxes performs. quiet m.store _ refl refl performs;
    posts = λ deed idle takes performs. quiet m.store deed (ap (λ (d : Deed). d.op) takes.deed_is) (ap (λ (d : Deed). d.joins) takes.deed_is) performs;
    merges = λ deed idle takes performs. quiet m.store deed (ap (λ (d : Deed). d.op) takes.deed_is) (ap (λ (d : Deed). d.joins) takes.deed_is) performs;
    settles = λ number place reply is settled performs. quiet m.store _ refl refl performs;
    works = λ none works. worked works;
  }) step

module _ (laws : OperationLaws) (points : HeldArePoints) (keep_contents : OperationsKeepContents) (standing : StandingIsContents) (lacking : LackIsContents) where
  pub contents_follow_order : ContentsFollowOrder
  contents_follow_order m files after actor outcome new told fit inside has step is =
      let keeps = keeps_pages m (sound_within_limits m files has) inside in
      let goes = follows laws points keep_contents standing lacking m files actor outcome new told fit keeps (files_hold m files has) step in
      subst (λ (f : Files). ContentsStep m actor new (contents_now files) (contents_now f)) (same_Some goes.0 after (sym goes.1 ∙ is)) goes.2

-- ---- what it does under one point

abbrev pub StaysAt : RecordSet → RecordSet → List ℕ → Type 0
StaysAt before after p = map.get after p ≡ map.get before p

insert_at : (before : RecordSet) (key body p : List ℕ) (o : Option (List ℕ)) → StaysAt before (if_there o before (map.insert before key body)) p ⊎ (p ≡ key)
insert_at before key body p (Some there) = inl refl
insert_at before key body p None = elim (cases_Bool (eq_by_cmp point_cmp p key)) [
  | inl here ↦ inr (same_point p key here)
  | inr off ↦ inl (map.get-insert nat_list_cmp_total before key body p ∙ ap (λ (b : Bool). cond b (Some body) (map.get before p)) off)
]

remove_at : (before : RecordSet) (key p : List ℕ) (o : Option (List ℕ)) → StaysAt before (if_there o (map.remove before key) before) p ⊎ (p ≡ key)
remove_at before key p None = inl refl
remove_at before key p (Some there) = elim (cases_Bool (eq_by_cmp point_cmp p key)) [
  | inl here ↦ inr (same_point p key here)
  | inr off ↦ inl (map.get-remove nat_list_cmp_total before key p ∙ ap (λ (b : Bool). cond b None (map.get before p)) off)
]

changes_at : (command : Command) (before : RecordSet) (p : List ℕ) → StaysAt before (set_after command before) p ⊎ ChangesAt command p
changes_at (Insert rec) before p = insert_at before rec.key rec.body p (map.get before rec.key)
changes_at (Delete point) before p = remove_at before point p (map.get before point)
changes_at (Lookup point) before p = inl refl
changes_at (Search area) before p = inl refl

-- the point is one that the line changes, which joins the order
abbrev pub ChangesHere : Machine → ℕ → Machine → List ℕ → Type 0
ChangesHere m actor new p = (entry : Entry) × (new.order ≡ m.order ++ entry ∷ []) × (line_in_hand (m.activity actor) ≡ Some entry.line) × ChangesAt entry.line.command p

point_stays : (m : Machine) (actor : ℕ) (new : Machine) (before after : RecordSet) (p : List ℕ) → ContentsStep m actor new before after → StaysAt before after p ⊎ ChangesHere m actor new p
point_stays m actor new before after p (inl (order, same)) = inl (ap (λ (c : RecordSet). map.get c p) same)
point_stays m actor new before after p (inr (entry, order, takes)) = elim (changes_at entry.line.command before p) [
  | inl stays ↦ inl (ap (λ (c : RecordSet). map.get c p) takes.leaves ∙ stays)
  | inr changes ↦ inr (entry, order, takes.hand, changes)
]

pub points_stay : ContentsFollowOrder → PointsStay
points_stay law m files after actor outcome new p told fit inside has step is = point_stays m actor new (contents_now files) (contents_now after) p (law m files after actor outcome new told fit inside has step is)
