-- The operation of a row may be committed: over each disk with which the core shows the machine.
use Rattle.hb_core.proofs.Running.Names.{◌≡◌, ℕ, ◌≤◌, ◌-◌, ◌==◌, ◌&&◌, Bool, false, List, length, Option, Some, IsTrue, IfSome, refl, sym, ap, ◌∙◌, subst, option_map_or, eq-eqb, length-map, DiskModel, Records, LivePage, leaf_at, IsActor, Op, FileState, last_of, Entry, Line, Area, Record, Wanted, Activity, may_commit, wanted_of, Deed, at_value, HasFrameFor, HasPlaces, IsReady, StoreKeeps, StoreState, GROUP, PENDING, Waiting, pending_bytes, room_of, files_hold, each_op, each_row, AnyPage, looked_live, wanted_by, Brings, HasSoundFile, MachineKeeps, RowsMayBeDone, Machine, current_file, sight, with_disk, MayCommit, IsAtHand, Row, RunningCore, ShowsFiles, ShowsMachine, may_change_file, MayWork, with_memory}
use Rattle.std.specs.List.{All}
use Rattle.hb_ops.specs.Operations.{IsLicensed}
use Rattle.hb_ops.specs.Sound.{FitsFile}
use Rattle.hb_activity.specs.declared.activities.Activity.TheVariants as at
use Rattle.hb_activity.specs.Walks.{may_change}
use Rattle.hb_activity.proofs.Facts.AllowedDeeds.{kind_at}
use Rattle.hb_wal.specs.Log.{IsMarkedTo, LogState}
use Rattle.hb_steps.proofs.Files.FileOps.{licensed_in_file}
use Rattle.hb_steps.proofs.Files.SoundFiles.{FilesHold, brought_shown, shows_file}
use Rattle.hb_steps.proofs.Memory.KeptPages.{brought, keeps_pages}
use Rattle.hb_steps.proofs.Walks.MayBeAsked.{pages_at_hand_fit}
use Rattle.hb_steps.specs.MachineLaws.{MayBeDoneHere}
use Rattle.hb_core.proofs.Running.PlacesFor.{is_ready}

module _ (m : Machine) (actor : ℕ) (fetched : StoreState) (keeps : MachineKeeps m) (brings : Brings m AnyPage fetched) where
  -- ---- a row that does an operation is of a step that may change the file

  abbrev MayChange : Activity → Type 0
  MayChange activity = IsTrue (may_commit activity m.store.meta (looked_live m.store activity))

  abbrev Shown : Activity → Option Op → Type 0
  Shown activity op = m.activity actor ≡ activity → IfSome op (λ op. MayChange activity)

  at_records : (its : Wanted) (page : LivePage) (p : List ℕ) (records : List Record) (area : Area) → IsAtHand (with_disk fetched m.files m.clock m) (m.activity actor) its page → leaf_at page p ≡ Some (record { leaf = Records records; area = area }) → IsTrue (its.level == 0)
  at_records its page p records area hand leaf =
      let made : FitsFile m.store.meta page = (pages_at_hand_fit m fetched its.page page keeps brings hand.live).1 in
      let zero_level : page.level ≡ 0 = kind_at m.store.meta page p (record { leaf = Records records; area = area }) made leaf in
      eq-eqb its.level 0 (sym hand.level ∙ zero_level)

  walk_changes : (line : Line) (held : Option ℕ) (rest : List Area) (found : List Record) (its : Wanted) → m.activity actor ≡ at.SessionWalk line held rest found → wanted_by m actor ≡ Some its → IsTrue (its.level == 0) → IsTrue (may_change line.command) → MayChange (at.SessionWalk line held rest found)
  walk_changes line held rest found its is wants zero_level changes =
      let wanted : wanted_of (at.SessionWalk line held rest found) m.store.meta (looked_live m.store (at.SessionWalk line held rest found)) ≡ Some its = sym (ap (λ (a : Activity). wanted_of a m.store.meta (looked_live m.store a)) is) ∙ wants in
      subst (λ (o : Option Wanted). IsTrue (may_change line.command && option_map_or (λ (wanted : Wanted). wanted.level == 0) o false)) (sym wanted)
      (subst (λ (b : Bool). IsTrue (b && (its.level == 0))) (sym changes) zero_level)

  changes_file : (op : Op) (deed : Deed) → Row (m.activity actor) (wanted_by m actor) (with_disk fetched m.files m.clock m) deed → deed.op ≡ Some op → IsTrue (may_change_file m actor)
  changes_file op deed row is = at_value deed.op (λ (op : Op). MayChange (m.activity actor)) op is (shown refl)
    where
      shown : Shown (m.activity actor) deed.op
      shown = each_row (with_disk fetched m.files m.clock m) (λ activity deed. Shown activity deed.op) (m.activity actor) (wanted_by m actor) deed
          (record { full = λ line held none is. tt; splits = λ line held page live leaves is. refl; puts = λ line source fresh rec command half either page live is. refl })
          (λ its page wants hand. each_op (sight (with_disk fetched m.files m.clock m)) its.page page Shown (record {
            none = λ activity is. tt;
            inserts = λ line held rest found rec command absent room is. walk_changes line held rest found its is wants (at_records its page rec.key absent.records absent.area hand absent.leaf) (ap may_change command);
            deletes = λ line held rest found p there command stands is. walk_changes line held rest found its is wants (at_records its page p stands.records stands.area hand stands.leaf) (ap may_change command);
            grows = λ job fresh free_after may free next is. refl;
            posts = λ job parent above path inner area live plan is. refl;
            parts = λ job parent above live plan leaves is. refl;
            merges = λ job parent keep gone pair is. refl;
          }))
          row

module _ (d : DiskModel) (c : RunningCore) (m : Machine) (actor : ℕ) (may : IsActor actor) (work : MayWork m actor) (brings : Brings m AnyPage c.store) (shows : ShowsMachine d c (with_memory c m)) (deed : Deed) (row : Row (m.activity actor) (wanted_by m actor) (with_disk c.store m.files m.clock m) deed) (op : Op) (is : deed.op ≡ Some op) where
  keeps : MachineKeeps m
  keeps = work.goes_on.kept

  pub made_ready : IsReady m.store × HasPlaces m.uses
  made_ready = is_ready m actor (changes_file m actor c.store keeps brings op deed row is) work.ready

  ready_there : IsReady c.store
  ready_there = subst (λ (log : LogState). (GROUP ≤ room_of log) × (pending_bytes log.groups ≤ PENDING - GROUP)) (sym (ap (λ (s : StoreState). s.log) brings.rest)) made_ready.0

  marks_there : All (IsMarkedTo (length c.order)) c.store.log.groups
  marks_there =
      let long : length c.order ≡ length m.order = sym (ap (λ (order : List ℕ). length order) shows.order) ∙ length-map m.order (λ (e : Entry). e.line.number) in
      subst (λ (groups : List Waiting). All (IsMarkedTo (length c.order)) groups) (sym (ap (λ (s : StoreState). s.log.groups) brings.rest))
      (subst (λ (n : ℕ). All (IsMarkedTo n) m.store.log.groups) (sym long) keeps.marks_rise.inside)

  module _ (done : RowsMayBeDone) (one_durable : (durable other : FileState) (later others : List FileState) → StoreKeeps d c.store durable later → StoreKeeps d c.store other others → durable ≡ other)
      (one_later : (durable other : FileState) (later others : List FileState) → StoreKeeps d c.store durable later → StoreKeeps d c.store other others → later ≡ others) where
    here : MayBeDoneHere c.store op
    here = done m actor c.store deed op may keeps brings row is

    licensed_there : (durable : FileState) (later : List FileState) → StoreKeeps d c.store durable later → IsLicensed (last_of durable later) op
    licensed_there durable later kept =
        let its : ShowsFiles d (with_memory c m) = shows.tells kept.disk.told in
        let sound : HasSoundFile m its.files = at_value m.files (HasSoundFile m) its.files its.told work.goes_on.sound in
        let holds : FilesHold c.store its.files = brought_shown m its.files AnyPage c.store its.told brings (files_hold m its.files sound) in
        let licensed : IsLicensed (current_file its.files) op = licensed_in_file c.store (current_file its.files) (brought m AnyPage c.store brings (keeps_pages m keeps.meta_within_limits keeps.pages_of_file)) (shows_file c.store its.files holds) op here.licensed in
        subst (λ (file : FileState). IsLicensed (last_of file later) op) (one_durable its.files.durable durable its.files.later later its.kept kept)
        (subst (λ (files : List FileState). IsLicensed (last_of its.files.durable files) op) (one_later its.files.durable durable its.files.later later its.kept kept) licensed)

    pub may_commit_row : HasFrameFor op c.store c.uses → MayCommit d c op
    may_commit_row place = record {
      running = ap (λ (s : StoreState). s.stopped) brings.rest ∙ keeps.runs work.runs;
      ready = ready_there;
      points = here.doable.points;
      allowed = here.doable.allowed;
      boxes = here.doable.boxes;
      place = place;
      licensed = licensed_there;
      marks = marks_there;
    }
