-- What a step does to the disk: nothing, a force, a page that is written to its place, or the beginning of the log's next turn.
use Rattle.hb_core.proofs.Running.Names.{◌≡◌, ◌≢◌, inl, inr, ℕ, ◌<◌, List, [], None, Some, Ok, Err, refl, sym, ap, ◌∙◌, subst, ReadsOnly, DiskModel, ReadsOnly-neither, Reply, Use, WritesGroups, StoreHeld, oldest_dirty, SwitchesTurn, FlushesHome, WritesHome, StoreState, StopWhy, Outcome, Machine, with_stop, RunningCore, TakesNextLine, TakesNextMerging, TakesNextPosting, EndsByRead, Touches, held_in, MayStep}
use Rattle.hb_activity.specs.declared.activities.Activity.TheVariants as at
use Rattle.hb_disk.proofs.Facts.FaultLaws.{ReadsOnly-none}
use Rattle.hb_set.specs.declared.commands.Reply.TheVariants as replies
use Rattle.hb_store.specs.declared.stops.StopWhy.TheVariants as stops
use Rattle.hb_store.specs.declared.stops.WriteFault.{WriteFault}
use Rattle.hb_steps.specs.declared.outcomes.Outcome.TheVariants as outcomes
use Rattle.hb_steps.specs.KeptOrder.{StandsOutside}
use Rattle.hb_core.proofs.Running.ForcedShows.{waits_or_not, with_held}
use Rattle.hb_core.proofs.Running.WrittenShows.{home_failed}

-- an outcome for which no read and no write failed
pub record IsWell (outcome : Outcome) : Type 0 where
  pub no_read : ¬ (EndsByRead outcome)
  pub no_write : ¬ (outcome ≡ outcomes.Stopped stops.WriteFault)

pub moved_well : IsWell outcomes.Moved
moved_well = record { no_read = λ never. never; no_write = λ never. cc }

pub idle_well : IsWell outcomes.Idle
idle_well = record { no_read = λ never. never; no_write = λ never. cc }

pub helped_well : IsWell outcomes.Helped
helped_well = record { no_read = λ never. never; no_write = λ never. cc }

pub blocked_well : (by : ℕ) → IsWell (outcomes.Blocked by)
blocked_well by = record { no_read = λ never. never; no_write = λ never. cc }

pub answered_well : (number : ℕ) (reply : Reply) → ¬ (reply ≡ replies.ReadFault) → IsWell (outcomes.Answered number reply)
answered_well number reply none = record { no_read = none; no_write = λ never. cc }

pub well_as : (outcome other : Outcome) → outcome ≡ other → IsWell other → IsWell outcome
well_as outcome other is well = subst IsWell (sym is) well

pub same_stop : (a b : StopWhy) → outcomes.Stopped a ≡ outcomes.Stopped b → a ≡ b
same_stop a b equal = cc equal

pub memory_reply : replies.NoMemory ≡ replies.ReadFault → ⊥
memory_reply never = cc

pub full_reply : replies.Full ≡ replies.ReadFault → ⊥
full_reply never = cc

pub line_well : (actor behind : ℕ) (outcome : Outcome) (old new : RunningCore) → TakesNextLine actor behind outcome old new → IsWell outcome
line_well actor behind outcome old new (inl none) = well_as outcome outcomes.Idle none.0 idle_well
line_well actor behind outcome old new (inr (inl some)) = well_as outcome outcomes.Moved some.0 moved_well
line_well actor behind outcome old new (inr (inr (inl (by, place, line, next, first, says, same)))) = well_as outcome (outcomes.Blocked by) says (blocked_well by)
line_well actor behind outcome old new (inr (inr (inr (place, line, refuses)))) = well_as outcome (outcomes.Answered line.number replies.NoMemory) refuses.says (answered_well line.number replies.NoMemory memory_reply)

pub posting_well : (actor : ℕ) (outcome : Outcome) (old new : RunningCore) → TakesNextPosting actor outcome old new → IsWell outcome
posting_well actor outcome old new (inl none) = well_as outcome outcomes.Idle none.0 idle_well
posting_well actor outcome old new (inr (job, next, kind, posting, does)) = well_as outcome outcomes.Moved does.says moved_well

pub merging_well : (actor : ℕ) (outcome : Outcome) (old new : RunningCore) → TakesNextMerging actor outcome old new → IsWell outcome
merging_well actor outcome old new (inl none) = well_as outcome outcomes.Idle none.0 idle_well
merging_well actor outcome old new (inr (job, next, kind, merging, does)) = well_as outcome outcomes.Moved does.says moved_well

-- a reply that was kept is one of the order
pub kept_well : (d : DiskModel) (c : RunningCore) (m : Machine) (actor number place : ℕ) (reply : Reply) → MayStep d c m → m.activity actor ≡ at.SessionAwait number reply place → IsWell (outcomes.Answered number reply)
kept_well d c m actor number place reply step is =
    answered_well number reply (λ (fault : reply ≡ replies.ReadFault). step.goes_on.kept.awaits_inside actor number place reply is (subst StandsOutside (sym fault) tt))

module _ {D : Type 0} (model : D → DiskModel) (x y : D) (c after : RunningCore) (outcome : Outcome) where
  -- the disk as it was
  pub untouched : IsWell outcome → y ≡ x → Touches (model x) c outcome (model y) after
  untouched well same = subst (λ (k : D). Touches (model x) c outcome (model k) after) (sym same)
      (inl (record { only = ReadsOnly-none (model x) well.no_read; no_write = λ never. absurd (well.no_write never) }))

  pub untouched_stopped : (why said : StopWhy) → c.stop ≡ Some why → said ≡ why → outcome ≡ outcomes.Stopped said → Touches (model x) c outcome (model x) after
  untouched_stopped why said is same says = inl (record {
    only = ReadsOnly-none (model x) (λ ends. subst EndsByRead says ends);
    no_write = λ fault. is ∙ ap Some (sym same ∙ same_stop said stops.WriteFault (sym says ∙ fault));
  })

  pub touched_forced : IsWell outcome → WritesGroups (Ok tt) (model x) (model y) c.store after.store → Touches (model x) c outcome (model y) after
  touched_forced well writes = inr (inl (record {
    result = Ok tt;
    writes = writes;
    says = (λ failed. cc, λ fault. absurd (well.no_write fault));
    no_read = well.no_read;
  }))

  pub touched_failed : (fault : WriteFault) → outcome ≡ outcomes.Stopped stops.WriteFault → WritesGroups (Err fault) (model x) (model y) c.store after.store → Touches (model x) c outcome (model y) after
  touched_failed fault says writes = inr (inl (record {
    result = Err fault;
    writes = writes;
    says = (λ failed. says, λ is. refl);
    no_read = λ ends. subst EndsByRead says ends;
  }))

  pub touched_home : (id : ℕ) → IsWell outcome → (c.store.log.groups ≡ []) × (oldest_dirty c.uses ≡ Some id) → WritesHome (Ok tt) id (model x) (model y) (held_in c) (held_in after) → Touches (model x) c outcome (model y) after
  touched_home id well which writes = inr (inr (inl (record {
    result = Ok tt;
    no_group = which.0;
    page = id;
    oldest = which.1;
    writes = writes;
    says = (λ failed. cc, λ fault. absurd (well.no_write fault));
    no_read = well.no_read;
  })))

  pub touched_home_failed : (fault : WriteFault) (id : ℕ) → outcome ≡ outcomes.Stopped stops.WriteFault → (c.store.log.groups ≡ []) × (oldest_dirty c.uses ≡ Some id)
      → WritesHome (Err fault) id (model x) (model y) (held_in c) (held_in after) → Touches (model x) c outcome (model y) after
  touched_home_failed fault id says which writes = inr (inr (inl (record {
    result = Err fault;
    no_group = which.0;
    page = id;
    oldest = which.1;
    writes = writes;
    says = (λ failed. says, λ is. refl);
    no_read = λ ends. subst EndsByRead says ends;
  })))

  abbrev BeganTurn : Type 0
  BeganTurn = (c.store.log.groups ≡ []) × (oldest_dirty c.uses ≡ None) × (0 < c.store.log.written)

  pub touched_turn : IsWell outcome → BeganTurn → SwitchesTurn (Ok tt) (model x) (model y) (held_in c) (held_in after) → Touches (model x) c outcome (model y) after
  touched_turn well which switches = inr (inr (inr (record {
    result = Ok tt;
    no_group = which.0;
    clean = which.1;
    some = which.2;
    switches = switches;
    says = (λ failed. cc, λ fault. absurd (well.no_write fault));
    no_read = well.no_read;
  })))

  pub touched_turn_failed : (fault : WriteFault) → outcome ≡ outcomes.Stopped stops.WriteFault → BeganTurn → SwitchesTurn (Err fault) (model x) (model y) (held_in c) (held_in after) → Touches (model x) c outcome (model y) after
  touched_turn_failed fault says which switches = inr (inr (inr (record {
    result = Err fault;
    no_group = which.0;
    clean = which.1;
    some = which.2;
    switches = switches;
    says = (λ failed. says, λ is. refl);
    no_read = λ ends. subst EndsByRead says ends;
  })))

-- ---- a flush of a core, whose caller stops it where that failed

module _ {D : Type 0} (model : D → DiskModel) (x y : D) (c : RunningCore) (st : StoreState) (uses : List Use) where
  abbrev now : StoreHeld
  now = record { state = st; uses = uses }

  -- a force that failed, and a core that is stopped then
  pub failed_then : (z : D) (after : RunningCore) (outcome : Outcome) (fault : WriteFault) → WritesGroups (Err fault) (model x) (model y) c.store st
      → outcome ≡ outcomes.Stopped stops.WriteFault → after ≡ with_stop stops.WriteFault (with_held st uses c) → z ≡ y → Touches (model x) c outcome (model z) after
  failed_then z after outcome fault writes says then same =
      subst (λ (k : D). Touches (model x) c outcome (model k) after) (sym same)
      (touched_failed model x y c after outcome fault says (subst (λ (s : StoreState). WritesGroups (Err fault) (model x) (model y) c.store s) (sym (ap (λ (s : RunningCore). s.store) then)) writes))

  home_failed_then : (z : D) (after : RunningCore) (outcome : Outcome) (fault : WriteFault) (id : ℕ) → (c.store.log.groups ≡ []) × (oldest_dirty c.uses ≡ Some id) → WritesHome (Err fault) id (model x) (model y) (held_in c) now
      → outcome ≡ outcomes.Stopped stops.WriteFault → after ≡ with_stop stops.WriteFault (with_held st uses c) → z ≡ y → Touches (model x) c outcome (model z) after
  home_failed_then z after outcome fault id which writes says then same =
      subst (λ (k : D). Touches (model x) c outcome (model k) after) (sym same)
      (touched_home_failed model x y c after outcome fault id says which (subst (λ (h : StoreHeld). WritesHome (Err fault) id (model x) (model y) (held_in c) h) (sym (ap held_in then)) writes))

  turn_failed_then : (z : D) (after : RunningCore) (outcome : Outcome) (fault : WriteFault) → (c.store.log.groups ≡ []) × (oldest_dirty c.uses ≡ None) × (0 < c.store.log.written) → SwitchesTurn (Err fault) (model x) (model y) (held_in c) now
      → outcome ≡ outcomes.Stopped stops.WriteFault → after ≡ with_stop stops.WriteFault (with_held st uses c) → z ≡ y → Touches (model x) c outcome (model z) after
  turn_failed_then z after outcome fault which switches says then same =
      subst (λ (k : D). Touches (model x) c outcome (model k) after) (sym same)
      (touched_turn_failed model x y c after outcome fault says which (subst (λ (h : StoreHeld). SwitchesTurn (Err fault) (model x) (model y) (held_in c) h) (sym (ap held_in then)) switches))

  -- whichever of them failed
  pub flush_failed_then : (z : D) (after : RunningCore) (outcome : Outcome) (fault : WriteFault) → (c.store.log.groups ≢ [] → WritesGroups (Err fault) (model x) (model y) c.store st × (uses ≡ c.uses))
      → (c.store.log.groups ≡ [] → FlushesHome (Err fault) (model x) (model y) (held_in c) now)
      → outcome ≡ outcomes.Stopped stops.WriteFault → after ≡ with_stop stops.WriteFault (with_held st uses c) → z ≡ y → Touches (model x) c outcome (model z) after
  flush_failed_then z after outcome fault forced cleaned says then same = elim (waits_or_not c.store.log.groups) [
    | inr some ↦ failed_then z after outcome fault (forced some).0 says then same
    | inl none ↦ elim (home_failed (model x) (model y) (held_in c) now fault (cleaned none)) [
      | inl (id, oldest, writes) ↦ home_failed_then z after outcome fault id (none, oldest) writes says then same
      | inr (clean, some, switches) ↦ turn_failed_then z after outcome fault (none, clean, some) switches says then same
    ]
  ]

  -- one that found nothing
  pub flush_idled_then : ReadsOnly ⊥ (model x) (model y) → Touches (model x) c outcomes.Idle (model y) (with_held st uses c)
  flush_idled_then reads = inl (record { only = ReadsOnly-neither (model x) (model y) (λ never. never) idle_well.no_read reads; no_write = λ never. absurd (idle_well.no_write never) })

-- a core that counted its step is the same to a disk
pub as_before_count : {D : Type 0} (model : D → DiskModel) (x y : D) (taken : ℕ) (c after : RunningCore) (outcome : Outcome) → Touches (model x) (record c { taken = taken }) outcome (model y) after → Touches (model x) c outcome (model y) after
as_before_count model x y taken c after outcome (inl reads) = inl (record { only = reads.only; no_write = reads.no_write })
as_before_count model x y taken c after outcome (inr (inl forces)) = inr (inl (record { result = forces.result; writes = forces.writes; says = forces.says; no_read = forces.no_read }))
as_before_count model x y taken c after outcome (inr (inr (inl home))) = inr (inr (inl (record { result = home.result; no_group = home.no_group; page = home.page; oldest = home.oldest; writes = home.writes; says = home.says; no_read = home.no_read })))
as_before_count model x y taken c after outcome (inr (inr (inr turn))) = inr (inr (inr (record { result = turn.result; no_group = turn.no_group; clean = turn.clean; some = turn.some; switches = turn.switches; says = turn.says; no_read = turn.no_read })))
