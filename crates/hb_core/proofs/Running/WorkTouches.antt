-- What a step that works does to the disk: it reads at most, and says so where a read ended it.
use Rattle.hb_core.proofs.Running.Names.{◌≡◌, ◌⊎◌, inl, inr, ℕ, refl, sym, ap, ◌∙◌, subst, Activity, DropWhy, Deed, ReadsOnly, DiskModel, ReadsOnly-neither, StopWhy, GivesUp, Stops, Outcome, DoesRow, wanted_by, gives_up, reply_for, Machine, with_disk, outcome_of, RunningCore, EndsByRead, IsReadHalt, Touches, IsWorking, IsHalt, StoreState}
use Rattle.hb_activity.specs.declared.activities.Activity.TheVariants as at
use Rattle.hb_activity.specs.declared.dropping.DropWhy.TheVariants as drops
use Rattle.hb_disk.proofs.Facts.FaultLaws.{ReadsOnly-as}
use Rattle.hb_set.specs.declared.commands.Reply.TheVariants as replies
use Rattle.hb_store.specs.declared.stops.StopWhy.TheVariants as stops
use Rattle.hb_steps.specs.declared.outcomes.Outcome.TheVariants as outcomes
use Rattle.hb_core.proofs.Running.Touched.{IsWell, answered_well, full_reply, moved_well, well_as, memory_reply, same_stop}
use Rattle.hb_steps.proofs.Table.RowFates.{IsFullRow, IsQuietRow, saying_of}

-- a row that was done ended by no fault
pub row_well : (m : Machine) (actor : ℕ) (outcome : Outcome) (new : Machine) → DoesRow m actor outcome new → IsWell outcome
row_well m actor outcome new does = by (saying_of (with_disk does.fetched m.files m.clock m) (m.activity actor) (wanted_by m actor) does.deed does.row)
  where
    by : IsQuietRow does.deed ⊎ IsFullRow (with_disk does.fetched m.files m.clock m) (m.activity actor) does.deed → IsWell outcome
    by (inl quiet) = well_as outcome outcomes.Moved (does.performs.says ∙ ap outcome_of quiet.says) moved_well
    by (inr full) = well_as outcome (outcomes.Answered full.line.number replies.Full) (does.performs.says ∙ ap (λ (d : Deed). outcome_of d.says) full.deed_is) (answered_well full.line.number replies.Full full_reply)

-- want of memory is no read that failed
pub memory_reads_not : IsReadHalt (GivesUp drops.NoMemory) → ⊥
memory_reads_not is = no_memory is
  where
    no_memory : drops.NoMemory ≡ drops.ReadFault → ⊥
    no_memory never = cc

-- What is given up ended by a read exactly where that was why.
pub record IsGivenUpFor (why : DropWhy) (outcome : Outcome) : Type 0 where
  pub ends : EndsByRead outcome → why ≡ drops.ReadFault
  pub says : why ≡ drops.ReadFault → EndsByRead outcome
  pub no_write : ¬ (outcome ≡ outcomes.Stopped stops.WriteFault)

answered_for : (number : ℕ) (why : DropWhy) → IsGivenUpFor why (outcomes.Answered number (reply_for why))
answered_for number drops.NoMemory = record { ends = λ is. absurd (memory_reply is); says = λ is. absurd (memory_reads_not is); no_write = λ never. cc }
answered_for number drops.ReadFault = record { ends = λ is. refl; says = λ is. refl; no_write = λ never. cc }

dropped_for : (why : DropWhy) → IsGivenUpFor why (outcomes.Dropped why)
dropped_for why = record { ends = λ is. is; says = λ is. is; no_write = λ never. cc }

given_up_for : (why : DropWhy) (activity : Activity) → IsWorking activity → IsGivenUpFor why (outcome_of (gives_up why activity).says)
given_up_for why (at.SessionWalk line held rest found) works = answered_for line.number why
given_up_for why (at.SessionSplit line held) works = answered_for line.number why
given_up_for why (at.SessionPut line source fresh) works = answered_for line.number why
given_up_for why (at.PosterGrow job) works = dropped_for why
given_up_for why (at.PosterWalk job held) works = dropped_for why
given_up_for why (at.PosterChild job parent) works = dropped_for why
given_up_for why (at.PosterPromote job parent) works = dropped_for why
given_up_for why (at.PosterAgain job parent) works = dropped_for why
given_up_for why (at.ConsolidatorWalk job held) works = dropped_for why
given_up_for why (at.ConsolidatorScan job parent child) works = dropped_for why
given_up_for why (at.ConsolidatorTry job parent keep gone leaf) works = dropped_for why
given_up_for why (at.ConsolidatorPromote job parent keep gone) works = dropped_for why
given_up_for why (at.ConsolidatorKeep job parent keep gone) works = dropped_for why
given_up_for why (at.ConsolidatorDecide job parent keep gone) works = dropped_for why
given_up_for why other works = absurd works

module _ (d e : DiskModel) (c after : RunningCore) (outcome : Outcome) where
  -- the row was done
  pub done_touches : {F : Type 0} → (F → ⊥) → IsWell outcome → ReadsOnly F d e → Touches d c outcome e after
  done_touches none well reads = inl (record { only = ReadsOnly-neither d e none well.no_read reads; no_write = λ never. absurd (well.no_write never) })

  -- it was given up
  pub given_up_touches : (why : DropWhy) (activity : Activity) → IsWorking activity → outcome ≡ outcome_of (gives_up why activity).says → ReadsOnly (IsReadHalt (GivesUp why)) d e → Touches d c outcome e after
  given_up_touches why activity works says reads =
      let is = subst (IsGivenUpFor why) (sym says) (given_up_for why activity works) in
      inl (record { only = ReadsOnly-as d e is.says is.ends reads; no_write = λ never. absurd (is.no_write never) })

  -- or the page was damaged
  pub stopped_touches : (m : Machine) (actor : ℕ) (st : StoreState) (why : StopWhy) → IsHalt m actor st (Stops why) → outcome ≡ outcomes.Stopped why → ReadsOnly (IsReadHalt (Stops why)) d e → Touches d c outcome e after
  stopped_touches m actor st why cause says reads = inl (record {
    only = ReadsOnly-neither d e (λ never. never) (λ ends. subst EndsByRead says ends) reads;
    no_write = λ fault. absurd (no_fault why cause (same_stop why stops.WriteFault (sym says ∙ fault)));
  })
    where
      no_fault : (why : StopWhy) → IsHalt m actor st (Stops why) → why ≡ stops.WriteFault → ⊥
      no_fault why cause is = subst (λ (w : StopWhy). IsHalt m actor st (Stops w)) is cause
