-- A tidying with a flush behind it: the file is the same, and where no fault ended it no group waits.
use Rattle.std.specs.Prelude.{MatchOption}
use Rattle.std.proofs.Common.{◌≡◌, inl, inr, ℕ, [], Option, None, Ok, Result, refl, sym, ap, ◌∙◌, subst}
use Rattle.hb_activity.specs.declared.activities.Activity.{Activity}
use Rattle.hb_core.proofs.Facts.BetweenCalls.{flusher_stands}
use Rattle.hb_core.specs.Between.{said_of_flush}
use Rattle.hb_steps.specs.Forcing.{FailsToWrite, Flushes, FlushesRest, ForcesAll, StaysSo}
use Rattle.hb_steps.specs.KeptMachine.{MachineKeeps}
use Rattle.hb_steps.specs.Machines.{Machine}
use Rattle.hb_steps.specs.Performing.{given_by}
use Rattle.hb_core.specs.Runs.{RunningLaws}
use Rattle.hb_core.specs.Showing.{RunningCore, ShowsMachine}
use Rattle.hb_steps.specs.Steps.{StepsAs, StepsTo}
use Rattle.hb_core.specs.Touching.{Touches}
use Rattle.hb_core.specs.Working.{MayStep}
use Rattle.hb_steps.specs.declared.outcomes.Outcome.{Outcome}
use Rattle.hb_steps.specs.declared.outcomes.Outcome.TheVariants as outcomes
use Rattle.hb_disk.specs.Model.{DiskModel, IsDisk}
use Rattle.hb_store.specs.declared.stops.Flushed.{Flushed}
use Rattle.hb_store.specs.declared.stops.Flushed.TheVariants as flushes
use Rattle.hb_store.specs.declared.stops.StopWhy.{StopWhy}
use Rattle.hb_store.specs.declared.stops.WriteFault.{WriteFault}
use Rattle.hb_tidy.proofs.Facts.Joined.{may_then, tidied_then, tidied_then_new}
use Rattle.hb_tidy.proofs.OneCall.{run_tidied, step_runs, step_taken}
use Rattle.hb_tidy.proofs.Workers.{IsWorker, flusher_leaves}
use Rattle.hb_tidy.specs.Looking.{FileStays}
use Rattle.hb_tidy.specs.Tidying.{HasTidied}

flusher : IsWorker 19
flusher = inr (inr refl)

-- what a step of who flushes is, where nothing had stopped the machine
is_flush : (m : Machine) (outcome : Outcome) (new : Machine) → MachineKeeps m → m.stop ≡ None → StepsTo m 19 outcome new → Flushes m outcome new
is_flush m outcome new kept runs step =
    subst (λ (a : Activity). StepsAs a m 19 outcome new) (flusher_stands (m.activity 19) (kept.classes 19))
    (subst (λ (stop : Option StopWhy). MatchOption stop (StepsAs (m.activity 19) m 19 outcome new) (λ why. StaysSo m (outcomes.Stopped why) outcome new)) runs step)

-- no group waits behind it, unless it was stopped
module _ (m : Machine) (outcome : Outcome) (new : Machine) (on : new.stop ≡ None) where
  so : (other : Machine) → new ≡ other → other.store.log.groups ≡ [] → new.store.log.groups ≡ []
  so other is none = ap (λ (x : Machine). x.store.log.groups) is ∙ none

  never : {most : ℕ} → FailsToWrite m most outcome new → new.store.log.groups ≡ []
  never fault = let stopped = ap (λ (x : Machine). x.stop) fault.stops in cc (on, stopped)

  forced : ForcesAll m outcomes.Moved outcome new → new.store.log.groups ≡ []
  forced (inl (says, is)) = so _ is refl
  forced (inr (waits, fault)) = never fault

  rested : m.store.log.groups ≡ [] → FlushesRest m outcomes.Moved (StaysSo m outcomes.Idle outcome new) outcome new → new.store.log.groups ≡ []
  rested none (inl (page, dirty, inl writes)) = so _ writes.leaves none
  rested none (inl (page, dirty, inr fault)) = never fault
  rested none (inr (inl (old, inl begins))) = so _ begins.leaves refl
  rested none (inr (inl (old, inr fault))) = never fault
  rested none (inr (inr (flushed, (says, is)))) = so m is none

  none_waits : Flushes m outcome new → new.store.log.groups ≡ []
  none_waits (inl (waits, force)) = forced force
  none_waits (inr (none, rest)) = rested none rest

-- and it isn't stopped where the step doesn't say so
module _ (m : Machine) (outcome : Outcome) (new : Machine) (runs : m.stop ≡ None) (well : (why : StopWhy) → outcome ≡ outcomes.Stopped why → ⊥) where
  goes : (other : Machine) → new ≡ other → other.stop ≡ None → new.stop ≡ None
  goes other is none = ap (λ (x : Machine). x.stop) is ∙ none

  stops_not : {most : ℕ} → FailsToWrite m most outcome new → new.stop ≡ None
  stops_not fault = absurd (well _ fault.says)

  rest_goes : FlushesRest m outcomes.Moved (StaysSo m outcomes.Idle outcome new) outcome new → new.stop ≡ None
  rest_goes (inl (page, dirty, inl writes)) = goes _ writes.leaves runs
  rest_goes (inl (page, dirty, inr fault)) = stops_not fault
  rest_goes (inr (inl (old, inl begins))) = goes _ begins.leaves runs
  rest_goes (inr (inl (old, inr fault))) = stops_not fault
  rest_goes (inr (inr (flushed, (says, is)))) = goes m is runs

  still_goes : Flushes m outcome new → new.stop ≡ None
  still_goes (inl (waits, inl (says, is))) = goes _ is runs
  still_goes (inl (waits, inr (some, fault))) = stops_not fault
  still_goes (inr (none, rest)) = rest_goes rest

said_well : (flushed : Flushed) (why : StopWhy) → said_of_flush (Ok flushed) ≡ outcomes.Stopped why → ⊥
said_well flushes.Forced why is = cc (is)
said_well (flushes.Written page) why is = cc (is)
said_well flushes.Switched why is = cc (is)
said_well flushes.Nothing why is = cc (is)

-- ---- as a caller has it

-- What a tidying comes to with a flush behind it, from the machine that it had come to.
pub record FlushesOn (d : DiskModel) (m mid : Machine) (outcome : Outcome) (f : DiskModel) (c : RunningCore) : Type 0 where
  pub went : HasTidied d m f c
  pub takes : StepsTo mid 19 outcome went.new
  pub stays : FileStays mid went.new
  pub none : went.new.stop ≡ None → went.new.store.log.groups ≡ []

module _ (laws : RunningLaws) (d : DiskModel) (m : Machine) (e : DiskModel) (old : RunningCore) (f : DiskModel) (new : RunningCore) (t : HasTidied d m e old) (runs : t.new.stop ≡ None) (disk : IsDisk e) (disk_next : IsDisk f) (r : Result Flushed WriteFault)
    (steps : (x : Machine) → MayStep e old x → (next : Machine) × StepsTo x 19 (said_of_flush r) next × ShowsMachine f new next) (touches : Touches e old (said_of_flush r) f new) where
  mid_may : MayStep e old t.new
  mid_may = may_then d e m old t

  pub flushes_on : FlushesOn d m t.new (said_of_flush r) f new
  flushes_on =
      let run = step_runs laws e f t.new 19 (said_of_flush r) old new disk disk_next flusher mid_may steps touches in
      let kept = t.goes_on.kept in
      let two = run_tidied laws e f t.new 19 (given_by (said_of_flush r) f.clock) new run kept flusher in
      let took = step_taken laws e f t.new 19 (said_of_flush r) old new disk disk_next flusher mid_may steps touches kept in
      let same = tidied_then_new d e f m old new t two in
      record {
        went = tidied_then d e f m old new t two;
        takes = subst (StepsTo t.new 19 (said_of_flush r)) (sym same) took;
        stays = subst (FileStays t.new) (sym same) (flusher_leaves t.new (said_of_flush r) two.new (flusher_stands (t.new.activity 19) (kept.classes 19)) took).same;
        none = λ on. ap (λ (x : Machine). x.store.log.groups) same ∙ none_waits t.new (said_of_flush r) two.new (sym (ap (λ (x : Machine). x.stop) same) ∙ on) (is_flush t.new (said_of_flush r) two.new kept runs took);
      }

-- where no fault ended the flush the core isn't stopped
pub flush_runs : (e f : DiskModel) (mid : Machine) (old new : RunningCore) (flushed : Flushed) → MayStep e old mid → mid.stop ≡ None
    → ((x : Machine) → MayStep e old x → (next : Machine) × StepsTo x 19 (said_of_flush (Ok flushed)) next × ShowsMachine f new next) → new.stop ≡ None
flush_runs e f mid old new flushed may runs steps =
    let took = steps mid may in
    sym took.2.stop ∙ still_goes mid (said_of_flush (Ok flushed)) took.0 runs (said_well flushed) (is_flush mid (said_of_flush (Ok flushed)) took.0 may.goes_on.kept runs took.1)
