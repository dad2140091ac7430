-- A job that waits, as a core tells it.
use Rattle.std.proofs.Common.{◌≡◌, Ok, sym, ap, subst}
use Rattle.hb_activity.specs.declared.jobs.Job.{Job}
use Rattle.hb_disk.specs.Model.{DiskModel, IsDisk}
use Rattle.hb_core.specs.Between.{AddsToQueue, LetsWait}
use Rattle.hb_core.specs.Counting.{CountsStay, CountsWithin}
use Rattle.hb_steps.specs.KeptFits.{JobFits}
use Rattle.hb_steps.specs.Machines.{Machine}
use Rattle.hb_core.specs.Showing.{RunningCore}
use Rattle.hb_core.specs.Working.{MayStep}
use Rattle.hb_tidy.proofs.CallsMade.{wait_looks}
use Rattle.hb_tidy.proofs.ToDo.{adds_some}
use Rattle.hb_tidy.specs.Going.{MayTidy}
use Rattle.hb_tidy.specs.Looking.{LooksOver, NothingOf}
use Rattle.hb_tidy.specs.Owed.{IsJobOwed}

module _ {D : Type 0} (model : D → DiskModel) (x : D) (old new : RunningCore) (job : Job) (disk : IsDisk (model x)) (may : MayTidy (model x) old) (fits : JobFits old.store.meta.k job) (adds : AddsToQueue job old new) where
  stay : CountsStay old new
  stay = record { taken = ap (λ (c : RunningCore). c.taken) adds.rest; done = ap (λ (c : RunningCore). c.done) adds.rest }

  within : CountsWithin new
  within = may.laws.counts.stay old new stay may.counts

  -- the disk stays as it was
  abbrev GoesOn : D → Type 0
  GoesOn y = (m : Machine) → MayStep (model x) old m → (next : Machine) × LetsWait job m next × MayStep (model y) new next

  pub job_looks : (y : D) → y ≡ x → GoesOn y → LooksOver {T = Unit {0}} (λ s. IsJobOwed s job) (Ok (tt {0})) (λ v. NothingOf) (model x) old (model y) new
  job_looks y same goes =
      subst (λ (z : D). GoesOn z → LooksOver {T = Unit {0}} (λ s. IsJobOwed s job) (Ok (tt {0})) (λ v. NothingOf) (model x) old (model z) new) (sym same)
      (λ here. wait_looks (model x) old new job disk may fits here stay within (ap (λ (c : RunningCore). c.store.meta) adds.rest) (adds_some job old.jobs new.jobs adds.adds)) goes
