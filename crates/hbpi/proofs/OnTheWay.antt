-- Over a disk that tells, what holds on the way of a run's steps.
use Rattle.std.proofs.Common.{ℕ, List, inl, IsSome}
use Rattle.hb_disk.specs.Model.{DiskModel}
use Rattle.hb_lemmas.proofs.Options.{at_value, some_value}
use Rattle.hb_set.specs.declared.scripts.Answered.{Answered}
use Rattle.hb_set.specs.declared.scripts.Line.{Line}
use Rattle.hb_steps.specs.DamageLaws.{IsUndamaged}
use Rattle.hb_steps.specs.Machines.{Machine}
use Rattle.hbpi.specs.Drives.{TakesSteps}
use Rattle.hbpi.specs.OnTheWay.{WaysHaveOnePage}
use Rattle.hbpi.specs.Starts.{StartLaws}

module _ (laws : StartLaws) {d e : DiskModel} {k : ℕ} {lines : List Line} {actors : List ℕ} {answered : List Answered} {order : List ℕ} {after : Machine} (takes : TakesSteps d e k lines actors answered order after) (tells : IsSome d.told) where
  -- each point has one page
  pub ways_have_one_page : WaysHaveOnePage takes.before
  ways_have_one_page front here may reached =
      let b = some_value d.told tells in
      let opened = at_value d.told _ b.0 b.1 takes.told in
      let kept = laws.begun opened.0 front takes.before here opened.3 may reached in
      record { files = kept.0; told = kept.1.keeps.told; each = λ s p among point. laws.pages here kept.0 s p kept.1.keeps.sound_file among point }

  -- no page is met damaged
  pub undamaged : IsUndamaged after
  undamaged =
      let b = some_value d.told tells in
      let opened = at_value d.told _ b.0 b.1 takes.told in
      (laws.begun opened.0 actors takes.before after opened.3 takes.actors takes.reached).1.undamaged (inl takes.begun.runs)
