use Rattle.std.proofs.Common.{◌≡◌, Result, Err, ap}
use Rattle.hb_disk.proofs.Facts.FaultLaws.{ReadsOnly-as, ReadsOnly-then}
use Rattle.hb_restart.specs.declared.faults.OpenFault.{OpenFault}
use Rattle.hb_restart.specs.declared.faults.OpenFault.TheVariants.{DiskFault}
use Rattle.hb_restart.specs.declared.reading.LogRead.{LogRead}
use Rattle.hb_restart.proofs.Audited.{refused_there}
use Rattle.hb_restart.proofs.looking.look.Goals as goal

pub returns-in-Ok-clause-refused : goal.returns-in-Ok-clause-refused
returns-in-Ok-clause-refused g c =
    refused_there c.audited.result (g.D.Device.model c.args.disk) (g.D.Device.model c.read_file.new.disk) c.in-Ok.read c.in-Ok.ensures.only.stays c.in-Ok.ensures.read c.audited.ensures.refused c.audited.ensures.shut

pub returns-in-Ok-clause-only : goal.returns-in-Ok-clause-only
returns-in-Ok-clause-only g c =
    ReadsOnly-then (g.D.Device.model c.args.disk) (g.D.Device.model c.read_file.new.disk) _ (λ e. let never : ⊥ = cc e in never) c.in-Ok.ensures.only c.audited.ensures.only

pub returns-in-Err-clause-only : goal.returns-in-Err-clause-only
returns-in-Err-clause-only g c =
    let as_error : OpenFault → Result LogRead OpenFault = λ f. Err f in
    ReadsOnly-as {F = ◌≡◌ {A = Result LogRead OpenFault} (Err c.in-Err.fault) (Err DiskFault)} (g.D.Device.model c.args.disk) (g.D.Device.model c.read_file.new.disk)
    (λ e. cc e) (λ same. ap as_error same) c.in-Err.ensures.only
