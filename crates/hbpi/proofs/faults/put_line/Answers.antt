use Rattle.hbpi.proofs.faults.put_line.Goals as goal

pub returns : goal.returns
returns g c = record { result = c.put-failed.result; put = c.put-failed.ensures }
