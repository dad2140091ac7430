use Rattle.hb_consol.proofs.ScanExamples.{takes_by_hand}
use Rattle.hb_consol.proofs.examples.a_job_is_taken.Goals as goal

pub returns : goal.returns
returns c = takes_by_hand
