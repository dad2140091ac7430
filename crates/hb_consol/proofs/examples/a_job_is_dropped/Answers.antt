use Rattle.hb_consol.proofs.TryExamples.{decides_by_hand}
use Rattle.hb_consol.proofs.examples.a_job_is_dropped.Goals as goal

pub returns : goal.returns
returns c = decides_by_hand
