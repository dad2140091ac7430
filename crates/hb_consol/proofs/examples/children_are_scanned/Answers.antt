use Rattle.hb_consol.proofs.ScanExamples.{scans_by_hand}
use Rattle.hb_consol.proofs.examples.children_are_scanned.Goals as goal

pub returns : goal.returns
returns c = scans_by_hand
