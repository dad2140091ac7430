use Rattle.hb_consol.proofs.TryExamples.{keeps_by_hand}
use Rattle.hb_consol.proofs.examples.a_page_to_keep_gave_something.Goals as goal

pub returns : goal.returns
returns c = keeps_by_hand
