use Rattle.hb_view.proofs.PassedOver.{free_passed}
use Rattle.hb_view.proofs.well_made.past_free.Goals as goal

pub returns : goal.returns
returns c meta = free_passed (λ b. b.now) meta c.args.bytes.now c.behind_name.result c.behind_name.ensures
