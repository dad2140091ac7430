use Rattle.std.proofs.Common.{arith}
use Rattle.std.proofs.lemmas.Grind.{common_steps}
use Rattle.hb_page_codec.specs.ReadingPages.{fields_at}
use Rattle.hb_view.specs.Limits.{meta_with}
use Rattle.hb_view.proofs.well_made.past_page.Goals as goal

pub returns-in-2 : goal.returns-in-2
unfolding fields_at
returns-in-2 c = let l = c.args.limits in grind (arith, common_steps, c.past_free.ensures (meta_with l.k l.height l.dcap l.icap))
