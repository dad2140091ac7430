use Rattle.hb_view.proofs.Replaced.{moved_on}
use Rattle.hb_view.proofs.splicing.open_gap.Goals as goal

pub returns : goal.returns
returns c = moved_on c.args.bytes.now c.args.copy.now c.copy_from_slice.new.self c.args.at c.args.by c.requires.same c.requires.room c.copy_from_slice.ensures.after
