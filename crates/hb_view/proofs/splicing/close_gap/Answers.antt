use Rattle.std.proofs.Common.{refl}
use Rattle.hb_view.proofs.Replaced.{cleared}
use Rattle.hb_view.proofs.splicing.close_gap.Goals as goal

pub returns : goal.returns
returns c = cleared c.args.bytes.now c.args.copy.now c.copy_from_slice.new.self c.fill.new.self _ c.args.at c.args.by c.requires.same c.requires.room c.copy_from_slice.ensures.after refl (c.fill.ensures.after (λ y same. same))
