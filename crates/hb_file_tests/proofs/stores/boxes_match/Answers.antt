use Rattle.std.proofs.Common.{sym, subst}
use Rattle.hb_ops.specs.declared.operations.Op.{Op}
use Rattle.hb_ops.specs.Given.{given}
use Rattle.hb_ops.specs.Operations.{BoxesMatch}
use Rattle.hb_file_tests.proofs.stores.boxes_match.Goals as goal

pub returns-in-Merge : goal.returns-in-Merge
returns-in-Merge c = λ same above. subst (λ (op : Op). BoxesMatch op above (given c.args.kept) (given c.args.going)) (sym c.in-Merge.is) (c.has_box.ensures same c.in-Merge.parent c.in-Merge.keep above)
