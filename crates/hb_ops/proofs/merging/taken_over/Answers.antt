use Rattle.std.proofs.Common.{sym, ◌∙◌}
use Rattle.hb_frag.specs.declared.leaves.Leaf.TheVariants.{Sibling}
use Rattle.hb_frag.specs.Trees.{Tip}
use Rattle.hb_ops.proofs.CutTests.{stays_inside}
use Rattle.hb_ops.proofs.merging.taken_over.Goals as goal

pub copy_with-requires : goal.copy_with-requires
copy_with-requires c =
    let kept = c.args.kept.now in
    let leads = c.ways_lead_to_siblings.ensures.leads c.args.gone kept.frag kept.area c.in-Some.path (sym c.in_ok-sibling_path.ensures ∙ c.in-Some.is) in
    stays_inside c.in-Some.path kept.frag kept.area (Tip (Sibling c.args.gone), leads.box) leads.part
