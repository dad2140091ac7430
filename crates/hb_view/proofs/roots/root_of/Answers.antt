use Rattle.hb_page_codec.proofs.Facts.Refusals.{read_some}
use Rattle.hb_view.specs.Roots.{sight_of, root_at}
use Rattle.hb_view.proofs.Rooted.{has_root, is_root}
use Rattle.hb_view.proofs.roots.root_of.Goals as goal

pub unreachable-requires : goal.unreachable-requires
unreachable-requires c = has_root c.args.tree.now.k.number c.args.tree.now.bytes.now c.args.tree.now.there c.in-None.ensures

pub returns : goal.returns
returns c =
    let tree = c.args.tree.now in
    is_root tree.k.number tree.bytes.now (sight_of c.in-Some.root) tree.there (read_some sight_of c.root_read.result c.in-Some.root (root_at tree.k.number tree.bytes.now) c.in-Some.is c.root_read.ensures)
