use Rattle.std.proofs.Common.{◌≡◌}
use Rattle.hb_frag.specs.Paths.{way_to}
use Rattle.hb_frag.proofs.Facts.Points.{way_leads, way_changes}
use Rattle.hb_frag.proofs.pages.LivePage.path_to.Goals as goal

pub returns-clause-leaf : goal.returns-clause-leaf
returns-clause-leaf c =
    let e : c.trace.new.path ≡ way_to c.args.p.now c.args.self.now.frag = rw (c.new-path.ensures, c.new.ensures.items) at c.in_ok-trace.ensures in
    way_leads _ _ _ _ c.copy.ensures.area c.requires.well_cut c.requires.held e

pub returns-clause-change : goal.returns-clause-change
returns-clause-change c =
    let e : c.trace.new.path ≡ way_to c.args.p.now c.args.self.now.frag = rw (c.new-path.ensures, c.new.ensures.items) at c.in_ok-trace.ensures in
    λ leaf. way_changes _ _ _ _ leaf c.copy.ensures.area c.requires.well_cut c.requires.held e
