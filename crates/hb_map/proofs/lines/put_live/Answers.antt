use Rattle.std.proofs.Common.{flat_map, refl, subst}
use Rattle.hb_space.specs.Boxes.{Area}
use Rattle.hb_frag.specs.Leaves.{leaves_of}
use Rattle.hb_outside.proofs.Facts.PutLaws.{Puts-longer, Puts-then}
use Rattle.hb_outside.specs.Calls.{Puts}
use Rattle.hb_map.specs.Map.{page_head, placed_text}
use Rattle.hb_map.proofs.lines.put_live.Goals as goal

pub returns-in_err-put_page_head : goal.returns-in_err-put_page_head
returns-in_err-put_page_head g c =
    let page = c.args.page.now in
    Puts-longer c.from_residual.result _ _ (page_head c.args.id c.args.parents page) (flat_map placed_text (leaves_of page.frag page.area)) _ c.from_residual.ensures.0 refl c.in_err-put_page_head.ensures

pub returns : goal.returns
returns g c =
    let page = c.args.page.now in
    Puts-then c.put_leaves.result _ _ _ (page_head c.args.id c.args.parents page) (flat_map placed_text (leaves_of page.frag page.area)) c.in_ok-put_page_head.ensures
    (subst (λ (area : Area). Puts (flat_map placed_text (leaves_of page.frag area)) c.put_leaves.result (g.K.Sink.model c.put_page_head.new.sink) (g.K.Sink.model c.put_leaves.new.sink)) c.copy.ensures.value c.put_leaves.ensures)
