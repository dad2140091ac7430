use Rattle.std.proofs.Common.{List, ℕ, flat_map, sym, subst}
use Rattle.std.proofs.lemmas.Grind.{flat_map-append}
use Rattle.hb_space.specs.Boxes.{side_below, side_from}
use Rattle.hb_frag.specs.Leaves.{leaves_of}
use Rattle.hb_outside.proofs.Facts.PutLaws.{Puts-then}
use Rattle.hb_outside.specs.Calls.{Puts}
use Rattle.hb_map.specs.Map.{placed_text}
use Rattle.hb_map.proofs.lines.+put_leaves.Goals as goal

pub returns-in_ok-put_leaves-in-Cut : goal.returns-in_ok-put_leaves-in-Cut
returns-in_ok-put_leaves-in-Cut g t c =
    let left = leaves_of c.in-Cut.left.value (side_below c.args.area c.in-Cut.axis c.in-Cut.value) in
    let right = leaves_of c.in-Cut.right.value (side_from c.args.area c.in-Cut.axis c.in-Cut.value) in
    let one = rw (c.deref.ensures, c.cut-below.ensures.left) at c.in_ok-put_leaves-in-Cut.ensures in
    let two = rw (c.deref-in-Cut.ensures, c.cut-below.ensures.right) at c.put_leaves-in-Cut.ensures in
    rw (← c.frag.view_is, c.in-Cut.is)
    (subst (λ (text : List ℕ). Puts text c.put_leaves-in-Cut.result (g.K.Sink.model c.args.sink.now) (g.K.Sink.model c.put_leaves-in-Cut.new.sink)) (sym (flat_map-append placed_text left right))
    (Puts-then c.put_leaves-in-Cut.result _ (g.K.Sink.model c.put_leaves.new.sink) _ (flat_map placed_text left) (flat_map placed_text right) one two))
