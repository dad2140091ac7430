use Rattle.hb_view.proofs.Cornered.{is_value, has_value_there}
use Rattle.hb_view.proofs.corners.value_at.Goals as goal

pub unreachable-requires : goal.unreachable-requires
unreachable-requires c = has_value_there c.args.k.number c.args.axis c.args.bytes.now c.from_place.result.now c.requires.attribute c.requires.room c.from_place.ensures c.in-None.ensures

pub returns : goal.returns
returns c = is_value c.args.k.number c.args.axis c.in-Some.value c.args.bytes.now c.from_place.result.now _ c.requires.attribute c.requires.room c.from_place.ensures c.in-Some.ensures
