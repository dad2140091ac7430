use Rattle.std.proofs.Common.{◌-◌, rules, length, refl}
use Rattle.std.specs.Prelude.{map}
use Rattle.hb_log_codec.specs.Reading.{logged}
use Rattle.hb_log_codec.proofs.GroupReads.{groups_more, groups_end}
use Rattle.hb_log_codec.proofs.reading.decode_all.Goals as goal

pub loop-rest-preserved : goal.loop-rest-preserved
loop-rest-preserved c =
    let more = groups_more c.args.k.number c.args.bytes.now c.loop-rest.groups.items c.loop-rest.rest.now c.in-Ok.group c.in-Ok.after.now c.loop-rest.invariant.fits c.loop-rest.invariant.parts c.in-Ok.ensures in
    rw c.in_ok-push-in-Ok.ensures.items (record { fits = more.0; parts = more.1 })

pub returns-in-Err-clause-end : goal.returns-in-Err-clause-end
returns-in-Err-clause-end c =
    rw c.at.ensures (groups_end c.fields_are_exact.ensures c.spelling_law.ensures.one_page c.args.k.number c.args.bytes.now (map logged c.loop-rest.groups.items) c.loop-rest.rest.now (length c.args.bytes.now - length c.loop-rest.rest.now) c.in-Err.stop c.loop-rest.invariant.fits c.loop-rest.invariant.parts (search rules) refl c.in-Err.ensures)
