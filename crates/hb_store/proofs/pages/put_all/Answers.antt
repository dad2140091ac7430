use Rattle.std.proofs.Common.{◌<◌, length}
use Rattle.std.specs.FinSet as set
use Rattle.hb_store.proofs.Putting.{added_next, place_next, puts_next, room_next}
use Rattle.hb_store.proofs.pages.put_all.Goals as goal

pub put-requires-clause-place : goal.put-requires-clause-place
put-requires-clause-place c = place_next c.args.pages.now c.loop-number.number-index c.loop-number-item.result _ c.loop-number-test.true c.loop-number-item.is c.loop-number.pool c.loop-number.invariant.room

pub loop-number-preserved : goal.loop-number-preserved
loop-number-preserved c =
    let pages = c.args.pages.now in
    let i = c.loop-number.number-index in
    let lt : i < length pages = c.loop-number-test.true in
    record {
      puts = puts_next pages i c.loop-number-item.result _ lt c.loop-number-item.is c.args.pool.now c.loop-number.pool c.put.new.pool c.loop-number.invariant.puts c.put.ensures;
      room = room_next pages i c.loop-number-item.result _ lt c.loop-number-item.is c.loop-number.pool c.put.new.pool c.loop-number.invariant.puts.pool c.loop-number.invariant.room c.put.ensures;
      added = λ q. added_next pages i c.loop-number-item.result _ lt c.loop-number-item.is q (set.contains c.add.new.self q) (set.contains c.loop-number.in_log q) (set.contains c.args.in_log.now q) (c.add.ensures q) (c.loop-number.invariant.added q);
    }
