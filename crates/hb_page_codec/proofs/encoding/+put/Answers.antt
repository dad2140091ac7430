use Rattle.std.proofs.Common.{arith}
use Rattle.hb_page_codec.proofs.Writes.{length-cut}
use Rattle.hb_page_codec.proofs.encoding.+put.Goals as goal

pub put_node-put_u64-end-requires : goal.put_node-put_u64-end-requires
put_node-put_u64-end-requires t c =
    let cut = c.in-Cut in
    let room = rw c.in-Cut.is at c.requires.room in
    omega (arith, room, length-cut cut.axis cut.value cut.left.value cut.right.value, c.put_u8-end.ensures.behind, c.put_u8-end-in-Cut.ensures.behind, c.put_u8-end.auto.into, c.put_u8-end-in-Cut.auto.into)
