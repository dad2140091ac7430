use Rattle.std.proofs.Common.{◌∷◌, length, length-append, arith}
use Rattle.std.specs.List.{flat_map}
use Rattle.hb_lemmas.specs.Numbers.{big_endian}
use Rattle.hb_frag.specs.Grammar.{record_bytes}
use Rattle.hb_page_codec.proofs.encoding.put_leaf.Goals as goal
use Rattle.hb_lemmas.proofs.Numbers.{length_big_endian}

pub put_u16-end-requires : goal.put_u16-end-requires
put_u16-end-requires c =
    let records = c.in-Records.records in
    let room = rw c.in-Records.is at c.requires.room in
    omega (arith, room, length-append (1 ∷ big_endian 2 (length records)) (flat_map record_bytes records), length_big_endian 2 (length records), c.put_u8-end.ensures.behind, c.put_u8-end.auto.into)
