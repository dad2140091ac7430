use Rattle.std.proofs.Common.{◌≡◌, ◌<◌, arith}
use Rattle.std.specs.Vec.{vec_len}
use Rattle.hb_pool.proofs.Facts.Pooled.{kept_brought, room_there}
use Rattle.hb_pool.proofs.Facts.Slotted.{no_entry}
use Rattle.hb_pool.proofs.Facts.Lodged.{brought_more, brought_full}
use Rattle.hb_pool.proofs.pools.Pool.bring.Goals as goal

pub add_last-requires-clause-absent : goal.add_last-requires-clause-absent
add_last-requires-clause-absent c = no_entry c.self.inside.slots.items c.self.inside.order c.args.id (rw (← c.self.view_is) at c.requires.absent)

pub invariant_of-self : goal.invariant_of-self
invariant_of-self c =
    let some : 0 < vec_len c.self.inside.spare = omega (arith, c.in-Some.ensures.cases) in
    record {
      frames = kept_brought _ _ _ _ _ _ _ _ c.args.id c.args.bytes.now c.args.dirty c.self.invariant.frames
          (rw (← c.self.view_is) at c.requires.absent) (rw (← c.self.view_is) at c.requires.place) c.told-bytes
          (brought_more _ _ _ _ _ c.args.id c.args.bytes.now c.args.dirty _ c.self.invariant.frames some c.add_last.ensures.frames (c.new-slot.ensures c.args.id))
          c.add_last.ensures.room (omega (arith, c.in-Some.ensures.len)) c.one_if.ensures;
      each = c.add_last.ensures.each;
    }

pub replace_first-requires-clause-absent : goal.replace_first-requires-clause-absent
replace_first-requires-clause-absent c = no_entry c.self.inside.slots.items c.self.inside.order c.args.id (rw (← c.self.view_is) at c.requires.absent)

pub replace_first-requires-clause-there : goal.replace_first-requires-clause-there
replace_first-requires-clause-there c = room_there _ _ _ _ c.self.invariant.frames (rw (← c.self.view_is) at c.requires.place) (omega (arith, c.in-None.ensures.cases))

pub invariant_of-self-in-None : goal.invariant_of-self-in-None
invariant_of-self-in-None c =
    let none : vec_len c.self.inside.spare ≡ 0 = omega (arith, c.in-None.ensures.cases) in
    record {
      frames = kept_brought _ _ _ _ _ _ _ _ c.args.id c.args.bytes.now c.args.dirty c.self.invariant.frames
          (rw (← c.self.view_is) at c.requires.absent) (rw (← c.self.view_is) at c.requires.place) c.told-bytes
          (brought_full _ _ _ _ _ c.args.id c.args.bytes.now c.args.dirty c.self.invariant.frames none c.replace_first.ensures.frames)
          c.replace_first.ensures.room (omega (arith, c.in-None.ensures.len)) c.one_if.ensures;
      each = c.replace_first.ensures.each;
    }

pub returns-in-Some : goal.returns-in-Some
returns-in-Some c =
    let some : 0 < vec_len c.self.inside.spare = omega (arith, c.in-Some.ensures.cases) in
    rw (← c.self.view_is) (brought_more _ _ _ _ _ c.args.id c.args.bytes.now c.args.dirty _ c.self.invariant.frames some c.add_last.ensures.frames (c.new-slot.ensures c.args.id))

pub returns-in-None : goal.returns-in-None
returns-in-None c =
    let none : vec_len c.self.inside.spare ≡ 0 = omega (arith, c.in-None.ensures.cases) in
    rw (← c.self.view_is) (brought_full _ _ _ _ _ c.args.id c.args.bytes.now c.args.dirty c.self.invariant.frames none c.replace_first.ensures.frames)
