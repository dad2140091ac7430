use Rattle.hb_steps.proofs.keeping_laws.room_stays_known.Goals as goal
use Rattle.hb_steps.proofs.Room.RoomKept.{room_stays_known}

pub returns : goal.returns
returns c =
    room_stays_known
    (record {
      trees = record { areas = c.leaves_part_the_box.ensures.areas; attributes = c.leaves_part_the_box.ensures.attributes; within = c.leaves_part_the_box.ensures.within; some = c.each_point_has_one_leaf.ensures.some; only = c.each_point_has_one_leaf.ensures.only };
      parts = record { leaves = c.parts_are_stretches.ensures.leaves; weight = c.parts_are_stretches.ensures.weight };
    })
    c.limits_of_this_version.ensures.data_least
