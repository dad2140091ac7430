-- What becomes of a line or a job that can't go on: by what the actor has in hand, and of which kind it is.
use Rattle.std.specs.Prelude.{[], None}
use Rattle.hb_set.specs.declared.commands.Reply.{Reply}
use Rattle.hb_set.specs.declared.commands.Reply.TheVariants as replies
use Rattle.hb_activity.specs.declared.dropping.DropWhy.{DropWhy}
use Rattle.hb_activity.specs.declared.dropping.DropWhy.TheVariants as drops
use Rattle.hb_activity.specs.declared.activities.Activity.{Activity}
use Rattle.hb_activity.specs.Classes.{Hand, Empty, HasLine, HasJob, class_of, hand_of, idle_of}
use Rattle.hb_activity.specs.Deeds.{Deed, Drops, answers_now, moves_to}

abbrev pub reply_for : DropWhy → Reply
reply_for drops.NoMemory = replies.NoMemory
reply_for drops.ReadFault = replies.ReadFault

-- a worker's job is dropped, and it stands as one with nothing in hand
abbrev pub drops_job : DropWhy → Activity → Deed
drops_job why idle = record { next = idle; op = None; takes = None; adds = []; joins = None; says = Drops why }

-- What an actor gives up: a session's line is answered outside the order, and a worker's job is dropped. Who has nothing in hand
-- has nothing to give up.
abbrev pub gives_up_hand : DropWhy → Activity → Hand → Deed
gives_up_hand why idle Empty = moves_to idle []
gives_up_hand why idle (HasLine line) = answers_now line.number (reply_for why)
gives_up_hand why idle (HasJob job) = drops_job why idle

abbrev pub gives_up : DropWhy → Activity → Deed
gives_up why activity = gives_up_hand why (idle_of (class_of activity)) (hand_of activity)
