-- The kinds of actors that were worked out by hand.
use Rattle.std.proofs.Common.{refl}
use Rattle.hb_set.specs.declared.commands.Reply.{Reply}
use Rattle.hb_set.specs.declared.scripts.Line.{Line}
use Rattle.hb_activity.specs.declared.jobs.Job.{Job}
use Rattle.hb_activity.specs.Examples.{KindsByHand}

pub kinds_by_hand : (line : Line) (reply : Reply) (job : Job) → KindsByHand line reply job
kinds_by_hand line reply job = record {
  walks = record { kind_is = refl; hand_is = refl; idle_is = refl };
  splits = record { kind_is = refl; hand_is = refl; idle_is = refl };
  waits = record { kind_is = refl; hand_is = refl; idle_is = refl };
  idle = record { kind_is = refl; hand_is = refl; idle_is = refl };
  posts = record { kind_is = refl; hand_is = refl; idle_is = refl };
  posts_nothing = record { kind_is = refl; hand_is = refl; idle_is = refl };
  merges = record { kind_is = refl; hand_is = refl; idle_is = refl };
  merges_nothing = record { kind_is = refl; hand_is = refl; idle_is = refl };
  flushes = record { kind_is = refl; hand_is = refl; idle_is = refl };
}
