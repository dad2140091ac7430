use Rattle.std.proofs.Common.{◌≡◌, map}
use Rattle.hb_log_codec.specs.Reading.{logged}
use Rattle.hb_store.specs.Replay.{MayReplay, replay}
use Rattle.hb_store.specs.Replaying.{ReplaysOn, replayed_of}
use Rattle.hb_store.proofs.touched.Touched.follow_all.Given as goal

-- the groups so far were replayed
abbrev pub invariant-loop-group : goal.invariant-loop-group
invariant-loop-group l = record {
  may : MayReplay (replayed_of l.fn.self) (map logged l.yielded);
  leads : replayed_of l.self ≡ replay (replayed_of l.fn.self) (map logged l.yielded);
  on : ReplaysOn (replayed_of l.fn.self) (replayed_of l.self);
}
