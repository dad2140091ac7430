use Rattle.std.proofs.Common.{◌≡◌, length, map}
use Rattle.hb_store.specs.Replay.{untouched}
use Rattle.hb_store.specs.Replaying.{ReplaysOn, replayed_of, HasReplayed}
use Rattle.hb_store.proofs.reading.replayed.Given as goal

-- the payloads so far were replayed, and counted
abbrev pub invariant-loop-payload : goal.invariant-loop-payload
invariant-loop-payload l = record {
  replayed : HasReplayed l.meta (map (λ v. v.items) l.yielded) (replayed_of l.touched);
  on : ReplaysOn (untouched l.meta) (replayed_of l.touched);
  counted : l.frame ≡ length l.yielded;
}
