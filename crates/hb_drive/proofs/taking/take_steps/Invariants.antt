use Rattle.std.proofs.Common.{◌≤◌, length, take}
use Rattle.std.specs.List.{flat_map}
use Rattle.std.specs.Vec.{vec_capacity}
use Rattle.hb_outside.specs.Calls.{Puts}
use Rattle.hb_text.specs.Output.{answer_text}
use Rattle.hb_core.specs.CoreSeen.{core_seen, core_disk}
use Rattle.hb_steps.specs.Machines.{Machine}
use Rattle.hb_core.specs.Runs.{HasRun}
use Rattle.hb_core.specs.Working.{MayStep}
use Rattle.hb_drive.proofs.taking.take_steps.Given as goal

-- the steps so far led from each machine of the beginning to one that the core shows, and the text of their answers was put
abbrev pub invariant-loop-actor : goal.invariant-loop-actor
invariant-loop-actor g l = record {
  runs : (m : Machine) → MayStep (g.D.Device.model (core_disk l.fn.core)) (core_seen l.fn.core) m →
      HasRun (g.D.Device.model (core_disk l.fn.core)) m (take l.actor-index l.steps) l.answered.items (g.D.Device.model (core_disk l.core)) (core_seen l.core);
  room : length (core_seen l.fn.core).lines ≤ vec_capacity l.answered;
  put : Puts (flat_map answer_text l.answered.items) l.put (g.K.Sink.model l.fn.sink) (g.K.Sink.model l.sink);
}
