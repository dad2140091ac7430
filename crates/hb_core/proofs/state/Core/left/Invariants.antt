use Rattle.std.proofs.Common.{◌≡◌, ◌≤◌, count_by, take}
use Rattle.hb_core.specs.Runs.{has_none}
use Rattle.hb_core.specs.CoreSeen.{core_disk, core_seen}
use Rattle.hb_steps.specs.KeptMachine.{MachineKeeps}
use Rattle.hb_steps.specs.Machines.{Machine}
use Rattle.hb_core.specs.Showing.{ShowsMachine}
use Rattle.hb_core.proofs.state.Core.left.Given as goal

-- those among the lines so far
abbrev pub invariant-loop-place : goal.invariant-loop-place
invariant-loop-place g l = record {
  few : l.left ≤ l.place;
  counted : (m : Machine) → ShowsMachine (g.D.Device.model (core_disk l.self)) (core_seen l.self) m → MachineKeeps m → l.left ≡ count_by (has_none m) (take l.place m.lines);
}
