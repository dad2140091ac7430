use Rattle.std.proofs.Common.{◌≡◌, ◌≤◌, ◌+◌, ◌++◌, filter, length, map, take, vec_capacity}
use Rattle.hb_set.specs.declared.scripts.Line.{Line}
use Rattle.hb_core.specs.Runs.{has_none}
use Rattle.hb_core.specs.CoreSeen.{core_disk, core_seen}
use Rattle.hb_steps.specs.KeptMachine.{MachineKeeps}
use Rattle.hb_steps.specs.Machines.{Machine}
use Rattle.hb_core.specs.Showing.{ShowsMachine}
use Rattle.hb_core.proofs.state.Core.unanswered.Given as goal

-- those among the lines so far
abbrev pub invariant-loop-place : goal.invariant-loop-place
invariant-loop-place g l = record {
  room : vec_capacity l.fn.into ≤ vec_capacity l.into;
  few : length l.into.items ≤ length l.fn.into.items + l.place;
  put : (m : Machine) → ShowsMachine (g.D.Device.model (core_disk l.self)) (core_seen l.self) m → MachineKeeps m
      → l.into.items ≡ l.fn.into.items ++ map (λ (line : Line). line.number) (filter (has_none m) (take l.place m.lines));
}
