-- A step is built that forces the groups that wait.
use Rattle.hb_steps.proofs.Chains.Names.{inl, [], length, refl, Scene, machine_of, last_of}
use Rattle.std.proofs.Common.{◌+◌}
use Rattle.hb_steps.specs.declared.outcomes.Outcome.{Outcome}
use Rattle.hb_steps.specs.Forcing.{ForcesAll}
use Rattle.hb_wal.specs.Forces.{calls_of_force}
use Rattle.hb_wal.specs.Frames.{frames}
use Rattle.hb_wal.specs.Log.{forced}

abbrev pub forced_scene : Scene → Scene
forced_scene s = record s {
  written = s.written + length (frames (forced s.groups));
  groups = [];
  durable = last_of s.durable s.later;
  later = [];
  clock = s.clock + calls_of_force s.groups;
}

pub forces : (s : Scene) (done : Outcome) → ForcesAll (machine_of s) done done (machine_of (forced_scene s))
forces s done = inl (refl, refl)
