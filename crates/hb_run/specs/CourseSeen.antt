-- What contracts see of a run.
use Rattle.std.specs.Vec.{vec_capacity}
use Rattle.hb_disk.specs.Model.{DiskModel}
use Rattle.hb_disk.specs.declared.traits.Device.{Ghosts}
use Rattle.hb_outside.specs.Calls.{SinkModel}
use Rattle.hb_outside.specs.declared.traits.Sink as sinks
use Rattle.hb_core.specs.CoreSeen.{core_seen, core_disk}
use Rattle.hb_run.specs.Courses as courses
use Rattle.hb_run.specs.declared.courses.Course.{Course}

abbrev pub course_seen : {D K : Type 0} {g : Ghosts D} {h : sinks.Ghosts K} → (D → DiskModel) → (K → SinkModel) → Course D K g h → courses.Course
course_seen disk sink c = record {
  disk = disk (core_disk c.core);
  core = core_seen c.core;
  sink = sink c.sink;
  put = c.put;
  answers = c.answered.items;
  room = vec_capacity c.answered;
  left = c.left;
}
