use Rattle.hb_run.specs.CourseSeen.{course_seen}
use Rattle.hb_run.specs.Courses.{KeepsRun}
use Rattle.hb_run.proofs.threads.turn_each.Given as goal

abbrev pub invariant-loop-actor : goal.invariant-loop-actor
invariant-loop-actor g l = KeepsRun g.N.Begun.beginning (course_seen g.D.Device.model g.K.Sink.model l.course)
