use Rattle.hb_run.specs.CourseSeen.{course_seen}
use Rattle.hb_run.specs.Courses.{KeepsRun}
use Rattle.hb_run.proofs.threads.work_off.Given as goal

abbrev pub invariant-loop : goal.invariant-loop
invariant-loop g l = KeepsRun g.N.Begun.beginning (course_seen g.D.Device.model g.K.Sink.model l.course)
