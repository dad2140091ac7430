use Rattle.std.proofs.Common.{sym, ◌∙◌}
use Rattle.hb_run.specs.CourseSeen.{course_seen}
use Rattle.hb_run.proofs.Nexts.{no_job, some_job}
use Rattle.hb_run.proofs.courses.Course.hasnt_come.Goals as goal

pub returns-then-jobs_left-eq0 : goal.returns-then-jobs_left-eq0
returns-then-jobs_left-eq0 g c =
    rw c.in-NoJob.is (no_job c.args.self.now.roster.free c.args.self.now.roster.moves (course_seen g.D.Device.model g.K.Sink.model c.args.self.now) (sym c.is_stopped.ensures ∙ c.if-is_stopped.false) _ c.jobs_left.result c.is_done.result c.jobs_left.ensures c.is_done.ensures c.if-jobs_left-eq0.true)

pub returns-else-jobs_left-eq0 : goal.returns-else-jobs_left-eq0
returns-else-jobs_left-eq0 g c =
    rw c.in-NoJob.is (some_job c.args.self.now.roster.free c.args.self.now.roster.moves (course_seen g.D.Device.model g.K.Sink.model c.args.self.now) (sym c.is_stopped.ensures ∙ c.if-is_stopped.false) _ c.jobs_left.result c.jobs_left.ensures c.if-jobs_left-eq0.false)
