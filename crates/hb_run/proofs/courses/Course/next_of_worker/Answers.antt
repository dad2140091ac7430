use Rattle.std.proofs.Common.{refl, sym, ◌∙◌}
use Rattle.hb_run.specs.CourseSeen.{course_seen}
use Rattle.hb_run.proofs.Nexts.{worker_goes, worker_waits}
use Rattle.hb_run.proofs.courses.Course.next_of_worker.Goals as goal

pub returns-then-jobs_left-eq0 : goal.returns-then-jobs_left-eq0
returns-then-jobs_left-eq0 g c =
    λ effects. (
      refl,
      worker_waits c.args.self.now.roster.free c.args.self.now.roster.moves (course_seen g.D.Device.model g.K.Sink.model c.args.self.now) c.requires c.args.kind.now (sym c.jobs_left.ensures ∙ c.if-jobs_left-eq0.true) (sym c.is_done.ensures ∙ c.if-is_done.false),
    )

pub returns : goal.returns
returns g c = λ effects. worker_goes c.args.self.now.roster.free c.args.self.now.roster.moves (course_seen g.D.Device.model g.K.Sink.model c.args.self.now) c.requires c.args.kind.now effects (λ none. c.if-jobs_left-eq0.false (c.jobs_left.ensures ∙ none))
