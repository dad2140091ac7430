use Rattle.hb_core.specs.CoreSeen.{core_disk}
use Rattle.hb_run.specs.CourseSeen.{course_seen}
use Rattle.hb_run.proofs.Going.{goes_on, may_turn}
use Rattle.hb_run.proofs.threads.turn_each.Goals as goal

pub turn-turn-requires : goal.turn-turn-requires
turn-turn-requires g c = may_turn _ (course_seen g.D.Device.model g.K.Sink.model c.loop-actor.course) c.loop-actor.invariant

pub loop-actor-preserved : goal.loop-actor-preserved
loop-actor-preserved g c =
    goes_on c.runs_go_on.ensures g.N.Begun.beginning c.of.result.actor c.turn-turn.ensures.turn.0 (course_seen g.D.Device.model g.K.Sink.model c.loop-actor.course) (course_seen g.D.Device.model g.K.Sink.model c.turn-turn.new.self)
    c.of.result.may (g.met.D.Device.is_disk (core_disk c.loop-actor.course.core)) (g.met.D.Device.is_disk (core_disk c.turn-turn.new.self.core)) c.loop-actor.invariant c.turn-turn.ensures.turn.1
