use Rattle.std.proofs.Common.{subst, sym, ⊎_elim}
use Rattle.hb_core.specs.CoreSeen.{core_disk}
use Rattle.hb_run.specs.CourseSeen.{course_seen}
use Rattle.hb_run.specs.Courses.{KeepsRun}
use Rattle.hb_run.specs.declared.courses.Course.{Course}
use Rattle.hb_run.specs.Courses as specs
use Rattle.hb_run.specs.Ringing.{WakesAll}
use Rattle.hb_run.specs.UnderLock.{Board, TakesOneTurn, board_of}
use Rattle.hb_run.proofs.Going.{goes_on, may_turn}
use Rattle.hb_run.proofs.Saying.{takes_one}
use Rattle.hb_run.proofs.shared.Shared.turn.Goals as goal

pub take_turn-requires : goal.take_turn-requires
take_turn-requires g c = may_turn _ (course_seen g.D.Device.model g.K.Sink.model c.self.inside.course) c.self.invariant

pub invariant_of-self : goal.invariant_of-self
invariant_of-self g c =
    let P : Course g.row.D.Denot g.row.K.Denot g.D.Device g.K.Sink → Type 0 = λ x. KeepsRun g.N.Begun.beginning (course_seen g.D.Device.model g.K.Sink.model x) in
    ⊎_elim (λ rests. subst P (sym rests.0) c.self.invariant)
    (λ took. goes_on c.runs_go_on.ensures g.N.Begun.beginning c.args.seat.now.actor took.0 (course_seen g.D.Device.model g.K.Sink.model c.self.inside.course) (course_seen g.D.Device.model g.K.Sink.model c.take_turn.new.self)
    c.args.seat.now.may (g.met.D.Device.is_disk (core_disk c.self.inside.course.core)) (g.met.D.Device.is_disk (core_disk c.take_turn.new.self.core)) c.self.invariant took.1)
    c.take_turn.ensures.turn

pub returns-clause-one : goal.returns-clause-one
returns-clause-one g c =
    let seen : Course g.row.D.Denot g.row.K.Denot g.D.Device g.K.Sink → specs.Course = λ x. course_seen g.D.Device.model g.K.Sink.model x in
    let board : Course g.row.D.Denot g.row.K.Denot g.D.Device g.K.Sink → Board = λ x. board_of x.roster.moves x.roster.coming x.roster.nexts (seen x) in
    let takes = takes_one seen (λ x. x.roster.moves) (λ x. x.roster.coming) (λ x. x.roster.nexts) c.args.seat.now.actor c.self.inside.course.roster.free c.self.inside.course c.take_turn.new.self c.take_turn.result.0
    c.take_turn.ensures.turn c.take_turn.ensures.notes in
    subst (λ (b : Board). TakesOneTurn c.args.seat.now.actor c.take_turn.result.0 b (board c.take_turn.new.self)) c.self.view_is takes

pub returns-clause-wakes : goal.returns-clause-wakes
returns-clause-wakes g c =
    let board : Course g.row.D.Denot g.row.K.Denot g.D.Device g.K.Sink → Board = λ x. board_of x.roster.moves x.roster.coming x.roster.nexts (course_seen g.D.Device.model g.K.Sink.model x) in
    subst (λ (b : Board). WakesAll c.take_turn.result.1 b.signs (board c.take_turn.new.self).signs) c.self.view_is c.take_turn.ensures.wakes
