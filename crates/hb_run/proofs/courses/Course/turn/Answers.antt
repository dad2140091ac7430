use Rattle.std.proofs.Common.{arith, ◌-◌}
use Rattle.std.specs.Vec.{vec_capacity}
use Rattle.hb_core.specs.CoreSeen.{core_seen, core_disk}
use Rattle.hb_steps.specs.Performing.{given_by}
use Rattle.hb_run.proofs.Going.{leaves_lines, less_left, room_on}
use Rattle.hb_run.proofs.Idle.{no_line_left}
use Rattle.hb_run.proofs.courses.Course.turn.Goals as goal

pub overflow_sub-self : goal.overflow_sub-self
overflow_sub-self g c =
    let lines = leaves_lines c.runs_go_on.ensures _ _ _ _ _ _ _ _ (g.met.D.Device.is_disk (core_disk c.args.self.now.core)) (g.met.D.Device.is_disk (core_disk c.step-outcome.new.self))
    c.args.seat.now.may c.step-outcome.ensures.steps c.step-outcome.ensures.touches c.clock-at.ensures c.args.self.now.shows in
    let same = c.answers_of.ensures c.clock-at.result in
    let fits = lines.fits in
    omega (arith, same, fits)

pub take_answer-self-requires : goal.take_answer-self-requires
take_answer-self-requires g c =
    let lines = leaves_lines c.runs_go_on.ensures _ _ _ _ _ _ _ _ (g.met.D.Device.is_disk (core_disk c.args.self.now.core)) (g.met.D.Device.is_disk (core_disk c.step-outcome.new.self))
    c.args.seat.now.may c.step-outcome.ensures.steps c.step-outcome.ensures.touches c.clock-at.ensures c.args.self.now.shows in
    let room = c.args.self.now.room in
    let fits = lines.fits in
    omega (arith, room, fits)

pub invariant_of-self : goal.invariant_of-self
invariant_of-self g c =
    let lines = leaves_lines c.runs_go_on.ensures _ _ _ _ _ _ _ _ (g.met.D.Device.is_disk (core_disk c.args.self.now.core)) (g.met.D.Device.is_disk (core_disk c.step-outcome.new.self))
    c.args.seat.now.may c.step-outcome.ensures.steps c.step-outcome.ensures.touches c.clock-at.ensures c.args.self.now.shows in
    let same = c.answers_of.ensures c.clock-at.result in
    record {
      shows = lines.shows (c.args.self.now.left - c.answers_of.result) (less_left _ _ _ same lines.fits);
      room = room_on _ _ c.args.self.now.answered.items (given_by c.step-outcome.result c.clock-at.result) c.take_answer-self.new.answered.items c.answers_of.result c.args.self.now.left
          (vec_capacity c.args.self.now.answered) (vec_capacity c.take_answer-self.new.answered)
          c.args.self.now.answered.ok.0 c.take_answer-self.new.answered.ok.0 c.take_answer-self.ensures.kept same lines.fits c.args.self.now.room c.take_answer-self.ensures.room;
    }

pub returns-clause-turn : goal.returns-clause-turn
returns-clause-turn g c =
    let lines = leaves_lines c.runs_go_on.ensures _ _ _ _ _ _ _ _ (g.met.D.Device.is_disk (core_disk c.args.self.now.core)) (g.met.D.Device.is_disk (core_disk c.step-outcome.new.self))
    c.args.seat.now.may c.step-outcome.ensures.steps c.step-outcome.ensures.touches c.clock-at.ensures c.args.self.now.shows in (
      c.step-outcome.result,
      record {
        steps = c.step-outcome.ensures.steps;
        touches = c.step-outcome.ensures.touches;
        counts = c.step-outcome.ensures.counts;
        at = c.clock-at.result;
        clock = c.clock-at.ensures;
        answers = c.take_answer-self.ensures.kept;
        written = c.take_answer-self.ensures.puts;
        left_is = less_left _ _ _ (c.answers_of.ensures c.clock-at.result) lines.fits;
        room = c.take_answer-self.ensures.room;
      },
      c.turn_of-turn.ensures,
    )

pub returns-clause-idle : goal.returns-clause-idle
returns-clause-idle g c =
    λ idle le.
    no_line_left (g.D.Device.model (core_disk c.args.self.now.core)) (g.D.Device.model (core_disk c.step-outcome.new.self)) (core_seen c.args.self.now.core) (core_seen c.step-outcome.new.self)
    c.args.seat.now.actor c.step-outcome.result c.turn_of-turn.result c.requires c.step-outcome.ensures.steps c.args.seat.now.may c.turn_of-turn.ensures idle le
