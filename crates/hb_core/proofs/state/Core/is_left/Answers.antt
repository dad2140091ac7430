use Rattle.hb_core.specs.CoreSeen.{core_disk, core_seen}
use Rattle.hb_core.proofs.Running.Unanswered.{come_to, to_come}
use Rattle.std.proofs.Common.{refl}
use Rattle.hb_core.proofs.state.Core.is_left.Goals as goal

pub returns-then-self-session : goal.returns-then-self-session
returns-then-self-session g c = λ m shows kept there.
    to_come (g.D.Device.model (core_disk c.args.self.now)) (core_seen c.args.self.now) m c.args.place c.from-session.result c.args.line.now _ shows c.requires.first c.requires.last there c.from-session.ensures c.if-self-session.true refl

pub returns : goal.returns
returns g c = λ m shows kept there.
    come_to (g.D.Device.model (core_disk c.args.self.now)) (core_seen c.args.self.now) m c.args.place c.from-session.result c.args.line.now c.line_in_hand.result c.is_number.result shows kept c.requires.first c.requires.last there
    c.from-session.ensures c.if-self-session.false c.line_in_hand.ensures c.is_number.ensures
