use Rattle.std.proofs.Common.{◌-◌, arith}
use Rattle.hb_view.proofs.Replaced.{closed, opened}
use Rattle.hb_view.proofs.splicing.make_room.Goals as goal

pub returns-then-was-now : goal.returns-then-was-now
returns-then-was-now c = opened c.args.bytes.now c.open_gap.new.bytes c.args.at c.args.was c.args.now (c.args.now - c.args.was) c.requires.was c.requires.now (omega (arith, c.if-was-now.true)) c.open_gap.ensures

pub returns-else-was-now : goal.returns-else-was-now
returns-else-was-now c = closed c.args.bytes.now c.close_gap.new.bytes c.args.at c.args.was c.args.now (c.args.was - c.args.now) c.requires.was (omega (arith, c.if-was-now.false)) c.close_gap.ensures
