use Rattle.std.proofs.Common.{◌≡◌, ◌-◌, ◌++◌, length}
use Rattle.hb_gen.specs.Draws.{state_behind}
use Rattle.hb_gen.specs.Lines.{drawn_values, drawn_point}
use Rattle.hb_gen.proofs.drawing.draw_point.Given as goal

-- the values so far, and those that are still to be drawn
abbrev pub invariant-loop : goal.invariant-loop
invariant-loop l = record {
  told : l.values.items ++ drawn_values (l.fn.attributes.number - l.counter) l.draws.state ≡ drawn_point l.fn.attributes.number l.fn.session.number l.fn.draws.state;
  number : length l.values.items ≡ l.counter;
  left : state_behind (l.fn.attributes.number - l.counter) l.draws.state ≡ state_behind l.fn.attributes.number l.fn.draws.state;
}
