use Rattle.std.proofs.Common.{◌≡◌, ◌-◌, ◌*◌, ◌++◌, length}
use Rattle.hb_gen.specs.Draws.{state_behind}
use Rattle.hb_gen.specs.Lines.{drawn_lows, drawn_highs}
use Rattle.hb_gen.proofs.drawing.draw_box.Given as goal

-- the corners so far, and what is still to be drawn
abbrev pub invariant-loop : goal.invariant-loop
invariant-loop l = record {
  lows : l.lower.items ++ drawn_lows (l.fn.attributes.number - l.counter) l.draws.state ≡ drawn_lows l.fn.attributes.number l.fn.draws.state;
  highs : l.upper.items ++ drawn_highs (l.fn.attributes.number - l.counter) l.draws.state ≡ drawn_highs l.fn.attributes.number l.fn.draws.state;
  low_count : length l.lower.items ≡ l.counter;
  high_count : length l.upper.items ≡ l.counter;
  left : state_behind (2 * (l.fn.attributes.number - l.counter)) l.draws.state ≡ state_behind (2 * l.fn.attributes.number) l.fn.draws.state;
}
