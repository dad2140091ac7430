use Rattle.std.proofs.Common.{◌≡◌, ℕ, ◌≤◌, length, take}
use Rattle.std.specs.Vec.{vec_capacity}
use Rattle.std.specs.List.{flat_map}
use Rattle.std.specs.FinMap as map
use Rattle.hb_set.specs.Machine.{HasAttributes}
use Rattle.hb_set.specs.Order.{Ran, entries_of, order_of}
use Rattle.hb_set.specs.Scripts.{IsScriptFor}
use Rattle.hb_text.specs.Output.{answer_text}
use Rattle.hb_outside.specs.Calls.{Puts}
use Rattle.hbpi.proofs.answers.answer_lines.Given as goal

-- the lines so far were answered, and the text of their answers was put
abbrev pub invariant-loop-line : goal.invariant-loop-line
invariant-loop-line g l = record {
  ran : Ran map.empty (take l.line-index l.lines) l.answered.items l.set;
  order : l.order.items ≡ order_of (entries_of (take l.line-index l.lines) l.answered.items);
  attributes : (k : ℕ) → IsScriptFor k l.lines → HasAttributes k l.set;
  answered_count : length l.answered.items ≡ l.line-index;
  answered_room : length l.lines ≤ vec_capacity l.answered;
  order_count : length l.order.items ≤ l.line-index;
  order_room : length l.lines ≤ vec_capacity l.order;
  put : Puts (flat_map answer_text l.answered.items) l.put (g.K.Sink.model l.fn.sink) (g.K.Sink.model l.sink);
}
