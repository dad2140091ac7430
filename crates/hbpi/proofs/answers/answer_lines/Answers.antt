use Rattle.std.proofs.Common.{ℕ, sym, ap, subst, arith, length, length-append}
use Rattle.hb_set.specs.Machine.{HasAttributes}
use Rattle.hb_set.proofs.Facts.ScriptLaws.{line_attributes, script_is_short}
use Rattle.hb_set.specs.declared.scripts.Answered.{Answered}
use Rattle.hb_outside.proofs.Facts.PutLaws.{has_put_more}
use Rattle.hbpi.proofs.PutTexts.{has_put_none, answer_texts}
use Rattle.hbpi.proofs.RunLines.{ran_more, order_more, run_is_dry}
use Rattle.hbpi.proofs.answers.answer_lines.Goals as goal

pub loop-line-init : goal.loop-line-init
loop-line-init g c = record {
  ran = rw c.in_ok-answered.ensures.items c.in_ok-set.ensures.empty;
  order = c.in_ok-order.ensures.items;
  attributes = λ k script. c.in_ok-set.ensures.attributes k;
  answered_count = ap length c.in_ok-answered.ensures.items;
  answered_room = omega (arith, c.in_ok-answered.ensures.exact);
  order_count = omega (arith, ap length c.in_ok-order.ensures.items);
  order_room = omega (arith, c.in_ok-order.ensures.exact);
  put = has_put_none _ _ c.in_ok-answered.ensures.items;
}

pub answer-reply-requires : goal.answer-reply-requires
answer-reply-requires g c =
    let k = c.requires.0 in
    let script = c.requires.1 in
    let same = line_attributes k c.args.lines.now c.loop-line.line-index c.line-item.result script.lines (omega arith) c.line-item.is in
    subst (λ (k : ℕ). HasAttributes k c.loop-line.set) (sym same) (c.loop-line.invariant.attributes k script)

pub loop-line-preserved : goal.loop-line-preserved
loop-line-preserved g c =
    let before = c.loop-line.invariant in
    let kept = c.keep_answer.ensures.items in
    record {
      ran = ran_more c.args.lines.now c.loop-line.line-index c.line-item.result _ _ c.loop-line.set _ _ (omega arith) c.line-item.is before.ran c.answer-reply.ensures.answers c.answer-reply.ensures.memory kept;
      order = order_more c.args.lines.now c.loop-line.line-index c.line-item.result _ _ _ _ _ (omega arith) c.line-item.is before.answered_count before.order c.join_order.ensures.gains.items kept;
      attributes = λ k script. subst (λ (n : ℕ). HasAttributes n c.answer-reply.new.self)
          (line_attributes k c.args.lines.now c.loop-line.line-index c.line-item.result script.lines (omega arith) c.line-item.is)
          c.answer-reply.ensures.attributes;
      answered_count = omega (arith, ap length kept, length-append {A = Answered}, before.answered_count);
      answered_room = omega (arith, c.keep_answer.ensures.room_stays, before.answered_room);
      order_count = omega (arith, c.join_order.ensures.one, before.order_count, c.join_order.new.order.ok.0, c.loop-line.order.ok.0);
      order_room = omega (arith, c.join_order.ensures.gains.room_stays, before.order_room);
      put = rw (answer_texts c.loop-line.answered.items _ _ kept) (has_put_more _ _ _ _ _ _ _ before.put c.put_answer-put.ensures);
    }

pub returns-clause-run : goal.returns-clause-run
returns-clause-run g c =
    run_is_dry c.requires.0 c.args.lines.now c.loop-line.line-index _ _ c.loop-line.set (omega arith) c.requires.1 c.loop-line.invariant.ran c.loop-line.invariant.order

pub returns-clause-few : goal.returns-clause-few
returns-clause-few g c = omega (arith, script_is_short c.requires.0 c.args.lines.now c.requires.1, c.loop-line.invariant.order_count, c.loop-line.auto.line-index-end)
