use Rattle.std.proofs.Common.{sym, ◌∙◌, arith}
use Rattle.std.proofs.lemmas.Result.{err_from_is_err_and}
use Rattle.hb_text.proofs.ValueWords.{value_ok, value_err, values_done, drop_next}
use Rattle.hb_text.proofs.operands.read_values.Goals as goal

pub returns-in_err-read_value-clause-values : goal.returns-in_err-read_value-clause-values
returns-in_err-read_value-clause-values c =
    let p = err_from_is_err_and c.from_residual.result c.from_residual.ensures.1 in
    let cut = rw c.unwrap-word.ensures at c.next_word.ensures in
    rw (p.1, p.2) (sym c.loop.invariant.told ∙ value_err c.loop.values.items c.args.count c.loop.counter c.loop.words _ _ _ (omega arith) cut (sym c.in_err-read_value.ensures))

pub loop-preserved : goal.loop-preserved
loop-preserved c =
    let cut = rw c.unwrap-word.ensures at c.next_word.ensures in
    record {
      told = rw c.push.ensures.items (sym (value_ok c.loop.values.items c.args.count c.loop.counter c.loop.words _ _ _ (omega arith) cut (sym c.in_ok-read_value.ensures)) ∙ c.loop.invariant.told);
      number = omega (arith, c.push.ensures.len, c.loop.invariant.number);
      rest = drop_next c.loop.counter c.args.words.now _ _ (sym c.loop.invariant.rest ∙ cut);
    }

pub returns-clause-values : goal.returns-clause-values
returns-clause-values c = sym c.loop.invariant.told ∙ values_done c.loop.values.items c.args.count c.loop.counter c.loop.words (omega arith)
