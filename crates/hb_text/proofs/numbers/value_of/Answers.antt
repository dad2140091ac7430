use Rattle.std.proofs.Common.{arith}
use Rattle.hb_text.proofs.NumberWords.{digit_at, carried, passes, all_read}
use Rattle.hb_text.proofs.numbers.value_of.Goals as goal

pub with_digit-requires : goal.with_digit-requires
with_digit-requires c = digit_at c.args.digits.now c.requires c.loop-digit.digit-index (omega arith)

pub returns-in_err-value : goal.returns-in_err-value
returns-in_err-value c = rw c.from_residual.ensures (passes c.loop-digit.value c.args.digits.now c.loop-digit.digit-index _ (omega arith) c.loop-digit.invariant.whole c.in_err-value.ensures)

pub loop-digit-preserved : goal.loop-digit-preserved
loop-digit-preserved c = record {
  fits = omega (arith, c.in_ok-value.ensures.0, c.in_ok-value.ensures.1);
  whole = carried c.loop-digit.value c.args.digits.now c.loop-digit.digit-index c.in_ok-value.value (omega arith) c.loop-digit.invariant.whole c.in_ok-value.ensures.1;
}

pub returns : goal.returns
returns c =
    let same = all_read c.loop-digit.value c.args.digits.now c.loop-digit.digit-index (omega arith) c.loop-digit.invariant.whole in
    (omega (arith, same, c.loop-digit.invariant.fits), same)
