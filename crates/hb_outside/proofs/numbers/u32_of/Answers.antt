use Rattle.std.proofs.Common.{sym, ◌∙◌, arith}
use Rattle.hb_lemmas.proofs.Numbers.{spelled_4, big_number-spelled}
use Rattle.hb_outside.proofs.numbers.u32_of.Goals as goal

pub returns : goal.returns
returns c = λ n fits. (
  λ e. spelled_4 _ n c.requires (λ i. search (arith, c.type_inv.bytes i)) (sym c.read_u32.ensures ∙ e),
  λ e. c.read_u32.ensures ∙ big_number-spelled 4 n _ fits e,
)
