use Rattle.std.proofs.Common.{sym, ◌∙◌, arith}
use Rattle.hb_lemmas.proofs.Numbers.{spelled_2, big_number-spelled}
use Rattle.hb_outside.proofs.numbers.u16_of.Goals as goal

pub returns : goal.returns
returns c = λ n fits. (
  λ e. spelled_2 _ n c.requires (λ i. search (arith, c.type_inv.bytes i)) (sym c.read_u16.ensures ∙ e),
  λ e. c.read_u16.ensures ∙ big_number-spelled 2 n _ fits e,
)
