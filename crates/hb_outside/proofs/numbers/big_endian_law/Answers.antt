use Rattle.hb_lemmas.proofs.Numbers.{length_big_endian, big_endian-small, big_endian-injective}
use Rattle.hb_outside.proofs.numbers.big_endian_law.Goals as goal

pub returns-clause-count : goal.returns-clause-count
returns-clause-count c = length_big_endian

pub returns-clause-bytes : goal.returns-clause-bytes
returns-clause-bytes c = big_endian-small

pub returns-clause-injective : goal.returns-clause-injective
returns-clause-injective c = big_endian-injective
