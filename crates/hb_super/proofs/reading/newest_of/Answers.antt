use Rattle.std.proofs.Common.{ℕ, Option, subst}
use Rattle.hb_layout.specs.declared.meta.Meta.{Meta}
use Rattle.hb_super.specs.Reading.{StandsInPlace}
use Rattle.hb_super.proofs.Supers.{first_alone, second_alone}
use Rattle.hb_super.proofs.reading.newest_of.Goals as goal

pub returns-in-Some-None-clause-newest : goal.returns-in-Some-None-clause-newest
returns-in-Some-None-clause-newest c = λ bytes one two.
    first_alone bytes c.in-Some-None.first
    (subst (λ (o : Option (ℕ × Meta)). StandsInPlace 0 o bytes) c.in-Some-None.is-0 one)
    (subst (λ (o : Option (ℕ × Meta)). StandsInPlace 1 o bytes) c.in-Some-None.is-1 two)

pub returns-in-None-default-clause-newest : goal.returns-in-None-default-clause-newest
returns-in-None-default-clause-newest c = λ bytes one two.
    second_alone bytes c.args.second (subst (λ (o : Option (ℕ × Meta)). StandsInPlace 0 o bytes) c.in-None-default.is-0 one) two
