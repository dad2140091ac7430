use Rattle.std.proofs.Common.{◌∙◌, sym, subst}
use Rattle.hb_space.specs.Boxes.{Holds}
use Rattle.hb_space.proofs.Facts.Lists.{first_of_four}
use Rattle.hb_space.proofs.Facts.Boxes.{same_corners, Holds-whole_area}
use Rattle.hb_space.proofs.areas.Area.whole.Goals as goal

pub returns-clause-value : goal.returns-clause-value
returns-clause-value c =
    c.of_corners.ensures ∙ same_corners _ _
    (first_of_four c.new.result c.from-k.result c.args.k 0 c.new.ensures c.from-k.ensures c.requires.few)
    (first_of_four c.new-2.result c.from-k.result c.args.k 18446744073709551615 c.new-2.ensures c.from-k.ensures c.requires.few)

pub returns-clause-all : goal.returns-clause-all
returns-clause-all c = λ p point same.
    subst (λ a. Holds a p) (sym (returns-clause-value c)) (Holds-whole_area c.args.k p point same)
