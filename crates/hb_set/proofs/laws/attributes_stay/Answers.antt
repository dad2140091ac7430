use Rattle.hb_set.proofs.Facts.MachineLaws.{attributes-empty, attributes_answered}
use Rattle.hb_set.proofs.laws.attributes_stay.Goals as goal

pub returns-clause-empty : goal.returns-clause-empty
returns-clause-empty c = attributes-empty

pub returns-clause-answered : goal.returns-clause-answered
returns-clause-answered c = attributes_answered
