use Rattle.hb_frag.proofs.Normals.{normal_is, normal_stays}
use Rattle.hb_frag.proofs.Facts.SayingTheSame.{says_the_same}
use Rattle.hb_frag.proofs.laws.normal_says_the_same.Goals as goal

pub returns-clause-normal : goal.returns-clause-normal
returns-clause-normal c = normal_is

pub returns-clause-stays : goal.returns-clause-stays
returns-clause-stays c = normal_stays

pub returns-clause-same : goal.returns-clause-same
returns-clause-same c = says_the_same
