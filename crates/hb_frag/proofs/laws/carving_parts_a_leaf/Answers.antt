use Rattle.std.proofs.Common.{length}
use Rattle.hb_space.specs.Boxes.{common_area}
use Rattle.hb_frag.proofs.Facts.CarvedKinds.{no_siblings, carved_normal, carved_light}
use Rattle.hb_frag.proofs.CarvedParts.{carving_parts}
use Rattle.hb_frag.proofs.laws.carving_parts_a_leaf.Goals as goal

pub returns-clause-parts : goal.returns-clause-parts
returns-clause-parts c = λ leaf area outer inner h k same meets. carving_parts leaf area outer inner h k same meets

pub returns-clause-weight : goal.returns-clause-weight
returns-clause-weight c = λ leaf area outer inner. carved_light leaf (common_area leaf area) outer inner (length leaf.lo) 0

pub returns-clause-siblings : goal.returns-clause-siblings
returns-clause-siblings c = λ leaf area outer inner. no_siblings leaf (common_area leaf area) outer inner (length leaf.lo) 0 leaf

pub returns-clause-normal : goal.returns-clause-normal
returns-clause-normal c = λ leaf area outer inner other. carved_normal leaf (common_area leaf area) outer inner (length leaf.lo) 0 other
