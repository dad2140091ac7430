use Rattle.std.proofs.Common.{subst, sym}
use Rattle.hb_set.specs.Machine.{RecordSet, HasAttributes}
use Rattle.hb_set.proofs.Facts.MachineLaws.{attributes-empty}
use Rattle.hb_set.proofs.set.Set.new.Goals as goal
use Rattle.hb_lemmas.proofs.SortedEntries.{map_empty}
use Rattle.std.proofs.lemmas.Cmp.{nat_list_cmp_total}
use Rattle.hb_set.specs.Kept.{point_behind, body_behind}

pub returns-clause-empty : goal.returns-clause-empty
returns-clause-empty c = map_empty nat_list_cmp_total point_behind body_behind _ c.in_ok-with_capacity.ensures.items

pub returns-clause-attributes : goal.returns-clause-attributes
returns-clause-attributes c k = subst (λ (m : RecordSet). HasAttributes k m) (sym (map_empty nat_list_cmp_total point_behind body_behind _ c.in_ok-with_capacity.ensures.items)) (attributes-empty k)
