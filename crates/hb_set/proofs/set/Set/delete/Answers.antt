use Rattle.hb_set.proofs.Views.{delete_done, delete_absent}
use Rattle.hb_set.proofs.set.Set.delete.Goals as goal
use Rattle.hb_lemmas.proofs.SortedEntries.{rise_remove}
use Rattle.std.proofs.lemmas.Cmp.{nat_list_cmp_total}
use Rattle.hb_set.specs.Kept.{point_behind, body_behind}

pub invariant_of-self : goal.invariant_of-self
invariant_of-self c = rw c.remove.ensures.items (rise_remove nat_list_cmp_total point_behind body_behind _ _ _ c.self.invariant (rw c.deref.ensures.value at c.in-Ok.ensures.found))

pub returns-in-Ok-clause-answers : goal.returns-in-Ok-clause-answers
returns-in-Ok-clause-answers c = rw (c.remove.ensures.items, ← c.self.view_is) (delete_done _ _ _ c.self.invariant (rw c.deref.ensures.value at c.in-Ok.ensures.found))

pub returns-in-Err-clause-answers : goal.returns-in-Err-clause-answers
returns-in-Err-clause-answers c = rw (← c.self.view_is) (delete_absent _ _ _ c.self.invariant (rw c.deref.ensures.value at c.in-Err.ensures.absent))
