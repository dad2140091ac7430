use Rattle.std.proofs.Common.{◌≡◌, ◌∙◌, insert}
use Rattle.hb_set.proofs.Views.{insert_there, insert_done}
use Rattle.hb_set.proofs.set.Set.put.Goals as goal
use Rattle.hb_lemmas.proofs.Options.{on_err}
use Rattle.hb_lemmas.proofs.SortedEntries.{get_gap, rise_insert}
use Rattle.std.proofs.lemmas.Cmp.{nat_list_cmp_total}
use Rattle.hb_set.specs.Kept.{point_behind, body_behind}
use Rattle.hb_lemmas.specs.Places.{IsGapFor}
use Rattle.hb_space.specs.Points.{point_cmp}

pub returns-in-Ok-clause-answers : goal.returns-in-Ok-clause-answers
returns-in-Ok-clause-answers c = rw (← c.self.view_is) (insert_there _ c.args.added.now _ c.self.invariant (rw c.deref.ensures.value at c.in-Ok.ensures.found))

-- memory was refused for a point that is not there
pub returns-in_err-handle-clause-absent : goal.returns-in_err-handle-clause-absent
returns-in_err-handle-clause-absent c = on_err c.from_residual.result (rw (← c.self.view_is) (get_gap nat_list_cmp_total point_behind body_behind _ _ _ c.self.invariant (rw c.deref.ensures.value at c.in-Err.ensures.absent)))

pub returns-in_err-insert-clause-absent : goal.returns-in_err-insert-clause-absent
returns-in_err-insert-clause-absent c = on_err c.from_residual-in_err-insert.result (rw (← c.self.view_is) (get_gap nat_list_cmp_total point_behind body_behind _ _ _ c.self.invariant (rw c.deref.ensures.value at c.in-Err.ensures.absent)))

-- what was added is what was asked, and it went into its gap
same_record : (c : goal.In_ok-insert) → c.in_ok-handle.handle.value ≡ c.args.added.now
same_record c = c.in_ok-handle.ensures.ok ∙ c.copy.ensures

in_gap : (c : goal.In_ok-insert) → IsGapFor point_cmp point_behind c.self.inside.records.items c.in_ok-handle.handle.value.key c.in-Err.place
in_gap c = rw (same_record c, ← c.deref.ensures.value) c.in-Err.ensures.absent

added : (c : goal.In_ok-insert) → c.insert.new.self.items ≡ insert c.self.inside.records.items c.in-Err.place c.in_ok-handle.handle
added c = c.in_ok-insert.ensures.items

pub invariant_of-self-2 : goal.invariant_of-self-2
invariant_of-self-2 c = rw (added c) (rise_insert nat_list_cmp_total point_behind body_behind _ c.in_ok-handle.handle _ c.self.invariant (in_gap c))

pub returns-clause-answers : goal.returns-clause-answers
returns-clause-answers c = rw (added c, ← c.self.view_is, ← same_record c) (insert_done _ c.in_ok-handle.handle _ c.self.invariant (in_gap c))
