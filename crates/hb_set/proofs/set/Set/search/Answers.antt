use Rattle.std.proofs.Common.{◌∙◌}
use Rattle.hb_set.proofs.Views.{keys_have, search_done}
use Rattle.hb_set.proofs.set.Set.search.Goals as goal

pub held_by-requires : goal.held_by-requires
held_by-requires c = rw c.deref.ensures.value (record { rise = c.self.invariant; attributes = keys_have _ c.self.inside.records.items c.self.invariant (rw (← c.self.view_is) at c.requires) })

pub returns-in-Ok : goal.returns-in-Ok
returns-in-Ok c =
    let found = rw c.deref.ensures.value at (c.new.ensures ∙ c.in-Ok.ensures) in
    record { answers = rw (← c.self.view_is) (search_done c.self.inside.records.items c.args.area.now c.new.result c.self.invariant found) }
