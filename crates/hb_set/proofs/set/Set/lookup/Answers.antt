use Rattle.std.proofs.Common.{◌≡◌, ◌∙◌, ap}
use Rattle.hb_set.specs.declared.commands.Reply.TheVariants.{Found}
use Rattle.hb_set.proofs.Views.{lookup_found, lookup_missing}
use Rattle.hb_set.proofs.set.Set.lookup.Goals as goal

pub returns-in-Ok : goal.returns-in-Ok
returns-in-Ok c =
    let body : c.new.result ≡ c.index.result.now.value.body = cc in
    record { answers = rw (← c.self.view_is) (ap Found body ∙ lookup_found _ _ _ c.index.result.now c.self.invariant (rw c.deref.ensures.value at c.in-Ok.ensures.found) c.index.ensures) }

pub returns-in-Err : goal.returns-in-Err
returns-in-Err c = record { answers = rw (← c.self.view_is) (lookup_missing _ _ _ c.self.invariant (rw c.deref.ensures.value at c.in-Err.ensures.absent)) }
