use Rattle.std.proofs.Common.{[], ap, sym, subst}
use Rattle.hb_lemmas.proofs.Options.{some_value}
use Rattle.hb_store.specs.Held.{StoreHeld}
use Rattle.hb_store.specs.States.{IsNew, StoreState}
use Rattle.hb_store.specs.Keeps.{StoreKeeps}
use Rattle.hb_store.proofs.Openings.{fresh_keeps, is_new}
use Rattle.hb_store.proofs.store.Store.opened.Goals as goal

pub returns-in-Ok-clause-new : goal.returns-in-Ok-clause-new
returns-in-Ok-clause-new g c = subst (IsNew c.args.turn c.args.meta) (sym (ap (λ (h : StoreHeld). h.state) c.in-Ok.ensures)) (is_new c.args.turn c.args.meta)

pub returns-in-Ok-clause-keeps : goal.returns-in-Ok-clause-keeps
returns-in-Ok-clause-keeps g c = λ s fresh.
    let d = g.D.Device.model c.args.disk in
    let told = some_value d.told fresh.told in
    subst (λ (st : StoreState). StoreKeeps d st s []) (sym (ap (λ (h : StoreHeld). h.state) c.in-Ok.ensures)) (fresh_keeps d (g.met.D.Device.is_disk c.args.disk) c.args.turn c.args.meta s fresh c.requires.room told.0 told.1)
