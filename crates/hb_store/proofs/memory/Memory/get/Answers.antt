use Rattle.std.proofs.Common.{Some, sym, ap, ◌∙◌}
use Rattle.hb_store.specs.Held.{StoreHeld}
use Rattle.hb_store.specs.States.{in_memory}
use Rattle.hb_view.specs.Spelled.{page_or}
use Rattle.hb_store.proofs.Called.{is_read, lent_none, lent_some}
use Rattle.hb_store.proofs.Framed.{page_seen}
use Rattle.hb_store.proofs.memory.Memory.get.Goals as goal

pub of_spelled-requires : goal.of_spelled-requires
of_spelled-requires c = is_read c.in-Some.bytes.now (lent_some c.self.inside.pool c.args.id c.in-Some.bytes.now c.self.invariant.spelled c.in-Some.ensures).0

pub returns-in-Some : goal.returns-in-Some
returns-in-Some c =
    let l = lent_some c.self.inside.pool c.args.id c.in-Some.bytes.now c.self.invariant.spelled c.in-Some.ensures in
    ap (λ o. Some (page_or o)) (sym c.of_spelled.ensures) ∙ sym l.1 ∙ sym (page_seen c.self.inside.pool c.args.id) ∙ ap (λ (h : StoreHeld). in_memory h.state c.args.id) c.self.view_is

pub returns-in-None : goal.returns-in-None
returns-in-None c =
    sym (lent_none c.self.inside.pool c.args.id c.in-None.ensures) ∙ sym (page_seen c.self.inside.pool c.args.id) ∙ ap (λ (h : StoreHeld). in_memory h.state c.args.id) c.self.view_is
