use Rattle.std.proofs.Common.{sym, ap, ◌∙◌}
use Rattle.hb_store.specs.Held.{StoreHeld}
use Rattle.hb_store.specs.States.{in_memory}
use Rattle.hb_store.proofs.Called.{lent_bytes}
use Rattle.hb_store.proofs.Framed.{page_seen}
use Rattle.hb_store.proofs.memory.Memory.bytes.Goals as goal

pub returns : goal.returns
returns c =
    lent_bytes c.get.result c.self.inside.pool c.args.id (in_memory c.args.self.now.state c.args.id) c.self.invariant.spelled c.get.ensures
    (ap (λ (h : StoreHeld). in_memory h.state c.args.id) (sym c.self.view_is) ∙ page_seen c.self.inside.pool c.args.id)
