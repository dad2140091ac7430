use Rattle.std.proofs.Common.{refl, subst}
use Rattle.hb_store.specs.Held.{IsTied, StoreHeld}
use Rattle.hb_store.specs.Inside.{memory_seen}
use Rattle.hb_store.proofs.Framed.{tied}
use Rattle.hb_store.proofs.memory.Memory.meta.Goals as goal

pub returns-clause-tied : goal.returns-clause-tied
returns-clause-tied c = subst (λ (h : StoreHeld). IsTied h.state h.uses) c.self.view_is (tied c.self.inside.pool (memory_seen c.self.inside).state c.self.invariant.pool refl refl)
